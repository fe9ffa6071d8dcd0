-- What the fields of a bucket page say.
use Rattle.std.proofs.Common.{◌≡◌, ℕ, ◌<◌, List, length, sym, ap, ◌∙◌, subst, refl}
use Rattle.dbm_model.specs.Bounds.{Version}
use Rattle.page_model.specs.Pages.{Record, Bucket, bucket}
use Rattle.page_model.specs.Reading.{own_number, kind_of, slot_count, next_of, bucket_of}
use Rattle.page_io.proofs.OwnNumbers.{own_is}
use Rattle.page_io.specs.BucketPages.{IsPageOf, page_records}
use Rattle.slot_page.proofs.Pages.{counted}
use Rattle.bucket_chain.specs.Links.{IsLink}

kind_is : (bytes : List ℕ) → (bucket_of bytes).kind ≡ kind_of bytes
unfolding bucket_of
kind_is bytes = refl

next_is : (bytes : List ℕ) → (bucket_of bytes).next ≡ next_of bytes
unfolding bucket_of
next_is bytes = refl

bucket_is : (bytes : List ℕ) (n kind next : ℕ) → own_number bytes ≡ n → kind_of bytes ≡ kind
    → next_of bytes ≡ next → bucket_of bytes ≡ bucket n kind next (page_records bytes)
unfolding bucket_of
bucket_is bytes n kind next own k after = λ i. bucket (own i) (k i) (after i) (page_records bytes)

-- the header of a page of a chain
pub record IsHeader (bytes : List ℕ) (n kind next : ℕ) (records : List Record) : Type 0 where
  pub own : own_number bytes ≡ n
  pub kind_of : kind_of bytes ≡ kind
  pub next_of : next_of bytes ≡ next
  pub count : slot_count bytes ≡ length records
  pub filled : kind ≡ 4 → 0 < slot_count bytes

pub header_of : (version : Version) (bytes : List ℕ) (n kind next : ℕ) (records : List Record)
    → IsLink version bytes n kind next records → IsHeader bytes n kind next records
header_of version bytes n kind next records link =
    let count : slot_count bytes ≡ length records =
    (counted bytes link.page.page).count_is ∙ ap (λ (b : Bucket). length b.held) link.says in
    record {
      own = sym (own_is bytes) ∙ ap (λ (b : Bucket). b.own) link.says;
      kind_of = sym (kind_is bytes) ∙ ap (λ (b : Bucket). b.kind) link.says;
      next_of = sym (next_is bytes) ∙ ap (λ (b : Bucket). b.next) link.says;
      count = count;
      filled = λ e. subst (λ (k : ℕ). 0 < k) (sym count) (link.filled e);
    }

-- a bucket page with this header is a page of a chain
pub link_is : (version : Version) (bytes : List ℕ) (n kind next : ℕ) → IsPageOf version bytes
    → own_number bytes ≡ n
    → kind_of bytes ≡ kind → next_of bytes ≡ next → (kind ≡ 4 → 0 < slot_count bytes)
    → IsLink version bytes n kind next (page_records bytes)
link_is version bytes n kind next page own k after some = record {
  page = page;
  says = bucket_is bytes n kind next own k after;
  filled = λ e. subst (λ (count : ℕ). 0 < count) (counted bytes page.page).count_is (some e);
}
