-- A page of a chain that names another next page, in bytes.
use Rattle.std.proofs.Common.{◌≡◌, ◌⊎◌, inl, inr, ℕ, List, ◌∷◌, [], refl, sym, ap, ◌∙◌, subst}
use Rattle.std.specs.List.{AllByRecursion}
use Rattle.dbm_model.specs.Bounds.{Version}
use Rattle.page_model.specs.Pages.{Bucket}
use Rattle.page_model.specs.Reading.{bucket_of, body_of}
use Rattle.page_model.specs.Valid.{IsOf}
use Rattle.page_io.specs.BucketPages.{IsBucketPage, page_records}
use Rattle.slot_page.specs.Contents.{with_next}
use Rattle.bucket_chain.specs.Links.{IsLink, link_body}
use Rattle.bucket_chain.specs.Chains.{ReadChain, kind_behind}
use Rattle.bucket_chain.proofs.LinkBodies.{says_link}

pub link_linked : (version : Version) (old new : List ℕ) (n kind next next' : ℕ)
    → IsLink version old n kind next (page_records old) → IsBucketPage new
    → bucket_of new ≡ with_next (bucket_of old) next'
    → IsLink version new n kind next' (page_records old)
link_linked version old new n kind next next' link page says = record {
  page = record {
    page = page;
    of_version = subst (λ (b : Bucket). AllByRecursion (IsOf version) b.held) (sym says)
        link.page.of_version;
  };
  says = says ∙ ap (λ (b : Bucket). with_next b next') link.says;
  filled = link.filled;
}

pub kinds_behind : (before : ReadChain) → (kind_behind before ≡ 3) ⊎ (kind_behind before ≡ 4)
kinds_behind [] = inl refl
kinds_behind (leaf ∷ before) = inr refl

-- what they say
pub linked_body : (version : Version) (old new : List ℕ) (n next next' : ℕ) (before : ReadChain)
    → IsLink version old n (kind_behind before) next (page_records old) → IsBucketPage new
    → bucket_of new ≡ with_next (bucket_of old) next'
    → body_of n new ≡ link_body (kind_behind before) next' (page_records old)
linked_body version old new n next next' before link page says =
    (says_link version (λ m. body_of m new) new n (kind_behind before) next'
    (page_records old) refl
    (kinds_behind before) (link_linked version old new n (kind_behind before) next next' link
    page says)).says
