-- What a page that reads as page n is, by its kind.
use Rattle.std.proofs.Common.{◌≡◌, ℕ, ◌≤◌, List, [], ◌∷◌, length, get_or, refl, sym, ap, subst, ◌∙◌, ◌⊎◌, inl, inr, arith}
use Rattle.std.specs.List.{AllByRecursion}
use Rattle.std.proofs.lemmas.List.{length-drop}
use Rattle.dbm_model.specs.Bounds.{V2}
use Rattle.page_model.specs.Numbers.{IsNumber}
use Rattle.page_model.specs.Pages.{Meta, Body, MetaPage, SegmentPage, HeadPage, OverflowPage, FreePage, ContentPage, Other, Record, Bucket, bucket}
use Rattle.page_model.specs.Meaning.{records_on}
use Rattle.page_model.specs.Reading.{own_number, kind_of, next_of, bucket_of, body_of, heads_on}
use Rattle.page_model.specs.Spelling.{meta_spelling, segment_spelling, bucket_spelling, free_spelling, content_spelling, spelling_of}
use Rattle.page_model.specs.Valid.{IsMeta, IsBucket, IsOf, MaySay}
use Rattle.page_model.proofs.Bodies.{body_is, body_spelled}
use Rattle.page_model.proofs.Buckets.{bucket_again}
use Rattle.page_model.proofs.Texts.{IsBytes, u16_below}
use Rattle.page_io.specs.Plain.{HasPlainHeader}
use Rattle.content_pages.proofs.ContentTexts.{content_said, said_headed}
use Rattle.free_pages.proofs.FreePageTexts.{free_said, said_again}
use Rattle.seg_table.proofs.HeadTexts.{heads_spelled}
use Rattle.seg_table.proofs.Segments.{segment_found, segment_again}
use Rattle.page_io.specs.BucketPages.{IsBucketPage, IsPageOf, page_records}
use Rattle.slot_page.proofs.Pages.{spelled_page}
use Rattle.dbm_salvage.specs.Salvage.{ReadsAs}

-- the kind of what a page says
abbrev pub kind_number : Body → ℕ
kind_number (MetaPage m) = 1
kind_number (SegmentPage heads) = 2
kind_number (HeadPage next records) = 3
kind_number (OverflowPage next records) = 4
kind_number (FreePage next) = 5
kind_number (ContentPage next bytes) = 6
kind_number Other = 0

-- its byte
kind_said : (n : ℕ) (b : Body) → MaySay n b → get_or (spelling_of n b) 4 0 ≡ kind_number b
unfolding meta_spelling segment_spelling bucket_spelling free_spelling content_spelling
kind_said n (MetaPage m) h = refl
kind_said n (SegmentPage heads) h = refl
kind_said n (HeadPage next records) h = refl
kind_said n (OverflowPage next records) h = refl
kind_said n (FreePage next) h = refl
kind_said n (ContentPage next bytes) h = refl
kind_said n Other h = absurd h

-- `Other` may not be said
not_other : (n : ℕ) (b : Body) → MaySay n b → b ≡ Other → ⊥
not_other n b h e = subst (MaySay n) e h

-- a page that reads so is spelled so
as_spelled : (n : ℕ) (bytes : List ℕ) → ReadsAs n bytes → bytes ≡ spelling_of n (body_of n bytes)
as_spelled n bytes h = body_spelled n bytes (not_other n (body_of n bytes) h)

-- and one that is spelled so reads so
reads_so : (n : ℕ) (bytes : List ℕ) (b : Body) → MaySay n b → bytes ≡ spelling_of n b
    → ReadsAs n bytes
reads_so n bytes b h e = subst (MaySay n) (sym ((body_is n bytes b h).0 e)) h

-- its kind is that of what it says
pub kind_read : (n k : ℕ) (bytes : List ℕ) → ReadsAs n bytes → kind_of bytes ≡ k
    → kind_number (body_of n bytes) ≡ k
kind_read n k bytes h is =
    sym (kind_said n (body_of n bytes) h)
    ∙ sym (ap (λ (x : List ℕ). get_or x 4 0) (as_spelled n bytes h)) ∙ is

-- ---- no kind

kind_within : (n : ℕ) (b : Body) → MaySay n b → (1 ≤ kind_number b) × (kind_number b ≤ 6)
kind_within n (MetaPage m) h = (omega arith, omega arith)
kind_within n (SegmentPage heads) h = (omega arith, omega arith)
kind_within n (HeadPage next records) h = (omega arith, omega arith)
kind_within n (OverflowPage next records) h = (omega arith, omega arith)
kind_within n (FreePage next) h = (omega arith, omega arith)
kind_within n (ContentPage next bytes) h = (omega arith, omega arith)
kind_within n Other h = absurd h

pub has_kind : (n : ℕ) (bytes : List ℕ) → ReadsAs n bytes
    → (1 ≤ kind_of bytes) × (kind_of bytes ≤ 6)
has_kind n bytes h =
    let same = kind_read n (kind_of bytes) bytes h refl in
    let both = kind_within n (body_of n bytes) h in
    (omega (arith, same, both.0), omega (arith, same, both.1))

-- ---- the meta page

pub record IsMetaRead (n : ℕ) (bytes : List ℕ) : Type 0 where
  pub one : n ≡ 1
  pub meta : Meta
  pub sound : IsMeta meta
  pub spelled : bytes ≡ meta_spelling 1 meta

meta_body : (n : ℕ) (bytes : List ℕ) (b : Body) → MaySay n b → bytes ≡ spelling_of n b
    → kind_number b ≡ 1 → IsMetaRead n bytes
meta_body n bytes (MetaPage m) h e k = record {
  one = h.0;
  meta = m;
  sound = h.1;
  spelled = e ∙ ap (λ (j : ℕ). meta_spelling j m) h.0;
}
meta_body n bytes (SegmentPage heads) h e k = absurd (omega (arith, k))
meta_body n bytes (HeadPage next records) h e k = absurd (omega (arith, k))
meta_body n bytes (OverflowPage next records) h e k = absurd (omega (arith, k))
meta_body n bytes (FreePage next) h e k = absurd (omega (arith, k))
meta_body n bytes (ContentPage next content) h e k = absurd (omega (arith, k))
meta_body n bytes Other h e k = absurd h

pub meta_read : (n : ℕ) (bytes : List ℕ) → ReadsAs n bytes → kind_of bytes ≡ 1 → IsMetaRead n bytes
meta_read n bytes h k =
    meta_body n bytes (body_of n bytes) h (as_spelled n bytes h) (kind_read n 1 bytes h k)

pub meta_reads : (n : ℕ) (bytes : List ℕ) (m : Meta) → n ≡ 1 → IsMeta m
    → bytes ≡ meta_spelling 1 m → ReadsAs n bytes
meta_reads n bytes m one sound e =
    reads_so n bytes (MetaPage m) (one, sound) (e ∙ ap (λ (j : ℕ). meta_spelling j m) (sym one))

-- ---- a segment page

segment_body : (n : ℕ) (bytes : List ℕ) (b : Body) → IsNumber n → MaySay n b
    → bytes ≡ spelling_of n b → kind_number b ≡ 2
    → HasPlainHeader bytes n 2 × (next_of bytes ≡ 0)
segment_body n bytes (MetaPage m) small h e k = absurd (omega (arith, k))
segment_body n bytes (SegmentPage heads) small h e k =
    let page = segment_again bytes n (length heads) small h.1
    (record { heads = heads; many = refl; numbers = h.2; spelled = e }) in
    (page.header, page.no_next)
segment_body n bytes (HeadPage next records) small h e k = absurd (omega (arith, k))
segment_body n bytes (OverflowPage next records) small h e k = absurd (omega (arith, k))
segment_body n bytes (FreePage next) small h e k = absurd (omega (arith, k))
segment_body n bytes (ContentPage next content) small h e k = absurd (omega (arith, k))
segment_body n bytes Other small h e k = absurd h

pub segment_read : (n : ℕ) (bytes : List ℕ) → IsNumber n → ReadsAs n bytes → kind_of bytes ≡ 2
    → HasPlainHeader bytes n 2 × (next_of bytes ≡ 0)
segment_read n bytes small h k =
    segment_body n bytes (body_of n bytes) small h (as_spelled n bytes h) (kind_read n 2 bytes h k)

pub segment_reads : (n : ℕ) (bytes : List ℕ) → IsNumber n → length bytes ≡ 2048 → IsBytes bytes
    → HasPlainHeader bytes n 2 → next_of bytes ≡ 0 → ReadsAs n bytes
segment_reads n bytes small len fits headed none =
    let segment = segment_found bytes n 508 len fits (omega arith) (record {
      header = headed;
      no_next = none;
      rest = λ j from to. absurd (omega (arith, from, to));
    }) in
    let said = heads_spelled bytes n 508 small (omega arith) segment in
    reads_so n bytes (SegmentPage (heads_on bytes)) said.valid said.spelled

-- ---- a free page

pub record IsFreeRead (n : ℕ) (bytes : List ℕ) : Type 0 where
  pub next : ℕ
  pub says : body_of n bytes ≡ FreePage next

free_body : (n : ℕ) (bytes : List ℕ) (b : Body) → MaySay n b → body_of n bytes ≡ b
    → kind_number b ≡ 5 → IsFreeRead n bytes
free_body n bytes (MetaPage m) h e k = absurd (omega (arith, k))
free_body n bytes (SegmentPage heads) h e k = absurd (omega (arith, k))
free_body n bytes (HeadPage next records) h e k = absurd (omega (arith, k))
free_body n bytes (OverflowPage next records) h e k = absurd (omega (arith, k))
free_body n bytes (FreePage next) h e k = record { next = next; says = e }
free_body n bytes (ContentPage next content) h e k = absurd (omega (arith, k))
free_body n bytes Other h e k = absurd h

pub free_read : (n : ℕ) (bytes : List ℕ) → ReadsAs n bytes → kind_of bytes ≡ 5 → IsFreeRead n bytes
free_read n bytes h k =
    free_body n bytes (body_of n bytes) h refl (kind_read n 5 bytes h k)

next_below : (bytes : List ℕ) → IsBytes bytes → IsNumber (next_of bytes)
next_below bytes fits = omega (arith, u16_below bytes 8 fits, u16_below bytes 10 fits)

pub free_reads : (n next : ℕ) (bytes : List ℕ) → IsNumber n → length bytes ≡ 2048 → IsBytes bytes
    → body_of n bytes ≡ FreePage next → ReadsAs n bytes
free_reads n next bytes small len fits says =
    let page = said_again bytes n next small says in
    subst (MaySay n) (sym (free_said bytes n small len fits page.headed page.clear))
    (small, next_below bytes fits)

-- ---- a content page

pub record IsContentRead (n : ℕ) (bytes : List ℕ) : Type 0 where
  pub next : ℕ
  pub content : List ℕ
  pub says : body_of n bytes ≡ ContentPage next content

content_body : (n : ℕ) (bytes : List ℕ) (b : Body) → MaySay n b → body_of n bytes ≡ b
    → kind_number b ≡ 6 → IsContentRead n bytes
content_body n bytes (MetaPage m) h e k = absurd (omega (arith, k))
content_body n bytes (SegmentPage heads) h e k = absurd (omega (arith, k))
content_body n bytes (HeadPage next records) h e k = absurd (omega (arith, k))
content_body n bytes (OverflowPage next records) h e k = absurd (omega (arith, k))
content_body n bytes (FreePage next) h e k = absurd (omega (arith, k))
content_body n bytes (ContentPage next content) h e k =
    record { next = next; content = content; says = e }
content_body n bytes Other h e k = absurd h

pub content_read : (n : ℕ) (bytes : List ℕ) → IsNumber n → ReadsAs n bytes → kind_of bytes ≡ 6
    → HasPlainHeader bytes n 6
content_read n bytes small h k =
    let is = content_body n bytes (body_of n bytes) h refl (kind_read n 6 bytes h k) in
    said_headed bytes is.content n is.next small is.says

pub content_reads : (n : ℕ) (bytes : List ℕ) → IsNumber n → length bytes ≡ 2048 → IsBytes bytes
    → HasPlainHeader bytes n 6 → ReadsAs n bytes
content_reads n bytes small len fits headed =
    subst (MaySay n) (sym (content_said bytes n small len fits headed))
    (small, next_below bytes fits, omega (arith, len, length-drop 16 bytes))

-- ---- a bucket page

-- the page is a bucket page of its number, with the records that it says
pub record IsBucketRead (n : ℕ) (bytes : List ℕ) : Type 0 where
  pub page : IsBucketPage bytes
  pub own : own_number bytes ≡ n
  pub records : records_on (body_of n bytes) ≡ page_records bytes

bucket_is : (n : ℕ) (bytes : List ℕ) (b : Bucket) → IsBucket b → b.own ≡ n
    → bytes ≡ bucket_spelling b → records_on (body_of n bytes) ≡ b.held → IsBucketRead n bytes
unfolding bucket_of
bucket_is n bytes b sound own e said =
    let again = bucket_again bytes b sound e in record {
      page = spelled_page bytes b sound e;
      own = ap (λ (x : Bucket). x.own) again ∙ own;
      records = said ∙ ap (λ (x : Bucket). x.held) (sym again);
    }

bucket_body : (n : ℕ) (bytes : List ℕ) (b : Body) → MaySay n b → body_of n bytes ≡ b
    → bytes ≡ spelling_of n b → (kind_number b ≡ 3) ⊎ (kind_number b ≡ 4) → IsBucketRead n bytes
bucket_body n bytes (MetaPage m) h b e k = absurd (omega (arith, k))
bucket_body n bytes (SegmentPage heads) h b e k = absurd (omega (arith, k))
bucket_body n bytes (HeadPage next records) h b e k =
    bucket_is n bytes (bucket n 3 next records) h refl e (ap records_on b)
bucket_body n bytes (OverflowPage next records) h b e k =
    bucket_is n bytes (bucket n 4 next records) h refl e (ap records_on b)
bucket_body n bytes (FreePage next) h b e k = absurd (omega (arith, k))
bucket_body n bytes (ContentPage next content) h b e k = absurd (omega (arith, k))
bucket_body n bytes Other h b e k = absurd h

kind_either : (n : ℕ) (bytes : List ℕ) → ReadsAs n bytes
    → (kind_of bytes ≡ 3) ⊎ (kind_of bytes ≡ 4)
    → (kind_number (body_of n bytes) ≡ 3) ⊎ (kind_number (body_of n bytes) ≡ 4)
kind_either n bytes h (inl k) = inl (kind_read n 3 bytes h k)
kind_either n bytes h (inr k) = inr (kind_read n 4 bytes h k)

pub bucket_read : (n : ℕ) (bytes : List ℕ) → ReadsAs n bytes
    → (kind_of bytes ≡ 3) ⊎ (kind_of bytes ≡ 4) → IsBucketRead n bytes
bucket_read n bytes h k =
    bucket_body n bytes (body_of n bytes) h refl (as_spelled n bytes h) (kind_either n bytes h k)

-- in version 2 each record may be
any_record : (rs : List Record) → AllByRecursion (IsOf V2) rs
any_record [] = tt
any_record (r ∷ rs) = (tt, any_record rs)

pub of_version_2 : (bytes : List ℕ) → IsBucketPage bytes → IsPageOf V2 bytes
of_version_2 bytes page = record { page = page; of_version = any_record (page_records bytes) }

-- a bucket page of its number reads so
bucket_said : (n k : ℕ) (bytes : List ℕ) → own_number bytes ≡ n → kind_of bytes ≡ k
    → bucket_of bytes ≡ bucket n k (bucket_of bytes).next (bucket_of bytes).held
unfolding bucket_of
bucket_said n k bytes own kind i =
    record (bucket_of bytes) { own = own i; kind = kind i }

pub bucket_reads : (n : ℕ) (bytes : List ℕ) → IsBucketPage bytes → own_number bytes ≡ n
    → (kind_of bytes ≡ 3) ⊎ (kind_of bytes ≡ 4) → ReadsAs n bytes
bucket_reads n bytes page own (inl k) =
    let same = bucket_said n 3 bytes own k in
    reads_so n bytes (HeadPage (bucket_of bytes).next (bucket_of bytes).held)
    (subst IsBucket same page.sound) (page.spelled ∙ ap bucket_spelling same)
bucket_reads n bytes page own (inr k) =
    let same = bucket_said n 4 bytes own k in
    reads_so n bytes (OverflowPage (bucket_of bytes).next (bucket_of bytes).held)
    (subst IsBucket same page.sound) (page.spelled ∙ ap bucket_spelling same)

-- ---- others have no records

no_records_on : (b : Body) → (kind_number b ≡ 3 → ⊥) → (kind_number b ≡ 4 → ⊥)
    → records_on b ≡ []
no_records_on (MetaPage m) three four = refl
no_records_on (SegmentPage heads) three four = refl
no_records_on (HeadPage next records) three four = absurd (three refl)
no_records_on (OverflowPage next records) three four = absurd (four refl)
no_records_on (FreePage next) three four = refl
no_records_on (ContentPage next content) three four = refl
no_records_on Other three four = refl

pub no_records : (n : ℕ) (bytes : List ℕ) → ReadsAs n bytes → (kind_of bytes ≡ 3 → ⊥)
    → (kind_of bytes ≡ 4 → ⊥) → records_on (body_of n bytes) ≡ []
no_records n bytes h three four =
    let same = kind_read n (kind_of bytes) bytes h refl in
    no_records_on (body_of n bytes) (λ k. three (sym same ∙ k)) (λ k. four (sym same ∙ k))
