-- What is read of a spelled page, and what is spelled.
use Rattle.std.proofs.Common.{◌≡◌, ◌≢◌, ℕ, ◌-◌, ◌*◌, ◌≤◌, Bool, true, false, cond, List, length, replicate, drop, get_or, ◌↔◌, refl, sym, ap, ◌∙◌, arith}
use Rattle.std.specs.Bool.{Decides}
use Rattle.std.specs.Str.{bytes_eq}
use Rattle.std.proofs.lemmas.Slice.Eq.{bytes_eq-Decides}
use Rattle.std.proofs.lemmas.List.{length-append, length-replicate}
use Rattle.page_model.specs.Numbers.{IsNumber, numbers_bytes}
use Rattle.page_model.specs.Pages.{Meta, Body, MetaPage, SegmentPage, HeadPage, OverflowPage, FreePage, ContentPage, Other, Bucket, bucket}
use Rattle.page_model.specs.Spelling.{meta_spelling, segment_spelling, bucket_spelling, free_spelling, content_spelling, spelling_of}
use Rattle.page_model.specs.Reading.{next_of, read_as, body_by_kind, body_of}
use Rattle.page_model.specs.Valid.{IsMeta, MaySay}
use Rattle.page_model.proofs.Buckets.{four_is, length-bucket_spelling, bucket_again}
use Rattle.page_model.proofs.Numbers.{length-numbers_bytes}
use Rattle.page_model.proofs.Metas.{few_segments, fields_again, heads_again}

-- the byte of the kind
kind_of_meta : (n : ℕ) (m : Meta) → get_or (meta_spelling n m) 4 0 ≡ 1
unfolding meta_spelling
kind_of_meta n m = refl

kind_of_segment : (n : ℕ) (heads : List ℕ) → get_or (segment_spelling n heads) 4 0 ≡ 2
unfolding segment_spelling
kind_of_segment n heads = refl

kind_of_bucket : (b : Bucket) → get_or (bucket_spelling b) 4 0 ≡ b.kind
unfolding bucket_spelling
kind_of_bucket b = refl

kind_of_free : (n next : ℕ) → get_or (free_spelling n next) 4 0 ≡ 5
unfolding free_spelling
kind_of_free n next = refl

kind_of_content : (n next : ℕ) (content : List ℕ) → get_or (content_spelling n next content) 4 0 ≡ 6
unfolding content_spelling
kind_of_content n next content = refl

content_again : (n next : ℕ) (content : List ℕ) → IsNumber next
    → (next_of (content_spelling n next content) ≡ next)
    × (drop 16 (content_spelling n next content) ≡ content)
unfolding content_spelling
content_again n next content lt = (four_is next lt, refl)

-- the next page that a spelled free page says
next_again : (n next : ℕ) → IsNumber next → next_of (free_spelling n next) ≡ next
unfolding free_spelling
next_again n next lt = four_is next lt

-- what a spelled page says
said_again : (n : ℕ) (b : Body) → MaySay n b → body_by_kind (spelling_of n b) ≡ b
said_again n (MetaPage m) h =
    let bytes = meta_spelling n m in
    ap (λ (k : ℕ). read_as k bytes) (kind_of_meta n m)
    ∙ ap MetaPage (fields_again bytes m h.1 (ap (λ (k : ℕ). meta_spelling k m) h.0))
said_again n (SegmentPage heads) h =
    let bytes = segment_spelling n heads in
    ap (λ (k : ℕ). read_as k bytes) (kind_of_segment n heads)
    ∙ ap SegmentPage (heads_again bytes heads n h.1 h.2 h.3 refl)
said_again n (HeadPage next pairs) h =
    let b = bucket n 3 next pairs in
    ap (λ (k : ℕ). read_as k (bucket_spelling b)) (kind_of_bucket b)
    ∙ ap (λ (x : Bucket). HeadPage x.next x.held) (bucket_again (bucket_spelling b) b h refl)
said_again n (OverflowPage next pairs) h =
    let b = bucket n 4 next pairs in
    ap (λ (k : ℕ). read_as k (bucket_spelling b)) (kind_of_bucket b)
    ∙ ap (λ (x : Bucket). OverflowPage x.next x.held)
    (bucket_again (bucket_spelling b) b h refl)
said_again n (FreePage next) h =
    ap (λ (k : ℕ). read_as k (free_spelling n next)) (kind_of_free n next)
    ∙ ap FreePage (next_again n next h.1)
said_again n (ContentPage next content) h =
    let both = content_again n next content h.1 in
    ap (λ (k : ℕ). read_as k (content_spelling n next content)) (kind_of_content n next content)
    ∙ (λ i. ContentPage (both.0 i) (both.1 i))
said_again n Other h = absurd h

-- reading a spelling gives what was spelled
pub body_again : (n : ℕ) (b : Body) → MaySay n b → body_of n (spelling_of n b) ≡ b
unfolding body_of
body_again n b h =
    let bytes = spelling_of n b in
    let same = said_again n b h in
    let test : bytes_eq bytes (spelling_of n (body_by_kind bytes)) ≡ true =
    (bytes_eq-Decides bytes (spelling_of n (body_by_kind bytes))).1
    (ap (spelling_of n) (sym same)) in
    ap (λ (t : Bool). cond t (body_by_kind bytes) Other) test ∙ same

-- the test of a body, both ways
chosen : (n : ℕ) (bytes : List ℕ) (t : Bool) (b : Body) → Decides t (bytes ≡ spelling_of n b)
    → cond t b Other ≢ Other → bytes ≡ spelling_of n (cond t b Other)
chosen n bytes true b h ne = h.0 refl
chosen n bytes false b h ne = absurd (ne refl)

-- what isn't `Other` is spelled so
pub body_spelled : (n : ℕ) (bytes : List ℕ) → body_of n bytes ≢ Other
    → bytes ≡ spelling_of n (body_of n bytes)
unfolding body_of
body_spelled n bytes ne = chosen n bytes (bytes_eq bytes (spelling_of n (body_by_kind bytes)))
    (body_by_kind bytes) (bytes_eq-Decides bytes (spelling_of n (body_by_kind bytes))) ne

-- `Other` may not be said
may_say : (n : ℕ) (b : Body) → MaySay n b → b ≢ Other
may_say n (MetaPage m) h e = absurd cc
may_say n (SegmentPage heads) h e = absurd cc
may_say n (HeadPage next pairs) h e = absurd cc
may_say n (OverflowPage next pairs) h e = absurd cc
may_say n (FreePage next) h e = absurd cc
may_say n (ContentPage next content) h e = absurd cc
may_say n Other h e = h

-- what may be said is read exactly where it is spelled
pub body_is : (n : ℕ) (bytes : List ℕ) (b : Body) → MaySay n b
    → (bytes ≡ spelling_of n b) ↔ (body_of n bytes ≡ b)
body_is n bytes b h = (
  λ e. ap (body_of n) e ∙ body_again n b h,
  λ e. body_spelled n bytes (λ other. may_say n b h (sym e ∙ other)) ∙ ap (spelling_of n) e,
)

-- a spelled page is a whole page
length-meta : (n : ℕ) (m : Meta) → IsMeta m → length (meta_spelling n m) ≡ 2048
unfolding meta_spelling
length-meta n m h =
    let zeros : List ℕ = replicate (1984 - 4 * length m.segments) 0 in
    omega (
      arith,
      few_segments m h,
      length-append (numbers_bytes m.segments) zeros,
      length-numbers_bytes m.segments,
      length-replicate {A = ℕ} (1984 - 4 * length m.segments) 0,
    )

length-segment : (n : ℕ) (heads : List ℕ) → length heads ≤ 508
    → length (segment_spelling n heads) ≡ 2048
unfolding segment_spelling
length-segment n heads le =
    let zeros : List ℕ = replicate (2032 - 4 * length heads) 0 in
    omega (
      arith,
      length-append (numbers_bytes heads) zeros,
      length-numbers_bytes heads,
      length-replicate {A = ℕ} (2032 - 4 * length heads) 0,
    )

length-free : (n next : ℕ) → length (free_spelling n next) ≡ 2048
unfolding free_spelling
length-free n next = refl

length-content : (n next : ℕ) (content : List ℕ) → length content ≡ 2032
    → length (content_spelling n next content) ≡ 2048
unfolding content_spelling
length-content n next content is = omega (arith, is)

-- whatever a page says
pub length-spelling_of : (n : ℕ) (b : Body) → MaySay n b → length (spelling_of n b) ≡ 2048
length-spelling_of n (MetaPage m) h = length-meta n m h.1
length-spelling_of n (SegmentPage heads) h = length-segment n heads h.1
length-spelling_of n (HeadPage next pairs) h = length-bucket_spelling (bucket n 3 next pairs) h
length-spelling_of n (OverflowPage next pairs) h = length-bucket_spelling (bucket n 4 next pairs) h
length-spelling_of n (FreePage next) h = length-free n next
length-spelling_of n (ContentPage next content) h = length-content n next content h.2
length-spelling_of n Other h = absurd h
