-- What a page of a chain says, and which bytes say it.
use Rattle.std.proofs.Common.{◌≡◌, ◌≢◌, ◌⊎◌, ⊎_elim, inl, inr, ℕ, ◌≤◌, ◌<◌, ◌==◌, true, false, Bool, cond, List, ◌++◌, length, replicate, refl, sym, ap, ◌∙◌, subst, arith}
use Rattle.std.specs.Str.{bytes_eq}
use Rattle.std.proofs.lemmas.List.{length-append, length-replicate}
use Rattle.page_model.specs.Numbers.{IsNumber}
use Rattle.std.specs.List.{AllByRecursion}
use Rattle.dbm_model.specs.Bounds.{Version}
use Rattle.page_model.specs.Pages.{Body, Record, HeadPage, OverflowPage, Other, Bucket, bucket}
use Rattle.page_model.specs.Slots.{taken, room_of, slots_ending, slots_bytes, records as record_bytes}
use Rattle.page_model.specs.Spelling.{bucket_spelling, spelling_of}
use Rattle.page_model.specs.Reading.{kind_of, next_of, read_as, body_by_kind, bucket_of, body_of}
use Rattle.page_model.specs.Valid.{IsBucket, IsOf}
use Rattle.page_model.proofs.Bodies.{body_spelled}
use Rattle.page_model.proofs.Buckets.{length-slots_ending, length-slots_bytes, length-records}
use Rattle.page_io.specs.BucketPages.{IsBucketPage, IsPageOf}
use Rattle.slot_page.proofs.Pages.{is_head, is_overflow}
use Rattle.bucket_chain.specs.Links.{link_body, AreSound, IsLink, SaysLink}

-- what isn't `Other` is what the bytes would say
chosen : (t : Bool) (b : Body) → cond t b Other ≢ Other → cond t b Other ≡ b
chosen true b ne = refl
chosen false b ne = absurd (ne refl)

pub said_is : (n : ℕ) (bytes : List ℕ) → body_of n bytes ≢ Other
    → body_of n bytes ≡ body_by_kind bytes
unfolding body_of
said_is n bytes ne = chosen (bytes_eq bytes (spelling_of n (body_by_kind bytes)))
    (body_by_kind bytes) ne

-- the fields of a spelled page of records, whatever it says
kind_spelled : (b : Bucket) → kind_of (bucket_spelling b) ≡ b.kind
unfolding bucket_spelling
kind_spelled b = refl

next_spelled : (b : Bucket) → IsNumber (next_of (bucket_spelling b))
unfolding bucket_spelling
next_spelled b = omega arith

next_is : (bytes : List ℕ) → (bucket_of bytes).next ≡ next_of bytes
unfolding bucket_of
next_is bytes = refl

-- what a whole page spells fits it
fits_spelled : (b : Bucket) → length (bucket_spelling b) ≡ 2048 → taken b.held ≤ 2032
unfolding bucket_spelling
fits_spelled b whole =
    let slots = slots_bytes (slots_ending 2048 b.held) in
    let zeros : List ℕ = replicate (room_of b.held) 0 in
    omega (
      arith,
      whole,
      length-append slots (zeros ++ record_bytes b.held),
      length-append zeros (record_bytes b.held),
      length-slots_bytes (slots_ending 2048 b.held),
      length-slots_ending 2048 b.held,
      length-replicate {A = ℕ} (room_of b.held) 0,
      length-records b.held,
    )

-- what a body of such a page takes to be a bucket
head_valid : (version : Version) (n next : ℕ) (records : List Record) (bytes : List ℕ)
    → IsNumber n → length bytes ≡ 2048
    → AreSound version records → body_of n bytes ≡ HeadPage next records
    → IsBucket (bucket n 3 next records)
head_valid version n next records bytes small whole sound e =
    let b = bucket n 3 next records in
    let known : body_of n bytes ≢ Other = λ other. absurd (cc) in
    let spelled : bytes ≡ bucket_spelling b = body_spelled n bytes known ∙ ap (spelling_of n) e in
    let kind : kind_of bytes ≡ 3 = ap kind_of spelled ∙ kind_spelled b in
    let same : HeadPage next records ≡ HeadPage (bucket_of bytes).next (bucket_of bytes).held =
    sym e ∙ said_is n bytes known ∙ ap (λ (k : ℕ). read_as k bytes) kind in
    let after : next ≡ next_of (bucket_spelling b) =
    (let same_next : next ≡ (bucket_of bytes).next = cc in same_next) ∙ next_is bytes
    ∙ ap next_of spelled in
    record {
      own = small;
      kind = inl refl;
      next = subst IsNumber (sym after) (next_spelled b);
      fits = fits_spelled b (ap length (sym spelled) ∙ whole);
      distinct = sound.distinct;
      records = sound.told;
    }

overflow_valid : (version : Version) (n next : ℕ) (records : List Record) (bytes : List ℕ)
    → IsNumber n
    → length bytes ≡ 2048 → AreSound version records → body_of n bytes ≡ OverflowPage next records
    → IsBucket (bucket n 4 next records)
overflow_valid version n next records bytes small whole sound e =
    let b = bucket n 4 next records in
    let known : body_of n bytes ≢ Other = λ other. absurd (cc) in
    let spelled : bytes ≡ bucket_spelling b = body_spelled n bytes known ∙ ap (spelling_of n) e in
    let kind : kind_of bytes ≡ 4 = ap kind_of spelled ∙ kind_spelled b in
    let same : OverflowPage next records
    ≡ OverflowPage (bucket_of bytes).next (bucket_of bytes).held =
    sym e ∙ said_is n bytes known ∙ ap (λ (k : ℕ). read_as k bytes) kind in
    let after : next ≡ next_of (bucket_spelling b) =
    (let same_next : next ≡ (bucket_of bytes).next = cc in same_next) ∙ next_is bytes
    ∙ ap next_of spelled in
    record {
      own = small;
      kind = inr refl;
      next = subst IsNumber (sym after) (next_spelled b);
      fits = fits_spelled b (ap length (sym spelled) ∙ whole);
      distinct = sound.distinct;
      records = sound.told;
    }

-- a page of a chain says so
head_says : (version : Version) (bytes : List ℕ) (n next : ℕ) (records : List Record)
    → IsLink version bytes n 3 next records
    → body_of n bytes ≡ HeadPage next records
head_says version bytes n next records link =
    (is_head n next records bytes (subst IsBucket link.says link.page.page.sound)).1
    (link.page.page, link.says)

overflow_says : (version : Version) (bytes : List ℕ) (n next : ℕ) (records : List Record)
    → IsLink version bytes n 4 next records
    → body_of n bytes ≡ OverflowPage next records
overflow_says version bytes n next records link =
    (is_overflow n next records bytes (subst IsBucket link.says link.page.page.sound)).1
    (link.page.page, link.says)

link_says : (version : Version) (bytes : List ℕ) (n kind next : ℕ) (records : List Record)
    → (kind ≡ 3) ⊎ (kind ≡ 4)
    → IsLink version bytes n kind next records → body_of n bytes ≡ link_body kind next records
link_says version bytes n kind next records is link = ⊎_elim
    (λ head. subst (λ (k : ℕ). body_of n bytes ≡ link_body k next records) (sym head)
    (head_says version bytes n next records
    (subst (λ (k : ℕ). IsLink version bytes n k next records) head link)))
    (λ over. subst (λ (k : ℕ). body_of n bytes ≡ link_body k next records) (sym over)
    (overflow_says version bytes n next records
    (subst (λ (k : ℕ). IsLink version bytes n k next records) over link)))
    is

link_sound : (version : Version) (bytes : List ℕ) (n kind next : ℕ) (records : List Record)
    → IsLink version bytes n kind next records → AreSound version records
link_sound version bytes n kind next records link =
    subst (λ (b : Bucket). AreSound version b.held) link.says record {
      distinct = link.page.page.sound.distinct;
      told = link.page.page.sound.records;
      of_version = link.page.of_version;
    }

-- a page of records that are sound
page_by : (version : Version) (bytes : List ℕ) (n kind next : ℕ) (records : List Record)
    → AreSound version records → IsBucketPage bytes → bucket_of bytes ≡ bucket n kind next records
    → IsPageOf version bytes
page_by version bytes n kind next records sound page says = record {
  page = page;
  of_version = subst (λ (b : Bucket). AllByRecursion (IsOf version) b.held) (sym says)
      sound.of_version;
}

-- what says so is one
link_from : (version : Version) (bytes : List ℕ) (n kind next : ℕ) (records : List Record)
    → (kind ≡ 3) ⊎ (kind ≡ 4)
    → IsNumber n → length bytes ≡ 2048 → AreSound version records → (kind ≡ 4 → 0 < length records)
    → body_of n bytes ≡ link_body kind next records → IsLink version bytes n kind next records
link_from version bytes n kind next records is small whole sound filled says = ⊎_elim
    (λ head. subst (λ (k : ℕ). IsLink version bytes n k next records) (sym head)
    (from_head (subst (λ (k : ℕ). body_of n bytes ≡ link_body k next records) head says)))
    (λ over. subst (λ (k : ℕ). IsLink version bytes n k next records) (sym over)
    (from_overflow (filled over) (subst
    (λ (k : ℕ). body_of n bytes ≡ link_body k next records) over says)))
    is
  where
    from_head : body_of n bytes ≡ HeadPage next records → IsLink version bytes n 3 next records
    from_head e =
        let valid = head_valid version n next records bytes small whole sound e in
        let both = (is_head n next records bytes valid).0 e in
        record {
          page = page_by version bytes n 3 next records sound both.0 both.1;
          says = both.1;
          filled = λ four. absurd (omega arith);
        }

    from_overflow : 0 < length records → body_of n bytes ≡ OverflowPage next records
        → IsLink version bytes n 4 next records
    from_overflow some e =
        let valid = overflow_valid version n next records bytes small whole sound e in
        let both = (is_overflow n next records bytes valid).0 e in
        record {
          page = page_by version bytes n 4 next records sound both.0 both.1;
          says = both.1;
          filled = λ four. some;
        }

pub not_other : (kind next : ℕ) (records : List Record) → link_body kind next records ≢ Other
not_other kind next records = by_kind (kind == 3)
  where
    by_kind : (head : Bool) → cond head (HeadPage next records) (OverflowPage next records) ≢ Other
    by_kind true e = absurd (cc)
    by_kind false e = absurd (cc)

-- a page of a chain, by its bytes and by what is read
pub says_link : (version : Version) (at : ℕ
    → Body) (bytes : List ℕ) (n kind next : ℕ) (records : List Record)
    → at n ≡ body_of n bytes → (kind ≡ 3) ⊎ (kind ≡ 4) → IsLink version bytes n kind next records
    → SaysLink version at n kind next records
says_link version at bytes n kind next records read is link = record {
  says = read ∙ link_says version bytes n kind next records is link;
  filled = link.filled;
  sound = link_sound version bytes n kind next records link;
}

pub is_link : (version : Version) (at : ℕ
    → Body) (bytes : List ℕ) (n kind next : ℕ) (records : List Record)
    → at n ≡ body_of n bytes → (kind ≡ 3) ⊎ (kind ≡ 4) → IsNumber n → length bytes ≡ 2048
    → SaysLink version at n kind next records → IsLink version bytes n kind next records
is_link version at bytes n kind next records read is small whole says =
    link_from version bytes n kind next records is small whole says.sound says.filled
    (sym read ∙ says.says)
