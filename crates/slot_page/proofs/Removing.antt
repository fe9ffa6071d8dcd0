-- A page that is written anew, without one record.
use Rattle.std.proofs.Common.{◌≡◌, ◌≢◌, ◌⊎◌, ℕ, zero, suc, ◌+◌, ◌^◌, ◌≤◌, ◌<◌, List, [], ◌∷◌, ◌++◌, length, replicate, get_or, take, drop, set, refl, sym, ap, subst, ◌∙◌, arith, inl, inr}
use Rattle.std.specs.Prelude.{AllPairs, remove}
use Rattle.std.specs.List.{HoldsAt}
use Rattle.std.proofs.lemmas.Bool.{cases_lt}
use Rattle.std.proofs.lemmas.List.{append-nil, length-append, length-take, take-append-drop, take_more, take_all, get_or-take, get_or_default, replicate-append-replicate}
use Rattle.std.proofs.lemmas.List.Edits.{length-remove, get_or-remove_below, get_or-remove_above}
use Rattle.std.proofs.lemmas.List.Quantifiers.{all_pairs_remove}
use Rattle.page_model.specs.Bytes.{u16_bytes, u32_bytes, u32_at, overwrite}
use Rattle.page_model.specs.Pages.{Record, Bucket}
use Rattle.page_model.specs.Slots.{size, total_size, taken, room_of}
use Rattle.page_model.specs.Spelling.{header, bucket_spelling}
use Rattle.page_model.specs.Reading.{bucket_of}
use Rattle.page_model.specs.Valid.{IsRecord, IsBucket}
use Rattle.page_io.specs.BucketPages.{IsBucketPage, page_records}
use Rattle.slot_page.specs.Contents.{with_records, IsAbsent, HasRecords}
use Rattle.slot_page.proofs.Tellings.{holds_there}
use Rattle.page_model.proofs.Buckets.{bucket_again}

-- the four writes of an empty page
blank_set : (own kind next : ℕ) (body : List ℕ)
    → overwrite (overwrite (set (overwrite (replicate 16 0 ++ body) 0 (u32_bytes own)) 4 kind) 8
    (u32_bytes next)) 12 (u16_bytes 2048) ≡ header own kind 0 next 2048 ++ body
blank_set own kind next body = refl

-- a page with no record
abbrev pub blank : ℕ → ℕ → ℕ → Bucket
blank own kind next = record { own = own; kind = kind; next = next; held = [] }

-- what the code writes is the spelling of no record
pub empty_is : (own kind next : ℕ) (zeros new : List ℕ) → own < 2 ^ 32 → (kind ≡ 3) ⊎ (kind ≡ 4)
    → next < 2 ^ 32 → zeros ≡ replicate 2048 0
    → new ≡ overwrite (overwrite (set (overwrite zeros 0 (u32_bytes own)) 4 kind) 8
    (u32_bytes next)) 12 (u16_bytes 2048)
    → IsBucketPage new × (bucket_of new ≡ blank own kind next)
unfolding bucket_spelling
empty_is own kind next zeros new a k b z e =
    let body : List ℕ = replicate 2032 0 in
    let is : IsBucket (blank own kind next) =
    record {
      own = a;
      kind = k;
      next = b;
      fits = omega arith;
      distinct = λ i j d lt le.
          absurd (omega arith);
      records = tt;
    } in
    let parts : zeros ≡ replicate 16 0 ++ body = z ∙ sym (replicate-append-replicate 16 2032 0) in
    let spelled : new ≡ bucket_spelling (blank own kind next) =
    e ∙ ap (λ (x : List ℕ). overwrite
    (overwrite (set (overwrite x 0 (u32_bytes own)) 4 kind) 8 (u32_bytes next)) 12
    (u16_bytes 2048)) parts
    ∙ blank_set own kind next body
    ∙ ap (λ (x : List ℕ). header own kind 0 next 2048 ++ x) (sym (append-nil body)) in
    let says = bucket_again new (blank own kind next) is spelled in (
      record {
        sound = subst IsBucket (sym says) is;
        spelled =
            spelled ∙ ap bucket_spelling (sym says);
      },
      says,
    )

-- ---- parts of a list of records

-- the bytes of the records of two lists
total_size-append : (ps qs : List Record) → total_size (ps ++ qs) ≡ total_size ps + total_size qs
total_size-append [] qs = omega arith
total_size-append (p ∷ ps) qs = omega (arith, total_size-append ps qs)

-- what two lists take
taken-append : (ps qs : List Record) → taken (ps ++ qs) ≡ taken ps + taken qs
taken-append ps qs = omega (arith, total_size-append ps qs, length-append ps qs)

-- a front takes no more
taken-take_le : (n : ℕ) (ps : List Record) → taken (take n ps) ≤ taken ps
taken-take_le n ps =
    let e = taken-append (take n ps) (drop n ps) in
    let f : taken (take n ps ++ drop n ps) ≡ taken ps = ap taken (take-append-drop n ps) in
    omega (arith, e, f)

-- a rest takes no more
taken-drop_le : (n : ℕ) (ps : List Record) → taken (drop n ps) ≤ taken ps
taken-drop_le zero ps = omega arith
taken-drop_le (suc n) [] = omega arith
taken-drop_le (suc n) (p ∷ ps) = omega (arith, taken-drop_le n ps)

-- one record less takes no more
taken-remove_le : (ps : List Record) (i : ℕ) → taken (remove ps i) ≤ taken ps
taken-remove_le ps zero = taken-drop_le 1 ps
taken-remove_le [] (suc i) = omega arith
taken-remove_le (p ∷ ps) (suc i) = omega (arith, taken-remove_le ps i)

-- what one more record takes
taken-push : (ps : List Record) (p : Record) → taken (ps ++ p ∷ []) ≡ taken ps + (6 + size p)
taken-push ps p = omega (arith, taken-append ps (p ∷ []))

-- the next record that is kept
pub record IsNext (qs : List Record) (j : ℕ) (p : Record) : Type 0 where
  pub more : take (j + 1) qs ≡ take j qs ++ p ∷ []
  pub fits : size p + 6 ≤ room_of (take j qs)
  pub absent : IsAbsent p.key (take j qs)
  pub may : IsRecord p

-- the next record fits and is a new one
is_next : (qs : List Record) (j : ℕ) (p : Record) → taken qs ≤ 2032
    → AllPairs (λ p q. p.key ≢ q.key) qs
    → j < length qs → get_or qs j p ≡ p → IsRecord p → IsNext qs j p
is_next qs j p fits distinct lt e may =
    let more : take (j + 1) qs ≡ take j qs ++ p ∷ [] =
    take_more qs j p lt ∙ ap (λ (q : Record). take j qs ++ q ∷ []) e in
    let sized : taken (take j qs) + (6 + size p) ≡ taken (take (j + 1) qs) =
    sym (taken-push (take j qs) p) ∙ ap taken (sym more) in
    let most = taken-take_le (j + 1) qs in
    record {
      more = more;
      fits = omega arith;
      absent = λ k d inside same.
          let less : k < j = omega (arith, length-take j qs) in
          let here : get_or (take j qs) k d ≡ get_or qs k p =
          get_or-take j qs k d less ∙ get_or_default qs k d p (omega arith) in
          distinct k j p less lt (ap (λ (q : Record). q.key) (sym here) ∙ same
          ∙ ap (λ (q : Record). q.key) (sym e));
      may = may;
    }

-- the record that the code reads is the next one
pub next_kept : (bytes : List ℕ) (i j source : ℕ) (p : Record) → IsBucketPage bytes
    → i < length (page_records bytes) → j + 1 < length (page_records bytes) → (j < i → source ≡ j)
    → (i ≤ j → source ≡ j + 1)
    → HoldsAt (λ q. q ≡ p) (page_records bytes) source
    → IsNext (remove (page_records bytes) i) j p
next_kept bytes i j source p h within inside below above read =
    let ps = page_records bytes in
    let at_source : source < length ps = elim (cases_lt j i) [
      | inl lt ↦ omega (arith, below lt)
      | inr ge ↦ omega (arith, above ge)
    ] in
    let may : IsRecord p = subst IsRecord (read p)
    (holds_there IsRecord ps source p h.sound.records at_source) in
    let small = taken-remove_le ps i in
    let long = length-remove ps i within in
    let here : get_or (remove ps i) j p ≡ p =
    elim (cases_lt j i) [
      | inl lt ↦ get_or-remove_below ps i p j lt within
          ∙ ap (λ (n : ℕ). get_or ps n p) (sym (below lt)) ∙ read p
      | inr ge ↦ get_or-remove_above ps i p j ge within
          ∙ ap (λ (n : ℕ). get_or ps n p) (sym (above ge)) ∙ read p
    ] in
    is_next (remove ps i) j p (omega arith)
    (all_pairs_remove (λ (q r : Record). q.key ≢ r.key) ps i within h.sound.distinct)
    (omega arith) here may

-- one more record in the page that is written anew
pub goes_on : (old page new : List ℕ) (qs : List Record) (j : ℕ) (p : Record) → IsNext qs j p
    → HasRecords old page (take j qs)
    → (IsAbsent p.key (page_records page) → HasRecords page new (page_records page ++ p ∷ []))
    → HasRecords old new (take (j + 1) qs)
goes_on old page new qs j p next before adds =
    let now : page_records page ≡ take j qs = ap (λ (b : Bucket). b.held) before.says in
    let after = adds (subst (IsAbsent p.key) (sym now) next.absent) in
    let grown : page_records page ++ p ∷ [] ≡ take (j + 1) qs =
    ap (λ (xs : List Record). xs ++ p ∷ []) now ∙ sym next.more in
    record {
      page = after.page;
      says = after.says
          ∙ ap (λ (b : Bucket). with_records b (page_records page ++ p ∷ [])) before.says
          ∙ ap (with_records (bucket_of old)) grown;
    }

-- it fits
pub fits_next : (old page : List ℕ) (qs : List Record) (j : ℕ) (p : Record) → IsNext qs j p
    → HasRecords old page (take j qs) → size p + 6 ≤ room_of (page_records page)
fits_next old page qs j p next before =
    subst (λ (xs : List Record). size p + 6 ≤ room_of xs)
    (sym (ap (λ (b : Bucket). b.held) before.says)) next.fits

-- the empty page holds no record yet
pub begins : (old new : List ℕ) (own next : ℕ) → own ≡ u32_at old 0 → next ≡ u32_at old 8
    → IsBucketPage new → bucket_of new ≡ blank own (get_or old 4 0) next → HasRecords old new []
unfolding bucket_of
begins old new own next a b h e =
    record {
      page = h;
      says = e ∙ ap (λ (o : ℕ). blank o (get_or old 4 0) next) a
          ∙ ap (blank (u32_at old 0) (get_or old 4 0)) b;
    }

-- all are there
pub ends : (old new : List ℕ) (qs : List Record) (n : ℕ) → length qs ≤ n
    → HasRecords old new (take n qs) → HasRecords old new qs
ends old new qs n le h = subst (HasRecords old new) (take_all n qs le) h

-- the kind of a bucket page
pub kind_is : (bytes : List ℕ) → IsBucketPage bytes
    → (get_or bytes 4 0 ≡ 3) ⊎ (get_or bytes 4 0 ≡ 4)
unfolding bucket_of
kind_is bytes h = h.sound.kind
