-- The bytes of segment pages: the heads that are read of them, and one head set.
use Rattle.std.proofs.Common.{◌≡◌, ℕ, zero, suc, ◌+◌, ◌-◌, ◌*◌, ◌/◌, ◌<◌, ◌≤◌, Bool, true, false, cond, eqb, List, [], ◌∷◌, ◌++◌, length, replicate, get_or, refl, sym, ap, subst, ◌∙◌, append_assoc, arith, All}
use Rattle.std.specs.List.{AllByRecursion}
use Rattle.std.specs.Str.{bytes_eq}
use Rattle.std.proofs.lemmas.Bool.Decides.{nat_tests}
use Rattle.std.proofs.lemmas.List.{length-append, replicate-append-replicate}
use Rattle.std.proofs.lemmas.List.Elements.{recursion_from_All, All-from_recursion}
use Rattle.page_model.specs.Bytes.{u32_at, u32_bytes, overwrite}
use Rattle.page_model.specs.Numbers.{IsNumber, numbers_bytes, numbers_at}
use Rattle.page_model.specs.Pages.{SegmentPage, Other}
use Rattle.page_model.specs.Reading.{in_front, trimmed, heads_on, read_as, kind_of, body_by_kind, body_of}
use Rattle.page_model.specs.Spelling.{header, segment_spelling, spelling_of}
use Rattle.page_model.proofs.Bodies.{body_is, body_spelled}
use Rattle.page_model.proofs.Chains.{AllByRecursion-append}
use Rattle.page_model.proofs.Metas.{heads_again}
use Rattle.page_model.proofs.Numbers.{numbers_small}
use Rattle.page_model.proofs.Texts.{IsBytes}
use Rattle.page_model.proofs.Writes.{overwrite_mid}
use Rattle.page_model.specs.Valid.{MaySay}
use Rattle.page_io.specs.Page.{own_number}
use Rattle.page_io.proofs.Fields.{own_of_overwrite}
use Rattle.free_pages.proofs.FreePageTexts.{own_again}
use Rattle.seg_table.specs.Segments.{IsSegment, IsSpelledSegment}
use Rattle.seg_table.proofs.Entries.{get_or-numbers_at}
use Rattle.seg_table.proofs.HeadLists.{put, length-put, AllByRecursion-put, trimmed-put, trimmed-again, length-trimmed, AllByRecursion-trimmed, get_or-trimmed}

-- place i of a segment page is head i, 0 behind the last
pub entry_is : (bytes : List ℕ) (i : ℕ) → length bytes ≡ 2048 → i < 508
    → u32_at bytes (16 + 4 * i) ≡ get_or (heads_on bytes) i 0
unfolding heads_on
entry_is bytes i len lt =
    let count = (length bytes - 16) / 4 in
    sym (get_or-trimmed (numbers_at bytes 16 count) i
    ∙ get_or-numbers_at bytes count 16 i (16 + 4 * i) (omega (arith, len)) refl)

-- heads and the zeros behind them are the heads up to the last that isn't 0, and zeros
front_spelled : (n z : ℕ) (ns : List ℕ)
    → u32_bytes n ++ (numbers_bytes ns ++ replicate z 0) ≡ numbers_bytes (in_front n ns)
    ++ replicate (z + 4 * (length ns + 1) - 4 * length (in_front n ns)) 0
front_spelled n z [] = by_test (eqb n 0) refl
  where
    by_test : (t : Bool) → eqb n 0 ≡ t
        → u32_bytes n ++ replicate z 0 ≡ numbers_bytes (cond t [] (n ∷ []))
        ++ replicate (z + 4 - 4 * length (cond t [] (n ∷ []))) 0
    by_test true is =
        let none : n ≡ 0 = grind (arith, nat_tests) in
        let count : 4 + z ≡ z + 4 - 0 = omega arith in
        ap (λ (k : ℕ). u32_bytes k ++ replicate z 0) none ∙ replicate-append-replicate 4 z 0
        ∙ ap (λ (k : ℕ). replicate k 0) count
    by_test false is = ap (λ (k : ℕ). u32_bytes n ++ replicate k 0)
        (let count : z ≡ z + 4 - 4 = omega arith in count)
front_spelled n z (m ∷ ms) =
    ap (λ (k : ℕ). u32_bytes n ++ (u32_bytes m ++ (numbers_bytes ms ++ replicate k 0)))
    (let count : z ≡ z + 4 * (suc (length ms) + 1) - 4 * suc (suc (length ms)) =
    omega arith in count)

pub trimmed_spelled : (z : ℕ) (ns : List ℕ)
    → numbers_bytes ns ++ replicate z 0 ≡ numbers_bytes (trimmed ns)
    ++ replicate (z + 4 * length ns - 4 * length (trimmed ns)) 0
trimmed_spelled z [] = ap (λ (k : ℕ). replicate k 0)
    (let count : z ≡ z + 0 - 0 = omega arith in count)
trimmed_spelled z (n ∷ ns) =
    let left = z + 4 * length ns - 4 * length (trimmed ns) in
    let count : left + 4 * (length (trimmed ns) + 1) - 4 * length (in_front n (trimmed ns)) ≡ z + 4
    * suc (length ns) - 4 * length (in_front n (trimmed ns)) =
    omega (arith, length-trimmed ns) in
    ap (λ (t : List ℕ). u32_bytes n ++ t) (trimmed_spelled z ns) ∙ front_spelled n left (trimmed ns)
    ∙ ap (λ (k : ℕ). numbers_bytes (in_front n (trimmed ns)) ++ replicate k 0) count

-- the page of a segment is spelled with the heads that are read of it
pub heads_spelled : (bytes : List ℕ) (own count : ℕ) → IsNumber own → count ≤ 508
    → IsSegment bytes own count → IsSpelledSegment bytes own
unfolding segment_spelling
heads_spelled bytes own count small le h =
    let ns = h.heads in
    let ts = trimmed ns in
    let few : length ts ≤ 508 = omega (arith, length-trimmed ns, h.many) in
    let numbers = All-from_recursion IsNumber ts
    (AllByRecursion-trimmed IsNumber ns (recursion_from_All IsNumber ns h.numbers)) in
    let zeros : 2032 - 4 * length ns + 4 * length ns - 4 * length ts ≡ 2032 - 4 * length ts =
    omega (arith, h.many) in
    let spelled : bytes ≡ segment_spelling own ts =
    h.spelled ∙ ap (λ (t : List ℕ). header own 2 0 0 0 ++ t)
    (trimmed_spelled (2032 - 4 * length ns) ns
    ∙ ap (λ (k : ℕ). numbers_bytes ts ++ replicate k 0) zeros) in
    let same = heads_again bytes ts own few numbers (trimmed-again ns) spelled in
    record {
      valid = subst (λ (xs : List ℕ). MaySay own (SegmentPage xs)) (sym same)
          (small, few, numbers, trimmed-again ns);
      spelled = subst (λ (xs : List ℕ). bytes ≡ segment_spelling own xs) (sym same) spelled;
    }

-- so it says them
pub heads_said : (bytes : List ℕ) (own : ℕ) → IsSpelledSegment bytes own
    → body_of own bytes ≡ SegmentPage (heads_on bytes)
heads_said bytes own h = (body_is own bytes (SegmentPage (heads_on bytes)) h.valid).0 h.spelled

-- the bytes of a segment page are bytes, whatever its heads

byte_at : (bytes : List ℕ) → AllByRecursion (λ b. b < 256) bytes → IsBytes bytes
byte_at [] all i = omega arith
byte_at (b ∷ bytes) all zero = all.0
byte_at (b ∷ bytes) all (suc i) = byte_at bytes all.1 i

numbers_are_bytes : (ns : List ℕ) → AllByRecursion (λ b. b < 256) (numbers_bytes ns)
numbers_are_bytes [] = tt
numbers_are_bytes (n ∷ ns) = (
  omega arith,
  (omega arith, (omega arith, (omega arith, numbers_are_bytes ns))),
)

zeros_are_bytes : (k : ℕ) → AllByRecursion (λ b. b < 256) (replicate k 0)
zeros_are_bytes zero = tt
zeros_are_bytes (suc k) = (omega arith, zeros_are_bytes k)

spelled_bytes : (own : ℕ) (heads : List ℕ) → IsBytes (segment_spelling own heads)
unfolding segment_spelling
spelled_bytes own heads =
    let IsByte : ℕ → Type 0 = λ b. b < 256 in
    let zeros : List ℕ = replicate (2032 - 4 * length heads) 0 in
    let front : AllByRecursion IsByte (header own 2 0 0 0) = (
      omega arith,
      (
        omega arith,
        (
          omega arith,
          (omega arith, (omega arith, zeros_are_bytes 11)),
        ),
      ),
    ) in
    byte_at (header own 2 0 0 0 ++ (numbers_bytes heads ++ zeros))
    (AllByRecursion-append IsByte (header own 2 0 0 0) (numbers_bytes heads ++ zeros) front
    (AllByRecursion-append IsByte (numbers_bytes heads) zeros (numbers_are_bytes heads)
    (zeros_are_bytes (2032 - 4 * length heads))))

-- a page that says heads is spelled with them
pub said_spelled : (bytes : List ℕ) (own : ℕ) (heads : List ℕ) → body_of own bytes ≡ SegmentPage heads
    → bytes ≡ segment_spelling own heads
said_spelled bytes own heads e =
    body_spelled own bytes (λ other. absurd (cc (e, other))) ∙ ap (spelling_of own) e

kind_of_segment : (own : ℕ) (heads : List ℕ) → kind_of (segment_spelling own heads) ≡ 2
unfolding segment_spelling
kind_of_segment own heads = refl

-- and they are those that are read of it
pub heads_of_said : (bytes : List ℕ) (own : ℕ) (heads : List ℕ)
    → body_of own bytes ≡ SegmentPage heads → heads ≡ heads_on bytes
unfolding body_of
heads_of_said bytes own heads e = by_test (bytes_eq bytes (spelling_of own (body_by_kind bytes))) e
  where
    kind : body_by_kind bytes ≡ SegmentPage (heads_on bytes)
    kind = ap (λ (k : ℕ). read_as k bytes)
        (ap kind_of (said_spelled bytes own heads e) ∙ kind_of_segment own heads)

    by_test : (t : Bool) → cond t (body_by_kind bytes) Other ≡ SegmentPage heads
        → heads ≡ heads_on bytes
    by_test true e = cc (kind)
    by_test false e = absurd cc

-- it is a segment page of so many heads
pub said_segment : (bytes : List ℕ) (own count : ℕ) (heads : List ℕ) → length bytes ≡ 2048
    → length heads ≡ count → body_of own bytes ≡ SegmentPage heads → IsSegment bytes own count
unfolding heads_on
said_segment bytes own count heads len many e =
    let spelled = said_spelled bytes own heads e in
    let fits : IsBytes bytes = subst IsBytes (sym spelled) (spelled_bytes own heads) in
    let all = AllByRecursion-trimmed IsNumber (numbers_at bytes 16 ((length bytes - 16) / 4))
    (numbers_small bytes fits ((length bytes - 16) / 4) 16) in
    record {
      heads = heads;
      many = many;
      numbers = subst (All IsNumber) (sym (heads_of_said bytes own heads e))
          (All-from_recursion IsNumber _ all);
      spelled = spelled;
    }

-- one head set

pub numbers_put : (ns front : List ℕ) (i at to z head : ℕ) → length front ≡ at → i ≤ length ns
    → (i ≡ length ns → 4 ≤ z) → at + 4 * i ≡ to
    → overwrite (front ++ (numbers_bytes ns ++ replicate z 0)) to (u32_bytes head) ≡ front
    ++ (numbers_bytes (put ns i head)
    ++ replicate (z + 4 * length ns - 4 * length (put ns i head)) 0)
numbers_put [] front (suc i) at to z head e le room f = absurd (omega arith)
numbers_put [] front zero at to z head e le room f =
    let rest : List ℕ = replicate (z - 4) 0 in
    let some : 4 ≤ z = room refl in
    let parts : replicate z 0 ≡ replicate 4 0 ++ rest =
    ap (λ (k : ℕ). replicate k 0) (let k : z ≡ 4 + (z - 4) = omega (arith, some) in k)
    ∙ sym (replicate-append-replicate 4 (z - 4) 0) in
    ap (λ (t : List ℕ). overwrite (front ++ t) to (u32_bytes head)) parts
    ∙ overwrite_mid front (replicate 4 0) rest (u32_bytes head) to (omega arith) refl
    ∙ ap (λ (k : ℕ). front ++ (u32_bytes head ++ replicate k 0))
    (let k : z - 4 ≡ z + 0 - 4 = omega arith in k)
numbers_put (n ∷ ns) front zero at to z head e le room f =
    let rest : List ℕ = numbers_bytes ns ++ replicate z 0 in
    overwrite_mid front (u32_bytes n) rest (u32_bytes head) to (omega arith) refl
    ∙ ap (λ (k : ℕ). front ++ (u32_bytes head ++ (numbers_bytes ns ++ replicate k 0)))
    (let k : z ≡ z + 4 * suc (length ns) - 4 * suc (length ns) = omega arith in k)
numbers_put (n ∷ ns) front (suc i) at to z head e le room f =
    let others = numbers_put ns (front ++ u32_bytes n) i (at + 4) to z head
    (omega (arith, e, length-append front (u32_bytes n))) (omega arith)
    (λ same. room (ap suc same)) (omega arith) in
    ap (λ (t : List ℕ). overwrite t to (u32_bytes head))
    (sym (append_assoc front (u32_bytes n) (numbers_bytes ns ++ replicate z 0))) ∙ others
    ∙ append_assoc front (u32_bytes n)
    (numbers_bytes (put ns i head)
    ++ replicate (z + 4 * length ns - 4 * length (put ns i head)) 0)
    ∙ ap (λ (k : ℕ). front ++ (u32_bytes n ++ (numbers_bytes (put ns i head) ++ replicate k 0)))
    (let k : z + 4 * length ns - 4 * length (put ns i head) ≡ z + 4 * suc (length ns) - 4
    * suc (length (put ns i head)) = omega arith in k)

head_put : (old new heads : List ℕ) (own i head : ℕ) → i < 508 → length heads ≤ 508
    → i ≤ length heads → old ≡ segment_spelling own heads
    → new ≡ overwrite old (16 + 4 * i) (u32_bytes head)
    → new ≡ segment_spelling own (put heads i head)
unfolding segment_spelling
head_put old new heads own i head lt few le e w =
    let zeros : 2032 - 4 * length heads + 4 * length heads - 4 * length (put heads i head) ≡ 2032
    - 4 * length (put heads i head) = omega (arith, few) in
    w ∙ ap (λ (t : List ℕ). overwrite t (16 + 4 * i) (u32_bytes head)) e
    ∙ numbers_put heads (header own 2 0 0 0) i 16 (16 + 4 * i) (2032 - 4 * length heads) head refl
    le (λ same. omega (arith, same, lt)) refl
    ∙ ap (λ (k : ℕ). header own 2 0 0 0 ++ (numbers_bytes (put heads i head) ++ replicate k 0))
    zeros

-- a page says the heads with the new one among them
pub head_said : (old new heads : List ℕ) (own i head : ℕ) → IsSpelledSegment old own
    → body_of own old ≡ SegmentPage heads → i < 508 → i ≤ length heads → 0 < head → IsNumber head
    → new ≡ overwrite old (16 + 4 * i) (u32_bytes head)
    → body_of own new ≡ SegmentPage (put heads i head)
head_said old new heads own i head h e lt le some small w =
    let may : MaySay own (SegmentPage heads) =
    subst (λ (xs : List ℕ). MaySay own (SegmentPage xs))
    (sym (heads_of_said old own heads e)) h.valid in
    let numbers = All-from_recursion IsNumber (put heads i head)
    (AllByRecursion-put IsNumber heads i head
    (recursion_from_All IsNumber heads may.2) small) in
    (body_is own new (SegmentPage (put heads i head)) (
      may.0,
      length-put heads i head 508 lt may.1,
      numbers,
      trimmed-put heads i head some may.3,
    )).0
    (head_put old new heads own i head lt may.1 le (said_spelled old own heads e) w)

-- a fresh page says its first head alone
pub fresh_said : (old new : List ℕ) (own head : ℕ) → IsNumber own → 0 < head → IsNumber head
    → old ≡ header own 2 0 0 0 ++ replicate 2032 0 → new ≡ overwrite old 16 (u32_bytes head)
    → body_of own new ≡ SegmentPage (head ∷ [])
unfolding segment_spelling
fresh_said old new own head number some small e w =
    (body_is own new (SegmentPage (head ∷ [])) (
      number,
      omega arith,
      All-from_recursion IsNumber (head ∷ []) (small, tt),
      trimmed-put [] 0 head some refl,
    )).0
    (head_put old new [] own 0 head (omega arith) (omega arith) (omega arith) e w)

-- own numbers

-- the own number of a page without slots, after a write behind the header
pub own_kept : (old new rest ys : List ℕ) (own at : ℕ) → IsNumber own → length old ≡ 2048 → 16 ≤ at
    → at ≤ 2048 → old ≡ header own 2 0 0 0 ++ rest → new ≡ overwrite old at ys
    → own_number new ≡ own
own_kept old new rest ys own at small len ge le e w =
    ap own_number w ∙ own_of_overwrite old ys at (omega (arith, ge)) (omega (arith, le, len))
    ∙ own_again old rest own 2 0 small e

-- of a segment page
pub own_of_segment : (old new ys : List ℕ) (own at : ℕ) → length old ≡ 2048 → 16 ≤ at → at ≤ 2048
    → IsSpelledSegment old own → new ≡ overwrite old at ys → own_number new ≡ own
unfolding segment_spelling
own_of_segment old new ys own at len ge le h w =
    own_kept old new (numbers_bytes (heads_on old)
    ++ replicate (2032 - 4 * length (heads_on old)) 0) ys own at h.valid.0 len ge le h.spelled w
