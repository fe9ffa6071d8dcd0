-- One head set in a segment page of any file, place by place.
use Rattle.std.proofs.Common.{◌≡◌, ◌≢◌, ℕ, zero, suc, ◌+◌, ◌-◌, ◌*◌, ◌<◌, ◌≤◌, List, [], ◌∷◌, ◌++◌, length, replicate, get_or, refl, sym, ap, ◌∙◌, arith}
use Rattle.std.specs.List.{AllByRecursion}
use Rattle.std.proofs.lemmas.List.{append-nil, replicate-append-replicate}
use Rattle.std.proofs.lemmas.List.Elements.{recursion_from_All, All-from_recursion}
use Rattle.page_model.specs.Bytes.{u32_bytes, overwrite}
use Rattle.page_model.specs.Numbers.{IsNumber, numbers_bytes}
use Rattle.page_model.specs.Pages.{SegmentPage}
use Rattle.page_model.specs.Reading.{trimmed, heads_on, body_of}
use Rattle.page_model.specs.Spelling.{header, segment_spelling}
use Rattle.page_model.proofs.Bodies.{body_is}
use Rattle.seg_table.specs.Segments.{IsSpelledSegment}
use Rattle.seg_table.specs.Setting.{SaysEntry}
use Rattle.seg_table.proofs.HeadLists.{put, AllByRecursion-put, trimmed-again, length-trimmed, AllByRecursion-trimmed, get_or-trimmed}
use Rattle.seg_table.proofs.HeadTexts.{trimmed_spelled, numbers_put}

-- so many heads, 0 behind the last
abbrev padded : ℕ → List ℕ → List ℕ
padded zero ns = []
padded (suc k) [] = 0 ∷ padded k []
padded (suc k) (n ∷ ns) = n ∷ padded k ns

length-padded : (k : ℕ) (ns : List ℕ) → length (padded k ns) ≡ k
length-padded zero ns = refl
length-padded (suc k) [] = ap suc (length-padded k [])
length-padded (suc k) (n ∷ ns) = ap suc (length-padded k ns)

get_or-padded : (k : ℕ) (ns : List ℕ) (i : ℕ) → length ns ≤ k
    → get_or (padded k ns) i 0 ≡ get_or ns i 0
get_or-padded zero [] i le = refl
get_or-padded zero (n ∷ ns) i le = absurd (omega arith)
get_or-padded (suc k) [] zero le = refl
get_or-padded (suc k) [] (suc i) le = get_or-padded k [] i (omega arith)
get_or-padded (suc k) (n ∷ ns) zero le = refl
get_or-padded (suc k) (n ∷ ns) (suc i) le = get_or-padded k ns i (omega arith)

numbers-padded : (k : ℕ) (ns : List ℕ) → AllByRecursion IsNumber ns
    → AllByRecursion IsNumber (padded k ns)
numbers-padded zero ns all = tt
numbers-padded (suc k) [] all = (omega arith, numbers-padded k [] tt)
numbers-padded (suc k) (n ∷ ns) all = (all.0, numbers-padded k ns all.1)

bytes-padded : (k : ℕ) (ns : List ℕ) → length ns ≤ k
    → numbers_bytes (padded k ns) ≡ numbers_bytes ns ++ replicate (4 * k - 4 * length ns) 0
bytes-padded zero [] le = refl
bytes-padded zero (n ∷ ns) le = absurd (omega arith)
bytes-padded (suc k) [] le =
    ap (λ (t : List ℕ). u32_bytes 0 ++ t) (bytes-padded k [] (omega arith))
    ∙ replicate-append-replicate 4 (4 * k - 0) 0
    ∙ ap (λ (j : ℕ). replicate j 0) (let j : 4 + (4 * k - 0) ≡ 4 * suc k - 0 = omega arith in j)
bytes-padded (suc k) (n ∷ ns) le =
    ap (λ (t : List ℕ). u32_bytes n ++ t) (bytes-padded k ns (omega arith))
    ∙ ap (λ (j : ℕ). u32_bytes n ++ (numbers_bytes ns ++ replicate j 0))
    (let j : 4 * k - 4 * length ns ≡ 4 * suc k - 4 * suc (length ns) = omega arith in j)

-- one of them set

length-put_there : (ns : List ℕ) (i head : ℕ) → i < length ns → length (put ns i head) ≡ length ns
length-put_there [] i head lt = absurd (omega arith)
length-put_there (n ∷ ns) zero head lt = refl
length-put_there (n ∷ ns) (suc i) head lt = ap suc (length-put_there ns i head (omega arith))

get_or-put : (ns : List ℕ) (i head : ℕ) → i < length ns → get_or (put ns i head) i 0 ≡ head
get_or-put [] i head lt = absurd (omega arith)
get_or-put (n ∷ ns) zero head lt = refl
get_or-put (n ∷ ns) (suc i) head lt = get_or-put ns i head (omega arith)

get_or-put_other : (ns : List ℕ) (i k head : ℕ) → i < length ns → k ≢ i
    → get_or (put ns i head) k 0 ≡ get_or ns k 0
get_or-put_other [] i k head lt other = absurd (omega arith)
get_or-put_other (n ∷ ns) zero zero head lt other = absurd (other refl)
get_or-put_other (n ∷ ns) zero (suc k) head lt other = refl
get_or-put_other (n ∷ ns) (suc i) zero head lt other = refl
get_or-put_other (n ∷ ns) (suc i) (suc k) head lt other =
    get_or-put_other ns i k head (omega arith) (λ same. other (ap suc same))

-- a page that is spelled with 508 numbers says them up to the last that isn't 0
says_trimmed : (bytes : List ℕ) (own : ℕ) (ns : List ℕ) → IsNumber own → length ns ≡ 508
    → AllByRecursion IsNumber ns → bytes ≡ header own 2 0 0 0 ++ (numbers_bytes ns ++ replicate 0 0)
    → body_of own bytes ≡ SegmentPage (trimmed ns)
unfolding segment_spelling
says_trimmed bytes own ns small many numbers e =
    let ts = trimmed ns in
    let few : length ts ≤ 508 = omega (arith, length-trimmed ns, many) in
    let zeros : 0 + 4 * length ns - 4 * length ts ≡ 2032 - 4 * length ts = omega (arith, many) in
    (body_is own bytes (SegmentPage ts) (
      small,
      few,
      All-from_recursion IsNumber ts (AllByRecursion-trimmed IsNumber ns numbers),
      trimmed-again ns,
    )).0
    (e ∙ ap (λ (t : List ℕ). header own 2 0 0 0 ++ t)
    (trimmed_spelled 0 ns ∙ ap (λ (k : ℕ). numbers_bytes ts ++ replicate k 0) zeros))

-- a page with one head written over
pub entry_said : (old new heads : List ℕ) (own i head : ℕ) → IsNumber own → IsNumber head → i < 508
    → length heads ≤ 508 → AllByRecursion IsNumber heads → old ≡ segment_spelling own heads
    → new ≡ overwrite old (16 + 4 * i) (u32_bytes head) → SaysEntry (body_of own new) heads i head
unfolding segment_spelling
entry_said old new heads own i head small fits lt few numbers e w =
    let ns = padded 508 heads in
    let long : length ns ≡ 508 = length-padded 508 heads in
    let within : i < length ns = omega (arith, long, lt) in
    let there = put ns i head in
    let many : length there ≡ 508 = length-put_there ns i head within ∙ long in
    let none : 0 + 4 * length ns - 4 * length there ≡ 0 = omega (arith, long, many) in
    let zeros : 2032 - 4 * length heads ≡ 4 * 508 - 4 * length heads = omega arith in
    let was : old ≡ header own 2 0 0 0 ++ (numbers_bytes ns ++ replicate 0 0) =
    e ∙ ap (λ (k : ℕ). header own 2 0 0 0 ++ (numbers_bytes heads ++ replicate k 0)) zeros
    ∙ ap (λ (t : List ℕ). header own 2 0 0 0 ++ t)
    (sym (bytes-padded 508 heads few) ∙ sym (append-nil (numbers_bytes ns))) in
    let now : new ≡ header own 2 0 0 0 ++ (numbers_bytes there ++ replicate 0 0) =
    w ∙ ap (λ (t : List ℕ). overwrite t (16 + 4 * i) (u32_bytes head)) was
    ∙ numbers_put ns (header own 2 0 0 0) i 16 (16 + 4 * i) 0 head refl
    (omega (arith, within)) (λ same. absurd (omega (arith, same, within))) refl
    ∙ ap (λ (k : ℕ). header own 2 0 0 0 ++ (numbers_bytes there ++ replicate k 0)) none in
    record {
      heads = trimmed there;
      segment = says_trimmed new own there small many
          (AllByRecursion-put IsNumber ns i head (numbers-padded 508 heads numbers) fits) now;
      entry = sym (get_or-trimmed there i ∙ get_or-put ns i head within);
      rest = λ k other. get_or-trimmed there k ∙ get_or-put_other ns i k head within other
          ∙ get_or-padded 508 heads k few;
    }

-- a page that was read
pub entry_set : (old new : List ℕ) (own i head : ℕ) → IsNumber head → i < 508
    → IsSpelledSegment old own → new ≡ overwrite old (16 + 4 * i) (u32_bytes head)
    → SaysEntry (body_of own new) (heads_on old) i head
entry_set old new own i head fits lt h w =
    entry_said old new (heads_on old) own i head h.valid.0 fits lt h.valid.1
    (recursion_from_All IsNumber (heads_on old) h.valid.2) h.spelled w

-- a fresh one
pub entry_alone : (old new : List ℕ) (own i head : ℕ) → IsNumber own → IsNumber head → i < 508
    → old ≡ header own 2 0 0 0 ++ replicate 2032 0
    → new ≡ overwrite old (16 + 4 * i) (u32_bytes head) → SaysEntry (body_of own new) [] i head
unfolding segment_spelling
entry_alone old new own i head small fits lt e w =
    entry_said old new [] own i head small fits lt (omega arith) tt e w
