-- Numbers of four bytes, as texts of a page and read back.
use Rattle.std.proofs.Common.{◌≡◌, ℕ, zero, suc, ◌+◌, ◌*◌, ◌≤◌, ◌<◌, Bool, false, cond, eqb, List, [], ◌∷◌, ◌++◌, length, replicate, drop, refl, sym, ap, ◌∙◌, append_assoc, arith}
use Rattle.std.specs.List.{AllByRecursion}
use Rattle.std.proofs.lemmas.Bool.Decides.{nat_tests}
use Rattle.std.proofs.lemmas.List.{replicate-append-replicate}
use Rattle.page_model.specs.Bytes.{u32_at, u32_bytes}
use Rattle.page_model.specs.Numbers.{IsNumber, numbers_bytes, numbers_at}
use Rattle.page_model.specs.Reading.{in_front, trimmed}
use Rattle.page_model.proofs.Texts.{IsBytes, IsText, text_then, four_text, u16_below, at_front, skip}
use Rattle.page_model.proofs.Buckets.{four_is}

-- four bytes for each number
pub length-numbers_bytes : (ns : List ℕ) → length (numbers_bytes ns) ≡ 4 * length ns
length-numbers_bytes [] = refl
length-numbers_bytes (n ∷ ns) = omega (arith, length-numbers_bytes ns)

-- so many are read
pub length-numbers_at : (bytes : List ℕ) (at count : ℕ) → length (numbers_at bytes at count) ≡ count
length-numbers_at bytes at zero = refl
length-numbers_at bytes at (suc count) = ap suc (length-numbers_at bytes (at + 4) count)

-- the bytes of two lists
pub numbers_bytes-append : (xs ys : List ℕ)
    → numbers_bytes (xs ++ ys) ≡ numbers_bytes xs ++ numbers_bytes ys
numbers_bytes-append [] ys = refl
numbers_bytes-append (x ∷ xs) ys =
    ap (λ (t : List ℕ). u32_bytes x ++ t) (numbers_bytes-append xs ys)
    ∙ sym (append_assoc (u32_bytes x) (numbers_bytes xs) (numbers_bytes ys))

-- what is there is the bytes of the numbers that are read there
pub numbers_text : (bytes : List ℕ) → IsBytes bytes → (count at to : ℕ) → at + 4 * count ≡ to
    → to ≤ length bytes → IsText bytes at (numbers_bytes (numbers_at bytes at count)) to
numbers_text bytes fits zero at to e le = ap (λ (k : ℕ). drop k bytes) (omega arith)
numbers_text bytes fits (suc count) at to e le =
    text_then bytes at (u32_bytes (u32_at bytes at)) (at + 4)
    (numbers_bytes (numbers_at bytes (at + 4) count)) to
    (four_text bytes at (at + 4) fits (omega arith) refl)
    (numbers_text bytes fits count (at + 4) to (omega arith) le)

-- a number that stands in front of a text
pub word_again : (bytes rest : List ℕ) (at n : ℕ) → IsNumber n → drop at bytes ≡ u32_bytes n ++ rest
    → u32_at bytes at ≡ n
word_again bytes rest at n lt h =
    let b0 = at_front bytes (u32_bytes n ++ rest) at 0 at h (omega arith) in
    let b1 = at_front bytes (u32_bytes n ++ rest) at 1 (at + 1) h refl in
    let b2 = at_front bytes (u32_bytes n ++ rest) at 2 (at + 2) h refl in
    let b3 = at_front bytes (u32_bytes n ++ rest) at 3 (at + 2 + 1) h (omega arith) in
    rw (b0, b1, b2, b3) (four_is n lt)

-- numbers that are spelled somewhere are read there
pub numbers_again : (bytes rest ns : List ℕ) (at : ℕ) → AllByRecursion IsNumber ns
    → drop at bytes ≡ numbers_bytes ns ++ rest → numbers_at bytes at (length ns) ≡ ns
numbers_again bytes rest [] at all h = refl
numbers_again bytes rest (n ∷ ns) at all h =
    let h' : drop at bytes ≡ u32_bytes n ++ (numbers_bytes ns ++ rest) = h in
    let first = word_again bytes (numbers_bytes ns ++ rest) at n all.0 h' in
    let others = numbers_again bytes rest ns (at + 4) all.1
    (skip bytes (u32_bytes n) (numbers_bytes ns ++ rest) at (at + 4) h' refl) in
    ap (λ (x : ℕ). x ∷ numbers_at bytes (at + 4) (length ns)) first
    ∙ ap (λ (xs : List ℕ). n ∷ xs) others

-- what is read is numbers of four bytes
pub numbers_small : (bytes : List ℕ) → IsBytes bytes → (count at : ℕ)
    → AllByRecursion IsNumber (numbers_at bytes at count)
numbers_small bytes fits zero at = tt
numbers_small bytes fits (suc count) at = (
  omega (arith, u16_below bytes at fits, u16_below bytes (at + 2) fits),
  numbers_small bytes fits count (at + 4),
)

-- zeros behind numbers

-- numbers that are 0 are zeros
pub numbers_bytes-zeros : (k : ℕ) → numbers_bytes (replicate k 0) ≡ replicate (4 * k) 0
numbers_bytes-zeros zero = refl
numbers_bytes-zeros (suc k) =
    ap (λ (t : List ℕ). 0 ∷ 0 ∷ 0 ∷ 0 ∷ t) (numbers_bytes-zeros k)
    ∙ replicate-append-replicate 4 (4 * k) 0
    ∙ ap (λ (n : ℕ). replicate n 0) (let e : 4 + 4 * k ≡ 4 * suc k = omega arith in e)

-- zeros are numbers of four bytes
zeros_are_numbers : (k : ℕ) → AllByRecursion IsNumber (replicate k 0)
zeros_are_numbers zero = tt
zeros_are_numbers (suc k) = (omega arith, zeros_are_numbers k)

-- zeros behind numbers
pub with_zeros : (ns : List ℕ) (k : ℕ) → AllByRecursion IsNumber ns
    → AllByRecursion IsNumber (ns ++ replicate k 0)
with_zeros [] k h = zeros_are_numbers k
with_zeros (n ∷ ns) k h = (h.0, with_zeros ns k h.1)

-- zeros alone are trimmed away
trimmed-zeros : (k : ℕ) → trimmed (replicate k 0) ≡ []
trimmed-zeros zero = refl
trimmed-zeros (suc k) = ap (in_front 0) (trimmed-zeros k)

-- zeros at the end are trimmed away
pub trimmed-append_zeros : (ns : List ℕ) (k : ℕ) → trimmed (ns ++ replicate k 0) ≡ trimmed ns
trimmed-append_zeros [] k = trimmed-zeros k
trimmed-append_zeros (n ∷ ns) k = ap (in_front n) (trimmed-append_zeros ns k)

-- the test of a number that isn't 0
no_zero : (n : ℕ) → 0 < n → eqb n 0 ≡ false
no_zero n lt = grind (arith, nat_tests)

-- a number that isn't 0 stays
in_front-is : (n : ℕ) (ns : List ℕ) → 0 < n → in_front n ns ≡ n ∷ ns
in_front-is n [] lt = ap (λ (t : Bool). cond t [] (n ∷ [])) (no_zero n lt)
in_front-is n (m ∷ ms) lt = refl

-- a list without zeros is trimmed
pub trimmed-is : (ns : List ℕ) → AllByRecursion (λ n. 0 < n) ns → trimmed ns ≡ ns
trimmed-is [] h = refl
trimmed-is (n ∷ ns) h = ap (in_front n) (trimmed-is ns h.1) ∙ in_front-is n ns h.0
