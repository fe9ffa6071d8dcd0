-- Bytes of a page as texts: what stands from one place up to another.
use Rattle.std.proofs.Common.{◌≡◌, ℕ, zero, suc, ◌+◌, ◌-◌, ◌*◌, ◌/◌, ◌%◌, ◌≤◌, ◌<◌, List, [], ◌∷◌, ◌++◌, length, get_or, take, drop, refl, sym, ap, ◌∙◌, append_assoc, arith, replicate}
use Rattle.std.proofs.lemmas.List.{append-nil, drop_more, drop-drop, drop_at, drop_all, take-append-drop, get_or-drop, get_or_append_left, get_or-replicate, length-replicate}
use Rattle.page_model.specs.Bytes.{u16_at, u32_at, u16_bytes, u32_bytes}
use Rattle.page_model.specs.Reading.{IsClear}

-- each is below 256
abbrev pub IsBytes : List ℕ → Type 0
IsBytes bytes = (i : ℕ) → get_or bytes i 0 < 256

-- `text` stands in `bytes` from place a up to place b
abbrev pub IsText : List ℕ → ℕ → List ℕ → ℕ → Type 0
IsText bytes a text b = drop a bytes ≡ text ++ drop b bytes

-- a text behind a text
pub text_then : (bytes : List ℕ) (a : ℕ) (x : List ℕ) (b : ℕ) (y : List ℕ) (c : ℕ)
    → IsText bytes a x b → IsText bytes b y c → IsText bytes a (x ++ y) c
text_then bytes a x b y c p q =
    p ∙ ap (λ (t : List ℕ). x ++ t) q ∙ sym (append_assoc x y (drop c bytes))

-- one byte
pub byte_text : (bytes : List ℕ) (a n : ℕ) → a < length bytes → n ≡ get_or bytes a 0
    → IsText bytes a (n ∷ []) (a + 1)
byte_text bytes a n lt e = drop_more bytes a 0 lt ∙ ap (λ (x : ℕ). x ∷ drop (a + 1) bytes) (sym e)

-- two bytes as a number and back
two_back : (x y : ℕ) → x < 256 → y < 256 → u16_bytes (x * 256 + y) ≡ x ∷ y ∷ []
two_back x y p q =
    let high : (x * 256 + y) / 256 % 256 ≡ x = omega arith in
    let lower : (x * 256 + y) % 256 ≡ y = omega arith in
    rw (high, lower) refl

-- two numbers of two bytes as one of four
four_back : (h l : ℕ) → h < 65536 → l < 65536
    → u32_bytes (h * 65536 + l) ≡ u16_bytes h ++ u16_bytes l
four_back h l p q =
    let b3 : (h * 65536 + l) / 16777216 % 256 ≡ h / 256 % 256 = omega arith in
    let b2 : (h * 65536 + l) / 65536 % 256 ≡ h % 256 = omega arith in
    let b1 : (h * 65536 + l) / 256 % 256 ≡ l / 256 % 256 = omega arith in
    let b0 : (h * 65536 + l) % 256 ≡ l % 256 = omega arith in
    rw (b3, b2, b1, b0) refl

-- the number in two bytes, spelled
pub two_text : (bytes : List ℕ) (a b : ℕ) → IsBytes bytes → a + 2 ≤ length bytes → a + 2 ≡ b
    → IsText bytes a (u16_bytes (u16_at bytes a)) b
two_text bytes a b fits le e =
    let both = text_then bytes a (get_or bytes a 0 ∷ []) (a + 1) (get_or bytes (a + 1) 0 ∷ [])
    (a + 1 + 1) (byte_text bytes a _ (omega arith) refl)
    (byte_text bytes (a + 1) _ (omega arith) refl) in
    let at : a + 1 + 1 ≡ b = omega arith in
    both ∙ ap (λ (k : ℕ). get_or bytes a 0 ∷ get_or bytes (a + 1) 0 ∷ drop k bytes) at
    ∙ ap (λ (t : List ℕ). t ++ drop b bytes)
    (sym (two_back (get_or bytes a 0) (get_or bytes (a + 1) 0) (fits a) (fits (a + 1))))

-- two bytes hold less than 65,536
pub u16_below : (bytes : List ℕ) (a : ℕ) → IsBytes bytes → u16_at bytes a < 65536
u16_below bytes a fits = omega (arith, fits a, fits (a + 1))

-- the number in four bytes, spelled
pub four_text : (bytes : List ℕ) (a b : ℕ) → IsBytes bytes → a + 4 ≤ length bytes → a + 4 ≡ b
    → IsText bytes a (u32_bytes (u32_at bytes a)) b
four_text bytes a b fits le e =
    let both = text_then bytes a (u16_bytes (u16_at bytes a)) (a + 2)
    (u16_bytes (u16_at bytes (a + 2))) b (two_text bytes a (a + 2) fits (omega arith) refl)
    (two_text bytes (a + 2) b fits (omega arith) (omega arith)) in
    both ∙ ap (λ (t : List ℕ). t ++ drop b bytes)
    (sym (four_back (u16_at bytes a) (u16_at bytes (a + 2)) (u16_below bytes a fits)
    (u16_below bytes (a + 2) fits)))

-- zeros
pub zeros_text : (bytes : List ℕ) (m a b : ℕ) → a + m ≡ b → b ≤ length bytes → IsClear bytes a b
    → IsText bytes a (replicate m 0) b
zeros_text bytes zero a b e le clear = ap (λ (k : ℕ). drop k bytes) (omega arith)
zeros_text bytes (suc m) a b e le clear =
    let rest = zeros_text bytes m (a + 1) b (omega arith) le
    (λ k from to. clear k (omega arith) to) in
    byte_text bytes a 0 (omega arith) (sym (clear a (omega arith) (omega arith)))
    ∙ ap (λ (t : List ℕ). 0 ∷ t) rest

-- from a up to b, in two parts
pub part_text : (bytes : List ℕ) (a n b : ℕ) → a + n ≡ b → IsText bytes a (take n (drop a bytes)) b
part_text bytes a n b e = sym (take-append-drop n (drop a bytes))
    ∙ ap (λ (t : List ℕ). take n (drop a bytes) ++ t) (drop-drop n a bytes)
    ∙ ap (λ (k : ℕ). take n (drop a bytes) ++ drop k bytes) e

-- place n of the bytes is place k of a text that stands at a
pub at_front : (bytes t : List ℕ) (a k n : ℕ) → drop a bytes ≡ t → a + k ≡ n
    → get_or bytes n 0 ≡ get_or t k 0
at_front bytes t a k n h e = ap (λ (j : ℕ). get_or bytes j 0) (sym e)
    ∙ sym (get_or-drop a bytes k 0) ∙ ap (λ (x : List ℕ). get_or x k 0) h

-- what stands behind a text
pub skip : (bytes t rest : List ℕ) (a b : ℕ) → drop a bytes ≡ t ++ rest → a + length t ≡ b
    → drop b bytes ≡ rest
skip bytes t rest a b h e = ap (λ (j : ℕ). drop j bytes) (sym e)
    ∙ sym (drop-drop (length t) a bytes) ∙ ap (drop (length t)) h ∙ drop_at t rest (length t) refl

-- zeros that are spelled are zero
pub clear_again : (bytes rest : List ℕ) (from m to : ℕ) → drop from bytes ≡ replicate m 0 ++ rest
    → from + m ≡ to → IsClear bytes from to
clear_again bytes rest from m to h e k ge lt =
    at_front bytes (replicate m 0 ++ rest) from (k - from) k h (omega arith)
    ∙ get_or_append_left (replicate m 0) rest 0 (k - from)
    (omega (arith, length-replicate {A = ℕ} m 0))
    ∙ get_or-replicate m (k - from) 0 0 (omega arith)

-- all of the bytes are a text
pub whole : (bytes text : List ℕ) → length bytes ≡ 2048 → IsText bytes 0 text 2048 → bytes ≡ text
whole bytes text len t =
    let none : drop 2048 bytes ≡ [] = drop_all 2048 bytes (omega arith) in
    t ∙ ap (λ (x : List ℕ). text ++ x) none ∙ append-nil text
