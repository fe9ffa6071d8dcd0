-- Pages without slots: what writes leave, and their headers as texts and read back.
use Rattle.std.proofs.Common.{◌≡◌, ℕ, ◌+◌, ◌*◌, ◌≤◌, ◌<◌, List, [], ◌∷◌, ◌++◌, length, replicate, get_or, set, take, drop, refl, sym, ap, ◌∙◌, arith}
use Rattle.std.proofs.lemmas.List.{take_more, length-take-le, replicate-append-replicate}
use Rattle.page_model.specs.Bytes.{u32_at, u32_bytes, overwrite}
use Rattle.page_model.specs.Numbers.{IsNumber, numbers_bytes}
use Rattle.page_model.specs.Reading.{next_of}
use Rattle.page_model.specs.Spelling.{header}
use Rattle.page_model.proofs.Texts.{IsBytes, IsText, text_then, byte_text, four_text, zeros_text, clear_again}
use Rattle.page_model.proofs.Writes.{overwrite_then}
use Rattle.page_model.proofs.Buckets.{four_is}
use Rattle.page_model.proofs.Numbers.{length-numbers_bytes, numbers_bytes-append}
use Rattle.page_io.specs.Plain.{HasPlainHeader}

-- one more number
pub numbers_more : (old now new numbers : List ℕ) (at i to n : ℕ) → at ≤ length old
    → i < length numbers → now ≡ overwrite old at (numbers_bytes (take i numbers)) → at + 4 * i ≡ to
    → n ≡ get_or numbers i 0
    → new ≡ overwrite now to (u32_bytes n)
    → new ≡ overwrite old at (numbers_bytes (take (i + 1) numbers))
numbers_more old now new numbers at i to n le lt h e f w =
    let more : numbers_bytes (take (i + 1) numbers) ≡ numbers_bytes (take i numbers)
    ++ u32_bytes (get_or numbers i 0) =
    ap numbers_bytes (take_more numbers i 0 lt)
    ∙ numbers_bytes-append (take i numbers) (get_or numbers i 0 ∷ []) in
    let long : at + length (numbers_bytes (take i numbers)) ≡ to =
    omega (
      arith,
      length-numbers_bytes (take i numbers),
      length-take-le i numbers (omega arith),
    ) in
    w ∙ ap (λ (x : List ℕ). overwrite x to (u32_bytes n)) h
    ∙ overwrite_then old (numbers_bytes (take i numbers)) (u32_bytes n) at to le long
    ∙ ap (λ (x : ℕ). overwrite old at (numbers_bytes (take i numbers) ++ u32_bytes x)) f
    ∙ ap (overwrite old at) (sym more)

header_set : (own kind next : ℕ) (rest : List ℕ)
    → overwrite (set (overwrite (replicate 16 0 ++ rest) 0 (u32_bytes own)) 4 kind) 8
    (u32_bytes next) ≡ header own kind 0 next 0 ++ rest
header_set own kind next rest = refl

-- the fields of a header over zeros
pub plain_is : (own kind next : ℕ) (zeros new : List ℕ) → zeros ≡ replicate 2048 0
    → new ≡ overwrite (set (overwrite zeros 0 (u32_bytes own)) 4 kind) 8 (u32_bytes next)
    → new ≡ header own kind 0 next 0 ++ replicate 2032 0
plain_is own kind next zeros new z e =
    let rest : List ℕ = replicate 2032 0 in
    let parts : zeros ≡ replicate 16 0 ++ rest = z ∙ sym (replicate-append-replicate 16 2032 0) in
    e ∙ ap (λ (x : List ℕ). overwrite (set (overwrite x 0 (u32_bytes own)) 4 kind) 8
    (u32_bytes next)) parts ∙ header_set own kind next rest

-- a plain header is spelled so
pub plain_text : (bytes : List ℕ) (own kind : ℕ) → 2048 ≤ length bytes → IsBytes bytes
    → HasPlainHeader bytes own kind → IsText bytes 0 (header own kind 0 (next_of bytes) 0) 16
plain_text bytes own kind len fits h =
    let next = next_of bytes in
    let f0 : IsText bytes 0 (u32_bytes own) 4 =
    four_text bytes 0 4 fits (omega arith) refl
    ∙ ap (λ (n : ℕ). u32_bytes n ++ drop 4 bytes) h.own_is in
    let f4 = byte_text bytes 4 kind (omega arith) (sym h.kind_is) in
    let f5 = zeros_text bytes 3 5 8 (omega arith) (omega arith) h.zeros in
    let f8 = four_text bytes 8 12 fits (omega arith) refl in
    let f12 = zeros_text bytes 4 12 16 (omega arith) (omega arith) h.rest in
    let t4 = text_then bytes 4 (kind ∷ []) 5 (replicate 3 0) 8 f4 f5 in
    let t8 = text_then bytes 0 (u32_bytes own) 4 (kind ∷ 0 ∷ 0 ∷ 0 ∷ []) 8 f0 t4 in
    let t12 = text_then bytes 0 (u32_bytes own ++ kind ∷ 0 ∷ 0 ∷ 0 ∷ []) 8
    (u32_bytes next) 12 t8 f8 in
    text_then bytes 0 (u32_bytes own ++ kind ∷ 0 ∷ 0 ∷ 0 ∷ [] ++ u32_bytes next) 12
    (replicate 4 0) 16 t12 f12

-- what a spelled plain header says
pub record IsHeaded (bytes : List ℕ) (own kind next : ℕ) : Type 0 where
  pub good : HasPlainHeader bytes own kind
  pub next_is : next_of bytes ≡ next

pub plain_again : (bytes rest : List ℕ) (own kind next : ℕ) → IsNumber own → IsNumber next
    → bytes ≡ header own kind 0 next 0 ++ rest → IsHeaded bytes own kind next
plain_again bytes rest own kind next a b e = record {
  good = record {
    own_is = ap (λ (x : List ℕ). u32_at x 0) e ∙ four_is own a;
    kind_is = ap (λ (x : List ℕ). get_or x 4 0) e;
    zeros = clear_again bytes (u32_bytes next ++ (replicate 4 0 ++ rest)) 5 3 8
        (ap (drop 5) e) refl;
    rest = clear_again bytes rest 12 4 16 (ap (drop 12) e) refl;
  };
  next_is = ap (λ (x : List ℕ). u32_at x 8) e ∙ four_is next b;
}
