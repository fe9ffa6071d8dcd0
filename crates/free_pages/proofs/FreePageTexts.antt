-- The bytes of a free page: found by the tests of its places, and read back.
use Rattle.std.proofs.Common.{◌≡◌, ℕ, List, [], ◌++◌, length, replicate, get_or, drop, refl, sym, ap, ◌∙◌, arith}
use Rattle.std.proofs.lemmas.List.{append-nil}
use Rattle.page_model.specs.Bytes.{u32_at, u32_bytes}
use Rattle.page_model.specs.Numbers.{IsNumber}
use Rattle.page_model.specs.Pages.{FreePage}
use Rattle.page_model.specs.Reading.{next_of, body_of, IsClear}
use Rattle.page_model.specs.Spelling.{header, free_spelling, spelling_of}
use Rattle.page_model.proofs.Texts.{IsBytes, text_then, zeros_text, clear_again, u16_below, whole}
use Rattle.page_model.proofs.Buckets.{four_is}
use Rattle.page_model.proofs.Bodies.{body_is, body_spelled}
use Rattle.page_io.specs.Page.{own_number}
use Rattle.page_io.specs.Plain.{HasPlainHeader}
use Rattle.page_io.proofs.PlainPages.{plain_text, plain_again}

-- a page with the header of a free one and zeros behind it is spelled so
pub free_found : (bytes : List ℕ) (own : ℕ) → length bytes ≡ 2048 → IsBytes bytes
    → HasPlainHeader bytes own 5 → IsClear bytes 16 2048 → bytes ≡ free_spelling own (next_of bytes)
unfolding free_spelling
free_found bytes own len fits headed clear =
    let front : List ℕ = header own 5 0 (next_of bytes) 0 in
    let zeros : List ℕ = replicate 2032 0 in
    let behind = zeros_text bytes 2032 16 2048 (omega arith) (omega arith) clear in
    whole bytes (front ++ zeros) len
    (text_then bytes 0 front 16 zeros 2048
    (plain_text bytes own 5 (omega arith) fits headed) behind)

-- four bytes hold a number
next_below : (bytes : List ℕ) → IsBytes bytes → IsNumber (next_of bytes)
next_below bytes fits = omega (arith, u16_below bytes 8 fits, u16_below bytes 10 fits)

-- and says that it is free
pub free_said : (bytes : List ℕ) (own : ℕ) → IsNumber own → length bytes ≡ 2048 → IsBytes bytes
    → HasPlainHeader bytes own 5 → IsClear bytes 16 2048
    → body_of own bytes ≡ FreePage (next_of bytes)
free_said bytes own small len fits headed clear =
    (body_is own bytes (FreePage (next_of bytes)) (small, next_below bytes fits)).0
    (free_found bytes own len fits headed clear)

-- what the tests ask
pub record IsFreePage (bytes : List ℕ) (own : ℕ) : Type 0 where
  pub headed : HasPlainHeader bytes own 5
  pub clear : IsClear bytes 16 2048

-- a spelled free page passes the tests, whatever number its next is cut from
pub free_again : (bytes : List ℕ) (own next : ℕ) → IsNumber own → bytes ≡ free_spelling own next
    → IsFreePage bytes own
unfolding free_spelling
free_again bytes own next small e =
    let zeros : List ℕ = replicate 2032 0 in
    record {
      headed = record {
        own_is = ap (λ (x : List ℕ). u32_at x 0) e ∙ four_is own small;
        kind_is = ap (λ (x : List ℕ). get_or x 4 0) e;
        zeros = clear_again bytes (u32_bytes next ++ (replicate 4 0 ++ zeros)) 5 3 8
            (ap (drop 5) e) refl;
        rest = clear_again bytes zeros 12 4 16 (ap (drop 12) e) refl;
      };
      clear = clear_again bytes [] 16 2032 2048 (ap (drop 16) e ∙ sym (append-nil zeros)) refl;
    }

-- so does a page that says that it is free
pub said_again : (bytes : List ℕ) (own next : ℕ) → IsNumber own → body_of own bytes ≡ FreePage next
    → IsFreePage bytes own
said_again bytes own next small e =
    free_again bytes own next small
    (body_spelled own bytes (λ other. absurd (cc)) ∙ ap (spelling_of own) e)

-- its next page is the one that was spelled
pub next_again : (bytes : List ℕ) (own next : ℕ) → IsNumber own → IsNumber next
    → bytes ≡ free_spelling own next → next_of bytes ≡ next
unfolding free_spelling
next_again bytes own next small fits e =
    (plain_again bytes (replicate 2032 0) own 5 next small fits e).next_is

-- the own number of a page without slots
pub own_again : (bytes rest : List ℕ) (own kind next : ℕ) → IsNumber own
    → bytes ≡ header own kind 0 next 0 ++ rest → own_number bytes ≡ own
unfolding own_number
own_again bytes rest own kind next small e = ap (λ (x : List ℕ). u32_at x 0) e ∙ four_is own small

-- a made free page says what it was made of
pub made_says : (bytes : List ℕ) (own next : ℕ) → IsNumber own → IsNumber next
    → bytes ≡ header own 5 0 next 0 ++ replicate 2032 0 → body_of own bytes ≡ FreePage next
unfolding free_spelling
made_says bytes own next small fits e = (body_is own bytes (FreePage next) (small, fits)).0 e
