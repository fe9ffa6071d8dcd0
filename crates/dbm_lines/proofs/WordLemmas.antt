-- A word stands for the bytes that it was made of.
use Rattle.std.proofs.Common.{◌≡◌, ℕ, ◌<◌, ◌/◌, ◌%◌, List, [], ◌∷◌, Bool, true, false, cond, ◌&&◌, Some, refl, ◌∙◌, ap, nat_eq}
use Rattle.std.specs.Prelude.{slice_index}
use Rattle.std.specs.Result.{result_ok}
use Rattle.hex.specs.Hex.{encode_with, lower_digits, decode_of}
use Rattle.hex.proofs.HexLemmas.{decode_of-encode_lower}
use Rattle.dbm_lines.specs.Words.{word_of, word_bytes, decoded}

and_false : (b : Bool) → (b && false) ≡ false
and_false true = refl
and_false false = refl

-- two digits and more are not the word of no bytes
long_word : (x y : ℕ) (rest : List ℕ)
    → word_bytes (x ∷ y ∷ rest) ≡ result_ok (decode_of (x ∷ y ∷ rest))
long_word x y rest = ap (λ b. cond b (Some []) (decoded (x ∷ y ∷ rest))) (and_false (nat_eq x 46))

pub reads_back : (bytes : List ℕ) → ((i : ℕ) → slice_index bytes i < 256)
    → word_bytes (word_of bytes) ≡ Some bytes
unfolding encode_with
reads_back [] small = refl
reads_back (byte ∷ bytes) small =
    long_word (slice_index lower_digits (byte / 16)) (slice_index lower_digits (byte % 16))
    (encode_with lower_digits bytes)
    ∙ ap result_ok (decode_of-encode_lower (byte ∷ bytes) small)
