-- Pairs of digits that are read in parts.
use Rattle.std.proofs.Common.{◌≡◌, ℕ, ◌+◌, ◌*◌, ◌%◌, Bool, true, false, cond, nat_lt, ltb, ◌&&◌, List, [], ◌∷◌, ◌++◌, map, length, get_or, drop, Option, Some, None, Result, Ok, Err, refl, sym, ap, ◌∙◌, arith}
use Rattle.std.proofs.Common.{ltb-true}
use Rattle.std.proofs.lemmas.List.{length-map}
use Rattle.std.specs.List.{list_all}
use Rattle.std.specs.Option.{option_map}
use Rattle.std.specs.Result.{result_ok}
use Rattle.hex.specs.Hex.{decode_of, decode_pairs, digit_or_error, hex_digit_value, ◌>>=◌}
use Rattle.hex.specs.declared.error.FromHexError.{FromHexError}
use Rattle.hex.proofs.HexLemmas.{decode_of-even}
use Rattle.dbm_lines.specs.Escapes.{joined}
use Rattle.dbm_lines.specs.Digits.{value_of_digit}
use Rattle.dbm_lines.proofs.FieldBytes.{nothing_before}
use Rattle.dbm_lines.proofs.DigitLanes.{block_paired, lanes_of, paired}

-- the bytes of pairs of digits
abbrev pub pairs : List ℕ → Option (List ℕ)
pairs digits = result_ok (decode_pairs 0 digits)

-- a byte of two values, before others
abbrev one_more : Option ℕ → Option ℕ → Option (List ℕ) → Option (List ℕ)
one_more (Some high) (Some low) rest = option_map (λ bytes. (high * 16 + low) ∷ bytes) rest
one_more (Some high) None rest = None
one_more None low rest = None

one_read : (i digit next : ℕ) (high low : Option ℕ) (rest : Result (List ℕ) FromHexError)
    → result_ok (((digit_or_error digit i high >>= (λ h.
    digit_or_error next (i + 1) low >>= (λ l. Ok (h * 16 + l)))) >>= (λ byte.
    rest >>= (λ bytes. Ok (byte ∷ bytes))))) ≡ one_more high low (result_ok rest)
one_read i digit next None low rest = refl
one_read i digit next (Some high) None rest = refl
one_read i digit next (Some high) (Some low) (Ok bytes) = refl
one_read i digit next (Some high) (Some low) (Err e) = refl

read_pair : (i digit next : ℕ) (digits : List ℕ)
    → result_ok (decode_pairs i (digit ∷ next ∷ digits))
    ≡ one_more (hex_digit_value digit) (hex_digit_value next) (result_ok (decode_pairs (i + 2) digits))
unfolding decode_pairs
read_pair i digit next digits =
    one_read i digit next (hex_digit_value digit) (hex_digit_value next) (decode_pairs (i + 2) digits)

anywhere : (i j : ℕ) (digits : List ℕ)
    → result_ok (decode_pairs i digits) ≡ result_ok (decode_pairs j digits)
unfolding decode_pairs
anywhere i j [] = refl
anywhere i j (digit ∷ []) = refl
anywhere i j (digit ∷ next ∷ digits) =
    read_pair i digit next digits
    ∙ ap (one_more (hex_digit_value digit) (hex_digit_value next)) (anywhere (i + 2) (j + 2) digits)
    ∙ sym (read_pair j digit next digits)

-- ---- one behind the other

one_more_joined : (high low : Option ℕ) (front rest : Option (List ℕ))
    → one_more high low (joined front rest) ≡ joined (one_more high low front) rest
one_more_joined None low front rest = refl
one_more_joined (Some high) None front rest = refl
one_more_joined (Some high) (Some low) None rest = refl
one_more_joined (Some high) (Some low) (Some front) None = refl
one_more_joined (Some high) (Some low) (Some front) (Some rest) = refl

pub in_two : (i : ℕ) (front rest : List ℕ) → length front % 2 ≡ 0
    → result_ok (decode_pairs i (front ++ rest))
    ≡ joined (result_ok (decode_pairs i front)) (pairs rest)
unfolding decode_pairs
in_two i [] rest even = anywhere i 0 rest ∙ nothing_before (pairs rest)
in_two i (digit ∷ []) rest even = absurd (omega (arith, even))
in_two i (digit ∷ next ∷ front) rest even =
    read_pair i digit next (front ++ rest)
    ∙ ap (one_more (hex_digit_value digit) (hex_digit_value next))
    (in_two (i + 2) front rest (omega (arith, even)))
    ∙ one_more_joined _ _ (result_ok (decode_pairs (i + 2) front)) (pairs rest)
    ∙ ap (λ bytes. joined bytes (pairs rest)) (sym (read_pair i digit next front))

-- ---- values

one_value : (first second all : Bool) (high low : ℕ) (bytes : List ℕ)
    → first ≡ ltb high 16 → second ≡ ltb low 16
    → one_more (cond first (Some high) None) (cond second (Some low) None)
    (cond all (Some bytes) None)
    ≡ cond (first && (second && all)) (Some ((high * 16 % 256 + low) % 256 ∷ bytes)) None
one_value false second all high low bytes h l = refl
one_value true false all high low bytes h l = refl
one_value true true false high low bytes h l = refl
one_value true true true high low bytes h l =
    let byte : high * 16 + low ≡ (high * 16 % 256 + low) % 256 =
    omega (arith, ltb-true high 16 (sym h), ltb-true low 16 (sym l)) in
    ap (λ b. Some (b ∷ bytes)) byte

abbrev is_value : ℕ → Bool
is_value value = nat_lt value 16

paired_from : (i : ℕ) (values digits : List ℕ)
    → map value_of_digit values ≡ map hex_digit_value digits → length digits % 2 ≡ 0
    → result_ok (decode_pairs i digits)
    ≡ cond (list_all is_value values) (Some (paired values)) None
unfolding decode_pairs
paired_from i [] [] same even = refl
paired_from i [] (digit ∷ digits) same even = absurd (omega (arith, ap length same))
paired_from i (value ∷ values) [] same even = absurd (omega (arith, ap length same))
paired_from i (value ∷ values) (digit ∷ []) same even = absurd (omega (arith, even))
paired_from i (value ∷ []) (digit ∷ next ∷ digits) same even =
    absurd (omega (arith, ap length same))
paired_from i (high ∷ low ∷ values) (digit ∷ next ∷ digits) same even =
    let first : value_of_digit high ≡ hex_digit_value digit = ap (λ l. get_or l 0 None) same in
    let second : value_of_digit low ≡ hex_digit_value next = ap (λ l. get_or l 1 None) same in
    read_pair i digit next digits
    ∙ (λ k. one_more (sym first k) (sym second k)
    (paired_from (i + 2) values digits (ap (drop 2) same) (omega (arith, even)) k))
    ∙ one_value (ltb high 16) (ltb low 16) (list_all is_value values) high low (paired values)
    refl refl

module _ (values digits : List ℕ) (long : length digits ≡ 32)
    (same : map value_of_digit values ≡ map hex_digit_value digits) where
  block_bytes : result_ok (decode_of digits)
      ≡ cond (list_all is_value values) (Some (paired values)) None
  block_bytes =
      ap result_ok (decode_of-even digits (omega (arith, long)))
      ∙ paired_from 0 values digits same (omega (arith, long))

  pub block_is_none : list_all is_value values ≡ false → None ≡ result_ok (decode_of digits)
  block_is_none bad =
      sym (block_bytes ∙ ap (λ good. cond good (Some (paired values)) None) bad)

  pub block_is_bytes : list_all is_value values ≡ true
      → Some (paired (lanes_of (values ++ values))) ≡ result_ok (decode_of digits)
  block_is_bytes good =
      let as_long : length values ≡ 32 =
      sym (length-map values value_of_digit) ∙ ap length same
      ∙ length-map digits hex_digit_value ∙ long in
      ap Some (block_paired values as_long)
      ∙ sym (block_bytes ∙ ap (λ good. cond good (Some (paired values)) None) good)
