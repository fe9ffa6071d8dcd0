-- Fields that are written and read byte by byte.
use Rattle.std.proofs.Common.{◌≡◌, ◌==◌, ℕ, ◌+◌, ◌-◌, ◌<◌, ◌≤◌, List, [], ◌∷◌, ◌++◌, length, take, drop, get_or, Option, Some, None, Result, Ok, Err, MatchResult, refl, sym, ap, subst, ◌∙◌, arith, append-nil, append_assoc, length-drop}
use Rattle.std.specs.Io.KnownBytes.{Appends}
use Rattle.std.specs.Result.{result_ok}
use Rattle.std.proofs.lemmas.List.{take_more, flat_map_more, get_or-drop}
use Rattle.hex.specs.declared.error.FromHexError.{FromHexError}
use Rattle.dbm_lines.specs.Escapes.{escape_of, escaped, joined, fields_in, pair_of_fields}
use Rattle.dbm_lines.proofs.Requests.{first_part}

-- ---- reading

-- the byte of two digits that were decoded
pub byte_decoded : (read : Result (List ℕ) FromHexError) (out : List ℕ) (done : Unit {0})
    (answer : Result (Unit {0}) FromHexError) → answer ≡ Ok done
    → MatchResult read (λ bytes. (answer ≡ Ok tt) × (out ≡ bytes)) (λ e. answer ≡ Err e)
    → length out ≡ 1 → Some (get_or out 0 0 ∷ []) ≡ result_ok read
byte_decoded (Ok bytes) [] done answer well h one = absurd (omega (arith, one))
byte_decoded (Ok bytes) (x ∷ []) done answer well h one = ap (λ l. Some l) h.1
byte_decoded (Ok bytes) (x ∷ y ∷ more) done answer well h one = absurd (omega (arith, one))
byte_decoded (Err e) out done answer well h one = cc

pub nothing_before : (bytes : Option (List ℕ)) → bytes ≡ joined (Some []) bytes
nothing_before None = refl
nothing_before (Some bytes) = refl

pub behind_both : (first second : List ℕ) (rest : Option (List ℕ))
    → joined (Some first) (joined (Some second) rest) ≡ joined (Some (first ++ second)) rest
behind_both first second None = refl
behind_both first second (Some rest) = ap (λ l. Some l) (sym (append_assoc first second rest))

-- nothing is read yet
pub read_first : (front : List ℕ) (bytes : Option (List ℕ)) → front ≡ []
    → bytes ≡ joined (Some front) bytes
read_first front bytes none = rw none (nothing_before bytes)

-- one more byte is read
pub read_on : (whole rest behind : Option (List ℕ)) (front longer : List ℕ) (byte : ℕ)
    → whole ≡ joined (Some front) rest → rest ≡ joined (Some (byte ∷ [])) behind
    → longer ≡ front ++ byte ∷ [] → whole ≡ joined (Some longer) behind
read_on whole rest behind front longer byte so_far one more =
    so_far ∙ ap (joined (Some front)) one ∙ behind_both front (byte ∷ []) behind
    ∙ ap (λ l. joined (Some l) behind) (sym more)

-- a pair has two fields
pub fields_of_more : (fields key second content rest : List ℕ)
    → fields_in fields ≡ key ∷ fields_in second → fields_in second ≡ content ∷ fields_in rest
    → None ≡ pair_of_fields (fields_in fields)
fields_of_more fields key second content rest h more =
    let first = first_part (λ byte. byte == 9) rest in rw (h, more, first.2) refl

-- ---- writing

pub appends_on : (before now after : Option (List ℕ)) (xs ys : List ℕ) → Appends before now xs
    → Appends now after ys → Appends before after (xs ++ ys)
appends_on None now after xs ys first second = tt
appends_on (Some a) None after xs ys first second = absurd first
appends_on (Some a) (Some b) None xs ys first second = absurd second
appends_on (Some a) (Some b) (Some c) xs ys first second =
    second ∙ ap (λ l. l ++ ys) first ∙ append_assoc a xs ys

module _ (bytes : List ℕ) (start at byte : ℕ) (there : at < length bytes)
    (is : byte ≡ get_or bytes at 0)
    (run : escaped (take at bytes)
    ≡ escaped (take start bytes) ++ take (at - start) (drop start bytes)) where
  -- one more byte of a text that is escaped
  one_more : escaped (take (at + 1) bytes) ≡ escaped (take at bytes) ++ escape_of byte
  one_more =
      ap escaped (take_more bytes at 0 there)
      ∙ ap (λ x. escaped (take at bytes ++ x ∷ [])) (sym is)
      ∙ sym (flat_map_more escape_of [] (take at bytes) byte)

  -- the run goes on over a byte that is written as it is
  pub run_on : start ≤ at → escape_of byte ≡ byte ∷ []
      → escaped (take (at + 1) bytes)
      ≡ escaped (take start bytes) ++ take (at + 1 - start) (drop start bytes)
  run_on order plain =
      let more : at + 1 - start ≡ at - start + 1 = omega arith in
      let fits : at - start < length (drop start bytes) =
      omega (arith, there, order, length-drop start bytes) in
      let place : start + (at - start) ≡ at = omega arith in
      let last : get_or (drop start bytes) (at - start) 0 ≡ byte =
      get_or-drop start bytes (at - start) 0 ∙ ap (λ i. get_or bytes i 0) place ∙ sym is in
      let longer : take (at + 1 - start) (drop start bytes)
      ≡ take (at - start) (drop start bytes) ++ byte ∷ [] =
      ap (λ n. take n (drop start bytes)) more
      ∙ take_more (drop start bytes) (at - start) 0 fits
      ∙ ap (λ x. take (at - start) (drop start bytes) ++ x ∷ []) last in
      one_more ∙ ap (λ l. escaped (take at bytes) ++ l) plain ∙ ap (λ l. l ++ byte ∷ []) run
      ∙ append_assoc (escaped (take start bytes)) (take (at - start) (drop start bytes)) (byte ∷ [])
      ∙ ap (λ l. escaped (take start bytes) ++ l) (sym longer)

  -- the run and an escape are written
  pub run_written : (before now middle after : Option (List ℕ))
      → Appends before now (escaped (take start bytes))
      → Appends now middle (take (at - start) (drop start bytes))
      → Appends middle after (escape_of byte) → Appends before after (escaped (take (at + 1) bytes))
  run_written before now middle after first second third =
      subst (Appends before after) (ap (λ l. l ++ escape_of byte) (sym run) ∙ sym one_more)
      (appends_on before middle after _ _ (appends_on before now middle _ _ first second) third)

-- no byte of a run yet
pub run_begins : (bytes : List ℕ) (at : ℕ)
    → escaped (take at bytes) ≡ escaped (take at bytes) ++ take (at - at) (drop at bytes)
run_begins bytes at =
    let none : at - at ≡ 0 = omega arith in
    sym (ap (λ n. escaped (take at bytes) ++ take n (drop at bytes)) none
    ∙ append-nil (escaped (take at bytes)))
