-- Bytes and digits that are written and read block by block.
use Rattle.std.proofs.Common.{◌≡◌, ℕ, ◌+◌, ◌-◌, ◌*◌, ◌/◌, ◌<◌, zero, suc, List, [], ◌∷◌, ◌++◌, length, take, drop, replicate, Option, Some, None, Result, Ok, Err, unwrap_or, refl, sym, ap, ◌∙◌, arith, append-nil, append_assoc, length-drop}
use Rattle.std.proofs.lemmas.List.{drop-drop, drop-replicate, drop_all, length-append, length-take-le, take-append-drop, take_all}
use Rattle.std.proofs.lemmas.Simd.{take_more_put_chunk}
use Rattle.std.proofs.Math.Seq.{take-append_seam}
use Rattle.std.specs.Result.{result_ok}
use Rattle.std.specs.Simd.Lanes.{chunk, put_chunk}
use Rattle.hex.specs.Hex.{decode_of, decode_pairs, encode_lower, lower_digits}
use Rattle.hex.proofs.HexLemmas.{decode_of-even, decode_of-ok, length-encode_with}
use Rattle.hex.specs.declared.error.FromHexError.{FromHexError}
use Rattle.dbm_lines.specs.Escapes.{joined}
use Rattle.dbm_lines.proofs.FieldBytes.{behind_both}
use Rattle.dbm_lines.proofs.DigitPairs.{in_two, pairs}
use Rattle.dbm_lines.proofs.WordRuns.{encode-append}

-- what is left is a block and what is behind it
block_behind : (xs : List ℕ) (at size next : ℕ) → next ≡ at + size
    → drop at xs ≡ chunk at size xs ++ drop next xs
block_behind xs at size next is =
    sym (take-append-drop size (drop at xs))
    ∙ ap (λ rest. chunk at size xs ++ rest)
    (drop-drop size at xs ∙ ap (λ n. drop n xs) (sym is))

-- ---- writing

pub block_written : (bytes digits run : List ℕ) (block : ℕ)
    → block < length bytes / 16 → length digits ≡ 2 * length bytes
    → run ≡ encode_lower (chunk (16 * block) 16 bytes)
    → take (2 * (16 * block)) digits ++ encode_lower (drop (16 * block) bytes) ≡ encode_lower bytes
    → take (2 * (16 * (block + 1))) (put_chunk (2 * (16 * block)) digits run)
    ++ encode_lower (drop (16 * (block + 1)) bytes) ≡ encode_lower bytes
block_written bytes digits run block within twice is so_far =
    let at : ℕ = 16 * block in
    let next : ℕ = 16 * (block + 1) in
    let whole : length (chunk at 16 bytes) ≡ 16 =
    length-take-le 16 (drop at bytes) (omega (arith, within, length-drop at bytes)) in
    let long : length run ≡ 32 =
    ap length is ∙ length-encode_with lower_digits (chunk at 16 bytes) ∙ omega (arith, whole) in
    let front : take (2 * next) (put_chunk (2 * at) digits run) ≡ take (2 * at) digits ++ run =
    take_more_put_chunk (2 * at) digits run (2 * next) (omega (arith, long))
    (omega (arith, within, twice)) in
    let behind : encode_lower (drop at bytes)
    ≡ encode_lower (chunk at 16 bytes) ++ encode_lower (drop next bytes) =
    ap encode_lower (block_behind bytes at 16 next (omega arith))
    ∙ encode-append lower_digits (chunk at 16 bytes) (drop next bytes) in
    ap (λ l. l ++ encode_lower (drop next bytes)) front
    ∙ append_assoc (take (2 * at) digits) run (encode_lower (drop next bytes))
    ∙ ap (λ l. take (2 * at) digits ++ (l ++ encode_lower (drop next bytes))) is
    ∙ ap (λ l. take (2 * at) digits ++ l) (sym behind) ∙ so_far

-- the digits of bytes before others
pub front_written : (bytes behind : List ℕ) (n : ℕ) → n ≡ 2 * length bytes
    → take n (encode_lower (bytes ++ behind)) ≡ encode_lower bytes
front_written bytes behind n twice =
    let front : List ℕ = encode_lower bytes in
    ap (take n) (encode-append lower_digits bytes behind)
    ∙ ap (λ k. take k (front ++ encode_lower behind))
    (twice ∙ sym (length-encode_with lower_digits bytes))
    ∙ take-append_seam front (encode_lower behind)

-- ---- reading

module _ (digits : List ℕ) (block n : ℕ) (within : block < n / 16) (twice : length digits ≡ 2 * n) where
  rest_is : pairs (drop (2 * (16 * block)) digits)
      ≡ joined (result_ok (decode_of (chunk (2 * (16 * block)) 32 digits)))
      (pairs (drop (2 * (16 * (block + 1))) digits))
  rest_is =
      let run : List ℕ = chunk (2 * (16 * block)) 32 digits in
      let long : length run ≡ 32 =
      length-take-le 32 (drop (2 * (16 * block)) digits)
      (omega (arith, within, twice, length-drop (2 * (16 * block)) digits)) in
      ap pairs (block_behind digits (2 * (16 * block)) 32 (2 * (16 * (block + 1))) (omega arith))
      ∙ in_two 0 run (drop (2 * (16 * (block + 1))) digits) (omega (arith, long))
      ∙ ap (λ bytes. joined bytes (pairs (drop (2 * (16 * (block + 1))) digits)))
      (ap result_ok (sym (decode_of-even run (omega (arith, long)))))

  pub block_refused : (bytes : List ℕ)
      → None ≡ result_ok (decode_of (chunk (2 * (16 * block)) 32 digits))
      → pairs digits ≡ joined (Some bytes) (pairs (drop (2 * (16 * block)) digits))
      → None ≡ result_ok (decode_of digits)
  block_refused bytes none so_far =
      sym (ap result_ok (decode_of-even digits (omega (arith, twice))) ∙ so_far
      ∙ ap (joined (Some bytes)) (rest_is
      ∙ ap (λ front. joined front (pairs (drop (2 * (16 * (block + 1))) digits))) (sym none)))

  pub block_read : (bytes run : List ℕ) → length bytes ≡ n → length run ≡ 16
      → Some run ≡ result_ok (decode_of (chunk (2 * (16 * block)) 32 digits))
      → pairs digits ≡ joined (Some (take (16 * block) bytes)) (pairs (drop (2 * (16 * block)) digits))
      → pairs digits ≡ joined (Some (take (16 * (block + 1)) (put_chunk (16 * block) bytes run)))
      (pairs (drop (2 * (16 * (block + 1))) digits))
  block_read bytes run long whole is so_far =
      let front : take (16 * (block + 1)) (put_chunk (16 * block) bytes run)
      ≡ take (16 * block) bytes ++ run =
      take_more_put_chunk (16 * block) bytes run (16 * (block + 1)) (omega (arith, whole))
      (omega (arith, within, long)) in
      so_far
      ∙ ap (joined (Some (take (16 * block) bytes))) (rest_is
      ∙ ap (λ b. joined b (pairs (drop (2 * (16 * (block + 1))) digits))) (sym is))
      ∙ behind_both (take (16 * block) bytes) run (pairs (drop (2 * (16 * (block + 1))) digits))
      ∙ ap (λ b. joined (Some b) (pairs (drop (2 * (16 * (block + 1))) digits))) (sym front)

pub blocks_read : (digits bytes : List ℕ) (at : ℕ) → length bytes ≡ at → length digits ≡ 2 * at
    → pairs digits ≡ joined (Some (take at bytes)) (pairs (drop (2 * at) digits))
    → Some bytes ≡ result_ok (decode_of digits)
unfolding decode_pairs
blocks_read digits bytes at long twice so_far =
    sym (ap result_ok (decode_of-even digits (omega (arith, twice))) ∙ so_far
    ∙ ap (λ rest. joined (Some (take at bytes)) (pairs rest))
    (drop_all (2 * at) digits (omega (arith, twice)))
    ∙ ap Some (append-nil (take at bytes) ∙ take_all at bytes (omega (arith, long))))

-- ---- less than a block

zeros_read : (n : ℕ) → pairs (replicate (2 * n) 48) ≡ Some (replicate n 0)
unfolding decode_pairs
zeros_read zero = refl
zeros_read (suc n) =
    let two : 2 * suc n ≡ suc (suc (2 * n)) = omega arith in
    ap (λ k. pairs (replicate k 48)) two
    ∙ in_two 0 (48 ∷ 48 ∷ []) (replicate (2 * n) 48) refl
    ∙ ap (joined (Some (0 ∷ []))) (zeros_read n)

module _ (digits : List ℕ) (n : ℕ) (twice : length digits ≡ 2 * n) (short : n < 16) where
  abbrev padding : List ℕ
  padding = drop (length digits) (replicate 32 48)

  abbrev pub filled : List ℕ
  filled = digits ++ padding

  filled_read : result_ok (decode_of filled)
      ≡ joined (result_ok (decode_of digits)) (Some (replicate (16 - n) 0))
  filled_read =
      let all : List ℕ = replicate 32 48 in
      let zeros : padding ≡ replicate (2 * (16 - n)) 48 =
      drop-replicate (length digits) 32 48
      ∙ ap (λ k. replicate k 48) (omega (arith, twice, short)) in
      let long : length filled ≡ 32 =
      length-append digits padding
      ∙ omega (arith, length-drop (length digits) all, twice, short) in
      ap result_ok (decode_of-even filled (omega (arith, long)))
      ∙ in_two 0 digits padding (omega (arith, twice))
      ∙ (λ i. joined (result_ok (sym (decode_of-even digits (omega (arith, twice))) i))
      ((ap pairs zeros ∙ zeros_read (16 - n)) i))

  all_refused : (bytes rest : Option (List ℕ)) (behind : List ℕ) → None ≡ joined bytes (Some behind)
      → None ≡ bytes
  all_refused None rest behind h = refl
  all_refused (Some bytes) rest behind h = cc

  pub last_refused : None ≡ result_ok (decode_of filled) → None ≡ result_ok (decode_of digits)
  last_refused none =
      all_refused (result_ok (decode_of digits)) None (replicate (16 - n) 0) (none ∙ filled_read)

  front_of : (bytes : Option (List ℕ)) (run behind : List ℕ)
      → ((front : List ℕ) → bytes ≡ Some front → length front ≡ n)
      → Some run ≡ joined bytes (Some behind) → Some (take n run) ≡ bytes
  front_of None run behind long h = cc
  front_of (Some front) run behind long h =
      let is : run ≡ front ++ behind = ap (λ o. unwrap_or o []) h in
      ap Some (ap (take n) is ∙ ap (λ k. take k (front ++ behind)) (sym (long front refl))
      ∙ take-append_seam front behind)

  read_long : (read : Result (List ℕ) FromHexError) → read ≡ decode_of digits
      → (front : List ℕ) → result_ok read ≡ Some front → length front ≡ n
  read_long (Ok bytes) is front h =
      let e : bytes ≡ front = ap (λ o. unwrap_or o []) h in
      let size = (decode_of-ok digits bytes (sym is)).2 in
      ap length (sym e) ∙ omega (arith, size, twice)
  read_long (Err e) is front h = cc

  pub last_read : (run : List ℕ) → Some run ≡ result_ok (decode_of filled)
      → Some (take n run) ≡ result_ok (decode_of digits)
  last_read run h =
      front_of (result_ok (decode_of digits)) run (replicate (16 - n) 0)
      (read_long (decode_of digits) refl) (h ∙ filled_read)
