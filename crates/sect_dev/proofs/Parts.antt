-- The parts of a run's bytes, a sector each.
use Rattle.std.proofs.Common.{◌≡◌, ◌∙◌, sym, ap, ℕ, ◌+◌, ◌*◌, ◌/◌, ◌%◌, ◌<◌, ◌≤◌, List, length, drop, slice_index, arith, rules, get_or-take}
use Rattle.std.proofs.Math.Nat.{mul-div-le}
use Rattle.std.proofs.lemmas.Nat.{div-mul-add, mod-mul-add}
use Rattle.std.proofs.lemmas.List.{places, get_or-drop, length-drop, length-take-le, take_all}
use Rattle.std.proofs.lemmas.Grind.{same_number_lists}
use borrow.Rule.Slice.PartMut.{put_mid}
use Rattle.sect_dev.specs.Device.{Image, sector_count, part_of, HasRun}
use Rattle.sect_dev.specs.FileHistory.{byte_of, HasBytes}

pub part_fits : (bytes : List ℕ) (k : ℕ) → k < sector_count bytes → 512 * k + 512 ≤ length bytes
part_fits bytes k within = omega (arith, within, mul-div-le (length bytes) 512)

pub part_size : (bytes : List ℕ) (k : ℕ) → 512 * k + 512 ≤ length bytes
    → length (part_of bytes k) ≡ 512
unfolding part_of
part_size bytes k fits =
    length-take-le 512 (drop (512 * k) bytes)
    (omega (arith, fits, length-drop (512 * k) bytes))

pub part_at : (bytes : List ℕ) (k j : ℕ) → j < 512
    → slice_index (part_of bytes k) j ≡ slice_index bytes (512 * k + j)
unfolding part_of
part_at bytes k j within =
    get_or-take 512 (drop (512 * k) bytes) j 0 within ∙ get_or-drop (512 * k) bytes j 0

-- a part is known by its bytes
pub is_part : (bytes content : List ℕ) (k : ℕ) → 512 * k + 512 ≤ length bytes
    → length content ≡ 512
    → ((j : ℕ) → j < 512 → slice_index content j ≡ slice_index bytes (512 * k + j))
    → content ≡ part_of bytes k
is_part bytes content k fits size each =
    same_number_lists content (part_of bytes k) (size ∙ sym (part_size bytes k fits))
    (λ j inside.
    let within : j < 512 = omega (arith, inside, size) in
    each j within ∙ sym (part_at bytes k j within))

-- bytes with a content put in the place of a part
module _ (bytes content : List ℕ) (k size : ℕ) (fits : 512 * k + 512 ≤ length bytes)
    (long : length content ≡ 512) (whole : size ≡ 512) where
  abbrev after : List ℕ
  after = put_mid (512 * k) size bytes content

  same_length : length after ≡ length bytes
  same_length = search (rules, places)

  pub put_here : part_of after k ≡ content
  put_here = sym (is_part after content k (omega (arith, fits, same_length)) long
      (λ j within. sym (here j within)))
    where
      here : (j : ℕ) → j < 512 → slice_index after (512 * k + j) ≡ slice_index content j
      here j within = search (rules, places)

  -- those before it stay
  pub put_after : (j : ℕ) → j < k → part_of after j ≡ part_of bytes j
  put_after j less = is_part bytes (part_of after j) j (omega (arith, less, fits))
      (part_size after j (omega (arith, less, fits, same_length)))
      (λ i within. part_at after j i within ∙ sym (there (512 * j + i) (omega (arith, less, within))))
    where
      there : (p : ℕ) → p < 512 * k → slice_index bytes p ≡ slice_index after p
      there p early = search (rules, places)

-- ---- sectors as the bytes of a file

byte_in_sector : (image : Image) (n j : ℕ) → j < 512
    → byte_of image (n * 512 + j) ≡ slice_index (image n) j
byte_in_sector image n j within =
    ap (λ (m : ℕ). slice_index (image m) ((n * 512 + j) % 512)) (div-mul-add n 512 j within)
    ∙ ap (slice_index (image n)) (mod-mul-add n 512 j within)

pub run_of_bytes : (image : Image) (n : ℕ) (bytes : List ℕ) → ((m : ℕ) → length (image m) ≡ 512)
    → HasBytes image (n * 512) bytes → HasRun image n bytes
run_of_bytes image n bytes whole has k within =
    let fits = part_fits bytes k within in
    is_part bytes (image (n + k)) k fits (whole (n + k)) (λ j inside.
    let place : (n + k) * 512 + j ≡ n * 512 + (512 * k + j) = omega arith in
    sym (byte_in_sector image (n + k) j inside) ∙ ap (byte_of image) place
    ∙ has (512 * k + j) (omega (arith, inside, fits)))

-- ---- a run of one sector

module _ (bytes : List ℕ) (whole : length bytes ≡ 512) where
  pub one_part : sector_count bytes ≡ 1
  one_part = ap (λ (size : ℕ). size / 512) whole

  pub part_is_all : part_of bytes 0 ≡ bytes
  unfolding part_of
  part_is_all = take_all 512 bytes (omega (arith, whole))
