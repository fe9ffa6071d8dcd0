-- A file's bytes by sectors, one after another.
use Rattle.std.proofs.Common.{◌≡◌, ◌∙◌, ◌⊎◌, inl, inr, ◌<◌, ◌≤◌, ◌+◌, ◌*◌, ◌-◌, ◌++◌, ℕ, List, take, drop, min, length, replicate, sym, ap, ap₂, subst, arith}
use Rattle.std.proofs.lemmas.List.{drop-replicate, drop_min, length-drop, take_all, take_min}
use Rattle.std.proofs.Math.ListN.{drop_of_length-le}
use Rattle.std.proofs.lemmas.Bool.{cases_eq, cases_lt}
use Rattle.sect_dev.specs.Device.{Image, with_sector}
use Rattle.sect_dev.specs.Moments.{at_other, at_same}
use Rattle.sect_dev.specs.Sector.{zeros}
use Rattle.dbm_rehearse.specs.Copies.{sector_in}

-- what there is of the bytes, in front of zeros
filled_with : (rest part blank : List ℕ) (filled : ℕ) → filled ≡ min 512 (length rest)
    → part ≡ take filled rest → blank ≡ replicate 512 0
    → part ++ drop filled blank ≡ take 512 rest ++ replicate (512 - length rest) 0
filled_with rest part blank filled is part_is blank_is =
    let first : take filled rest ≡ take 512 rest = ap (λ k. take k rest) is ∙ take_min 512 rest in
    let left : 512 - filled ≡ 512 - length rest = omega (arith, is) in
    let zeroed : drop filled (replicate 512 0) ≡ replicate (512 - filled) 0 =
    drop-replicate filled 512 0 in
    let last : drop filled blank ≡ replicate (512 - length rest) 0 =
    ap (drop filled) blank_is ∙ zeroed ∙ ap (λ k. replicate k 0) left in
    ap₂ (λ a b. a ++ b) (part_is ∙ first) last

-- a sector that begins where the bytes do, or at their end
pub sector_with : (bytes rest part blank : List ℕ) (n begin filled : ℕ)
    → begin ≡ min (n * 512) (length bytes)
    → rest ≡ take (length bytes - begin) (drop begin bytes)
    → filled ≡ min 512 (length rest) → part ≡ take filled rest → blank ≡ replicate 512 0
    → part ++ drop filled blank ≡ sector_in bytes n
sector_with bytes rest part blank n begin filled begins is fills part_is blank_is =
    let whole : rest ≡ drop (n * 512) bytes =
    is ∙ take_all (length bytes - begin) (drop begin bytes)
    (omega (arith, length-drop begin bytes)) ∙ ap (λ k. drop k bytes) begins
    ∙ drop_min (n * 512) bytes in
    subst (λ r. part ++ drop filled blank ≡ take 512 r ++ replicate (512 - length r) 0) whole
    (filled_with rest part blank filled fills part_is blank_is)

-- the first sectors are those of the bytes, and the others blank
pub record AreCopied (bytes : List ℕ) (count : ℕ) (image : Image) : Type 0 where
  pub first : (n : ℕ) → n < count → image n ≡ sector_in bytes n
  pub others : (n : ℕ) → count ≤ n → image n ≡ zeros

pub none_copied : (bytes : List ℕ) (image : Image) → image ≡ (λ _. zeros)
    → AreCopied bytes 0 image
none_copied bytes image is = record {
  first = λ n lt. absurd (omega (arith, lt));
  others = λ n ge. ap (λ (i : Image). i n) is;
}

pub one_copied : (bytes : List ℕ) (count : ℕ) (image after : Image) (content : List ℕ)
    → AreCopied bytes count image → content ≡ sector_in bytes count
    → after ≡ with_sector image count content → AreCopied bytes (count + 1) after
one_copied bytes count image after content was is written = record {
  first = λ n lt. ap (λ (i : Image). i n) written ∙ elim (cases_eq n count) [
    | inl same ↦ at_same image count content n same ∙ is ∙ ap (sector_in bytes) (sym same)
    | inr other ↦ at_other image count content n other ∙ was.first n (omega (arith, lt, other))
  ];
  others = λ n ge. ap (λ (i : Image). i n) written
      ∙ at_other image count content n (λ same. omega (arith, ge, same))
      ∙ was.others n (omega (arith, ge));
}

-- behind the bytes' end
beyond : (bytes : List ℕ) (n : ℕ) → length bytes ≤ n * 512 → zeros ≡ sector_in bytes n
unfolding zeros
beyond bytes n le = ap (λ (r : List ℕ). take 512 r ++ replicate (512 - length r) 0)
    (sym (drop_of_length-le bytes le))

pub all_copied : (bytes : List ℕ) (needed count sectors : ℕ) (image : Image)
    → AreCopied bytes count image → needed ≤ count
    → (length bytes ≤ 512 * needed) ⊎ (needed ≡ sectors) → (n : ℕ) → n < sectors
    → image n ≡ sector_in bytes n
all_copied bytes needed count sectors image was done ends n lt = by_place (cases_lt n count)
  where
    beyond_them : count ≤ n → (length bytes ≤ 512 * needed) ⊎ (needed ≡ sectors)
        → image n ≡ sector_in bytes n
    beyond_them ge (inl le) = was.others n ge ∙ beyond bytes n (omega (arith, le, done, ge))
    beyond_them ge (inr is) = absurd (omega (arith, is, done, ge, lt))

    by_place : (n < count) ⊎ (count ≤ n) → image n ≡ sector_in bytes n
    by_place (inl less) = was.first n less
    by_place (inr ge) = beyond_them ge ends
