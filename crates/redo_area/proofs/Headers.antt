-- A commit sector reads as it was spelled.
use Rattle.std.proofs.Common.{◌≡◌, ℕ, ◌+◌, ◌*◌, ◌/◌, ◌%◌, ◌<◌, ◌≤◌, ◌^◌, List, [], ◌∷◌, ◌++◌, take, drop, replicate, Bool, true, false, cond, ◌&&◌, ◌||◌, eqb, leb, refl, ◌∙◌, ap, arith}
use Rattle.std.proofs.lemmas.Bool.{le-leb, eq-eqb, and_from, and_parts, eqb-true}
use Rattle.std.specs.Cmp.Lexicographic.{pointwise}
use Rattle.sect_dev.specs.Device.{Image, with_sector}
use Rattle.sect_dev.specs.Sector.{zeros}
use Rattle.page_io.proofs.PageLaws.{at_same}
use Rattle.page_model.specs.Bytes.{u32_at}
use Rattle.redo_area.specs.Header.{digit, magic, is_magic, has_magic, kind_of, fields, spelled, header_by, header_of}
use Rattle.redo_area.specs.declared.header.CommitKind.{CommitKind}
use Rattle.redo_area.specs.declared.header.CommitKind.TheVariants.{Images, Log}
use Rattle.redo_area.specs.declared.header.Header.{Header}
use Rattle.redo_area.specs.declared.header.Header.TheVariants.{Blank, Clear, Armed, Logging, NotOurs, Damaged}

four_is : (n : ℕ) → n < 2 ^ 32
    → (n / 16777216 % 256 * 256 + n / 65536 % 256) * 65536 + (n / 256 % 256 * 256 + n % 256) ≡ n
four_is n lt = omega arith

pub same_bytes : (xs : List ℕ) → pointwise eqb xs xs ≡ true
same_bytes [] = refl
same_bytes (x ∷ xs) = and_from (eqb x x) (pointwise eqb xs xs) (eq-eqb x x refl) (same_bytes xs)

pub bytes_same : (xs ys : List ℕ) → pointwise eqb xs ys ≡ true → xs ≡ ys
bytes_same [] [] is = refl
bytes_same [] (y ∷ ys) is = cc
bytes_same (x ∷ xs) [] is = cc
bytes_same (x ∷ xs) (y ∷ ys) is =
    let both = and_parts (eqb x y) (pointwise eqb xs ys) is in
    ap (λ (z : ℕ). z ∷ xs) (eqb-true x y both.0)
    ∙ ap (λ (zs : List ℕ). y ∷ zs) (bytes_same xs ys both.1)

-- what the sector says, its fields being read
module _ (kind : CommitKind) (rest : List ℕ) (state end start count : ℕ) (s : state < 2 ^ 32) (e : end < 2 ^ 32)
    (a : start < 2 ^ 32) (c : count < 2 ^ 32) where
  state_is : u32_at (fields kind state end start count ++ rest) 8 ≡ state
  unfolding fields magic
  state_is = four_is state s

  end_is : u32_at (fields kind state end start count ++ rest) 12 ≡ end
  unfolding fields magic
  end_is = four_is end e

  start_is : u32_at (fields kind state end start count ++ rest) 16 ≡ start
  unfolding fields magic
  start_is = four_is start a

  count_is : u32_at (fields kind state end start count ++ rest) 20 ≡ count
  unfolding fields magic
  count_is = four_is count c

-- the magic that was spelled
magic_is : (kind : CommitKind) (rest : List ℕ) (state end start count : ℕ)
    → take 8 (fields kind state end start count ++ rest) ≡ magic kind
unfolding fields magic
magic_is kind rest state end start count = refl

ours : (kind : CommitKind) (sector : List ℕ) → take 8 sector ≡ magic kind
    → has_magic sector ≡ true
unfolding magic digit
ours Images sector is = ap (λ (xs : List ℕ). pointwise eqb (magic Images) xs
    || pointwise eqb (magic Log) xs) is
ours Log sector is = ap (λ (xs : List ℕ). pointwise eqb (magic Images) xs
    || pointwise eqb (magic Log) xs) is

is_of : (kind : CommitKind) (sector : List ℕ) → take 8 sector ≡ magic kind → kind_of sector ≡ kind
unfolding magic digit
is_of Images sector is = ap (λ (xs : List ℕ). cond (pointwise eqb (magic Log) xs) Log Images) is
is_of Log sector is = ap (λ (xs : List ℕ). cond (pointwise eqb (magic Log) xs) Log Images) is

may_log : (sector : List ℕ) → take 8 sector ≡ magic Log → is_magic Log sector ≡ true
unfolding magic digit
may_log sector is = ap (λ (xs : List ℕ). pointwise eqb (magic Log) xs) is

behind : (kind : CommitKind) (rest : List ℕ) (state end start count : ℕ)
    → drop 24 (fields kind state end start count ++ rest) ≡ rest
unfolding fields magic
behind kind rest state end start count = refl

not_zeros : (kind : CommitKind) (state end start count : ℕ)
    → pointwise eqb (spelled kind state end start count) zeros ≡ false
unfolding spelled fields magic zeros
not_zeros kind state end start count = refl

-- the kind of a sector that was spelled
pub kind_spelled : (kind : CommitKind) (state end start count : ℕ) (content : List ℕ)
    → content ≡ spelled kind state end start count → kind_of content ≡ kind
unfolding spelled
kind_spelled kind state end start count content is = ap kind_of is
    ∙ is_of kind (spelled kind state end start count)
    (magic_is kind (replicate 488 0) state end start count)

-- the kind of a commit sector that was written
pub kind_seen : (kind : CommitKind) (state end start count : ℕ) (mid after : Image)
    (content : List ℕ) → after ≡ with_sector mid 0 content
    → content ≡ spelled kind state end start count → kind_of (after 0) ≡ kind
kind_seen kind state end start count mid after content is spells =
    ap (λ (s : Image). kind_of (s 0)) is ∙ ap kind_of (at_same mid 0 content 0 refl)
    ∙ kind_spelled kind state end start count content spells

-- what a sector says, by its parts
pub by_parts : (capacity : ℕ) (sector : List ℕ) → pointwise eqb sector zeros ≡ false
    → has_magic sector ≡ true
    → pointwise eqb (replicate 488 0) (drop 24 sector) ≡ true
    → header_of capacity sector ≡ header_by capacity (is_magic Log sector) (u32_at sector 8)
    (u32_at sector 12) (u32_at sector 16) (u32_at sector 20)
unfolding header_of
by_parts capacity sector full is_ours padded =
    let said = header_by capacity (is_magic Log sector) (u32_at sector 8) (u32_at sector 12)
    (u32_at sector 16) (u32_at sector 20) in
    let padding = pointwise eqb (replicate 488 0) (drop 24 sector) in
    ap (λ (b : Bool). cond b Blank
    (cond (has_magic sector) (cond padding said Damaged) NotOurs)) full
    ∙ ap (λ (b : Bool). cond b (cond padding said Damaged) NotOurs) is_ours
    ∙ ap (λ (b : Bool). cond b said Damaged) padded

pub by_numbers : (capacity : ℕ) (logs : Bool) (sector : List ℕ) (state end start count : ℕ)
    → u32_at sector 8 ≡ state → u32_at sector 12 ≡ end → u32_at sector 16 ≡ start
    → u32_at sector 20 ≡ count
    → header_by capacity logs (u32_at sector 8) (u32_at sector 12) (u32_at sector 16)
    (u32_at sector 20) ≡ header_by capacity logs state end start count
by_numbers capacity logs sector state end start count s e a c =
    ap (λ (w : ℕ). header_by capacity logs w (u32_at sector 12) (u32_at sector 16)
    (u32_at sector 20)) s
    ∙ ap (λ (w : ℕ). header_by capacity logs state w (u32_at sector 16) (u32_at sector 20)) e
    ∙ ap (λ (w : ℕ). header_by capacity logs state end w (u32_at sector 20)) a
    ∙ ap (λ (w : ℕ). header_by capacity logs state end start w) c

header_of-spelled : (kind : CommitKind) (capacity state end start count : ℕ) → state < 2 ^ 32
    → end < 2 ^ 32 → start < 2 ^ 32 → count < 2 ^ 32
    → header_of capacity (spelled kind state end start count)
    ≡ header_by capacity (is_magic Log (spelled kind state end start count)) state end start count
unfolding spelled
header_of-spelled kind capacity state end start count s e a c =
    let rest = replicate 488 0 in
    let sector = spelled kind state end start count in
    by_parts capacity sector (not_zeros kind state end start count)
    (ours kind sector (magic_is kind rest state end start count))
    (ap (λ (xs : List ℕ). pointwise eqb (replicate 488 0) xs)
    (behind kind rest state end start count) ∙ same_bytes (replicate 488 0))
    ∙ by_numbers capacity (is_magic Log sector) sector state end start count
    (state_is kind rest state end start count s e a c)
    (end_is kind rest state end start count s e a c)
    (start_is kind rest state end start count s e a c)
    (count_is kind rest state end start count s e a c)

pub header_of-clear : (kind : CommitKind) (capacity end : ℕ) → end < 2 ^ 32 → 4 ≤ end → end ≤ capacity
    → header_of capacity (spelled kind 0 end 0 0) ≡ Clear end
header_of-clear kind capacity end fits low high =
    header_of-spelled kind capacity 0 end 0 0 (omega arith) fits (omega arith) (omega arith)
    ∙ ap (λ (b : Bool). cond b (Clear end) Damaged)
    (and_from (leb 4 end) (leb end capacity) (le-leb 4 end low) (le-leb end capacity high))

pub header_of-armed : (kind : CommitKind) (capacity end start count : ℕ) → end < 2 ^ 32 → start < 2 ^ 32
    → count < 2 ^ 32
    → 4 ≤ end → end ≤ capacity → 1 ≤ count → end ≤ start → start + count ≤ capacity
    → header_of capacity (spelled kind 1 end start count) ≡ Armed end start count
header_of-armed kind capacity end start count e s c low high some above room =
    header_of-spelled kind capacity 1 end start count (omega arith) e s c
    ∙ ap (λ (b : Bool). cond b (cond (leb 1 count && leb end start && leb (start + count) capacity)
    (Armed end start count) Damaged) Damaged)
    (and_from (leb 4 end) (leb end capacity) (le-leb 4 end low) (le-leb end capacity high))
    ∙ ap (λ (b : Bool). cond b (Armed end start count) Damaged)
    (and_from (leb 1 count && leb end start) (leb (start + count) capacity)
    (and_from (leb 1 count) (leb end start) (le-leb 1 count some) (le-leb end start above))
    (le-leb (start + count) capacity room))

pub header_of-logging : (capacity end start : ℕ) → end < 2 ^ 32 → start < 2 ^ 32 → 4 ≤ end
    → end ≤ start → start + 32 ≤ capacity
    → header_of capacity (spelled Log 2 end start 0) ≡ Logging start
unfolding spelled
header_of-logging capacity end start e s low above room =
    header_of-spelled Log capacity 2 end start 0 (omega arith) e s (omega arith)
    ∙ ap (λ (b : Bool). header_by capacity b 2 end start 0)
    (may_log (spelled Log 2 end start 0) (magic_is Log (replicate 488 0) 2 end start 0))
    ∙ ap (λ (b : Bool). cond b (cond (leb end start && leb (start + 32) capacity)
    (Logging start) Damaged) Damaged)
    (and_from (leb 4 end) (leb end capacity) (le-leb 4 end low)
    (le-leb end capacity (omega (arith, above, room))))
    ∙ ap (λ (b : Bool). cond b (Logging start) Damaged)
    (and_from (leb end start) (leb (start + 32) capacity) (le-leb end start above)
    (le-leb (start + 32) capacity room))

-- the sector that names a log
pub says_logging : (sectors end start : ℕ) (content : List ℕ) → sectors < 2 ^ 32 → 4 ≤ end
    → end ≤ start → start + 32 ≤ sectors / 4 → content ≡ spelled Log 2 end start 0
    → header_of (sectors / 4) content ≡ Logging start
says_logging sectors end start content fits low above room is =
    ap (header_of (sectors / 4)) is
    ∙ header_of-logging (sectors / 4) end start (omega (arith, fits, above, room))
    (omega (arith, fits, room)) low above room

-- the sector that clears a file, and the one that arms a commit
pub says_clear : (kind : CommitKind) (sectors end : ℕ) (content : List ℕ) → sectors < 2 ^ 32 → 4 ≤ end
    → end ≤ sectors / 4 → content ≡ spelled kind 0 end 0 0 → header_of (sectors / 4) content ≡ Clear end
says_clear kind sectors end content fits low high is =
    ap (header_of (sectors / 4)) is
    ∙ header_of-clear kind (sectors / 4) end (omega (arith, fits, high)) low high

pub says_armed : (kind : CommitKind) (sectors end start count : ℕ) (content : List ℕ) → sectors < 2 ^ 32 → 4 ≤ end
    → end ≤ start → 0 < count → start + count ≤ sectors / 4 → content ≡ spelled kind 1 end start count
    → header_of (sectors / 4) content ≡ Armed end start count
says_armed kind sectors end start count content fits low above some room is =
    ap (header_of (sectors / 4)) is
    ∙ header_of-armed kind (sectors / 4) end start count (omega (arith, fits, above, room))
    (omega (arith, fits, room)) (omega (arith, fits, room)) low (omega (arith, above, room))
    some above room

-- a sector of zeros, and no other, is blank
pub header_of-zeros : (capacity : ℕ) → header_of capacity zeros ≡ Blank
unfolding header_of
header_of-zeros capacity = ap
    (λ (b : Bool). cond b Blank (rest (u32_at zeros 8) (u32_at zeros 12) (u32_at zeros 16)
    (u32_at zeros 20))) (same_bytes zeros)
  where
    rest : ℕ → ℕ → ℕ → ℕ → Header
    rest w x y z = cond (has_magic zeros)
        (cond (pointwise eqb (replicate 488 0) (drop 24 zeros))
        (header_by capacity (is_magic Log zeros) w x y z) Damaged) NotOurs

pub says_blank : (capacity : ℕ) (sector : List ℕ) → pointwise eqb sector zeros ≡ true
    → header_of capacity sector ≡ Blank
unfolding header_of
says_blank capacity sector is =
    let said = header_by capacity (is_magic Log sector) (u32_at sector 8) (u32_at sector 12)
    (u32_at sector 16) (u32_at sector 20) in
    ap (λ (b : Bool). cond b Blank
    (cond (has_magic sector)
    (cond (pointwise eqb (replicate 488 0) (drop 24 sector)) said Damaged) NotOurs)) is

pub says_not_ours : (capacity : ℕ) (sector : List ℕ) → pointwise eqb sector zeros ≡ false
    → has_magic sector ≡ false → header_of capacity sector ≡ NotOurs
unfolding header_of
says_not_ours capacity sector full other =
    let behind = cond (pointwise eqb (replicate 488 0) (drop 24 sector))
    (header_by capacity (is_magic Log sector) (u32_at sector 8) (u32_at sector 12)
    (u32_at sector 16) (u32_at sector 20)) Damaged in
    ap (λ (b : Bool). cond b Blank (cond (has_magic sector) behind NotOurs)) full
    ∙ ap (λ (b : Bool). cond b behind NotOurs) other

pub says_damaged : (capacity : ℕ) (sector : List ℕ) → pointwise eqb sector zeros ≡ false
    → has_magic sector ≡ true
    → pointwise eqb (replicate 488 0) (drop 24 sector) ≡ false
    → header_of capacity sector ≡ Damaged
unfolding header_of
says_damaged capacity sector full is_ours other =
    let said = header_by capacity (is_magic Log sector) (u32_at sector 8) (u32_at sector 12)
    (u32_at sector 16) (u32_at sector 20) in
    let padding = pointwise eqb (replicate 488 0) (drop 24 sector) in
    ap (λ (b : Bool). cond b Blank
    (cond (has_magic sector) (cond padding said Damaged) NotOurs)) full
    ∙ ap (λ (b : Bool). cond b (cond padding said Damaged) NotOurs) is_ours
    ∙ ap (λ (b : Bool). cond b said Damaged) other
