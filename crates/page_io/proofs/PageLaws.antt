-- Laws of pages and their sectors, for the layers above.
use Rattle.std.proofs.Common.{◌≡◌, ◌≢◌, ⊎_elim, inl, inr, ℕ, ◌+◌, ◌*◌, ◌/◌, ◌<◌, ◌≤◌, List, [], ◌++◌, length, take, drop, refl, sym, ◌∙◌, ap, arith, rules}
use Rattle.std.proofs.lemmas.List.{drop-drop, take-append-drop, drop_all, append-nil}
use Rattle.std.proofs.lemmas.Bool.Decides.{nat_tests}
use Rattle.sect_dev.specs.Device.{Image, Candidates, with_sector, IsImageOf, sector_count, part_of, HasRun, with_run_candidates}
use Rattle.page_io.specs.Page.{part, page_at, IsPartlyWritten}

pub at_same : (image : Image) (n : ℕ) (c : List ℕ) (m : ℕ) → m ≡ n → with_sector image n c m ≡ c
at_same image n c m same = search (rules, nat_tests)

pub at_other : (image : Image) (n : ℕ) (c : List ℕ) (m : ℕ) → m ≢ n
    → with_sector image n c m ≡ image m
at_other image n c m other = search (rules, nat_tests)

-- pages that agree sector by sector
pub same_page : (a b : Image) (n : ℕ) → ((m : ℕ) → 4 * n ≤ m → m < 4 * n + 4 → a m ≡ b m)
    → page_at a n ≡ page_at b n
unfolding page_at
same_page a b n same =
    let s0 = same (4 * n) (omega arith) (omega arith) in
    let s1 = same (4 * n + 1) (omega arith) (omega arith) in
    let s2 = same (4 * n + 2) (omega arith) (omega arith) in
    let s3 = same (4 * n + 3) (omega arith) (omega arith) in
    cc

join_step : (size : ℕ) (bytes : List ℕ) (at next : ℕ) → at + size ≡ next
    → take size (drop at bytes) ++ drop next bytes ≡ drop at bytes
join_step size bytes at next e =
    ap (λ (ys : List ℕ). take size (drop at bytes) ++ ys)
    (ap (λ (k : ℕ). drop k bytes) (sym e) ∙ sym (drop-drop size at bytes))
    ∙ take-append-drop size (drop at bytes)

join_last : (size : ℕ) (bytes : List ℕ) (at : ℕ) → at + size ≡ length bytes
    → take size (drop at bytes) ≡ drop at bytes
join_last size bytes at e =
    let none : drop (at + size) bytes ≡ [] = drop_all (at + size) bytes (omega arith) in
    sym (append-nil (take size (drop at bytes)))
    ∙ ap (λ (ys : List ℕ). take size (drop at bytes) ++ ys) (sym none)
    ∙ join_step size bytes at (at + size) refl

pub parts_join : (size : ℕ) (bytes : List ℕ) → length bytes ≡ 4 * size
    → part size bytes 0 ++ (part size bytes 1 ++ (part size bytes 2 ++ part size bytes 3)) ≡ bytes
unfolding part
parts_join size bytes long =
    let p3 = join_last size bytes (size * 3) (omega (arith, long)) in
    let p2 = join_step size bytes (size * 2) (size * 3) (omega arith) in
    let p1 = join_step size bytes (size * 1) (size * 2) (omega arith) in
    let p0 = join_step size bytes (size * 0) (size * 1) (omega arith) in
    let none : size * 0 ≡ 0 = omega arith in
    let all : drop (size * 0) bytes ≡ bytes = ap (λ (k : ℕ). drop k bytes) none in
    cc

pub page_of_parts : (image : Image) (n : ℕ) (bytes : List ℕ) → length bytes ≡ 2048
    → ((k : ℕ) → k < 4 → image (4 * n + k) ≡ part 512 bytes k) → page_at image n ≡ bytes
unfolding page_at
page_of_parts image n bytes long parts =
    let none : 4 * n + 0 ≡ 4 * n = omega arith in
    let s0 = ap image (sym none) ∙ parts 0 (omega arith) in
    let s1 = parts 1 (omega arith) in
    let s2 = parts 2 (omega arith) in
    let s3 = parts 3 (omega arith) in
    let whole = parts_join 512 bytes (omega (arith, long)) in
    cc

-- the page of a run of four sectors
pub page_of_run : (image : Image) (n : ℕ) (bytes : List ℕ) → length bytes ≡ 2048
    → HasRun image (4 * n) bytes → page_at image n ≡ bytes
unfolding part part_of
page_of_run image n bytes long run = page_of_parts image n bytes long (λ k within.
    run k (omega (arith, within, four_sectors bytes long)))
  where
    four_sectors : (bytes : List ℕ) → length bytes ≡ 2048 → sector_count bytes ≡ 4
    four_sectors bytes long = ap (λ (size : ℕ). size / 512) long

-- of what a write of a page's run may leave
pub partly_written : (candidate : Candidates) (n : ℕ) (bytes : List ℕ) (image : Image)
    → IsImageOf (with_run_candidates candidate (4 * n) bytes) image
    → IsPartlyWritten candidate n bytes image
unfolding part part_of
partly_written candidate n bytes image may k within = ⊎_elim (λ old. inl old)
    (λ is. inr (is.same ∙ ap (part_of bytes) (omega (arith, is.place)))) (may (4 * n + k))
