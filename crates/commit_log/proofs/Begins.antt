-- What is left while a log begins, and after it.
use Rattle.std.proofs.Common.{◌≡◌, inl, inr, ⊎_elim, ℕ, suc, ◌+◌, ◌-◌, ◌*◌, ◌<◌, ◌≤◌, List, [], ◌∷◌, length, get_or, true, replicate, take, refl, sym, ◌∙◌, ap, arith}
use Rattle.std.proofs.lemmas.List.{take-replicate, drop-replicate}
use Rattle.sect_dev.specs.Device.{Image, Candidates, IsImageOf, IsStable, NoNewCandidate, with_run_candidates, Elapses, LeavesOnly, part_of, IsRunWritten}
use Rattle.sect_dev.specs.Moments.{by_call, followed_by, goes_on}
use Rattle.sect_dev.specs.declared.device.SectorDev.{Ghosts}
use Rattle.page_model.specs.Bytes.{u32_at}
use Rattle.page_io.specs.Page.{page_at, own_number, KeepsWhere}
use Rattle.page_io.specs.Store.{Pages, overlaid, are_in_order}
use Rattle.page_io.proofs.Overlays.{overlaid-over}
use Rattle.page_io.proofs.PageLaws.{same_page}
use Rattle.commit_log.specs.Homes.{IsOutsideAll}
use Rattle.commit_log.specs.Log.{Log, no_log, slot_of, log_by, IsLogged, Spells, IsBesideLog}
use Rattle.commit_log.proofs.Logs.{log_same, log_none, ordered_none}

-- a part of zeros
pub zero_part : (k : ℕ) → k < 61 → part_of (replicate 31232 0) k ≡ replicate 512 0
unfolding part_of
zero_part k lt =
    ap (take 512) (drop-replicate (512 * k) 31232 0)
    ∙ take-replicate 512 (31232 - 512 * k) 0 (omega (arith, lt))

pub zero_number : (k : ℕ) → k < 61 → u32_at (part_of (replicate 31232 0) k) 0 ≡ 0
zero_number k lt = ap (λ (s : List ℕ). u32_at s 0) (zero_part k lt)

-- pages in front of a page are none of the sectors from it on
pub outside_from : (start : ℕ) (pages : Pages)
    → ((k : ℕ) → k < length pages → own_number (get_or pages k []) < start) → (m : ℕ)
    → 4 * start ≤ m → IsOutsideAll pages m
outside_from start [] below m le = tt
outside_from start (page ∷ pages) below m le = (
  inr (omega (arith, le, below 0 (omega arith))),
  outside_from start pages (λ k lt. below (suc k) (omega (arith, lt))) m le,
)

-- two runs behind one another, and pages at home
module _ {D : Type 0} (dev : Ghosts D) (first one two : D) (start : ℕ) (waiting : Pages)
    (bytes zeros : List ℕ) (long : length bytes ≡ 31232) (long_too : length zeros ≡ 31232)
    (fewer_one : NoNewCandidate (with_run_candidates (dev.candidate first) (4 * start) bytes)
    (dev.candidate one)) where
  one_may : (m : ℕ) (c : List ℕ) → IsBesideLog start waiting m → dev.candidate one m c
      → dev.candidate first m c
  one_may m c out may = ⊎_elim (λ old. old)
      (λ part. absurd (⊎_elim (λ below. omega (arith, below, part.place))
      (λ above. omega (arith, above, part.place, part.within, long)) out.0)) (fewer_one m c may)

  pub one_leaves : ((image : Image) → dev.left_since first (dev.moment first).at image
      → IsImageOf (dev.candidate first) image)
      → Elapses (dev.moment first) (dev.moment one) (dev.left_since first) (dev.left_since one)
      (IsImageOf (dev.candidate one))
      → LeavesOnly dev.moment dev.left_since first one
      (KeepsWhere (dev.candidate first) (IsBesideLog start waiting))
  one_leaves only_now time =
      by_call dev.moment dev.left_since first one
      (KeepsWhere (dev.candidate first) (IsBesideLog start waiting))
      (IsImageOf (dev.candidate one)) (λ image left m out. only_now image left m) time
      (λ image now m out. one_may m (image m) out (now m))

  module _ (run : LeavesOnly dev.moment dev.left_since first one
      (KeepsWhere (dev.candidate first) (IsBesideLog start waiting)))
      (fewer_two : NoNewCandidate (with_run_candidates (dev.candidate one) (4 * start + 64) zeros)
      (dev.candidate two)) where
    pub two_may : (m : ℕ) (c : List ℕ) → IsBesideLog start waiting m → dev.candidate two m c
        → dev.candidate first m c
    two_may m c out may = ⊎_elim (λ old. one_may m c out old)
        (λ part. absurd (⊎_elim (λ below. omega (arith, below, part.place))
        (λ above. omega (arith, above, part.place, part.within, long_too)) out.0))
        (fewer_two m c may)

    pub two_leave : Elapses (dev.moment one) (dev.moment two) (dev.left_since one)
        (dev.left_since two) (IsImageOf (dev.candidate two))
        → LeavesOnly dev.moment dev.left_since first two
        (KeepsWhere (dev.candidate first) (IsBesideLog start waiting))
    two_leave time =
        goes_on dev.moment dev.left_since first one two
        (KeepsWhere (dev.candidate first) (IsBesideLog start waiting))
        (IsImageOf (dev.candidate two)) run time
        (λ image now m out. two_may m (image m) out (now m))

    pub home_too : (home : D) → LeavesOnly dev.moment dev.left_since first two
        (KeepsWhere (dev.candidate first) (IsBesideLog start waiting))
        → LeavesOnly dev.moment dev.left_since two home
        (KeepsWhere (dev.candidate two) (IsOutsideAll waiting))
        → LeavesOnly dev.moment dev.left_since first home
        (KeepsWhere (dev.candidate first) (IsBesideLog start waiting))
    home_too home both homes =
        followed_by dev.moment dev.left_since first two home
        (KeepsWhere (dev.candidate first) (IsBesideLog start waiting)) _ both homes
        (λ image keeps m out. two_may m (image m) out (keeps m out.1))

    pub sync_too : (home after : D) → LeavesOnly dev.moment dev.left_since first home
        (KeepsWhere (dev.candidate first) (IsBesideLog start waiting))
        → ((m : ℕ) (c : List ℕ) → IsOutsideAll waiting m → dev.candidate home m c
        → dev.candidate two m c)
        → NoNewCandidate (dev.candidate home) (dev.candidate after)
        → Elapses (dev.moment home) (dev.moment after) (dev.left_since home)
        (dev.left_since after) (IsImageOf (dev.candidate after))
        → LeavesOnly dev.moment dev.left_since first after
        (KeepsWhere (dev.candidate first) (IsBesideLog start waiting))
    sync_too home after run_home candidates none_new time =
        goes_on dev.moment dev.left_since first home after
        (KeepsWhere (dev.candidate first) (IsBesideLog start waiting))
        (IsImageOf (dev.candidate after)) run_home time
        (λ image now m out. two_may m (image m) out
        (candidates m (image m) out.1 (none_new m (image m) (now m))))

-- what is on the disk then
module _ (first one two home : Image) (start : ℕ) (waiting : Pages) (bytes zeros : List ℕ)
    (long : length bytes ≡ 31232) (long_too : length zeros ≡ 31232)
    (below : (k : ℕ) → k < length waiting → own_number (get_or waiting k []) < start)
    (run_one : IsRunWritten first (4 * start) bytes one)
    (run_two : IsRunWritten one (4 * start + 64) zeros two)
    (others : (m : ℕ) → IsOutsideAll waiting m → home m ≡ two m) where
  pub begin_pages : (n : ℕ) → page_at home n ≡ overlaid waiting (page_at two) n
      → n < start → page_at home n ≡ overlaid waiting (page_at first) n
  begin_pages n at_home lt = at_home
      ∙ overlaid-over waiting (page_at first) (page_at two) n
      (λ apart. same_page two first n
      (λ m ge4 lt4. run_two.outside m (inl (omega (arith, lt, lt4)))
      ∙ run_one.outside m (inl (omega (arith, lt, lt4)))))

  has_log : (k : ℕ) → k < 61 → home (4 * start + k) ≡ part_of bytes k
  has_log k lt = others (4 * start + k) (outside_from start waiting below _ (omega arith))
      ∙ run_two.outside (4 * start + k) (inl (omega (arith, lt)))
      ∙ run_one.inside k (omega (arith, lt, long))

  has_zeros : (k : ℕ) → k < 61 → home (4 * start + 64 + k) ≡ part_of zeros k
  has_zeros k lt = others (4 * start + 64 + k) (outside_from start waiting below _ (omega arith))
      ∙ run_two.inside k (omega (arith, lt, long_too))

  module _ (are_zeros : (k : ℕ) → k < 61 → u32_at (part_of zeros k) 0 ≡ 0) (pages : Pages)
      (new_end : ℕ) (spelled : Spells start 1 new_end pages bytes)
      (alone : (k : ℕ) → k < 61 → u32_at (part_of bytes k) 0 ≤ 1) where
    zero_else : u32_at (home (4 * start + 64 + 0)) 0 ≡ 0
    zero_else =
        ap (λ (s : List ℕ). u32_at s 0) (has_zeros 0 (omega arith)) ∙ are_zeros 0 (omega arith)

    none_else : log_by start (slot_of home (4 * start + 64)) ≡ no_log
    none_else = log_none start (slot_of home (4 * start + 64)) zero_else

    pub begun : (candidate : Candidates) → IsStable candidate home → 4 ≤ new_end
        → are_in_order 1 new_end pages ≡ true → new_end ≤ start
        → IsLogged new_end start 1 (4 * start) (4 * start + 64) pages candidate home
    begun candidate stable least order above = record {
      stable = stable;
      places = record { first = λ _. refl; second = λ other. absurd (other refl) };
      newest = sym (log_same (part_of bytes) (slot_of home (4 * start))
          (sym (has_log 0 (omega arith)))
          (λ k lt. sym (has_log (1 + k) (omega (arith, lt, spelled.counted, spelled.few)))) start)
          ∙ spelled.says;
      some = omega arith;
      in_order = order;
      least = least;
      above = above;
      highest = λ k lt.
          let same = ap (λ (s : List ℕ). u32_at s 0) (has_log k lt) in
          omega (arith, same, alone k lt);
      lower = λ k lt.
          let same = ap (λ (s : List ℕ). u32_at s 0) (has_zeros k lt) in
          omega (arith, same, are_zeros k lt);
      ordered = ordered_none start (slot_of home (4 * start + 64)) zero_else;
      said = λ n. ap (λ (l : Log). overlaid pages (overlaid l.pages (page_at home)) n) none_else;
    }
