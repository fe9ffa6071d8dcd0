-- Sectors that are written once more with what a read gives.
use Rattle.std.proofs.Common.{◌≡◌, ◌≤◌, ◌<◌, ◌↔◌, ◌+◌, ℕ, List, ⊎_elim, refl, sym, ◌∙◌, ap, subst, arith}
use Rattle.sect_dev.specs.Device.{Image, IsImageOf, NoNewCandidate, with_run_candidates, Elapses, LeavesOnly, sector_count, part_of, HasRun}
use Rattle.sect_dev.specs.Moments.{fewer_images, started, by_call, followed_by, goes_on}
use Rattle.sect_dev.specs.declared.device.SectorDev.{Ghosts}

-- bytes that stand there already
module _ {D : Type 0} (dev : Ghosts D) (first mid new : D) (at : ℕ) (bytes : List ℕ)
    (only_now : (image : Image) → dev.left_since first (dev.moment first).at image
    → IsImageOf (dev.candidate first) image)
    (stays : IsImageOf (dev.candidate first) (dev.seen first))
    (here : HasRun (dev.seen first) at bytes)
    (read : NoNewCandidate (dev.candidate first) (dev.candidate mid))
    (written : NoNewCandidate (with_run_candidates (dev.candidate mid) at bytes)
    (dev.candidate new)) where
  pub none_new : NoNewCandidate (dev.candidate first) (dev.candidate new)
  none_new m c may = ⊎_elim (λ old. read m c old)
      (λ part. subst (dev.candidate first m)
      (ap (dev.seen first) part.place ∙ here part.k part.within ∙ sym part.same) (stays m))
      (written m c may)

  pub leaves_old : Elapses (dev.moment first) (dev.moment mid) (dev.left_since first)
      (dev.left_since mid) (IsImageOf (dev.candidate mid))
      → Elapses (dev.moment mid) (dev.moment new) (dev.left_since mid) (dev.left_since new)
      (IsImageOf (dev.candidate new))
      → LeavesOnly dev.moment dev.left_since first new (IsImageOf (dev.candidate first))
  leaves_old time_read time_written =
      goes_on dev.moment dev.left_since first mid new (IsImageOf (dev.candidate first))
      (IsImageOf (dev.candidate new))
      (by_call dev.moment dev.left_since first mid (IsImageOf (dev.candidate first))
      (IsImageOf (dev.candidate mid)) only_now time_read
      (λ image is. fewer_images (dev.candidate first) (dev.candidate mid) image read is))
      time_written
      (λ image is. fewer_images (dev.candidate first) (dev.candidate new) image none_new is)

-- calls that add nothing that a stop could leave
pub record AddsNone {D : Type 0} (dev : Ghosts D) (old new : D) : Type 0 where
  pub size : dev.sectors new ≡ dev.sectors old
  pub honesty : dev.honest new ↔ dev.honest old
  pub faults : dev.faults old ≤ dev.faults new
  pub any_moment : dev.honest old
      → LeavesOnly dev.moment dev.left_since old new (IsImageOf (dev.candidate old))
  pub candidates : dev.honest old → NoNewCandidate (dev.candidate old) (dev.candidate new)

module _ {D : Type 0} (dev : Ghosts D) where
  -- before the first
  pub none_added : (old : D)
      → ((image : Image) → dev.honest old → dev.left_since old (dev.moment old).at image
      → IsImageOf (dev.candidate old) image) → AddsNone dev old old
  none_added old only_now = record {
    size = refl;
    honesty = (λ h. h, λ h. h);
    faults = omega arith;
    any_moment = λ h. started dev.moment dev.left_since old (IsImageOf (dev.candidate old))
        (λ image left. only_now image h left);
    candidates = λ h m c may. may;
  }

  -- one run after another
  pub adds_on : (old mid new : D) → AddsNone dev old mid → AddsNone dev mid new
      → AddsNone dev old new
  adds_on old mid new first second = record {
    size = second.size ∙ first.size;
    honesty = (
      λ h. first.honesty.0 (second.honesty.0 h),
      λ h. second.honesty.1 (first.honesty.1 h),
    );
    faults = omega (arith, first.faults, second.faults);
    any_moment = λ h.
        followed_by dev.moment dev.left_since old mid new (IsImageOf (dev.candidate old))
        (IsImageOf (dev.candidate mid)) (first.any_moment h)
        (second.any_moment (first.honesty.1 h))
        (λ image is. fewer_images (dev.candidate old) (dev.candidate mid) image
        (first.candidates h) is);
    candidates = λ h m c may. first.candidates h m c
        (second.candidates (first.honesty.1 h) m c may);
  }
