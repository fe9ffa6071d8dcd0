-- Calls that only read, one after another.
use Rattle.std.proofs.Common.{◌≡◌, ◌≤◌, ◌↔◌, ℕ, refl, ◌∙◌, ap}
use Rattle.sect_dev.specs.Device.{Image, IsImageOf, NoNewCandidate, Elapses, LeavesOnly}
use Rattle.sect_dev.specs.Moments.{fewer_images, started, by_call, followed_by, weaker}
use Rattle.sect_dev.specs.declared.device.SectorDev.{Ghosts}
use Rattle.page_io.specs.Page.{KeepsWhere}
use Rattle.commit_log.proofs.WriteRuns.{Keeps, keeps_on}
use Rattle.sect_dev.specs.Reads.{OnlyReads}

module _ {D : Type 0} (dev : Ghosts D) where
  -- before the first
  pub none_yet : (old : D) → ((image : Image) → dev.left_since old (dev.moment old).at image
      → IsImageOf (dev.candidate old) image) → OnlyReads dev old old
  none_yet old only_now = record {
    seen = refl;
    no_new = λ m c may. may;
    no_lost = λ m c may. may;
    still = refl;
    any_moment = started dev.moment dev.left_since old (IsImageOf (dev.candidate old)) only_now;
  }

  -- the read of a sector
  pub sector_read : (old new : D)
      → ((image : Image) → dev.left_since old (dev.moment old).at image
      → IsImageOf (dev.candidate old) image)
      → dev.seen new ≡ dev.seen old → NoNewCandidate (dev.candidate old) (dev.candidate new)
      → NoNewCandidate (dev.candidate new) (dev.candidate old)
      → (dev.moment new).at ≡ (dev.moment old).at
      → Elapses (dev.moment old) (dev.moment new) (dev.left_since old) (dev.left_since new)
      (IsImageOf (dev.candidate new))
      → OnlyReads dev old new
  sector_read old new only_now seen no_new no_lost still time = record {
    seen = seen;
    no_new = no_new;
    no_lost = no_lost;
    still = still;
    any_moment = by_call dev.moment dev.left_since old new (IsImageOf (dev.candidate old))
        (IsImageOf (dev.candidate new)) only_now time
        (λ image is. fewer_images (dev.candidate old) (dev.candidate new) image no_new is);
  }

  -- one run after another
  pub more_reads : (old mid new : D) → OnlyReads dev old mid → OnlyReads dev mid new
      → OnlyReads dev old new
  more_reads old mid new first second = record {
    seen = second.seen ∙ first.seen;
    no_new = λ m c may. first.no_new m c (second.no_new m c may);
    no_lost = λ m c may. second.no_lost m c (first.no_lost m c may);
    still = second.still ∙ first.still;
    any_moment = followed_by dev.moment dev.left_since old mid new (IsImageOf (dev.candidate old))
        (IsImageOf (dev.candidate mid)) first.any_moment second.any_moment
        (λ image is. fewer_images (dev.candidate old) (dev.candidate mid) image first.no_new is);
  }

  -- one call more
  pub one_more : (old mid new : D) → OnlyReads dev old mid → dev.seen new ≡ dev.seen mid
      → NoNewCandidate (dev.candidate mid) (dev.candidate new)
      → NoNewCandidate (dev.candidate new) (dev.candidate mid)
      → (dev.moment new).at ≡ (dev.moment mid).at
      → LeavesOnly dev.moment dev.left_since mid new (IsImageOf (dev.candidate mid))
      → OnlyReads dev old new
  one_more old mid new before seen no_new no_lost still any_moment =
      more_reads old mid new before (record {
        seen = seen;
        no_new = no_new;
        no_lost = no_lost;
        still = still;
        any_moment = any_moment;
      })

  -- writes that leave some sectors alone, and then a read
  pub read_on : {Kept : ℕ → Type 0} {old mid : D} (new : D) → Keeps dev Kept old mid
      → dev.sectors new ≡ dev.sectors mid → dev.honest new ↔ dev.honest mid
      → dev.faults mid ≤ dev.faults new
      → (dev.honest mid → LeavesOnly dev.moment dev.left_since mid new
      (IsImageOf (dev.candidate mid)))
      → (dev.honest mid → NoNewCandidate (dev.candidate mid) (dev.candidate new))
      → (dev.honest mid → dev.seen new ≡ dev.seen mid) → Keeps dev Kept old new
  read_on {Kept} {old} {mid} new run size honesty faults any_moment no_new seen =
      keeps_on dev Kept Kept old mid new run
      (record {
        size = size;
        honesty = honesty;
        faults = faults;
        any_moment = λ h. weaker dev.moment dev.left_since mid new
            (KeepsWhere (dev.candidate mid) Kept) (IsImageOf (dev.candidate mid)) (any_moment h)
            (λ image is m kept. is m);
        candidates = λ h m c kept. no_new h m c;
        others = λ h m kept. ap (λ (s : Image). s m) (seen h);
      })
      (λ h m kept. kept)
