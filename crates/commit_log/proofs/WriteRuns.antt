-- Writes that leave some sectors alone, one after another.
use Rattle.std.proofs.Common.{◌≡◌, ◌≤◌, ◌↔◌, ℕ, List, inl, inr, refl, ◌∙◌, sym, ap, arith}
use Rattle.std.proofs.lemmas.Bool.{cases_eq}
use Rattle.sect_dev.specs.Device.{Image, IsImageOf, LeavesOnly}
use Rattle.sect_dev.specs.Moments.{started, followed_by}
use Rattle.sect_dev.specs.declared.device.SectorDev.{Ghosts}
use Rattle.page_io.specs.Page.{page_at, own_number, IsOutsidePage, KeepsWhere}
use Rattle.page_io.specs.Store.{with_page}
use Rattle.page_io.proofs.PageLaws.{same_page}
use Rattle.page_io.proofs.PageLists.{other_page}
use Rattle.page_io.proofs.Overlays.{with_page-same, with_page-other}

-- the device is as large and as honest as it was, and an honest one has the kept sectors as they
-- were, in what a stop leaves too
pub record Keeps {D : Type 0} (dev : Ghosts D) (Kept : ℕ → Type 0) (old new : D) : Type 0 where
  pub size : dev.sectors new ≡ dev.sectors old
  pub honesty : dev.honest new ↔ dev.honest old
  pub faults : dev.faults old ≤ dev.faults new
  pub any_moment : dev.honest old
      → LeavesOnly dev.moment dev.left_since old new (KeepsWhere (dev.candidate old) Kept)
  pub candidates : dev.honest old → (m : ℕ) (c : List ℕ) → Kept m → dev.candidate new m c
      → dev.candidate old m c
  pub others : dev.honest old → (m : ℕ) → Kept m → dev.seen new m ≡ dev.seen old m

module _ {D : Type 0} (dev : Ghosts D) (Kept : ℕ → Type 0) where
  -- before the first
  pub none_written : (old : D) → ((image : Image) → dev.honest old
      → dev.left_since old (dev.moment old).at image → IsImageOf (dev.candidate old) image)
      → Keeps dev Kept old old
  none_written old only_now = record {
    size = refl;
    honesty = (λ h. h, λ h. h);
    faults = omega arith;
    any_moment = λ h. started dev.moment dev.left_since old (KeepsWhere (dev.candidate old) Kept)
        (λ image left m kept. only_now image h left m);
    candidates = λ h m c kept may. may;
    others = λ h m kept. refl;
  }

  -- one run after another, which spares the same sectors and more
  pub keeps_on : (Spared : ℕ → Type 0) (old mid new : D) → Keeps dev Kept old mid
      → Keeps dev Spared mid new → (dev.honest old → (m : ℕ) → Kept m → Spared m)
      → Keeps dev Kept old new
  keeps_on Spared old mid new first second spared = record {
    size = second.size ∙ first.size;
    honesty = (
      λ h. first.honesty.0 (second.honesty.0 h),
      λ h.
          second.honesty.1 (first.honesty.1 h),
    );
    faults = omega (arith, first.faults, second.faults);
    any_moment = λ h.
        followed_by dev.moment dev.left_since old mid new (KeepsWhere (dev.candidate old) Kept)
        (KeepsWhere (dev.candidate mid) Spared) (first.any_moment h)
        (second.any_moment (first.honesty.1 h))
        (λ image is m kept. first.candidates h m (image m) kept (is m (spared h m kept)));
    candidates = λ h m c kept may.
        first.candidates h m c kept (second.candidates (first.honesty.1 h) m c
        (spared h m kept) may);
    others = λ h m kept. second.others (first.honesty.1 h) m (spared h m kept)
        ∙ first.others h m kept;
  }

-- one page more at its own number
pub home_more : (before after : Image) (so_far : ℕ → List ℕ) (page : List ℕ) (own : ℕ)
    → own ≡ own_number page → page_at after own ≡ page
    → ((m : ℕ) → IsOutsidePage own m → after m ≡ before m) → (n : ℕ) → page_at before n ≡ so_far n
    → page_at after n ≡ with_page so_far page n
home_more before after so_far page own owns here others n is =
    elim (cases_eq (own_number page) n) [
      | inl same ↦ ap (page_at after) (sym same ∙ sym owns) ∙ here
          ∙ sym (with_page-same so_far page n same)
      | inr other ↦ same_page after before n
          (λ m ge lt. others m (other_page own n m (λ e. other (sym owns ∙ e)) ge lt)) ∙ is
          ∙ sym (with_page-other so_far page n other)
    ]
