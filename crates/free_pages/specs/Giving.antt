-- Pages that are given to the free list or taken from it, one after the other.
use Rattle.std.specs.Prelude.{◌≡◌, ℕ, ◌+◌, ◌≤◌, List, [], ◌∷◌, length}
use Rattle.page_model.specs.Pages.{Body, FreePage}
use Rattle.page_model.specs.Space.{Space, give, times_of}
use Rattle.free_pages.specs.declared.free_state.FreeState.{FreeState}
use Rattle.free_pages.specs.FreeList.{IsFreeList, IsApart, IsTaken}

-- a free page, whatever it names
pub record IsFree (body : Body) : Type 0 where
  pub next : ℕ
  pub free : body ≡ FreePage next

-- these were put in front of the free list, one before the other: each names the one that was the
-- first free page by then, 0 for none
abbrev pub AreInFront : (ℕ → Body) → ℕ → List ℕ → ℕ → Type 0
AreInFront at old_head [] new_head = new_head ≡ old_head
AreInFront at old_head (n ∷ pages) new_head =
    (at n ≡ FreePage old_head) × AreInFront at n pages new_head

-- these pages are now in front of the free ones; no other page was changed
pub record AreGiven (old new : ℕ → Body) (before after : FreeState) (pages : List ℕ) : Type 0 where
  pub free : (m : ℕ) → 1 ≤ times_of m pages → IsFree (new m)
  pub others : (m : ℕ) → times_of m pages ≡ 0 → new m ≡ old m
  pub in_front : AreInFront new before.head pages after.head
  pub more : after.count ≡ before.count + length pages
  pub end : after.file_end ≡ before.file_end
  pub list : (s : Space) → IsFreeList old before s → IsApart pages s
      → IsFreeList new after (give pages s)

-- these pages were taken
abbrev pub AreTaken : (ℕ → Body) → FreeState → List ℕ → FreeState → Type 0
AreTaken at before [] after = after ≡ before
AreTaken at before (n ∷ pages) after =
    (mid : FreeState) × IsTaken at before n mid × AreTaken at mid pages after
