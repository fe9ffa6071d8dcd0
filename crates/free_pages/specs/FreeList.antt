-- The free list, as its pages say it and as what is kept of it.
use Rattle.std.specs.Prelude.{◌≡◌, ◌↔◌, ◌⊎◌, ℕ, ◌+◌, ◌<◌, ◌≤◌, List, Result, OnOk, length, if◌then◌else◌}
use Rattle.page_model.specs.Pages.{Body, FreePage}
use Rattle.page_model.specs.Space.{Space, is_page, times_of}
use Rattle.page_model.specs.PageBodies.{first_of, free_bodies, AreRead}
use Rattle.page_io.specs.Store.{StoreState}
use Rattle.page_io.specs.Views.{MayEnd}
use Rattle.page_io.specs.declared.store.PageFault.{PageFault}
use Rattle.free_pages.specs.declared.free_state.FreeState.{FreeState}

-- what is kept of a space
abbrev pub state_of : Space → FreeState
state_of s = record { head = first_of s.free; count = length s.free; file_end = s.end }

-- the pages say the free list of this space, and this is kept of it
pub record IsFreeList (at : ℕ → Body) (state : FreeState) (s : Space) : Type 0 where
  pub kept : state ≡ state_of s
  pub are_read : AreRead at (free_bodies s.free)
  pub some : 1 ≤ s.end

-- no page of the file stands twice in these and the free list, and neither names any other page
abbrev pub IsApart : List ℕ → Space → Type 0
IsApart pages s = (n : ℕ) → times_of n pages + times_of n s.free
    ≤ (if is_page n s.end then 1 else 0)

-- the first free page was taken, and the list goes on as that page says
pub record IsFirstTaken (at : ℕ → Body) (old : FreeState) (n : ℕ) (new : FreeState) : Type 0 where
  pub some : 0 < old.head
  pub first : n ≡ old.head
  pub free : at n ≡ FreePage new.head
  pub one_less : new.count + 1 ≡ old.count
  pub ends : (new.head ≡ 0) ↔ (new.count ≡ 0)
  pub end : new.file_end ≡ old.file_end

-- no page was free, and the file's end was taken
pub record IsEndTaken (old : FreeState) (n : ℕ) (new : FreeState) : Type 0 where
  pub none : (old.head ≡ 0) × (old.count ≡ 0)
  pub last : n ≡ old.file_end
  pub grown : new ≡ record old { file_end = old.file_end + 1 }

abbrev pub IsTaken : (ℕ → Body) → FreeState → ℕ → FreeState → Type 0
IsTaken at old n new = IsFirstTaken at old n new ⊎ IsEndTaken old n new

-- there is a first free page exactly where there are free pages
abbrev pub HasEnds : FreeState → Type 0
HasEnds state = (state.head ≡ 0) ↔ (state.count ≡ 0)

-- There is a first free page exactly where there are free pages, if it was so before. Where a
-- commit might have ended the file at the kept end, it may at the new one.
pub record KeepsEnds {T : Type 0} (old new : StoreState) (before after : FreeState)
    (result : Result T PageFault) : Type 0 where
  pub ends : HasEnds before → HasEnds after
  pub may_end : MayEnd old before.file_end → OnOk result (MayEnd new after.file_end)
