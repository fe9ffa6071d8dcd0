-- What a group shows as a store of pages.
use Rattle.std.specs.Prelude.{◌≡◌, ℕ, ◌+◌, true, length, if◌then◌else◌}
use Rattle.page_io.specs.Store.{Pages, Settled, file_of, committed_with}
use Rattle.page_io.specs.declared.store.PageStore.{Ghosts}
use Rattle.page_group.specs.Changed.{changed_pages}
use Rattle.page_group.specs.Over.{Over}

module _ {S : Type 0} where
  -- how many pages were changed
  abbrev pub changed_count : Over S → ℕ
  changed_count group = length (changed_pages group.held.changed)

  module _ (s : Ghosts S) (group : Over S) where
    -- the changed pages over those of the base
    abbrev pub pages_over : Pages
    pages_over =
        committed_with (s.committed group.first) (changed_pages group.held.changed) group.held.end

    -- the one outcome, while the group can be used
    abbrev pub SettlesTo : Settled → Type 0
    SettlesTo settled = (group.held.usable ≡ true) × (settled ≡ file_of pages_over)

    -- how often a device has failed: that of the base, and once more where the group has broken
    abbrev pub faults_over : ℕ
    faults_over = s.faults group.base + (if group.held.usable then 0 else 1)
