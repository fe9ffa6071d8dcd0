-- What a device in memory shows.
use Rattle.std.specs.Prelude.{◌≡◌, ℕ, List, ◌∷◌}
use Rattle.sect_dev.specs.declared.past.Event.{Event}
use Rattle.sect_dev.specs.declared.past.Event.TheVariants.{Wrote, Synced}
use Rattle.sect_dev.specs.declared.mem.MemDev.{MemDev}

-- its writes and syncs, the newest first
abbrev pub history : MemDev → List Event
history dev = dev.past.events

abbrev pub IsSameRecord : MemDev → MemDev → Type 0
IsSameRecord old new = history new ≡ history old

abbrev pub AddsWrite : MemDev → MemDev → ℕ → List ℕ → Type 0
AddsWrite old new n bytes = history new ≡ Wrote n bytes ∷ history old

abbrev pub AddsSync : MemDev → MemDev → Type 0
AddsSync old new = history new ≡ Synced ∷ history old

-- all but the record is as it was
pub record IsSameButRecord (old new : MemDev) : Type 0 where
  pub capacity : new.capacity ≡ old.capacity
  pub faults : new.faults ≡ old.faults
