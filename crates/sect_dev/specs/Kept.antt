-- A file_history that is kept, for any changes: what a device in memory would have.
use Rattle.std.specs.Prelude.{◌+◌, ◌/◌, ℕ, zero, suc, true, false, List, [], ◌∷◌}
use Rattle.sect_dev.specs.declared.past.Event.{Event}
use Rattle.sect_dev.specs.declared.past.Event.TheVariants.{Wrote, Synced}
use Rattle.sect_dev.specs.Device.{sector_count, part_of}
use Rattle.sect_dev.specs.History.{content_after, IsCandidate}
use Rattle.sect_dev.specs.FileHistory.{Change, FileHistory, StandsAt, IsKept}
use Rattle.sect_dev.specs.FileHistory.Change.{Writes, Syncs}

-- the record after writes of so many sectors from n on, each its part of these bytes
abbrev pub wrote_parts : ℕ → List ℕ → ℕ → List Event → List Event
wrote_parts n bytes zero events = events
wrote_parts n bytes (suc k) events = Wrote (n + k) (part_of bytes k) ∷ wrote_parts n bytes k events

-- the record after a change. A change that failed did not happen
abbrev pub noted : Change → List Event → List Event
noted (Writes at bytes true) events = wrote_parts (at / 512) bytes (sector_count bytes) events
noted (Writes at bytes false) events = events
noted (Syncs true) events = Synced ∷ events
noted (Syncs false) events = events

-- the record of the first t changes, the newest first
abbrev pub record_of : (ℕ → Change) → ℕ → List Event
record_of changes zero = []
record_of changes (suc t) = noted (changes t) (record_of changes t)

abbrev pub memory_course : (ℕ → Change) → FileHistory
memory_course changes = record {
  change = changes;
  seen = λ t. content_after (record_of changes t);
  candidate = λ t. IsCandidate (record_of changes t);
  gave = λ t. StandsAt (content_after (record_of changes t));
}

abbrev pub PremiseCanBeMet : Type 0
PremiseCanBeMet = (changes : ℕ → Change) → IsKept (memory_course changes)
