-- The writes since the last sync, the newest first, and what they took the place of.
use Rattle.std.specs.Prelude.{ℕ, List, [], ◌∷◌}
use Rattle.sect_dev.specs.declared.mem.Write.{Write}
use Rattle.sect_dev.specs.declared.past.Event.{Event}
use Rattle.sect_dev.specs.declared.past.Event.TheVariants.{Wrote, Synced}
use Rattle.sect_dev.specs.History.{content_after}

abbrev pub event_of : Write → Event
event_of write = Wrote write.sector write.bytes

abbrev pub before_of : Write → List ℕ
before_of write = write.before

abbrev pub unsynced_of : List Event → List Event
unsynced_of [] = []
unsynced_of (Wrote n bytes ∷ earlier) = Wrote n bytes ∷ unsynced_of earlier
unsynced_of (Synced ∷ earlier) = []

-- what each of these writes found in its sector
abbrev pub overwritten : List Event → List (List ℕ)
overwritten [] = []
overwritten (Wrote n bytes ∷ earlier) = content_after earlier n ∷ overwritten earlier
overwritten (Synced ∷ earlier) = []
