-- What a device keeps of the events of a file.
use Rattle.std.specs.Prelude.{◌≡◌, ◌++◌, ℕ, List, Some, drop, length, reverse, nat_eq}
use Rattle.std.specs.HashMap.{HashMap, get}
use Rattle.sect_dev.specs.declared.past.Event.{Event}
use Rattle.sect_dev.specs.History.{content_after}

-- what is known of a sector is what it has after these events
abbrev pub IsKnown : {S : Type 0} → HashMap ℕ (List ℕ) S → List Event → Type 0
IsKnown known events =
    (n : ℕ) (content : List ℕ) → get nat_eq known n ≡ Some content
    → content ≡ content_after events n

-- these, the oldest first, are the newest of the events
abbrev pub AreLast : List Event → List Event → Type 0
AreLast listed events = events ≡ reverse listed ++ drop (length listed) events
