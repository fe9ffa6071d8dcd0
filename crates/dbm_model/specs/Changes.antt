-- What calls do to the map and the bounds, told from the replies alone.
use Rattle.std.specs.Prelude.{◌≡◌, ◌⊎◌, true, false, List, [], ◌∷◌, map}
use Rattle.std.specs.FinMap.{insert, remove}
use Rattle.dbm_model.specs.Bounds.{Bounds, upgraded}
use Rattle.dbm_model.specs.Calls.{Replace, Call, Store, Delete, Upgrade, Reply, Stored, Deleted, Upgraded, Refused, Device, is_changing}
use Rattle.dbm_model.specs.Pairs.{Pair, Contents}
use Rattle.dbm_model.specs.States.{Handle}
use Rattle.dbm_model.specs.Steps.{Step, Run}

-- the map after a call that was answered so
abbrev pub map_after : Contents → Call → Reply → Contents
map_after map (Store key content mode) Stored = insert map key content
map_after map (Delete key) Deleted = remove map key
map_after map call reply = map

-- the map that a change asks for, done or not
abbrev pub map_asked : Contents → Call → Contents
map_asked map (Store key content mode) = insert map key content
map_asked map (Delete key) = remove map key
map_asked map call = map

-- the bounds after a call that was answered so
abbrev pub bounds_after : Bounds → Call → Reply → Bounds
bounds_after bounds Upgrade Upgraded = upgraded bounds
bounds_after bounds call reply = bounds

-- the bounds that a change asks for, done or not
abbrev pub bounds_asked : Bounds → Call → Bounds
bounds_asked bounds Upgrade = upgraded bounds
bounds_asked bounds call = bounds

-- the call that stores a pair, also where its key is there
abbrev pub replacing : Pair → Call
replacing pair = Store pair.0 pair.1 Replace

-- the map with these pairs stored, one after another
abbrev pub with_pairs : Contents → List Pair → Contents
with_pairs contents [] = contents
with_pairs contents (pair ∷ pairs) = with_pairs (insert contents pair.0 pair.1) pairs

-- stores that were acknowledged, one after another, have put all of their pairs in
abbrev pub StoresPutAll : Type 0
StoresPutAll = (before after : Handle) (pairs : List Pair)
    → Run before (map replacing pairs) (map (λ _. Stored) pairs) after
    → after.state.map ≡ with_pairs before.state.map pairs

-- only an acknowledged change changes the map or the bounds of a handle that stays usable
abbrev pub OnlyAcknowledgedChanges : Type 0
OnlyAcknowledgedChanges = (before after : Handle) (call : Call) (reply : Reply)
    → Step before call reply after → after.state.usable ≡ true
    → after.state.map ≡ map_after before.state.map call reply

abbrev pub OnlyUpgradesRaise : Type 0
OnlyUpgradesRaise = (before after : Handle) (call : Call) (reply : Reply)
    → Step before call reply after → after.state.usable ≡ true
    → after.state.bounds ≡ bounds_after before.state.bounds call reply

-- what the file of a handle stands for are the old map and bounds
abbrev pub IsOld : Handle → Handle → Type 0
IsOld before after =
    (after.state.map ≡ before.state.map) × (after.state.bounds ≡ before.state.bounds)

-- or those that the call asks for
abbrev pub IsAsked : Handle → Call → Handle → Type 0
IsAsked before call after = (after.state.map ≡ map_asked before.state.map call)
    × (after.state.bounds ≡ bounds_asked before.state.bounds call)

-- a handle breaks only by a fault of the device in a change, and its file then stands for the old
-- map and bounds or the new ones
abbrev pub OnlyChangesBreak : Type 0
OnlyChangesBreak = (before after : Handle) (call : Call) (reply : Reply)
    → Step before call reply after → before.state.usable ≡ true → after.state.usable ≡ false →
    (is_changing call ≡ true) × (reply ≡ Refused Device)
    × (IsOld before after ⊎ IsAsked before call after)

-- a broken handle stays broken, and its map stays
abbrev pub BrokenStays : Type 0
BrokenStays = (before after : Handle) (call : Call) (reply : Reply) → Step before call reply after
    → before.state.usable ≡ false →
    (after.state.usable ≡ false) × IsOld before after
