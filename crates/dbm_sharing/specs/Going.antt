-- How chains and handles go on.
use Rattle.std.specs.Prelude.{◌≡◌, ◌≢◌, ℕ, true, List, [], ◌∷◌, ◌++◌}
use Rattle.dbm_model.specs.Calls.{Call, Reply, Refused, NoRoom}
use Rattle.dbm_model.specs.Members.{HasRoomFor}
use Rattle.dbm_model.specs.States.{State, Handle}
use Rattle.dbm_model.specs.Steps.{Step}
use Rattle.dbm_sharing.specs.Handles.{Shared, file_of, IsHandleAt}
use Rattle.dbm_sharing.specs.Periods.{Period, Answered, Chain, IsOneTable}

-- One chain behind another is a chain, and the first periods of a chain are one.
abbrev pub ChainsJoin : Type 0
ChainsJoin = (pages : ℕ) (before mid after : Shared) (earlier later : List Period)
    → Chain pages before earlier mid → Chain pages mid later after
    → Chain pages before (earlier ++ later) after

abbrev pub ChainsSplit : Type 0
ChainsSplit = (pages : ℕ) (before after : Shared) (earlier later : List Period)
    → Chain pages before (earlier ++ later) after →
    (mid : Shared) × Chain pages before earlier mid × Chain pages mid later after

-- A handle that a call left usable is one at its new state, so it may go on where nobody else has
-- changed the file.
abbrev pub HandlesGoOn : Type 0
HandlesGoOn = (pages : ℕ) (s : State) (first last : Handle) (call : Call) (reply : Reply)
    → IsHandleAt pages s first → Step first call reply last → last.state.usable ≡ true
    → IsHandleAt pages last.state last

-- no call was refused for want of room
abbrev pub NeverShort : List Period → Type 0
NeverShort [] = Unit {0}
NeverShort (Answered who call reply ∷ periods) = (reply ≢ Refused NoRoom) × NeverShort periods
NeverShort (period ∷ periods) = NeverShort periods

-- Where there is room for twice the pages that the bounds need, no handle lacks any, whatever the
-- others store, and there is room behind them all.
abbrev pub SharedRoomIsKnown : Type 0
SharedRoomIsKnown = (pages : ℕ) (before after : Shared) (periods : List Period)
    → HasRoomFor pages (file_of before) → Chain pages before periods after → IsOneTable periods
    → NeverShort periods × HasRoomFor pages (file_of after)
