-- That there is room for every list of sessions is known beforehand.
use Rattle.std.specs.Prelude.{◌≢◌, ◌*◌, ◌≤◌, ℕ, All, List}
use Rattle.dbm_model.specs.Calls.{NoRoom}
use Rattle.dbm_model.specs.Room.{AreNeverShort}
use Rattle.dbm_model.specs.Sizes.{home}
use Rattle.dbm_model.specs.Members.{Members, AllHaveRoom}
use Rattle.dbm_model.specs.Sessions.{Plan, Ending, NotOpened, StoppedOpening, Rested, StoppedCall, Broke, Grouped, StoppedGroup, BrokeGroup, Sessions}

-- so many pages are twice those that a database of the bounds needs which a session asks for
abbrev pub AsksForRoom : ℕ → Plan → Type 0
AsksForRoom pages plan = 2 * home plan.how.bounds ≤ pages

-- neither the opening nor a call was refused for want of room
abbrev pub IsNeverShort : Ending → Type 0
IsNeverShort (NotOpened fault) = fault ≢ NoRoom
IsNeverShort StoppedOpening = Unit {0}
IsNeverShort (Rested replies) = AreNeverShort replies
IsNeverShort (StoppedCall replies) = AreNeverShort replies
IsNeverShort (Broke replies) = AreNeverShort replies
IsNeverShort (Grouped replies count) = AreNeverShort replies
IsNeverShort (StoppedGroup replies count) = AreNeverShort replies
IsNeverShort (BrokeGroup replies count) = AreNeverShort replies

-- where there is room for what the file may stand for, and for each limit that is asked for, there
-- is room for whatever sessions leave
abbrev pub SessionsKeepRoom : Type 0
SessionsKeepRoom = (pages : ℕ) (before after : Members) (plans : List Plan) (endings : List Ending)
    → AllHaveRoom pages before → All (AsksForRoom pages) plans
    → Sessions pages before plans endings after → AllHaveRoom pages after

-- and nothing was refused for want of it
abbrev pub SessionsAreNeverShort : Type 0
SessionsAreNeverShort = (pages : ℕ) (before after : Members) (plans : List Plan)
    (endings : List Ending) → AllHaveRoom pages before → All (AsksForRoom pages) plans
    → Sessions pages before plans endings after → All IsNeverShort endings
