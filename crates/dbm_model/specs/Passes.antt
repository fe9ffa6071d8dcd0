-- A pass over the keys, told from the replies (POSIX: each key once, where no change comes
-- between; here it goes on over changes, too).
use Rattle.std.specs.Prelude.{◌≡◌, ◌≢◌, ◌⊎◌, ◌+◌, ◌≤◌, ℕ, Bool, true, false, is_some, IsSome, AllPairs, if◌then◌else◌, List, [], ◌∷◌, ◌++◌}
use Rattle.std.specs.FinMap.{get}
use Rattle.std.specs.Ordering.{eq_by_cmp}
use Rattle.dbm_model.specs.Calls.{Call, Delete, First, Next, Reply, Deleted, Bytes, End, Refused, Fault, is_acknowledged}
use Rattle.dbm_model.specs.KeyOrder.{ComesBefore}
use Rattle.dbm_model.specs.Pairs.{Key, key_cmp}
use Rattle.dbm_model.specs.States.{NotBegun, Handle}
use Rattle.dbm_model.specs.Steps.{Step, Run}

-- the key that a pass gives by this reply
abbrev pub given_by : Call → Reply → List Key
given_by First (Bytes key) = key ∷ []
given_by Next (Bytes key) = key ∷ []
given_by call reply = []

-- the keys that these calls were given, in their order
abbrev pub given : List Call → List Reply → List Key
given (call ∷ calls) (reply ∷ replies) = given_by call reply ++ given calls replies
given calls replies = []

-- how often a key is among those
abbrev pub times_in : List Key → Key → ℕ
times_in [] key = 0
times_in (one ∷ others) key = (if eq_by_cmp key_cmp key one then 1 else 0) + times_in others key

abbrev pub is_refused : Reply → Bool
is_refused (Refused fault) = true
is_refused reply = false

-- none of these calls begins a pass, and none is an acknowledged change
abbrev pub GoesOn : List Call → List Reply → Type 0
GoesOn (call ∷ calls) (reply ∷ replies) =
    (call ≢ First) × (is_acknowledged reply ≡ false) × GoesOn calls replies
GoesOn calls replies = Unit {0}

-- From a firstkey that was answered to the end of its pass, with no change between, each key of the
-- map is given once and no other key at all, whatever else is called, and whatever fails.
abbrev pub PassesAreComplete : Type 0
PassesAreComplete = (before mid after : Handle) (calls : List Call) (reply : Reply)
    (replies : List Reply) → Run before (First ∷ calls) (reply ∷ replies) mid
    → is_refused reply ≡ false → GoesOn calls replies
    → Step mid Next End after → (key : Key)
    → times_in (given (First ∷ calls) (reply ∷ replies)) key
    ≡ (if is_some (get before.state.map key) then 1 else 0)

-- A firstkey that answers the end itself: there is no key.
abbrev pub EmptyPassesEndAtOnce : Type 0
EmptyPassesEndAtOnce = (before after : Handle) → Step before First End after → (key : Key)
    → is_some (get before.state.map key) ≡ false

-- none of these calls begins a pass
abbrev pub BeginNone : List Call → Type 0
BeginNone [] = Unit {0}
BeginNone (call ∷ calls) = (call ≢ First) × BeginNone calls

-- none of them is told to have deleted the key
abbrev pub KeepKey : Key → List Call → List Reply → Type 0
KeepKey key (call ∷ calls) (reply ∷ replies) =
    (call ≡ Delete key → reply ≢ Deleted) × KeepKey key calls replies
KeepKey key calls replies = Unit {0}

-- Whatever is called between, changes among it, and whatever fails: a key that is there from a
-- firstkey that was answered to the end of its pass is given once.
abbrev pub LastingKeysAreGiven : Type 0
LastingKeysAreGiven = (before mid after : Handle) (calls : List Call) (reply : Reply)
    (replies : List Reply) → Run before (First ∷ calls) (reply ∷ replies) mid
    → is_refused reply ≡ false → BeginNone calls
    → Step mid Next End after → (key : Key)
    → IsSome (get before.state.map key) → KeepKey key calls replies
    → times_in (given (First ∷ calls) (reply ∷ replies)) key ≡ 1

-- The keys of a pass come in ascending order, whatever is called between, and whatever fails.
abbrev pub PassesAscend : Type 0
PassesAscend = (before after : Handle) (calls : List Call) (replies : List Reply)
    → Run before (First ∷ calls) replies after → BeginNone calls
    → AllPairs ComesBefore (given (First ∷ calls) replies)

-- So none comes twice.
abbrev pub NoKeyIsGivenTwice : Type 0
NoKeyIsGivenTwice = (before after : Handle) (calls : List Call) (replies : List Reply)
    → Run before (First ∷ calls) replies after → BeginNone calls → (key : Key)
    → times_in (given (First ∷ calls) replies) key ≤ 1

-- A key is given only while it is there.
abbrev pub GivenKeysAreThere : Type 0
GivenKeysAreThere = (before after : Handle) (call : Call) (key : Key)
    → Step before call (Bytes key) after → (call ≡ First) ⊎ (call ≡ Next)
    → IsSome (get before.state.map key)

-- A refusal leaves a pass where it stands.
abbrev pub RefusalsKeepPass : Type 0
RefusalsKeepPass = (before after : Handle) (call : Call) (fault : Fault)
    → Step before call (Refused fault) after → after.state.pass ≡ before.state.pass

-- A pass that was begun stays so, whatever is called.
abbrev pub PassesStay : Type 0
PassesStay = (before after : Handle) (call : Call) (reply : Reply) → Step before call reply after
    → before.state.pass ≢ NotBegun → after.state.pass ≢ NotBegun
