-- A pass of one handle over the changes of others, and on in a table that takes the place.
use Rattle.std.specs.Prelude.{◌≡◌, ◌≢◌, ◌⊎◌, ◌≤◌, ℕ, nat_eq, true, false, is_some, IsSome, AllPairs, if◌then◌else◌, List, [], ◌∷◌, ◌++◌}
use Rattle.std.specs.FinMap.{get}
use Rattle.dbm_model.specs.Calls.{Call, Delete, First, Next, Reply, Deleted, Bytes, End, is_acknowledged}
use Rattle.dbm_model.specs.KeyOrder.{ComesBefore}
use Rattle.dbm_model.specs.Pairs.{Key}
use Rattle.dbm_model.specs.Passes.{given_by, times_in, is_refused}
use Rattle.dbm_sharing.specs.Handles.{Shared}
use Rattle.dbm_sharing.specs.Periods.{Period, Answered, CutByDevice, CutByDeath, Opened, Replaced, PeriodStep, Chain}
use Rattle.dbm_sharing.specs.Views.{Lasts}

-- the keys that this handle was given, in their order
abbrev pub given_to : ℕ → List Period → List Key
given_to who [] = []
given_to who (Answered caller call reply ∷ periods) =
    (if nat_eq caller who then given_by call reply else []) ++ given_to who periods
given_to who (period ∷ periods) = given_to who periods

-- it begins no other pass
abbrev pub BeginsNone : ℕ → List Period → Type 0
BeginsNone who [] = Unit {0}
BeginsNone who (Answered caller call reply ∷ periods) =
    (caller ≡ who → call ≢ First) × BeginsNone who periods
BeginsNone who (period ∷ periods) = BeginsNone who periods

-- nobody deletes the key, and each table that takes the place has it
abbrev pub KeepsKey : Key → List Period → Type 0
KeepsKey key [] = Unit {0}
KeepsKey key (Answered caller call reply ∷ periods) =
    (call ≡ Delete key → reply ≢ Deleted) × KeepsKey key periods
KeepsKey key (CutByDevice caller call made ∷ periods) =
    (call ≡ Delete key → made ≢ true) × KeepsKey key periods
KeepsKey key (CutByDeath caller call made ∷ periods) =
    (call ≡ Delete key → made ≢ true) × KeepsKey key periods
KeepsKey key (Opened caller writable ∷ periods) = KeepsKey key periods
KeepsKey key (Replaced map bounds ∷ periods) = IsSome (get map key) × KeepsKey key periods

-- A key that is there from a firstkey of a handle that was answered to the end of its pass is given
-- to it once, whoever changes the map between.
abbrev pub SharedPassesGiveLastingKeys : Type 0
SharedPassesGiveLastingKeys = (pages who : ℕ) (before mid after : Shared) (reply : Reply)
    (periods : List Period) → Chain pages before (Answered who First reply ∷ periods) mid
    → is_refused reply ≡ false → Lasts who periods → BeginsNone who periods
    → PeriodStep pages mid (Answered who Next End) after → (key : Key)
    → IsSome (get before.map key) → KeepsKey key periods
    → times_in (given_to who (Answered who First reply ∷ periods)) key ≡ 1

-- The keys come in ascending order, so none comes twice.
abbrev pub SharedPassesAscend : Type 0
SharedPassesAscend = (pages who : ℕ) (before after : Shared) (reply : Reply)
    (periods : List Period) → Chain pages before (Answered who First reply ∷ periods) after
    → Lasts who periods → BeginsNone who periods
    → AllPairs ComesBefore (given_to who (Answered who First reply ∷ periods))

abbrev pub SharedPassesGiveOnce : Type 0
SharedPassesGiveOnce = (pages who : ℕ) (before after : Shared) (reply : Reply)
    (periods : List Period) → Chain pages before (Answered who First reply ∷ periods) after
    → Lasts who periods → BeginsNone who periods → (key : Key)
    → times_in (given_to who (Answered who First reply ∷ periods)) key ≤ 1

-- A key is given only while it is there.
abbrev pub SharedPassesGiveWhatIsThere : Type 0
SharedPassesGiveWhatIsThere = (pages who : ℕ) (before after : Shared) (call : Call) (key : Key)
    → PeriodStep pages before (Answered who call (Bytes key)) after
    → (call ≡ First) ⊎ (call ≡ Next) → IsSome (get before.map key)

-- nobody changes the map: no change is acknowledged, of none that was cut short was all made, and
-- the table stays
abbrev pub NobodyChanges : List Period → Type 0
NobodyChanges [] = Unit {0}
NobodyChanges (Answered caller call reply ∷ periods) =
    (is_acknowledged reply ≡ false) × NobodyChanges periods
NobodyChanges (CutByDevice caller call made ∷ periods) = (made ≢ true) × NobodyChanges periods
NobodyChanges (CutByDeath caller call made ∷ periods) = (made ≢ true) × NobodyChanges periods
NobodyChanges (Opened caller writable ∷ periods) = NobodyChanges periods
NobodyChanges (Replaced map bounds ∷ periods) = ⊥

-- Where nobody changes the map, a pass gives each key of it once, and no other.
abbrev pub SharedPassesAreComplete : Type 0
SharedPassesAreComplete = (pages who : ℕ) (before mid after : Shared) (reply : Reply)
    (periods : List Period) → Chain pages before (Answered who First reply ∷ periods) mid
    → is_refused reply ≡ false → Lasts who periods → BeginsNone who periods
    → NobodyChanges periods → PeriodStep pages mid (Answered who Next End) after → (key : Key)
    → times_in (given_to who (Answered who First reply ∷ periods)) key
    ≡ (if is_some (get before.map key) then 1 else 0)
