-- A call that was cut short: nothing of it was made, or all.
use Rattle.std.proofs.Common.{◌≡◌, ℕ, Bool, true, false, cond, not, refl, subst, Option, Some, None, List, ◌*◌}
use Rattle.std.specs.Prelude.{nat_le, nat_lt}
use Rattle.std.specs.FinMap.{get, len}
use Rattle.dbm_model.specs.Bounds.{Version, V1, V2, upgraded}
use Rattle.dbm_model.specs.Calls.{Mode, Insert, Replace, Call, Store, Fetch, Delete, First, Next, Error, Clear, Upgrade, Reply, ReadOnly, TooLong}
use Rattle.dbm_model.specs.Members.{Member, held}
use Rattle.dbm_model.specs.Pairs.{Key, is_allowed}
use Rattle.dbm_model.specs.Sizes.{home}
use Rattle.dbm_model.specs.States.{State, Pass, NotBegun, Begun, Behind}
use Rattle.dbm_model.specs.Steps.{Case, Tells, Refuses, Declines, Finds, Passes, Changes, fetched, passed, stored, deleted, raised, usable_case}
use Rattle.dbm_sharing.specs.Changes.{IsChange}
use Rattle.dbm_sharing.specs.Periods.{IsLeft}
use Rattle.dbm_sharing.specs.Views.{acknowledged_by}

-- where all of it was made, the rule is a change
pub made_by : (s : State) (c : Case) (left : Member) → IsLeft true s c left →
    (said : Reply) × (next : State) × (c ≡ Changes said next) × (left ≡ held next)
made_by s (Tells said told) left is = absurd is
made_by s (Refuses fault) left is = absurd is
made_by s (Declines fault) left is = absurd is
made_by s (Finds found) left is = absurd is
made_by s (Passes from) left is = absurd is
made_by s (Changes said next) left is = (said, next, refl, is)

-- what a change says, and of which calls it is one
abbrev pub SaysSo : Call → Case → Type 0
SaysSo call (Changes said next) = (said ≡ acknowledged_by call) × IsChange call
SaysSo call (Tells said told) = Unit {0}
SaysSo call (Refuses fault) = Unit {0}
SaysSo call (Declines fault) = Unit {0}
SaysSo call (Finds found) = Unit {0}
SaysSo call (Passes from) = Unit {0}

one_of : (call : Call) (b : Bool) (x y : Case) → SaysSo call x → SaysSo call y
    → SaysSo call (cond b x y)
one_of call true x y is_x is_y = is_x
one_of call false x y is_x is_y = is_y

fetched_says : (key : Key) (old : Option (List ℕ)) → SaysSo (Fetch key) (fetched old)
fetched_says key None = tt
fetched_says key (Some content) = tt

passed_says : (from : Pass) → SaysSo Next (passed from)
passed_says NotBegun = tt
passed_says Begun = tt
passed_says (Behind last) = tt

stored_says : (s : State) (key content : List ℕ) (mode : Mode) (old : Option (List ℕ))
    → SaysSo (Store key content mode) (stored s key content mode old)
stored_says s key content Insert (Some old) = tt
stored_says s key content Replace (Some old) = (refl, tt)
stored_says s key content Insert None =
    one_of (Store key content Insert) (nat_le s.bounds.limit (len s.map)) _ _ tt (refl, tt)
stored_says s key content Replace None =
    one_of (Store key content Replace) (nat_le s.bounds.limit (len s.map)) _ _ tt (refl, tt)

deleted_says : (s : State) (key : Key) (old : Option (List ℕ))
    → SaysSo (Delete key) (deleted s key old)
deleted_says s key None = tt
deleted_says s key (Some content) = (refl, tt)

raised_says : (pages : ℕ) (s : State) (version : Version) → SaysSo Upgrade (raised pages s version)
raised_says pages s V1 =
    one_of Upgrade (nat_lt pages (2 * home (upgraded s.bounds))) _ _ tt (refl, tt)
raised_says pages s V2 = tt

pub says_so : (pages : ℕ) (s : State) (call : Call) → SaysSo call (usable_case pages s call)
says_so pages s (Store key content mode) =
    let call = Store key content mode in
    let found = one_of call (is_allowed s.bounds.version (key, content)) _ _
    (stored_says s key content mode (get s.map key)) tt in
    elim s.writable as (λ b. SaysSo call (cond (not b) (Refuses ReadOnly)
    (cond (is_allowed s.bounds.version (key, content)) (stored s key content mode (get s.map key))
    (Refuses TooLong)))) [ true ↦ found | false ↦ tt ]
says_so pages s (Fetch key) = fetched_says key (get s.map key)
says_so pages s (Delete key) =
    one_of (Delete key) s.writable _ _ (deleted_says s key (get s.map key)) tt
says_so pages s First = tt
says_so pages s Next = passed_says s.pass
says_so pages s Error = tt
says_so pages s Clear = tt
says_so pages s Upgrade =
    one_of Upgrade s.writable _ _ (raised_says pages s s.bounds.version) tt

pub said_is : (pages : ℕ) (s : State) (call : Call) (said : Reply) (next : State)
    → usable_case pages s call ≡ Changes said next → (said ≡ acknowledged_by call) × IsChange call
said_is pages s call said next is = subst (SaysSo call) is (says_so pages s call)
