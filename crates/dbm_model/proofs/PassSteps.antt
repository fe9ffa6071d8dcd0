-- What one step does to the pass.
use Rattle.std.proofs.Common.{◌≡◌, ◌≢◌, ◌⊎◌, inl, inr, ⊎_elim, ℕ, Bool, true, false, cond, not, List, [], ◌∷◌, Option, Some, None, refl, sym, ◌∙◌, ap}
use Rattle.std.specs.Prelude.{nat_le, nat_lt, ◌*◌, is_some, IsSome}
use Rattle.std.specs.FinMap.{get, insert, len}
use Rattle.dbm_model.specs.Bounds.{Version, V1, V2, upgraded}
use Rattle.dbm_model.specs.Calls.{Mode, Insert, Replace, Call, Store, Fetch, Delete, First, Next, Error, Clear, Upgrade, Reply, Stored, Bytes, End, Refused, Fault, Device, Broken, ReadOnly, TooLong, Full, NoPass, TooSmall, Upgraded}
use Rattle.dbm_model.specs.Pairs.{Key, is_allowed}
use Rattle.dbm_model.specs.Sizes.{home}
use Rattle.dbm_model.specs.States.{State, Pass, NotBegun, Begun, Behind, Handle}
use Rattle.dbm_model.specs.Steps.{Case, Tells, Refuses, Declines, Finds, Passes, Changes, with_map, fetched, stored, deleted, passed, raised, usable_case, broken_case, case_of, IsNextKey, IsOver, Answers, Suffers, Step}
use Rattle.dbm_model.specs.Passes.{given_by, is_refused, GivenKeysAreThere, PassesStay}
use Rattle.dbm_model.proofs.RuleLemmas.{ByCase, falls, if_usable, if_broken}

-- ---- calls that are no pass's leave it

-- what a rule does to the pass: none is begun or gone on with
abbrev SparesPass : State → Case → Type 0
SparesPass s (Tells said told) = told.pass ≡ s.pass
SparesPass s (Passes from) = ⊥
SparesPass s (Changes said next) = next.pass ≡ s.pass
SparesPass s c = Unit {0}

new_spares : (s : State) (key content : List ℕ)
    → SparesPass s (cond (nat_le s.bounds.limit (len s.map)) (Declines Full)
    (Changes Stored (with_map s (insert s.map key content))))
new_spares s key content = elim (nat_le s.bounds.limit (len s.map)) as
    (λ b. SparesPass s (cond b (Declines Full) (Changes Stored (with_map s (insert s.map key content))))) [
      | true ↦ tt
      | false ↦ refl
    ]

stored_spares : (s : State) (key content : List ℕ) (mode : Mode) (old : Option (List ℕ))
    → SparesPass s (stored s key content mode old)
stored_spares s key content Insert (Some old) = tt
stored_spares s key content Replace (Some old) = refl
stored_spares s key content Insert None = new_spares s key content
stored_spares s key content Replace None = new_spares s key content

deleted_spares : (s : State) (key : Key) (old : Option (List ℕ)) → SparesPass s (deleted s key old)
deleted_spares s key None = tt
deleted_spares s key (Some content) = refl

fetched_spares : (s : State) (old : Option (List ℕ)) → SparesPass s (fetched old)
fetched_spares s None = tt
fetched_spares s (Some content) = tt

store_spares : (room : ℕ) (s : State) (key content : List ℕ) (mode : Mode)
    → SparesPass s (usable_case room s (Store key content mode))
store_spares room s key content mode =
    elim s.writable as (λ b. SparesPass s
    (cond (not b) (Refuses ReadOnly)
    (cond (is_allowed s.bounds.version (key, content))
    (stored s key content mode (get s.map key)) (Refuses TooLong)))) [
      | true ↦ elim (is_allowed s.bounds.version (key, content)) as
          (λ b. SparesPass s (cond b (stored s key content mode (get s.map key))
          (Refuses TooLong))) [
            | true ↦ stored_spares s key content mode (get s.map key)
            | false ↦ tt
          ]
      | false ↦ tt
    ]

delete_spares : (room : ℕ) (s : State) (key : Key) → SparesPass s (usable_case room s (Delete key))
delete_spares room s key = elim s.writable as
    (λ b. SparesPass s (cond b (deleted s key (get s.map key)) (Refuses ReadOnly))) [
      | true ↦
          deleted_spares s key (get s.map key)
      | false ↦ tt
    ]

-- a firstkey or a nextkey
abbrev pub IsOfPass : Call → Type 0
IsOfPass First = Unit {0}
IsOfPass Next = Unit {0}
IsOfPass call = ⊥

upgrade_spares : (room : ℕ) (s : State) → SparesPass s (usable_case room s Upgrade)
upgrade_spares room s = elim s.writable as
    (λ b. SparesPass s (cond b (raised room s s.bounds.version) (Refuses ReadOnly))) [
      | true ↦ by_version s.bounds.version
      | false ↦ tt
    ]
  where
    by_version : (version : Version) → SparesPass s (raised room s version)
    by_version V1 = elim (nat_lt room (2 * home (upgraded s.bounds))) as
        (λ b. SparesPass s (cond b (Refuses TooSmall)
        (Changes Upgraded (record s { bounds = upgraded s.bounds })))) [
          | true ↦ tt
          | false ↦ refl
        ]
    by_version V2 = refl

usable_spares : (room : ℕ) (s : State) (call : Call) → (IsOfPass call → ⊥)
    → SparesPass s (usable_case room s call)
usable_spares room s (Store key content mode) other = store_spares room s key content mode
usable_spares room s (Fetch key) other = fetched_spares s (get s.map key)
usable_spares room s (Delete key) other = delete_spares room s key
usable_spares room s First other = absurd (other tt)
usable_spares room s Next other = absurd (other tt)
usable_spares room s Error other = refl
usable_spares room s Clear other = refl
usable_spares room s Upgrade other = upgrade_spares room s

broken_spares : (room : ℕ) (s : State) (call : Call) → SparesPass s (broken_case room s call)
broken_spares room s (Store key content mode) = tt
broken_spares room s (Fetch key) = tt
broken_spares room s (Delete key) = tt
broken_spares room s First = tt
broken_spares room s Next = tt
broken_spares room s Error = refl
broken_spares room s Clear = refl
broken_spares room s Upgrade = tt

spares : (h : Handle) (call : Call) → (IsOfPass call → ⊥) → SparesPass h.state (case_of h call)
spares h call other = elim h.state.usable as
    (λ b. SparesPass h.state
    (cond b (usable_case h.capacity h.state call) (broken_case h.capacity h.state call))) [
      | true ↦ usable_spares h.capacity h.state call other
      | false ↦ broken_spares h.capacity h.state call
    ]

spared_answer : (s after : State) (c : Case) (reply : Reply) → SparesPass s c
    → Answers s c reply after → after.pass ≡ s.pass
spared_answer s after (Tells said told) reply spares is = ap (λ (t : State). t.pass) is.1 ∙ spares
spared_answer s after (Refuses fault) reply spares is = ap (λ (t : State). t.pass) is.1
spared_answer s after (Declines fault) reply spares is = ap (λ (t : State). t.pass) is.1
spared_answer s after (Finds found) reply spares is = ap (λ (t : State). t.pass) is.1
spared_answer s after (Passes from) reply spares is = absurd spares
spared_answer s after (Changes said next) reply spares is =
    ap (λ (t : State). t.pass) is.1 ∙ spares

spared_suffered : (before after : Handle) (call : Call) (c : Case) (reply : Reply)
    → Suffers before call c reply after
    → after.state.pass ≡ before.state.pass
spared_suffered before after call (Tells said told) reply is = absurd is
spared_suffered before after call (Refuses fault) reply is = absurd is
spared_suffered before after call (Declines fault) reply is = ap (λ (t : State). t.pass) is.2
spared_suffered before after call (Finds found) reply (inl fails) =
    ap (λ (t : State). t.pass) fails.2
spared_suffered before after call (Finds found) reply (inr memory) =
    ap (λ (t : State). t.pass) memory.1
spared_suffered before after call (Passes from) reply is = ap (λ (t : State). t.pass) is.2
spared_suffered before after call (Changes said next) reply (inl fails) =
    ap (λ (t : State). t.pass) fails.2
spared_suffered before after call (Changes said next) reply (inr (inl breaks)) =
    ap (λ (t : State). t.pass) breaks.4
spared_suffered before after call (Changes said next) reply (inr (inr (inl memory))) =
    ap (λ (t : State). t.pass) memory.1
spared_suffered before after call (Changes said next) reply (inr (inr (inr room))) =
    ap (λ (t : State). t.pass) room.2

pub spared : (before after : Handle) (call : Call) (reply : Reply) → Step before call reply after
    → (IsOfPass call → ⊥) → after.state.pass ≡ before.state.pass
spared before after call reply step other =
    ⊎_elim (spared_answer before.state after.state (case_of before call) reply
    (spares before call other))
    (spared_suffered before after call (case_of before call) reply) step.answers

-- ---- what a step does to the pass

-- where the call goes on from
abbrev pub from_of : State → Call → Pass
from_of s First = Begun
from_of s call = s.pass

pub data PassStep (s : State) (call : Call) (reply : Reply) (after : State) : Type 0 where
  -- it stays, and no key is given
  rests : after.pass ≡ s.pass → given_by call reply ≡ []
      → (IsOfPass call → is_refused reply ≡ true) → PassStep s call reply after
  ends : IsOver s.map (from_of s call) → after.pass ≡ from_of s call → reply ≡ End
      → PassStep s call reply after
  gives : (key : Key) → IsNextKey s.map (from_of s call) key → after.pass ≡ Behind key
      → reply ≡ Bytes key → given_by call reply ≡ key ∷ [] → PassStep s call reply after

-- the key that a call gives by a reply
refusal_gives : (call : Call) (fault : Fault) → given_by call (Refused fault) ≡ []
refusal_gives (Store key content mode) fault = refl
refusal_gives (Fetch key) fault = refl
refusal_gives (Delete key) fault = refl
refusal_gives First fault = refl
refusal_gives Next fault = refl
refusal_gives Error fault = refl
refusal_gives Clear fault = refl
refusal_gives Upgrade fault = refl

pub end_gives : (call : Call) → given_by call End ≡ []
end_gives (Store key content mode) = refl
end_gives (Fetch key) = refl
end_gives (Delete key) = refl
end_gives First = refl
end_gives Next = refl
end_gives Error = refl
end_gives Clear = refl
end_gives Upgrade = refl

pub key_gives : (call : Call) (key : Key) → IsOfPass call → given_by call (Bytes key) ≡ key ∷ []
key_gives (Store name content mode) key of_pass = absurd of_pass
key_gives (Fetch name) key of_pass = absurd of_pass
key_gives (Delete name) key of_pass = absurd of_pass
key_gives First key of_pass = refl
key_gives Next key of_pass = refl
key_gives Error key of_pass = absurd of_pass
key_gives Clear key of_pass = absurd of_pass
key_gives Upgrade key of_pass = absurd of_pass

by_fault : (s after : State) (call : Call) (reply : Reply) (fault : Fault) → after.pass ≡ s.pass
    → reply ≡ Refused fault → PassStep s call reply after
by_fault s after call reply fault same said =
    rests same (ap (given_by call) said ∙ refusal_gives call fault) (λ of_pass. ap is_refused said)

by_refusal : (before after : Handle) (call : Call) (reply : Reply) (fault : Fault)
    → ByCase before call (Refuses fault) reply after → PassStep before.state call reply after.state
by_refusal before after call reply fault (inl is) =
    by_fault before.state after.state call reply fault (ap (λ (t : State). t.pass) is.1) is.0
by_refusal before after call reply fault (inr is) = absurd is

by_pass : (before after : Handle) (call : Call) (reply : Reply) → IsOfPass call
    → ByCase before call (Passes (from_of before.state call)) reply after
    → PassStep before.state call reply after.state
by_pass before after call reply of_pass (inl (inl end)) =
    ends end.0 (ap (λ (t : State). t.pass) end.2) end.1
by_pass before after call reply of_pass (inl (inr given)) =
    gives given.0 given.1 (ap (λ (t : State). t.pass) given.3) given.2
    (ap (given_by call) given.2 ∙ key_gives call given.0 of_pass)
by_pass before after call reply of_pass (inr fails) =
    by_fault before.state after.state call reply Device (ap (λ (t : State). t.pass) fails.2) fails.0

by_first : (before after : Handle) (reply : Reply) → Step before First reply after
    → PassStep before.state First reply after.state
by_first before after reply step = by_mark before.state.usable refl
  where
    by_mark : (b : Bool) → before.state.usable ≡ b → PassStep before.state First reply after.state
    by_mark true is = by_pass before after First reply tt
        (falls before after First reply (Passes Begun) (if_usable before First is) step)
    by_mark false is = by_refusal before after First reply Broken
        (falls before after First reply (Refuses Broken) (if_broken before First is) step)

pub next_falls : (h : Handle) (pass : Pass) → h.state.usable ≡ true → h.state.pass ≡ pass
    → case_of h Next ≡ passed pass
next_falls h pass usable is = if_usable h Next usable ∙ ap passed is

by_next : (before after : Handle) (reply : Reply) → Step before Next reply after
    → PassStep before.state Next reply after.state
by_next before after reply step = by_mark before.state.usable refl
  where
    by_stand : (pass : Pass) → before.state.usable ≡ true → before.state.pass ≡ pass
        → PassStep before.state Next reply after.state
    by_stand NotBegun usable is = by_refusal before after Next reply NoPass
        (falls before after Next reply (Refuses NoPass)
        (next_falls before NotBegun usable is) step)
    by_stand Begun usable is = by_pass before after Next reply tt
        (falls before after Next reply (Passes before.state.pass)
        (next_falls before Begun usable is ∙ ap Passes (sym is)) step)
    by_stand (Behind last) usable is = by_pass before after Next reply tt
        (falls before after Next reply (Passes before.state.pass)
        (next_falls before (Behind last) usable is ∙ ap Passes (sym is)) step)

    by_mark : (b : Bool) → before.state.usable ≡ b → PassStep before.state Next reply after.state
    by_mark true is = by_stand before.state.pass is refl
    by_mark false is = by_refusal before after Next reply Broken
        (falls before after Next reply (Refuses Broken) (if_broken before Next is) step)

pub pass_step : (before after : Handle) (call : Call) (reply : Reply) → Step before call reply after
    → PassStep before.state call reply after.state
pass_step before after (Store key content mode) reply step =
    rests (spared before after (Store key content mode) reply step (λ of_pass. of_pass)) refl
    (λ of_pass. absurd of_pass)
pass_step before after (Fetch key) reply step =
    rests (spared before after (Fetch key) reply step (λ of_pass. of_pass)) refl
    (λ of_pass. absurd of_pass)
pass_step before after (Delete key) reply step =
    rests (spared before after (Delete key) reply step (λ of_pass. of_pass)) refl
    (λ of_pass. absurd of_pass)
pass_step before after First reply step = by_first before after reply step
pass_step before after Next reply step = by_next before after reply step
pass_step before after Error reply step =
    rests (spared before after Error reply step (λ of_pass. of_pass)) refl
    (λ of_pass. absurd of_pass)
pass_step before after Clear reply step =
    rests (spared before after Clear reply step (λ of_pass. of_pass)) refl
    (λ of_pass. absurd of_pass)
pass_step before after Upgrade reply step =
    rests (spared before after Upgrade reply step (λ of_pass. of_pass)) refl
    (λ of_pass. absurd of_pass)

-- ---- the laws of one step

of_pass : (call : Call) → (call ≡ First) ⊎ (call ≡ Next) → IsOfPass call
of_pass (Store key content mode) one = absurd (⊎_elim (λ e. cc) (λ e. cc) one)
of_pass (Fetch key) one = absurd (⊎_elim (λ e. cc) (λ e. cc) one)
of_pass (Delete key) one = absurd (⊎_elim (λ e. cc) (λ e. cc) one)
of_pass First one = tt
of_pass Next one = tt
of_pass Error one = absurd (⊎_elim (λ e. cc) (λ e. cc) one)
of_pass Clear one = absurd (⊎_elim (λ e. cc) (λ e. cc) one)
of_pass Upgrade one = absurd (⊎_elim (λ e. cc) (λ e. cc) one)

there_by_step : (s after : State) (call : Call) (key : Key) → IsOfPass call
    → PassStep s call (Bytes key) after → IsSome (get s.map key)
there_by_step s after call key one (rests same none refused) =
    absurd (let wrong = sym (key_gives call key one) ∙ none in cc)
there_by_step s after call key one (ends over same said) = absurd (let wrong = said in cc)
there_by_step s after call key one (gives next is same said given) =
    let equal : key ≡ next = let both = said in cc in
    ap (λ k. is_some (get s.map k)) equal ∙ is.there

pub given_are_there : GivenKeysAreThere
given_are_there before after call key step one =
    there_by_step before.state after.state call key (of_pass call one)
    (pass_step before after call (Bytes key) step)

from_begun : (s : State) (call : Call) → s.pass ≢ NotBegun → from_of s call ≢ NotBegun
from_begun s (Store key content mode) begun is = begun is
from_begun s (Fetch key) begun is = begun is
from_begun s (Delete key) begun is = begun is
from_begun s First begun is = absurd (let wrong = is in cc)
from_begun s Next begun is = begun is
from_begun s Error begun is = begun is
from_begun s Clear begun is = begun is
from_begun s Upgrade begun is = begun is

stays_by_step : (s after : State) (call : Call) (reply : Reply) → PassStep s call reply after
    → s.pass ≢ NotBegun → after.pass ≢ NotBegun
stays_by_step s after call reply (rests same none refused) begun is = begun (sym same ∙ is)
stays_by_step s after call reply (ends over same said) begun is =
    from_begun s call begun (sym same ∙ is)
stays_by_step s after call reply (gives key next same said given) begun is =
    absurd (let wrong = sym same ∙ is in cc)

pub passes_stay : PassesStay
passes_stay before after call reply step =
    stays_by_step before.state after.state call reply (pass_step before after call reply step)

keeps_by_step : (s after : State) (call : Call) (fault : Fault)
    → PassStep s call (Refused fault) after → after.pass ≡ s.pass
keeps_by_step s after call fault (rests same none refused) = same
keeps_by_step s after call fault (ends over same said) = absurd (let wrong = said in cc)
keeps_by_step s after call fault (gives key next same said given) =
    absurd (let wrong = said in cc)

-- a call that is refused leaves the pass
pub refusal_keeps_pass : (before after : Handle) (call : Call) (fault : Fault)
    → Step before call (Refused fault) after → after.state.pass ≡ before.state.pass
refusal_keeps_pass before after call fault step =
    keeps_by_step before.state after.state call fault
    (pass_step before after call (Refused fault) step)
