-- The rule that a call falls under at one state, and at another one with the same map and bounds.
use Rattle.std.proofs.Common.{◌≡◌, inl, inr, ⊎_elim, ℕ, Bool, true, false, cond, refl, sym, ◌∙◌, ap, subst, Option, Some, None, List, ◌*◌, ◌+◌, arith}
use Rattle.std.specs.Prelude.{nat_le, nat_lt}
use Rattle.std.specs.FinMap.{get, len}
use Rattle.dbm_model.specs.Bounds.{Bounds, Version, V1, V2, upgraded}
use Rattle.dbm_model.specs.Calls.{Mode, Insert, Replace, Call, Store, Fetch, Delete, First, Next, Error, Clear, Upgrade, Reply, Stored, Kept, Deleted, Absent, Bytes, NoRecord, End, Number, Upgraded, Refused, Fault, ReadOnly, is_acknowledged}
use Rattle.dbm_model.specs.Pairs.{Key, Contents, is_allowed}
use Rattle.dbm_model.specs.Passes.{is_refused}
use Rattle.dbm_model.specs.Sizes.{home}
use Rattle.dbm_model.specs.States.{State, Pass, NotBegun, Begun, Behind, Handle}
use Rattle.dbm_model.specs.Steps.{Case, Tells, Refuses, Declines, Finds, Passes, Changes, GivesKey, Answers, Suffers, Step, fetched, passed, stored, deleted, raised, usable_case, case_for, case_of, buckets_added}
use Rattle.dbm_sharing.specs.Changes.{IsChange}

-- ---- replies

pub told : (reply : Reply) → is_acknowledged reply ≡ true → is_refused reply ≡ false
told Stored done = refl
told Kept done = refl
told Deleted done = refl
told Absent done = refl
told (Bytes bytes) done = refl
told NoRecord done = refl
told End done = refl
told (Number number) done = refl
told Upgraded done = refl
told (Refused fault) done = absurd (let x = done in cc)

pub never : {X : Type 0} (reply : Reply) (fault : Fault) → is_refused reply ≡ false
    → reply ≡ Refused fault → X
never reply fault well is = absurd (let x = sym well ∙ ap is_refused is in cc)

-- what isn't a refusal doesn't come instead
pub not_suffered : (h after : Handle) (call : Call) (c : Case) (reply : Reply)
    → is_refused reply ≡ false → Suffers h call c reply after → ⊥
not_suffered h after call (Tells said told) reply well bad = bad
not_suffered h after call (Refuses fault) reply well bad = bad
not_suffered h after call (Declines fault) reply well bad = never reply _ well bad.0
not_suffered h after call (Finds found) reply well bad =
    ⊎_elim (λ it. never reply _ well it.0) (λ it. never reply _ well it.0) bad
not_suffered h after call (Passes from) reply well bad = never reply _ well bad.0
not_suffered h after call (Changes said next) reply well bad =
    ⊎_elim (λ it. never reply _ well it.0)
    (λ more. ⊎_elim (λ it. never reply _ well it.0)
    (λ rest. ⊎_elim (λ it. never reply _ well it.0) (λ it. never reply _ well it.0) rest) more) bad

-- ---- changes

-- the rule as it is at this state
abbrev pub moved : State → Case → Case
moved t (Tells said left) = Tells said (record t { map = left.map; bounds = left.bounds })
moved t (Refuses fault) = Refuses fault
moved t (Declines fault) = Declines fault
moved t (Finds found) = Finds found
moved t (Passes from) = Passes from
moved t (Changes said next) = Changes said (record t { map = next.map; bounds = next.bounds })

abbrev IsNoPass : Case → Type 0
IsNoPass (Passes from) = ⊥
IsNoPass (Tells said left) = Unit {0}
IsNoPass (Refuses fault) = Unit {0}
IsNoPass (Declines fault) = Unit {0}
IsNoPass (Finds found) = Unit {0}
IsNoPass (Changes said next) = Unit {0}

-- usable, with this map and these bounds
abbrev pub at : Contents → Bounds → Option Fault → Pass → Bool → State
at map bounds error pass writable = record {
  map = map;
  bounds = bounds;
  error = error;
  pass = pass;
  writable = writable;
  usable = true;
}

module _ (pages : ℕ) (map : Contents) (bounds : Bounds) (error other : Option Fault)
    (pass place : Pass) where
  abbrev s : State
  s = at map bounds error pass true

  abbrev t : State
  t = at map bounds other place true

  either : (b : Bool) (x y u v : Case) → x ≡ moved t u → y ≡ moved t v
      → cond b x y ≡ moved t (cond b u v)
  either true x y u v is_x is_y = is_x
  either false x y u v is_x is_y = is_y

  stored_alike : (key content : List ℕ) (mode : Mode) (old : Option (List ℕ))
      → stored t key content mode old ≡ moved t (stored s key content mode old)
  stored_alike key content Insert (Some old) = refl
  stored_alike key content Replace (Some old) = refl
  stored_alike key content Insert None =
      either (nat_le bounds.limit (len map)) _ _ _ _ refl refl
  stored_alike key content Replace None =
      either (nat_le bounds.limit (len map)) _ _ _ _ refl refl

  deleted_alike : (key : Key) (old : Option (List ℕ))
      → deleted t key old ≡ moved t (deleted s key old)
  deleted_alike key None = refl
  deleted_alike key (Some content) = refl

  raised_alike : (version : Version) → raised pages t version ≡ moved t (raised pages s version)
  raised_alike V1 = either (nat_lt pages (2 * home (upgraded bounds))) _ _ _ _ refl refl
  raised_alike V2 = refl

  pub alike : (call : Call) → IsChange call
      → usable_case pages t call ≡ moved t (usable_case pages s call)
  alike (Store key content mode) is = either (is_allowed bounds.version (key, content)) _ _ _ _
      (stored_alike key content mode (get map key)) refl
  alike (Delete key) is = deleted_alike key (get map key)
  alike Upgrade is = raised_alike bounds.version
  alike (Fetch key) is = absurd is
  alike First is = absurd is
  alike Next is = absurd is
  alike Error is = absurd is
  alike Clear is = absurd is

  one_of : (b : Bool) (x y : Case) → IsNoPass x → IsNoPass y → IsNoPass (cond b x y)
  one_of true x y is_x is_y = is_x
  one_of false x y is_x is_y = is_y

  stored_rests : (key content : List ℕ) (mode : Mode) (old : Option (List ℕ))
      → IsNoPass (stored s key content mode old)
  stored_rests key content Insert (Some old) = tt
  stored_rests key content Replace (Some old) = tt
  stored_rests key content Insert None = one_of (nat_le bounds.limit (len map)) _ _ tt tt
  stored_rests key content Replace None = one_of (nat_le bounds.limit (len map)) _ _ tt tt

  deleted_rests : (key : Key) (old : Option (List ℕ)) → IsNoPass (deleted s key old)
  deleted_rests key None = tt
  deleted_rests key (Some content) = tt

  raised_rests : (version : Version) → IsNoPass (raised pages s version)
  raised_rests V1 = one_of (nat_lt pages (2 * home (upgraded bounds))) _ _ tt tt
  raised_rests V2 = tt

  rests : (call : Call) → IsChange call → IsNoPass (usable_case pages s call)
  rests (Store key content mode) is = one_of (is_allowed bounds.version (key, content)) _ _
      (stored_rests key content mode (get map key)) tt
  rests (Delete key) is = deleted_rests key (get map key)
  rests Upgrade is = raised_rests bounds.version
  rests (Fetch key) is = absurd is
  rests First is = absurd is
  rests Next is = absurd is
  rests Error is = absurd is
  rests Clear is = absurd is

  moved_answer : (c : Case) (reply : Reply) (after : State) → IsNoPass c
      → is_refused reply ≡ false → Answers s c reply after
      → Answers t (moved t c) reply (record t { map = after.map; bounds = after.bounds })
  moved_answer (Tells said left) reply after rests well is =
      (is.0, ap (λ (a : State). record t { map = a.map; bounds = a.bounds }) is.1)
  moved_answer (Refuses fault) reply after rests well is = never reply _ well is.0
  moved_answer (Declines fault) reply after rests well is = never reply _ well is.0
  moved_answer (Finds found) reply after rests well is =
      (is.0, ap (λ (a : State). record t { map = a.map; bounds = a.bounds }) is.1)
  moved_answer (Passes from) reply after rests well is = absurd rests
  moved_answer (Changes said next) reply after rests well is =
      (is.0, ap (λ (a : State). record t { map = a.map; bounds = a.bounds }) is.1)

-- a handle for reading refuses it
pub read_only : (pages : ℕ) (map : Contents) (bounds : Bounds) (error : Option Fault) (pass : Pass)
    (call : Call) → IsChange call
    → usable_case pages (at map bounds error pass false) call ≡ Refuses ReadOnly
read_only pages map bounds error pass (Store key content mode) is = refl
read_only pages map bounds error pass (Delete key) is = refl
read_only pages map bounds error pass Upgrade is = refl
read_only pages map bounds error pass (Fetch key) is = absurd is
read_only pages map bounds error pass First is = absurd is
read_only pages map bounds error pass Next is = absurd is
read_only pages map bounds error pass Error is = absurd is
read_only pages map bounds error pass Clear is = absurd is

-- a change that was answered, at another state of the map that is open for changes
pub change_moves : (pages : ℕ) (map : Contents) (bounds : Bounds) (error other : Option Fault)
    (pass place : Pass) (writable : Bool) (call : Call) (reply : Reply) (after : State)
    → IsChange call → is_refused reply ≡ false
    → Answers (at map bounds error pass writable) (usable_case pages (at map bounds error pass writable) call) reply after
    → Answers (at map bounds other place true) (usable_case pages (at map bounds other place true) call) reply
    (record (at map bounds other place true) { map = after.map; bounds = after.bounds })
change_moves pages map bounds error other pass place true call reply after changing well is =
    let s = at map bounds error pass true in
    let t = at map bounds other place true in
    subst (λ (c : Case). Answers t c reply (record t { map = after.map; bounds = after.bounds }))
    (sym (alike pages map bounds error other pass place call changing))
    (moved_answer pages map bounds error other pass place (usable_case pages s call) reply after
    (rests pages map bounds error other pass place call changing) well is)
change_moves pages map bounds error other pass place false call reply after changing well is =
    let s = at map bounds error pass false in
    let refused : Answers s (Refuses ReadOnly) reply after =
    subst (λ (c : Case). Answers s c reply after)
    (read_only pages map bounds error pass call changing) is in
    never reply ReadOnly well refused.0

-- ---- calls that read

abbrev pub IsReading : Call → Type 0
IsReading (Fetch key) = Unit {0}
IsReading First = Unit {0}
IsReading Next = Unit {0}
IsReading (Store key content mode) = ⊥
IsReading (Delete key) = ⊥
IsReading Error = ⊥
IsReading Clear = ⊥
IsReading Upgrade = ⊥

-- with no error, and open for changes
abbrev pub cleared : State → State
cleared s = record s { error = None; writable = true }

fetch_clears : (s after : State) (reply : Reply) (old : Option (List ℕ))
    → Answers s (fetched old) reply after
    → Answers (cleared s) (fetched old) reply (cleared after)
fetch_clears s after reply None is = (is.0, ap cleared is.1)
fetch_clears s after reply (Some content) is = (is.0, ap cleared is.1)

gives_clears : (s after : State) (from : Pass) (reply : Reply) → GivesKey s from reply after
    → GivesKey (cleared s) from reply (cleared after)
gives_clears s after from reply (inl end) = inl (end.0, end.1, ap cleared end.2)
gives_clears s after from reply (inr given) =
    inr (given.0, given.1, given.2, ap cleared given.3)

next_clears : (s after : State) (from : Pass) (reply : Reply) → is_refused reply ≡ false
    → Answers s (passed from) reply after → Answers (cleared s) (passed from) reply (cleared after)
next_clears s after NotBegun reply well is = never reply _ well is.0
next_clears s after Begun reply well is = gives_clears s after Begun reply is
next_clears s after (Behind last) reply well is = gives_clears s after (Behind last) reply is

pub reading_clears : (pages : ℕ) (s after : State) (call : Call) (reply : Reply) → IsReading call
    → is_refused reply ≡ false → Answers s (usable_case pages s call) reply after
    → Answers (cleared s) (usable_case pages (cleared s) call) reply (cleared after)
reading_clears pages s after (Fetch key) reply is well answers =
    fetch_clears s after reply (get s.map key) answers
reading_clears pages s after First reply is well answers =
    gives_clears s after Begun reply answers
reading_clears pages s after Next reply is well answers =
    next_clears s after s.pass reply well answers
reading_clears pages s after (Store key content mode) reply is well answers = absurd is
reading_clears pages s after (Delete key) reply is well answers = absurd is
reading_clears pages s after Error reply is well answers = absurd is
reading_clears pages s after Clear reply is well answers = absurd is
reading_clears pages s after Upgrade reply is well answers = absurd is

-- ---- what is acknowledged is a change

fetch_tells : (s after : State) (reply : Reply) (old : Option (List ℕ))
    → Answers s (fetched old) reply after → is_acknowledged reply ≡ true → ⊥
fetch_tells s after reply None is done = let x = sym done ∙ ap is_acknowledged is.0 in cc
fetch_tells s after reply (Some content) is done =
    let x = sym done ∙ ap is_acknowledged is.0 in cc

pass_tells : (s after : State) (from : Pass) (reply : Reply) → GivesKey s from reply after
    → is_acknowledged reply ≡ true → ⊥
pass_tells s after from reply (inl end) done = let x = sym done ∙ ap is_acknowledged end.1 in cc
pass_tells s after from reply (inr given) done =
    let x = sym done ∙ ap is_acknowledged given.2 in cc

next_tells : (s after : State) (from : Pass) (reply : Reply) → Answers s (passed from) reply after
    → is_acknowledged reply ≡ true → ⊥
next_tells s after NotBegun reply is done = let x = sym done ∙ ap is_acknowledged is.0 in cc
next_tells s after Begun reply is done = pass_tells s after Begun reply is done
next_tells s after (Behind last) reply is done = pass_tells s after (Behind last) reply is done

pub is_change : (pages : ℕ) (s after : State) (call : Call) (reply : Reply)
    → is_acknowledged reply ≡ true → Answers s (usable_case pages s call) reply after → IsChange call
is_change pages s after (Store key content mode) reply done is = tt
is_change pages s after (Delete key) reply done is = tt
is_change pages s after Upgrade reply done is = tt
is_change pages s after (Fetch key) reply done is =
    absurd (fetch_tells s after reply (get s.map key) is done)
is_change pages s after First reply done is = absurd (pass_tells s after Begun reply is done)
is_change pages s after Next reply done is = absurd (next_tells s after s.pass reply is done)
is_change pages s after Error reply done is =
    absurd (let x = sym done ∙ ap is_acknowledged is.0 in cc)
is_change pages s after Clear reply done is =
    absurd (let x = sym done ∙ ap is_acknowledged is.0 in cc)

-- ---- steps

-- a call that is answered by its rule is a step of each handle at that state
pub run_step : (pages : ℕ) (h : Handle) (s after : State) (call : Call) (reply : Reply)
    → h.state ≡ s → h.capacity ≡ pages → Answers s (case_for pages s call) reply after →
    (next : Handle) × (next.state ≡ after) × (next.capacity ≡ pages)
    × (next.faults ≡ h.faults) × Step h call reply next
run_step pages h s after call reply at_state room is =
    let here : Answers h.state (case_of h call) reply after =
    subst (λ (t : State). Answers t (case_for h.capacity t call) reply after) (sym at_state)
    (subst (λ (n : ℕ). Answers s (case_for n s call) reply after) (sym room) is) in (
      record h { state = after; buckets = h.buckets + buckets_added h reply (len after.map) },
      refl,
      room,
      refl,
      record {
        counts = omega arith;
        capacity = refl;
        pages = (omega arith, omega arith);
        bounded = inl refl;
        buckets = refl;
        answers = inl here;
      },
    )

-- the rule by which a step answered that isn't a refusal
pub by_rule : (pages : ℕ) (first last : Handle) (s after : State) (call : Call) (reply : Reply)
    → first.state ≡ s → first.capacity ≡ pages → last.state ≡ after → is_refused reply ≡ false
    → Step first call reply last → Answers s (case_for pages s call) reply after
by_rule pages first last s after call reply at_state room ends well step =
    subst (λ (a : State). Answers s (case_for pages s call) reply a) ends
    (subst (λ (n : ℕ). Answers s (case_for n s call) reply last.state) room
    (subst (λ (t : State). Answers t (case_for first.capacity t call) reply last.state) at_state
    (⊎_elim (λ is. is)
    (λ bad. absurd (not_suffered first last call (case_of first call) reply well bad)) step.answers)))
