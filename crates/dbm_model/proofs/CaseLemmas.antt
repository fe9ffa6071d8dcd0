-- What the rule that a call falls under does to the map.
use Rattle.std.proofs.Common.{◌≡◌, ◌⊎◌, inl, inr, ⊎_elim, ℕ, List, true, false, cond, not, Option, Some, None, refl, sym, ◌∙◌, ap}
use Rattle.std.specs.Prelude.{nat_le, nat_lt, ◌*◌}
use Rattle.std.specs.FinMap.{get, insert, len}
use Rattle.dbm_model.specs.Bounds.{Bounds, Version, V1, V2, upgraded}
use Rattle.dbm_model.specs.Calls.{Mode, Insert, Replace, Call, Store, Fetch, Delete, First, Next, Error, Clear, Upgrade, Reply, Stored, Bytes, End, Refused, Device, ReadOnly, TooLong, Full, Memory, NoRoom, TooSmall, Upgraded, Fault, is_changing}
use Rattle.dbm_model.specs.Changes.{map_after, map_asked, bounds_after, bounds_asked, OnlyAcknowledgedChanges, OnlyUpgradesRaise, IsOld, IsAsked, OnlyChangesBreak}
use Rattle.dbm_model.specs.Pairs.{Key, Contents, is_allowed}
use Rattle.dbm_model.specs.Sizes.{home}
use Rattle.dbm_model.specs.States.{State, Pass, NotBegun, Begun, Behind, Handle, flagged}
use Rattle.dbm_model.specs.Steps.{Case, Tells, Refuses, Declines, Finds, Passes, Changes, with_map, fetched, stored, deleted, passed, raised, usable_case, broken_case, case_of, Answers, Suffers}

-- a refusal, a key or the end is no acknowledgement
after_refused : (map : Contents) (call : Call) (fault : Fault)
    → map ≡ map_after map call (Refused fault)
after_refused map (Store key content mode) fault = refl
after_refused map (Fetch key) fault = refl
after_refused map (Delete key) fault = refl
after_refused map First fault = refl
after_refused map Next fault = refl
after_refused map Error fault = refl
after_refused map Clear fault = refl
after_refused map Upgrade fault = refl

after_key : (map : Contents) (call : Call) (bytes : List ℕ) → map ≡ map_after map call (Bytes bytes)
after_key map (Store key content mode) bytes = refl
after_key map (Fetch key) bytes = refl
after_key map (Delete key) bytes = refl
after_key map First bytes = refl
after_key map Next bytes = refl
after_key map Error bytes = refl
after_key map Clear bytes = refl
after_key map Upgrade bytes = refl

after_end : (map : Contents) (call : Call) → map ≡ map_after map call End
after_end map (Store key content mode) = refl
after_end map (Fetch key) = refl
after_end map (Delete key) = refl
after_end map First = refl
after_end map Next = refl
after_end map Error = refl
after_end map Clear = refl
after_end map Upgrade = refl

-- the same of the bounds
bounds_refused : (bounds : Bounds) (call : Call) (fault : Fault)
    → bounds ≡ bounds_after bounds call (Refused fault)
bounds_refused bounds (Store key content mode) fault = refl
bounds_refused bounds (Fetch key) fault = refl
bounds_refused bounds (Delete key) fault = refl
bounds_refused bounds First fault = refl
bounds_refused bounds Next fault = refl
bounds_refused bounds Error fault = refl
bounds_refused bounds Clear fault = refl
bounds_refused bounds Upgrade fault = refl

bounds_key : (bounds : Bounds) (call : Call) (bytes : List ℕ)
    → bounds ≡ bounds_after bounds call (Bytes bytes)
bounds_key bounds (Store key content mode) bytes = refl
bounds_key bounds (Fetch key) bytes = refl
bounds_key bounds (Delete key) bytes = refl
bounds_key bounds First bytes = refl
bounds_key bounds Next bytes = refl
bounds_key bounds Error bytes = refl
bounds_key bounds Clear bytes = refl
bounds_key bounds Upgrade bytes = refl

bounds_end : (bounds : Bounds) (call : Call) → bounds ≡ bounds_after bounds call End
bounds_end bounds (Store key content mode) = refl
bounds_end bounds (Fetch key) = refl
bounds_end bounds (Delete key) = refl
bounds_end bounds First = refl
bounds_end bounds Next = refl
bounds_end bounds Error = refl
bounds_end bounds Clear = refl
bounds_end bounds Upgrade = refl

-- bounds of version 2 are those that an upgrade asks for
second_stays : (bounds : Bounds) → bounds.version ≡ V2 → bounds ≡ upgraded bounds
second_stays bounds is = ap (λ v. record bounds { version = v }) is

-- a change of the map or the bounds, and of nothing else
pub record IsChange (s : State) (call : Call) (said : Reply) (next : State) : Type 0 where
  pub rest : next ≡ record s { map = next.map; bounds = next.bounds }
  pub map_is : next.map ≡ map_after s.map call said
  pub map_was_asked : next.map ≡ map_asked s.map call
  pub bounds_are : next.bounds ≡ bounds_after s.bounds call said
  pub bounds_were_asked : next.bounds ≡ bounds_asked s.bounds call
  pub changing : is_changing call ≡ true

-- what a rule says of the map
abbrev pub Suits : State → Call → Case → Type 0
Suits s call (Tells said told) =
    (told.map ≡ s.map) × (told.usable ≡ s.usable) × (s.map ≡ map_after s.map call said)
    × (told.bounds ≡ s.bounds) × (told.writable ≡ s.writable)
    × (s.bounds ≡ bounds_after s.bounds call said)
Suits s call (Refuses fault) = Unit {0}
Suits s call (Declines fault) = Unit {0}
Suits s call (Finds found) =
    (s.map ≡ map_after s.map call found) × (s.bounds ≡ bounds_after s.bounds call found)
Suits s call (Passes from) = Unit {0}
Suits s call (Changes said next) = IsChange s call said next

put : (s : State) (key content : List ℕ) (mode : Mode)
    → IsChange s (Store key content mode) Stored (with_map s (insert s.map key content))
put s key content mode = record {
  rest = refl;
  map_is = refl;
  map_was_asked = refl;
  bounds_are = refl;
  bounds_were_asked = refl;
  changing = refl;
}

stored_suits : (s : State) (key : Key) (content : List ℕ) (mode : Mode) (old : Option (List ℕ))
    → Suits s (Store key content mode) (stored s key content mode old)
stored_suits s key content Insert (Some old) = (refl, refl)
stored_suits s key content Replace (Some old) = put s key content Replace
stored_suits s key content Insert None =
    elim (nat_le s.bounds.limit (len s.map)) as
    (λ b. Suits s (Store key content Insert)
    (cond b (Declines Full) (Changes Stored (with_map s (insert s.map key content))))) [
      | true ↦
          tt
      | false ↦ put s key content Insert
    ]
stored_suits s key content Replace None =
    elim (nat_le s.bounds.limit (len s.map)) as
    (λ b. Suits s (Store key content Replace)
    (cond b (Declines Full) (Changes Stored (with_map s (insert s.map key content))))) [
      | true ↦
          tt
      | false ↦ put s key content Replace
    ]

deleted_suits : (s : State) (key : Key) (old : Option (List ℕ))
    → Suits s (Delete key) (deleted s key old)
deleted_suits s key None = (refl, refl)
deleted_suits s key (Some content) = record {
  rest = refl;
  map_is = refl;
  map_was_asked = refl;
  bounds_are = refl;
  bounds_were_asked = refl;
  changing = refl;
}

fetched_suits : (s : State) (key : Key) (old : Option (List ℕ)) → Suits s (Fetch key) (fetched old)
fetched_suits s key None = (refl, refl)
fetched_suits s key (Some content) = (refl, refl)

passed_suits : (s : State) (pass : Pass) → Suits s Next (passed pass)
passed_suits s NotBegun = tt
passed_suits s Begun = tt
passed_suits s (Behind last) = tt

raised_suits : (room : ℕ) (s : State) (version : Version) → s.bounds.version ≡ version
    → Suits s Upgrade (raised room s version)
raised_suits room s V1 is = elim (nat_lt room (2 * home (upgraded s.bounds))) as
    (λ b. Suits s Upgrade (cond b (Refuses TooSmall)
    (Changes Upgraded (record s { bounds = upgraded s.bounds })))) [
      | true ↦ tt
      | false ↦ record {
        rest = refl;
        map_is = refl;
        map_was_asked = refl;
        bounds_are = refl;
        bounds_were_asked = refl;
        changing = refl;
      }
    ]
raised_suits room s V2 is = (refl, refl, refl, refl, refl, second_stays s.bounds is)

usable_suits : (room : ℕ) (s : State) (call : Call) → Suits s call (usable_case room s call)
usable_suits room s (Store key content mode) =
    elim s.writable as (λ b. Suits s (Store key content mode)
    (cond (not b) (Refuses ReadOnly)
    (cond (is_allowed s.bounds.version (key, content))
    (stored s key content mode (get s.map key)) (Refuses TooLong)))) [
      | true ↦ elim (is_allowed s.bounds.version (key, content)) as
          (λ b. Suits s (Store key content mode)
          (cond b (stored s key content mode (get s.map key)) (Refuses TooLong))) [
            | true ↦ stored_suits s key content mode (get s.map key)
            | false ↦ tt
          ]
      | false ↦ tt
    ]
usable_suits room s (Fetch key) = fetched_suits s key (get s.map key)
usable_suits room s (Delete key) =
    elim s.writable as (λ b. Suits s (Delete key)
    (cond b (deleted s key (get s.map key)) (Refuses ReadOnly))) [
      | true ↦
          deleted_suits s key (get s.map key)
      | false ↦ tt
    ]
usable_suits room s First = tt
usable_suits room s Next = passed_suits s s.pass
usable_suits room s Error = (refl, refl, refl, refl, refl, refl)
usable_suits room s Clear = (refl, refl, refl, refl, refl, refl)
usable_suits room s Upgrade =
    elim s.writable as (λ b. Suits s Upgrade
    (cond b (raised room s s.bounds.version) (Refuses ReadOnly))) [
      | true ↦ raised_suits room s s.bounds.version refl
      | false ↦ tt
    ]

broken_suits : (room : ℕ) (s : State) (call : Call) → Suits s call (broken_case room s call)
broken_suits room s (Store key content mode) = tt
broken_suits room s (Fetch key) = tt
broken_suits room s (Delete key) = tt
broken_suits room s First = tt
broken_suits room s Next = tt
broken_suits room s Error = (refl, refl, refl, refl, refl, refl)
broken_suits room s Clear = (refl, refl, refl, refl, refl, refl)
broken_suits room s Upgrade = tt

pub suits : (h : Handle) (call : Call) → Suits h.state call (case_of h call)
suits h call = elim h.state.usable as
    (λ b. Suits h.state call
    (cond b (usable_case h.capacity h.state call) (broken_case h.capacity h.state call))) [
      | true ↦ usable_suits h.capacity h.state call
      | false ↦ broken_suits h.capacity h.state call
    ]

-- the reply and the map of what comes where nothing fails
answered : (s : State) (call : Call) (c : Case) (reply : Reply) (after : State) → Suits s call c
    → Answers s c reply after → after.map ≡ map_after s.map call reply
answered s call (Tells said told) reply after fits is =
    ap (λ (t : State). t.map) is.1 ∙ fits.0 ∙ fits.2 ∙ ap (map_after s.map call) (sym is.0)
answered s call (Refuses fault) reply after fits is =
    ap (λ (t : State). t.map) is.1 ∙ after_refused s.map call fault
    ∙ ap (map_after s.map call) (sym is.0)
answered s call (Declines fault) reply after fits is =
    ap (λ (t : State). t.map) is.1 ∙ after_refused s.map call fault
    ∙ ap (map_after s.map call) (sym is.0)
answered s call (Finds found) reply after fits is =
    ap (λ (t : State). t.map) is.1 ∙ fits.0 ∙ ap (map_after s.map call) (sym is.0)
answered s call (Passes from) reply after fits (inl end) =
    ap (λ (t : State). t.map) end.2 ∙ after_end s.map call ∙ ap (map_after s.map call) (sym end.1)
answered s call (Passes from) reply after fits (inr given) =
    ap (λ (t : State). t.map) given.3 ∙ after_key s.map call given.0
    ∙ ap (map_after s.map call) (sym given.2)
answered s call (Changes said next) reply after fits is =
    ap (λ (t : State). t.map) is.1 ∙ fits.map_is ∙ ap (map_after s.map call) (sym is.0)

raised_by : (s : State) (call : Call) (c : Case) (reply : Reply) (after : State) → Suits s call c
    → Answers s c reply after → after.bounds ≡ bounds_after s.bounds call reply
raised_by s call (Tells said told) reply after fits is =
    ap (λ (t : State). t.bounds) is.1 ∙ fits.3 ∙ fits.5 ∙ ap (bounds_after s.bounds call) (sym is.0)
raised_by s call (Refuses fault) reply after fits is =
    ap (λ (t : State). t.bounds) is.1 ∙ bounds_refused s.bounds call fault
    ∙ ap (bounds_after s.bounds call) (sym is.0)
raised_by s call (Declines fault) reply after fits is =
    ap (λ (t : State). t.bounds) is.1 ∙ bounds_refused s.bounds call fault
    ∙ ap (bounds_after s.bounds call) (sym is.0)
raised_by s call (Finds found) reply after fits is =
    ap (λ (t : State). t.bounds) is.1 ∙ fits.1 ∙ ap (bounds_after s.bounds call) (sym is.0)
raised_by s call (Passes from) reply after fits (inl end) =
    ap (λ (t : State). t.bounds) end.2 ∙ bounds_end s.bounds call
    ∙ ap (bounds_after s.bounds call) (sym end.1)
raised_by s call (Passes from) reply after fits (inr given) =
    ap (λ (t : State). t.bounds) given.3 ∙ bounds_key s.bounds call given.0
    ∙ ap (bounds_after s.bounds call) (sym given.2)
raised_by s call (Changes said next) reply after fits is =
    ap (λ (t : State). t.bounds) is.1 ∙ fits.bounds_are ∙ ap (bounds_after s.bounds call) (sym is.0)

-- a refusal of the device, of memory or of room leaves the map of a handle that stays usable
refused_map : (s after : State) (call : Call) (fault : Fault) (reply : Reply)
    → reply ≡ Refused fault → after ≡ flagged fault s → after.map ≡ map_after s.map call reply
refused_map s after call fault reply said is =
    ap (λ (t : State). t.map) is ∙ after_refused s.map call fault
    ∙ ap (map_after s.map call) (sym said)

suffered : (before after : Handle) (call : Call) (c : Case) (reply : Reply)
    → Suffers before call c reply after → after.state.usable ≡ true
    → after.state.map ≡ map_after before.state.map call reply
suffered before after call (Tells said told) reply is usable = absurd is
suffered before after call (Refuses fault) reply is usable = absurd is
suffered before after call (Declines fault) reply is usable =
    refused_map before.state after.state call Device reply is.0 is.2
suffered before after call (Finds found) reply (inl fails) usable =
    refused_map before.state after.state call Device reply fails.0 fails.2
suffered before after call (Finds found) reply (inr memory) usable =
    refused_map before.state after.state call Memory reply memory.0 memory.1
suffered before after call (Passes from) reply is usable =
    refused_map before.state after.state call Device reply is.0 is.2
suffered before after call (Changes said next) reply (inl fails) usable =
    refused_map before.state after.state call Device reply fails.0 fails.2
suffered before after call (Changes said next) reply (inr (inl breaks)) usable =
    absurd (let broken = ap (λ (t : State). t.usable) breaks.4 in cc)
suffered before after call (Changes said next) reply (inr (inr (inl memory))) usable =
    refused_map before.state after.state call Memory reply memory.0 memory.1
suffered before after call (Changes said next) reply (inr (inr (inr room))) usable =
    refused_map before.state after.state call NoRoom reply room.0 room.2

refused_bounds : (s after : State) (call : Call) (fault : Fault) (reply : Reply)
    → reply ≡ Refused fault → after ≡ flagged fault s
    → after.bounds ≡ bounds_after s.bounds call reply
refused_bounds s after call fault reply said is =
    ap (λ (t : State). t.bounds) is ∙ bounds_refused s.bounds call fault
    ∙ ap (bounds_after s.bounds call) (sym said)

unraised : (before after : Handle) (call : Call) (c : Case) (reply : Reply)
    → Suffers before call c reply after → after.state.usable ≡ true
    → after.state.bounds ≡ bounds_after before.state.bounds call reply
unraised before after call (Tells said told) reply is usable = absurd is
unraised before after call (Refuses fault) reply is usable = absurd is
unraised before after call (Declines fault) reply is usable =
    refused_bounds before.state after.state call Device reply is.0 is.2
unraised before after call (Finds found) reply (inl fails) usable =
    refused_bounds before.state after.state call Device reply fails.0 fails.2
unraised before after call (Finds found) reply (inr memory) usable =
    refused_bounds before.state after.state call Memory reply memory.0 memory.1
unraised before after call (Passes from) reply is usable =
    refused_bounds before.state after.state call Device reply is.0 is.2
unraised before after call (Changes said next) reply (inl fails) usable =
    refused_bounds before.state after.state call Device reply fails.0 fails.2
unraised before after call (Changes said next) reply (inr (inl breaks)) usable =
    absurd (let broken = ap (λ (t : State). t.usable) breaks.4 in cc)
unraised before after call (Changes said next) reply (inr (inr (inl memory))) usable =
    refused_bounds before.state after.state call Memory reply memory.0 memory.1
unraised before after call (Changes said next) reply (inr (inr (inr room))) usable =
    refused_bounds before.state after.state call NoRoom reply room.0 room.2

pub map_of_usable : OnlyAcknowledgedChanges
map_of_usable before after call reply step usable =
    ⊎_elim (answered before.state call (case_of before call) reply after.state
    (suits before call))
    (λ is. suffered before after call (case_of before call) reply is usable) step.answers

pub bounds_of_usable : OnlyUpgradesRaise
bounds_of_usable before after call reply step usable =
    ⊎_elim (raised_by before.state call (case_of before call) reply after.state
    (suits before call))
    (λ is. unraised before after call (case_of before call) reply is usable) step.answers

-- what answers without a fault leaves a usable handle usable
stays : (s : State) (call : Call) (c : Case) (reply : Reply) (after : State) → Suits s call c
    → Answers s c reply after → after.usable ≡ s.usable
stays s call (Tells said told) reply after fits is = ap (λ (t : State). t.usable) is.1 ∙ fits.1
stays s call (Refuses fault) reply after fits is = ap (λ (t : State). t.usable) is.1
stays s call (Declines fault) reply after fits is = ap (λ (t : State). t.usable) is.1
stays s call (Finds found) reply after fits is = ap (λ (t : State). t.usable) is.1
stays s call (Passes from) reply after fits (inl end) = ap (λ (t : State). t.usable) end.2
stays s call (Passes from) reply after fits (inr given) = ap (λ (t : State). t.usable) given.3
stays s call (Changes said next) reply after fits is =
    ap (λ (t : State). t.usable) (is.1 ∙ fits.rest)

abbrev BrokeBy : Handle → Call → Reply → Handle → Type 0
BrokeBy before call reply after =
    (is_changing call ≡ true) × (reply ≡ Refused Device)
    × (IsOld before after ⊎ IsAsked before call after)

still : (s after : State) (fault : Fault) → after ≡ flagged fault s → s.usable ≡ true
    → after.usable ≡ false → ⊥
still s after fault is was now = let same = ap (λ (t : State). t.usable) is in cc

broke : (before after : Handle) (call : Call) (c : Case) (reply : Reply) → Suits before.state call c
    → Suffers before call c reply after → before.state.usable ≡ true → after.state.usable ≡ false
    → BrokeBy before call reply after
broke before after call (Tells said told) reply fits is was now = absurd is
broke before after call (Refuses fault) reply fits is was now = absurd is
broke before after call (Declines fault) reply fits is was now =
    absurd (still before.state after.state Device is.2 was now)
broke before after call (Finds found) reply fits (inl fails) was now =
    absurd (still before.state after.state Device fails.2 was now)
broke before after call (Finds found) reply fits (inr memory) was now =
    absurd (still before.state after.state Memory memory.1 was now)
broke before after call (Passes from) reply fits is was now =
    absurd (still before.state after.state Device is.2 was now)
broke before after call (Changes said next) reply fits (inl fails) was now =
    absurd (still before.state after.state Device fails.2 was now)
broke before after call (Changes said next) reply fits (inr (inl breaks)) was now =
    let map = ap (λ (t : State). t.map) breaks.4 in
    let bounds = ap (λ (t : State). t.bounds) breaks.4 in (
      fits.changing,
      breaks.0,
      ⊎_elim
          (λ old. inl (
            map ∙ ap (λ (t : State). t.map) old,
            bounds ∙ ap (λ (t : State). t.bounds) old,
          ))
          (λ new. inr (
            map ∙ ap (λ (t : State). t.map) new ∙ fits.map_was_asked,
            bounds ∙ ap (λ (t : State). t.bounds) new ∙ fits.bounds_were_asked,
          )) breaks.3,
    )
broke before after call (Changes said next) reply fits (inr (inr (inl memory))) was now =
    absurd (still before.state after.state Memory memory.1 was now)
broke before after call (Changes said next) reply fits (inr (inr (inr room))) was now =
    absurd (still before.state after.state NoRoom room.2 was now)

pub breaks_by_change : OnlyChangesBreak
breaks_by_change before after call reply step was now =
    ⊎_elim (λ is. absurd (let same =
    stays before.state call (case_of before call) reply after.state
    (suits before call) is in cc))
    (λ is. broke before after call (case_of before call) reply (suits before call) is
    was now) step.answers
