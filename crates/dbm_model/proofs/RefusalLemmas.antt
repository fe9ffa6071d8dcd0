-- Why the rule that a call falls under refuses it, and what has to be refused.
use Rattle.std.proofs.Common.{◌≡◌, ◌⊎◌, inl, inr, ⊎_elim, ℕ, ◌+◌, ◌≤◌, List, length, true, false, cond, not, Option, Some, None, refl, sym, ap, subst}
use Rattle.std.specs.Prelude.{nat_le, nat_lt, ◌*◌}
use Rattle.std.proofs.lemmas.Bool.{leb-true, ltb-true, ltb-false, or_cases}
use Rattle.std.specs.FinMap.{get, insert, len}
use Rattle.dbm_model.specs.Bounds.{Bounds, Version as FileVersion, V1, V2, upgraded}
use Rattle.dbm_model.specs.Calls.{Mode, Insert, Replace, Call, Store, Fetch, Delete, First, Next, Error, Clear, Upgrade, Reply, Stored, Upgraded, Refused, Fault, Memory, Device, Broken, ReadOnly, TooLong, Full, NoPass, NoRoom, Damaged, NotADatabase, Version, TooSmall, BadLimit, Missing, Exists, is_changing}
use Rattle.dbm_model.specs.Pairs.{Key, Contents, is_allowed, is_far}
use Rattle.dbm_model.specs.Sizes.{home}
use Rattle.dbm_model.specs.States.{Pass, NotBegun, Begun, Behind, Handle}
use Rattle.dbm_model.specs.Steps.{Case, Tells, Refuses, Declines, Finds, Passes, Changes, with_map, fetched, stored, deleted, passed, raised, usable_case, broken_case, case_of, holds_far, is_full, store_takes, takes_memory, Answers, Suffers}
use Rattle.dbm_model.specs.Refusals.{MayChange, IsTooLong, IsOneTooMany, IsUpgradeOfSmall, HasFar, NeedsMemory, IsDue, RefusesOnlyWhereDue}

-- the reason of a refusal that comes from the state and the room alone
abbrev Reason : Fault → Handle → Call → Type 0
Reason Broken h call = h.state.usable ≡ false
Reason ReadOnly h call =
    (h.state.usable ≡ true) × (h.state.writable ≡ false) × (is_changing call ≡ true)
Reason TooLong h call = MayChange h.state × IsTooLong h.state call
Reason Full h call = MayChange h.state × IsOneTooMany h.state.map h.state.bounds.limit call
Reason NoPass h call = (h.state.usable ≡ true) × (call ≡ Next) × (h.state.pass ≡ NotBegun)
Reason TooSmall h call = MayChange h.state × IsUpgradeOfSmall h call
Reason fault h call = ⊥

abbrev pub IsNoRefusal : Reply → Type 0
IsNoRefusal (Refused fault) = ⊥
IsNoRefusal reply = Unit {0}

-- to version 2, where there is the room that it asks for
pub record IsRaised (h : Handle) (call : Call) (bounds : Bounds) : Type 0 where
  pub upgrade : call ≡ Upgrade
  pub raised : bounds ≡ upgraded h.state.bounds
  pub room : 2 * home (upgraded h.state.bounds) ≤ h.capacity

-- they stay, or they are raised
abbrev pub AreDue : Handle → Call → Bounds → Type 0
AreDue h call bounds = (bounds ≡ h.state.bounds) ⊎ IsRaised h call bounds

-- what a rule says of the handle that it comes from
abbrev pub Explains : Handle → Call → Case → Type 0
Explains h call (Tells said told) = IsNoRefusal said
Explains h call (Refuses fault) = Reason fault h call
Explains h call (Declines fault) = (h.state.usable ≡ true) × Reason fault h call
Explains h call (Finds found) =
    (h.state.usable ≡ true) × IsNoRefusal found × (is_changing call ≡ true → h.state.writable ≡ true)
Explains h call (Passes from) = h.state.usable ≡ true
Explains h call (Changes said next) =
    MayChange h.state × (is_changing call ≡ true) × IsNoRefusal said × AreDue h call next.bounds

-- a new key, by whether there are as many pairs as the limit allows
new_explains : (h : Handle) (key content : List ℕ) (mode : Mode) → MayChange h.state
    → get h.state.map key ≡ None
    → Explains h (Store key content mode)
    (cond (nat_le h.state.bounds.limit (len h.state.map)) (Declines Full)
    (Changes Stored (with_map h.state (insert h.state.map key content))))
new_explains h key content mode may absent =
    elim (nat_le h.state.bounds.limit (len h.state.map)) as
    (λ b. nat_le h.state.bounds.limit (len h.state.map) ≡ b
    → Explains h (Store key content mode)
    (cond b (Declines Full) (Changes Stored (with_map h.state (insert h.state.map key content))))) [
      | true ↦ λ full. (
        may.usable,
        (may, (absent, leb-true h.state.bounds.limit (len h.state.map) full)),
      )
      | false ↦ λ room. (may, refl, tt, inl refl)
    ] refl

stored_explains : (h : Handle) (key content : List ℕ) (mode : Mode) (old : Option (List ℕ))
    → MayChange h.state → get h.state.map key ≡ old
    → Explains h (Store key content mode) (stored h.state key content mode old)
stored_explains h key content Insert (Some old) may has = (may.usable, tt, λ changing. may.writable)
stored_explains h key content Replace (Some old) may has = (may, refl, tt, inl refl)
stored_explains h key content Insert None may has = new_explains h key content Insert may has
stored_explains h key content Replace None may has = new_explains h key content Replace may has

deleted_explains : (h : Handle) (key : Key) (old : Option (List ℕ)) → MayChange h.state
    → Explains h (Delete key) (deleted h.state key old)
deleted_explains h key None may = (may.usable, tt, λ changing. may.writable)
deleted_explains h key (Some content) may = (may, refl, tt, inl refl)

fetched_explains : (h : Handle) (key : Key) (old : Option (List ℕ)) → h.state.usable ≡ true
    → Explains h (Fetch key) (fetched old)
fetched_explains h key None usable = (usable, tt, λ is. absurd (let x = is in cc))
fetched_explains h key (Some content) usable = (usable, tt, λ is. absurd (let x = is in cc))

passed_explains : (h : Handle) (pass : Pass) → h.state.usable ≡ true → h.state.pass ≡ pass
    → Explains h Next (passed pass)
passed_explains h NotBegun usable is = (usable, refl, is)
passed_explains h Begun usable is = usable
passed_explains h (Behind last) usable is = usable

-- an upgrade on a handle for changes, by its version
raised_explains : (h : Handle) (version : FileVersion) → MayChange h.state
    → h.state.bounds.version ≡ version → Explains h Upgrade (raised h.capacity h.state version)
raised_explains h V1 may is =
    elim (nat_lt h.capacity (2 * home (upgraded h.state.bounds))) as
    (λ b. nat_lt h.capacity (2 * home (upgraded h.state.bounds)) ≡ b
    → Explains h Upgrade (cond b (Refuses TooSmall)
    (Changes Upgraded (record h.state { bounds = upgraded h.state.bounds })))) [
      | true ↦ λ small. (
        may,
        record {
          upgrade = refl;
          first = is;
          small = ltb-true h.capacity (2 * home (upgraded h.state.bounds)) small;
        },
      )
      | false ↦ λ room. (
        may,
        refl,
        tt,
        inr (record {
          upgrade = refl;
          raised = refl;
          room = ltb-false h.capacity (2 * home (upgraded h.state.bounds)) room;
        }),
      )
    ] refl
raised_explains h V2 may is = tt

-- a store on a handle for changes, by its length
length_explains : (h : Handle) (key content : List ℕ) (mode : Mode) → MayChange h.state
    → Explains h (Store key content mode)
    (cond (is_allowed h.state.bounds.version (key, content))
    (stored h.state key content mode (get h.state.map key)) (Refuses TooLong))
length_explains h key content mode may =
    elim (is_allowed h.state.bounds.version (key, content)) as
    (λ b. is_allowed h.state.bounds.version (key, content) ≡ b
    → Explains h (Store key content mode)
    (cond b (stored h.state key content mode (get h.state.map key)) (Refuses TooLong))) [
      | true ↦ λ allowed. stored_explains h key content mode (get h.state.map key) may refl
      | false ↦ λ long. (may, long)
    ] refl

usable_explains : (h : Handle) (call : Call) → h.state.usable ≡ true
    → Explains h call (usable_case h.capacity h.state call)
usable_explains h (Store key content mode) usable =
    elim h.state.writable as (λ b. h.state.writable ≡ b
    → Explains h (Store key content mode)
    (cond (not b) (Refuses ReadOnly)
    (cond (is_allowed h.state.bounds.version (key, content))
    (stored h.state key content mode (get h.state.map key)) (Refuses TooLong)))) [
      | true ↦ λ writable. length_explains h key content mode
          (record { usable = usable; writable = writable })
      | false ↦ λ reading. (usable, reading, refl)
    ] refl
usable_explains h (Fetch key) usable = fetched_explains h key (get h.state.map key) usable
usable_explains h (Delete key) usable =
    elim h.state.writable as (λ b. h.state.writable ≡ b
    → Explains h (Delete key)
    (cond b (deleted h.state key (get h.state.map key)) (Refuses ReadOnly))) [
      | true ↦ λ writable. deleted_explains h key (get h.state.map key)
          (record { usable = usable; writable = writable })
      | false ↦ λ reading. (usable, reading, refl)
    ] refl
usable_explains h First usable = usable
usable_explains h Next usable = passed_explains h h.state.pass usable refl
usable_explains h Error usable = tt
usable_explains h Clear usable = tt
usable_explains h Upgrade usable =
    elim h.state.writable as (λ b. h.state.writable ≡ b
    → Explains h Upgrade
    (cond b (raised h.capacity h.state h.state.bounds.version) (Refuses ReadOnly))) [
      | true ↦ λ writable. raised_explains h h.state.bounds.version
          (record { usable = usable; writable = writable }) refl
      | false ↦ λ reading. (usable, reading, refl)
    ] refl

broken_explains : (h : Handle) (call : Call) → h.state.usable ≡ false
    → Explains h call (broken_case h.capacity h.state call)
broken_explains h (Store key content mode) broken = broken
broken_explains h (Fetch key) broken = broken
broken_explains h (Delete key) broken = broken
broken_explains h First broken = broken
broken_explains h Next broken = broken
broken_explains h Error broken = tt
broken_explains h Clear broken = tt
broken_explains h Upgrade broken = broken

pub explains : (h : Handle) (call : Call) → Explains h call (case_of h call)
explains h call = elim h.state.usable as
    (λ b. h.state.usable ≡ b → Explains h call
    (cond b (usable_case h.capacity h.state call) (broken_case h.capacity h.state call))) [
      | true ↦ usable_explains h call
      | false ↦ broken_explains h call
    ] refl

fault_in : Reply → Fault
fault_in (Refused fault) = fault
fault_in reply = Memory

-- the fault that was told is the one of the rule
pub same_fault : (fault other : Fault) → Refused fault ≡ Refused other → other ≡ fault
unfolding fault_in
same_fault fault other is = ap fault_in (sym is)

due_by_reason : (before after : Handle) (call : Call) (fault : Fault)
    → Reason fault before call → IsDue fault before call after
due_by_reason before after call Broken why = why
due_by_reason before after call ReadOnly why = why
due_by_reason before after call TooLong why = why
due_by_reason before after call Full why = why
due_by_reason before after call NoPass why = why
due_by_reason before after call Memory why = absurd why
due_by_reason before after call Device why = absurd why
due_by_reason before after call NoRoom why = absurd why
due_by_reason before after call Damaged why = absurd why
due_by_reason before after call NotADatabase why = absurd why
due_by_reason before after call Version why = absurd why
due_by_reason before after call TooSmall why = why
due_by_reason before after call BadLimit why = absurd why
due_by_reason before after call Missing why = absurd why
due_by_reason before after call Exists why = absurd why

by_reason : (before after : Handle) (call : Call) (fault other : Fault)
    → Refused fault ≡ Refused other → Reason other before call → IsDue fault before call after
by_reason before after call fault other is why =
    due_by_reason before after call fault
    (subst (λ f. Reason f before call) (same_fault fault other is) why)

due_answer : (before after : Handle) (call : Call) (c : Case) (fault : Fault)
    → Explains before call c → Answers before.state c (Refused fault) after.state
    → IsDue fault before call after
due_answer before after call (Tells said told) fault why is =
    absurd (subst IsNoRefusal (sym is.0) why)
due_answer before after call (Refuses other) fault why is =
    by_reason before after call fault other is.0 why
due_answer before after call (Declines other) fault why is =
    by_reason before after call fault other is.0 why.1
due_answer before after call (Finds found) fault why is =
    absurd (subst IsNoRefusal (sym is.0) why.1)
due_answer before after call (Passes from) fault why (inl end) =
    absurd (subst IsNoRefusal (sym end.1) tt)
due_answer before after call (Passes from) fault why (inr given) =
    absurd (subst IsNoRefusal (sym given.2) tt)
due_answer before after call (Changes said next) fault why is =
    absurd (subst IsNoRefusal (sym is.0) why.2)

-- the same of a fault that was told in the place of the answer
due_as : (before after : Handle) (call : Call) (fault other : Fault) → Refused fault ≡ Refused other
    → IsDue other before call after → IsDue fault before call after
due_as before after call fault other is due =
    subst (λ f. IsDue f before call after) (same_fault fault other is) due

-- a call that takes memory has a reason
found_far : (map : Contents) (key : Key) (old : Option (List ℕ)) → get map key ≡ old
    → holds_far key old ≡ true → HasFar map key
found_far map key None is far = absurd (let x = far in cc)
found_far map key (Some content) is far =
    (content, is, ltb-true 2026 (length key + length content) far)

store_needs : (h : Handle) (key content : List ℕ) (mode : Mode) (old : Option (List ℕ))
    → get h.state.map key ≡ old → store_takes h key content mode old ≡ true
    → NeedsMemory h (Store key content mode)
store_needs h key content Insert (Some old) is takes = absurd (let x = takes in cc)
store_needs h key content Replace (Some old) is takes =
    ⊎_elim (λ far. inr (inl (ltb-true 2026 (length key + length content) far)))
    (λ far. inr (inr (found_far h.state.map key (Some old) is far)))
    (or_cases (is_far (key, content)) (is_far (key, old)) takes)
store_needs h key content Insert None is takes =
    ⊎_elim (λ full. inl (is, leb-true (8 * h.buckets) (len h.state.map) full))
    (λ far. inr (inl (ltb-true 2026 (length key + length content) far)))
    (or_cases (is_full h) (is_far (key, content)) takes)
store_needs h key content Replace None is takes =
    ⊎_elim (λ full. inl (is, leb-true (8 * h.buckets) (len h.state.map) full))
    (λ far. inr (inl (ltb-true 2026 (length key + length content) far)))
    (or_cases (is_full h) (is_far (key, content)) takes)

needs : (h : Handle) (call : Call) → takes_memory h call ≡ true → NeedsMemory h call
needs h (Store key content mode) takes =
    store_needs h key content mode (get h.state.map key) refl takes
needs h (Fetch key) takes = found_far h.state.map key (get h.state.map key) refl takes
needs h (Delete key) takes = found_far h.state.map key (get h.state.map key) refl takes
needs h First takes = absurd (let x = takes in cc)
needs h Next takes = absurd (let x = takes in cc)
needs h Error takes = absurd (let x = takes in cc)
needs h Clear takes = absurd (let x = takes in cc)
needs h Upgrade takes = absurd (let x = takes in cc)

due_suffered : (before after : Handle) (call : Call) (c : Case) (fault : Fault)
    → Explains before call c → Suffers before call c (Refused fault) after
    → IsDue fault before call after
due_suffered before after call (Tells said told) fault why is = absurd is
due_suffered before after call (Refuses other) fault why is = absurd is
due_suffered before after call (Declines other) fault why is =
    due_as before after call fault Device is.0 (why.0, is.1)
due_suffered before after call (Finds found) fault why (inl fails) =
    due_as before after call fault Device fails.0 (why.0, fails.1)
due_suffered before after call (Finds found) fault why (inr memory) =
    due_as before after call fault Memory memory.0 (why.0, why.2, needs before call memory.2)
due_suffered before after call (Passes from) fault why is =
    due_as before after call fault Device is.0 (why, is.1)
due_suffered before after call (Changes said next) fault why (inl fails) =
    due_as before after call fault Device fails.0 (why.0.usable, fails.1)
due_suffered before after call (Changes said next) fault why (inr (inl breaks)) =
    due_as before after call fault Device breaks.0 (why.0.usable, breaks.1)
due_suffered before after call (Changes said next) fault why (inr (inr (inl memory))) =
    due_as before after call fault Memory memory.0
    (why.0.usable, (λ changing. why.0.writable), needs before call memory.2)
due_suffered before after call (Changes said next) fault why (inr (inr (inr room))) =
    due_as before after call fault NoRoom room.0 (why.0, why.1, room.1)

pub refuses_where_due : RefusesOnlyWhereDue
refuses_where_due before after call fault step =
    ⊎_elim (due_answer before after call (case_of before call) fault
    (explains before call))
    (due_suffered before after call (case_of before call) fault (explains before call))
    step.answers
