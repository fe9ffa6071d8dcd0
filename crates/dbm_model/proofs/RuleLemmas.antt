-- What a step says, by the rule that the call falls under.
use Rattle.std.proofs.Common.{◌≡◌, ◌⊎◌, inl, inr, ℕ, ◌≤◌, List, Bool, true, false, cond, not, Option, Some, None, refl, sym, ◌∙◌, ap, subst}
use Rattle.std.proofs.lemmas.Bool.{le-leb}
use Rattle.std.specs.FinMap.{get, insert, len}
use Rattle.dbm_model.specs.Calls.{Mode, Insert, Replace, Call, Store, Fetch, Delete, First, Next, Error, Clear, Upgrade, Reply, Stored, Kept, Absent, Refused, Fault, Device, Broken, ReadOnly, TooLong, Full}
use Rattle.dbm_model.specs.Pairs.{Key, is_allowed, IsAllowed}
use Rattle.dbm_model.specs.States.{State, Handle}
use Rattle.dbm_model.specs.Steps.{Case, Refuses, Declines, Finds, Changes, with_map, stored, deleted, raised, takes_memory, store_takes, holds_far, usable_case, broken_case, case_of, Answers, Suffers, Step}
use Rattle.dbm_model.specs.Refusals.{MayChange, BrokenRefuses, ReadingRefuses, TooLongIsRefused, InsertKeeps, FullIsRefused, AbsentIsTold}

-- a step by the rule that the call falls under
abbrev pub ByCase : Handle → Call → Case → Reply → Handle → Type 0
ByCase before call c reply after =
    Answers before.state c reply after.state ⊎ Suffers before call c reply after

pub falls : (before after : Handle) (call : Call) (reply : Reply) (c : Case)
    → case_of before call ≡ c → Step before call reply after → ByCase before call c reply after
falls before after call reply c is step =
    subst (λ (d : Case). ByCase before call d reply after) is step.answers

pub if_usable : (h : Handle) (call : Call) → h.state.usable ≡ true
    → case_of h call ≡ usable_case h.capacity h.state call
if_usable h call usable = ap (λ b.
    cond b (usable_case h.capacity h.state call) (broken_case h.capacity h.state call)) usable

pub if_broken : (h : Handle) (call : Call) → h.state.usable ≡ false
    → case_of h call ≡ broken_case h.capacity h.state call
if_broken h call broken = ap (λ b.
    cond b (usable_case h.capacity h.state call) (broken_case h.capacity h.state call)) broken

refused_by : (before after : Handle) (call : Call) (reply : Reply) (fault : Fault)
    → ByCase before call (Refuses fault) reply after → reply ≡ Refused fault
refused_by before after call reply fault (inl is) = is.0
refused_by before after call reply fault (inr is) = absurd is

found_or_failed : (before after : Handle) (call : Call) (reply found : Reply)
    → takes_memory before call ≡ false → ByCase before call (Finds found) reply after
    → (reply ≡ found) ⊎ (reply ≡ Refused Device)
found_or_failed before after call reply found none (inl is) = inl is.0
found_or_failed before after call reply found none (inr (inl fails)) = inr fails.0
found_or_failed before after call reply found none (inr (inr memory)) =
    absurd (let both = sym memory.2 ∙ none in cc)

declined_or_failed : (before after : Handle) (call : Call) (reply : Reply) (fault : Fault)
    → ByCase before call (Declines fault) reply after
    → (reply ≡ Refused fault) ⊎ (reply ≡ Refused Device)
declined_or_failed before after call reply fault (inl is) = inl is.0
declined_or_failed before after call reply fault (inr is) = inr is.0

pub broken_refuses : BrokenRefuses
broken_refuses before after (Store key content mode) reply step broken =
    inr (inr (refused_by before after (Store key content mode) reply Broken
    (falls before after (Store key content mode) reply (Refuses Broken)
    (if_broken before (Store key content mode) broken) step)))
broken_refuses before after (Fetch key) reply step broken =
    inr (inr (refused_by before after (Fetch key) reply Broken
    (falls before after (Fetch key) reply (Refuses Broken)
    (if_broken before (Fetch key) broken) step)))
broken_refuses before after (Delete key) reply step broken =
    inr (inr (refused_by before after (Delete key) reply Broken
    (falls before after (Delete key) reply (Refuses Broken)
    (if_broken before (Delete key) broken) step)))
broken_refuses before after First reply step broken =
    inr (inr (refused_by before after First reply Broken
    (falls before after First reply (Refuses Broken)
    (if_broken before First broken) step)))
broken_refuses before after Next reply step broken =
    inr (inr (refused_by before after Next reply Broken
    (falls before after Next reply (Refuses Broken)
    (if_broken before Next broken) step)))
broken_refuses before after Error reply step broken = inl refl
broken_refuses before after Clear reply step broken = inr (inl refl)
broken_refuses before after Upgrade reply step broken =
    inr (inr (refused_by before after Upgrade reply Broken
    (falls before after Upgrade reply (Refuses Broken)
    (if_broken before Upgrade broken) step)))

-- the rules of a store and of a delete, by what the handle may do
abbrev by_length : State → List ℕ → List ℕ → Mode → Case
by_length s key content mode =
    cond (is_allowed s.bounds.version (key, content)) (stored s key content mode (get s.map key))
    (Refuses TooLong)

store_falls : (h : Handle) (key content : List ℕ) (mode : Mode) (b : Bool) → h.state.usable ≡ true
    → h.state.writable ≡ b → case_of h (Store key content mode)
    ≡ cond (not b) (Refuses ReadOnly) (by_length h.state key content mode)
store_falls h key content mode b usable is =
    if_usable h (Store key content mode) usable
    ∙ ap (λ w. cond (not w) (Refuses ReadOnly) (by_length h.state key content mode)) is

delete_falls : (h : Handle) (key : Key) (b : Bool) → h.state.usable ≡ true → h.state.writable ≡ b
    → case_of h (Delete key)
    ≡ cond b (deleted h.state key (get h.state.map key)) (Refuses ReadOnly)
delete_falls h key b usable is =
    if_usable h (Delete key) usable
    ∙ ap (λ w. cond w (deleted h.state key (get h.state.map key)) (Refuses ReadOnly)) is

pub upgrade_falls : (h : Handle) (b : Bool) → h.state.usable ≡ true → h.state.writable ≡ b
    → case_of h Upgrade
    ≡ cond b (raised h.capacity h.state h.state.bounds.version) (Refuses ReadOnly)
upgrade_falls h b usable is =
    if_usable h Upgrade usable
    ∙ ap (λ w. cond w (raised h.capacity h.state h.state.bounds.version) (Refuses ReadOnly)) is

pub reading_refuses : ReadingRefuses
reading_refuses before after (Store key content mode) reply step usable reading changing =
    refused_by before after (Store key content mode) reply ReadOnly
    (falls before after (Store key content mode) reply (Refuses ReadOnly)
    (store_falls before key content mode false usable reading) step)
reading_refuses before after (Delete key) reply step usable reading changing =
    refused_by before after (Delete key) reply ReadOnly
    (falls before after (Delete key) reply (Refuses ReadOnly)
    (delete_falls before key false usable reading) step)
reading_refuses before after (Fetch key) reply step usable reading changing = absurd cc
reading_refuses before after First reply step usable reading changing = absurd cc
reading_refuses before after Next reply step usable reading changing = absurd cc
reading_refuses before after Error reply step usable reading changing = absurd cc
reading_refuses before after Clear reply step usable reading changing = absurd cc
reading_refuses before after Upgrade reply step usable reading changing =
    refused_by before after Upgrade reply ReadOnly
    (falls before after Upgrade reply (Refuses ReadOnly)
    (upgrade_falls before false usable reading) step)

length_falls : (h : Handle) (key content : List ℕ) (mode : Mode) (b : Bool) → MayChange h.state
    → is_allowed h.state.bounds.version (key, content) ≡ b
    → case_of h (Store key content mode)
    ≡ cond b (stored h.state key content mode (get h.state.map key)) (Refuses TooLong)
length_falls h key content mode b may is =
    store_falls h key content mode true may.usable may.writable
    ∙ ap (λ c. cond c (stored h.state key content mode (get h.state.map key)) (Refuses TooLong)) is

pub old_falls : (h : Handle) (key content : List ℕ) (mode : Mode) (old : Option (List ℕ))
    → MayChange h.state → IsAllowed h.state.bounds.version (key, content) → get h.state.map key ≡ old
    → case_of h (Store key content mode) ≡ stored h.state key content mode old
old_falls h key content mode old may allowed is =
    length_falls h key content mode true may allowed ∙ ap (stored h.state key content mode) is

pub too_long_refused : TooLongIsRefused
too_long_refused before after (Store key content mode) reply step may long =
    refused_by before after (Store key content mode) reply TooLong
    (falls before after (Store key content mode) reply (Refuses TooLong)
    (length_falls before key content mode false may long) step)
too_long_refused before after (Fetch key) reply step may long = absurd long
too_long_refused before after (Delete key) reply step may long = absurd long
too_long_refused before after First reply step may long = absurd long
too_long_refused before after Next reply step may long = absurd long
too_long_refused before after Error reply step may long = absurd long
too_long_refused before after Clear reply step may long = absurd long
too_long_refused before after Upgrade reply step may long = absurd long

pub insert_keeps : InsertKeeps
insert_keeps before after key content old reply step may allowed has =
    found_or_failed before after (Store key content Insert) reply Kept
    (ap (store_takes before key content Insert) has)
    (falls before after (Store key content Insert) reply (Finds Kept)
    (old_falls before key content Insert (Some old) may allowed has) step)

full_falls : (s : State) (key content : List ℕ) (mode : Mode) → s.bounds.limit ≤ len s.map
    → stored s key content mode None ≡ Declines Full
full_falls s key content Insert full =
    ap (λ b. cond b (Declines Full) (Changes Stored (with_map s (insert s.map key content))))
    (le-leb s.bounds.limit (len s.map) full)
full_falls s key content Replace full =
    ap (λ b. cond b (Declines Full) (Changes Stored (with_map s (insert s.map key content))))
    (le-leb s.bounds.limit (len s.map) full)

pub full_refused : FullIsRefused
full_refused before after key content mode reply step may allowed many =
    declined_or_failed before after (Store key content mode) reply Full
    (falls before after (Store key content mode) reply (Declines Full)
    (old_falls before key content mode None may allowed many.0
    ∙ full_falls before.state key content mode many.1) step)

pub absent_told : AbsentIsTold
absent_told before after key reply step may absent =
    found_or_failed before after (Delete key) reply Absent (ap (holds_far key) absent)
    (falls before after (Delete key) reply (Finds Absent)
    (delete_falls before key true may.usable may.writable
    ∙ ap (deleted before.state key) absent) step)
