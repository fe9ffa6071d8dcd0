-- What a database holds stays within its bounds.
use Rattle.std.proofs.Common.{◌≡◌, ⊎_elim, inl, inr, ℕ, ◌+◌, ◌-◌, ◌≤◌, Bool, true, false, cond, not, List, Option, Some, None, is_some, refl, sym, ◌∙◌, ap, subst, arith}
use Rattle.std.specs.Prelude.{nat_le, nat_lt, ◌*◌}
use Rattle.std.proofs.lemmas.Bool.{leb-false}
use Rattle.std.specs.Cmp.Lexicographic.{nat_list_cmp_total}
use Rattle.std.specs.FinMap.{get, insert, remove, len, get-insert, get-remove, len-insert, len-remove}
use Rattle.std.specs.Ordering.{eq_by_cmp}
use Rattle.dbm_model.specs.Bounds.{Bounds, Version, V1, V2, upgraded}
use Rattle.dbm_model.specs.Calls.{Mode, Insert, Replace, Call, Store, Fetch, Delete, First, Next, Error, Clear, Upgrade, Reply, Stored, ReadOnly, TooLong, Full, TooSmall, Upgraded}
use Rattle.dbm_model.specs.Holding.{IsWithin, StaysWithin}
use Rattle.dbm_model.specs.Pairs.{Contents, key_cmp, is_allowed, IsAllowed}
use Rattle.dbm_model.specs.Sizes.{home}
use Rattle.dbm_model.specs.States.{State, Pass, NotBegun, Begun, Behind, Handle}
use Rattle.dbm_model.specs.Steps.{Case, Tells, Refuses, Declines, Finds, Passes, Changes, with_map, fetched, stored, deleted, passed, raised, usable_case, broken_case, case_for, case_of, Answers, Suffers}
use Rattle.dbm_model.proofs.AllowedLemmas.{allowed_grows}
use Rattle.dbm_model.proofs.TimesLemmas.{same_key}

-- ---- of a map with a pair more, or one less

still_allowed : (s : State) (key content : List ℕ) → IsWithin s
    → IsAllowed s.bounds.version (key, content) → (other found : List ℕ)
    → get (insert s.map key content) other ≡ Some found → IsAllowed s.bounds.version (other, found)
still_allowed s key content within new other found has =
    by_tie (eq_by_cmp key_cmp other key) refl
    (sym (get-insert nat_list_cmp_total s.map key content other) ∙ has)
  where
    by_tie : (b : Bool) → eq_by_cmp key_cmp other key ≡ b
        → cond b (Some content) (get s.map other) ≡ Some found
        → IsAllowed s.bounds.version (other, found)
    by_tie true tied is = let same = same_key other key tied in
        subst (λ (k : List ℕ). IsAllowed s.bounds.version (k, found)) (sym same)
        (subst (λ (c : List ℕ). IsAllowed s.bounds.version (key, c)) (let x = is in cc) new)
    by_tie false tied is = within.allowed other found is

more_within : (s : State) (key content : List ℕ) → IsWithin s
    → IsAllowed s.bounds.version (key, content)
    → len (insert s.map key content) ≤ s.bounds.limit
    → IsWithin (with_map s (insert s.map key content))
more_within s key content within new few = record {
  few = few;
  allowed = still_allowed s key content within new;
}

less_within : (s : State) (key : List ℕ) → IsWithin s → IsWithin (with_map s (remove s.map key))
less_within s key within = record {
  few = by_there (is_some (get s.map key)) (len-remove nat_list_cmp_total s.map key);
  allowed = λ other found has.
      by_tie (eq_by_cmp key_cmp other key) other found
      (sym (get-remove nat_list_cmp_total s.map key other) ∙ has);
}
  where
    by_there : (b : Bool) → len (remove s.map key) ≡ cond b (len s.map - 1) (len s.map)
        → len (remove s.map key) ≤ s.bounds.limit
    by_there true is = omega (arith, is, within.few)
    by_there false is = omega (arith, is, within.few)

    by_tie : (b : Bool) (other found : List ℕ) → cond b None (get s.map other) ≡ Some found
        → IsAllowed s.bounds.version (other, found)
    by_tie true other found is = absurd (let x = is in cc)
    by_tie false other found is = within.allowed other found is

-- ---- what a rule makes of it

abbrev LeavesWithin : Case → Type 0
LeavesWithin (Tells said told) = IsWithin told
LeavesWithin (Changes said next) = IsWithin next
LeavesWithin rule = Unit {0}

stored_within : (s : State) (key content : List ℕ) (mode : Mode) (old : Option (List ℕ))
    → IsWithin s → IsAllowed s.bounds.version (key, content) → get s.map key ≡ old
    → LeavesWithin (stored s key content mode old)
stored_within s key content Insert (Some old) within new has = tt
stored_within s key content Replace (Some old) within new has =
    more_within s key content within new
    (omega (
      arith,
      within.few,
      len-insert nat_list_cmp_total s.map key content,
      ap (λ (o : Option (List ℕ)). cond (is_some o) (len s.map) (len s.map + 1)) has,
    ))
stored_within s key content mode None within new has =
    by_room (nat_le s.bounds.limit (len s.map)) refl
  where
    by_room : (b : Bool) → nat_le s.bounds.limit (len s.map) ≡ b
        → LeavesWithin (cond b (Declines Full) (Changes Stored (with_map s (insert s.map key content))))
    by_room true full = tt
    by_room false room = more_within s key content within new
        (omega (
          arith,
          leb-false s.bounds.limit (len s.map) room,
          len-insert nat_list_cmp_total s.map key content,
          ap (λ (o : Option (List ℕ)). cond (is_some o) (len s.map) (len s.map + 1)) has,
        ))

store_within : (s : State) (key content : List ℕ) (mode : Mode) (b : Bool) → IsWithin s
    → is_allowed s.bounds.version (key, content) ≡ b
    → LeavesWithin (cond b (stored s key content mode (get s.map key)) (Refuses TooLong))
store_within s key content mode true within new =
    stored_within s key content mode (get s.map key) within new refl
store_within s key content mode false within new = tt

delete_within : (s : State) (key : List ℕ) (old : Option (List ℕ)) → IsWithin s
    → LeavesWithin (deleted s key old)
delete_within s key None within = tt
delete_within s key (Some content) within = less_within s key within

fetch_within : (old : Option (List ℕ)) → LeavesWithin (fetched old)
fetch_within None = tt
fetch_within (Some content) = tt

next_within : (pass : Pass) → LeavesWithin (passed pass)
next_within NotBegun = tt
next_within Begun = tt
next_within (Behind last) = tt

raised_within : (capacity : ℕ) (s : State) (version : Version) → IsWithin s
    → s.bounds.version ≡ version → LeavesWithin (raised capacity s version)
raised_within capacity s V2 within is = within
raised_within capacity s V1 within is =
    by_room (nat_lt capacity (2 * home (upgraded s.bounds)))
  where
    by_room : (b : Bool) → LeavesWithin (cond b (Refuses TooSmall)
        (Changes Upgraded (record s { bounds = upgraded s.bounds })))
    by_room true = tt
    by_room false = record {
      few = within.few;
      allowed = λ key content has. allowed_grows (key, content)
          (subst (λ (v : Version). IsAllowed v (key, content)) is (within.allowed key content has));
    }

cleared_within : (s : State) → IsWithin s → IsWithin (record s { error = None })
cleared_within s within = record { few = within.few; allowed = within.allowed }

usable_within : (capacity : ℕ) (s : State) (call : Call) → IsWithin s
    → LeavesWithin (usable_case capacity s call)
usable_within capacity s (Store key content mode) within = by_access s.writable
  where
    by_access : (b : Bool) → LeavesWithin (cond (not b) (Refuses ReadOnly)
        (cond (is_allowed s.bounds.version (key, content))
        (stored s key content mode (get s.map key)) (Refuses TooLong)))
    by_access false = tt
    by_access true = store_within s key content mode
        (is_allowed s.bounds.version (key, content)) within refl
usable_within capacity s (Fetch key) within = fetch_within (get s.map key)
usable_within capacity s (Delete key) within = by_access s.writable
  where
    by_access : (b : Bool)
        → LeavesWithin (cond b (deleted s key (get s.map key)) (Refuses ReadOnly))
    by_access true = delete_within s key (get s.map key) within
    by_access false = tt
usable_within capacity s First within = tt
usable_within capacity s Next within = next_within s.pass
usable_within capacity s Error within = within
usable_within capacity s Clear within = cleared_within s within
usable_within capacity s Upgrade within = by_access s.writable
  where
    by_access : (b : Bool)
        → LeavesWithin (cond b (raised capacity s s.bounds.version) (Refuses ReadOnly))
    by_access true = raised_within capacity s s.bounds.version within refl
    by_access false = tt

broken_within : (capacity : ℕ) (s : State) (call : Call) → IsWithin s
    → LeavesWithin (broken_case capacity s call)
broken_within capacity s (Store key content mode) within = tt
broken_within capacity s (Fetch key) within = tt
broken_within capacity s (Delete key) within = tt
broken_within capacity s First within = tt
broken_within capacity s Next within = tt
broken_within capacity s Error within = within
broken_within capacity s Clear within = cleared_within s within
broken_within capacity s Upgrade within = tt

case_within : (capacity : ℕ) (s : State) (call : Call) → IsWithin s
    → LeavesWithin (case_for capacity s call)
case_within capacity s call within = by_use s.usable
  where
    by_use : (b : Bool) → LeavesWithin (cond b (usable_case capacity s call) (broken_case capacity s call))
    by_use true = usable_within capacity s call within
    by_use false = broken_within capacity s call within

-- ---- a step

-- a state of the same map and bounds
as_within : (s after : State) → IsWithin s → after.map ≡ s.map → after.bounds ≡ s.bounds
    → IsWithin after
as_within s after within map_is bounds_is = record {
  few = rw (map_is, bounds_is) within.few;
  allowed = λ key content has.
      subst (λ (b : Bounds). IsAllowed b.version (key, content)) (sym bounds_is)
      (within.allowed key content (ap (λ (m : Contents). get m key) (sym map_is) ∙ has));
}

same_within : (s state after : State) → IsWithin s → state.map ≡ s.map → state.bounds ≡ s.bounds
    → after ≡ state → IsWithin after
same_within s state after within map_is bounds_is is =
    as_within s after within (ap (λ (t : State). t.map) is ∙ map_is)
    (ap (λ (t : State). t.bounds) is ∙ bounds_is)

answered_within : (s : State) (c : Case) (reply : Reply) (after : State) → IsWithin s
    → LeavesWithin c → Answers s c reply after → IsWithin after
answered_within s (Tells said told) reply after within leaves is =
    subst IsWithin (sym is.1) leaves
answered_within s (Refuses fault) reply after within leaves is =
    same_within s _ after within refl refl is.1
answered_within s (Declines fault) reply after within leaves is =
    same_within s _ after within refl refl is.1
answered_within s (Finds found) reply after within leaves is =
    same_within s _ after within refl refl is.1
answered_within s (Passes from) reply after within leaves (inl end) =
    same_within s _ after within refl refl end.2
answered_within s (Passes from) reply after within leaves (inr given) =
    same_within s _ after within refl refl given.3
answered_within s (Changes said next) reply after within leaves is =
    subst IsWithin (sym is.1) leaves

suffered_within : (h after : Handle) (call : Call) (c : Case) (reply : Reply) → IsWithin h.state
    → LeavesWithin c → Suffers h call c reply after → IsWithin after.state
suffered_within h after call (Tells said told) reply within leaves is = absurd is
suffered_within h after call (Refuses fault) reply within leaves is = absurd is
suffered_within h after call (Declines fault) reply within leaves is =
    same_within h.state _ after.state within refl refl is.2
suffered_within h after call (Finds found) reply within leaves (inl fails) =
    same_within h.state _ after.state within refl refl fails.2
suffered_within h after call (Finds found) reply within leaves (inr memory) =
    same_within h.state _ after.state within refl refl memory.1
suffered_within h after call (Passes from) reply within leaves is =
    same_within h.state _ after.state within refl refl is.2
suffered_within h after call (Changes said next) reply within leaves (inl fails) =
    same_within h.state _ after.state within refl refl fails.2
suffered_within h after call (Changes said next) reply within leaves (inr (inl breaks)) =
    let left : IsWithin breaks.2 = ⊎_elim (λ is. subst IsWithin (sym is) within)
    (λ is. subst IsWithin (sym is) leaves) breaks.3 in
    same_within breaks.2 _ after.state left refl refl breaks.4
suffered_within h after call (Changes said next) reply within leaves (inr (inr (inl memory))) =
    same_within h.state _ after.state within refl refl memory.1
suffered_within h after call (Changes said next) reply within leaves (inr (inr (inr room))) =
    same_within h.state _ after.state within refl refl room.2

pub stays_within : StaysWithin
stays_within before after call reply within step =
    let leaves = case_within before.capacity before.state call within in
    ⊎_elim
    (λ is. answered_within before.state (case_of before call) reply after.state within leaves is)
    (λ is. suffered_within before after call (case_of before call) reply within leaves is)
    step.answers
