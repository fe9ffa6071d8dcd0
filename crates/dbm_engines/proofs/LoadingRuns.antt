-- What a run of replacing stores does to a map.
use Rattle.std.proofs.Common.{◌≡◌, inl, inr, ⊎_elim, ℕ, T, List, [], ◌∷◌, ◌++◌, ◌&&◌, map, Bool, true, false, cond, not, Option, Some, None, refl, sym, ap, subst, ◌∙◌, append-nil, append_assoc}
use Rattle.std.specs.Prelude.{nat_le}
use Rattle.std.specs.Ordering.{is_lt, ordering_reverse}
use Rattle.std.specs.declared.cmp.Ordering.{Ordering}
use Rattle.std.specs.declared.cmp.Ordering.TheVariants.{Less, Equal, Greater}
use Rattle.std.specs.FinMap.{empty, entries, entries_sorted, entries-insert, same_entries_map, insert, get, len, len-entries, len-empty}
use Rattle.std.specs.FinMap.Entries.{is_sorted, below_all, put, by_order}
use Rattle.std.proofs.lemmas.Cmp.{nat_list_cmp_total}
use Rattle.std.proofs.lemmas.List.{nil_from_length}
use Rattle.dbm_model.specs.Calls.{Replace, Store, Stored, Kept, Refused, Fault, TooLong, ReadOnly, Full, Call}
use Rattle.dbm_model.specs.Changes.{replacing}
use Rattle.dbm_model.specs.Pairs.{Key, Pair, Contents, key_cmp, is_allowed}
use Rattle.dbm_model.specs.States.{State, Handle}
use Rattle.dbm_model.specs.Steps.{Case, Tells, Refuses, Declines, Finds, Passes, Changes, stored, usable_case, broken_case, case_of, Answers, Suffers, Step, Run, with_map}
use Rattle.dbm_model.proofs.StoreLemmas.{stored_map}

-- the rule doesn't answer that an old content stays
abbrev IsNoKept : Case → Type 0
IsNoKept (Tells said told) = said ≡ Kept → ⊥
IsNoKept (Refuses fault) = Unit {0}
IsNoKept (Declines fault) = Unit {0}
IsNoKept (Finds found) = found ≡ Kept → ⊥
IsNoKept (Passes left) = ⊥
IsNoKept (Changes said next) = said ≡ Kept → ⊥

refused_not_kept : (fault : Fault) → Kept ≡ Refused fault → ⊥
refused_not_kept fault e = cc

not_answered : (s : State) (c : Case) (after : State) → IsNoKept c → Answers s c Kept after → ⊥
not_answered s (Tells said told) after never is = never (sym is.0)
not_answered s (Refuses fault) after never is = refused_not_kept fault is.0
not_answered s (Declines fault) after never is = refused_not_kept fault is.0
not_answered s (Finds found) after never is = never (sym is.0)
not_answered s (Passes left) after never is = never
not_answered s (Changes said next) after never is = never (sym is.0)

not_suffered : (before after : Handle) (call : Call) (c : Case) → Suffers before call c Kept after
    → ⊥
not_suffered before after call (Tells said told) is = is
not_suffered before after call (Refuses fault) is = is
not_suffered before after call (Declines fault) is = refused_not_kept _ is.0
not_suffered before after call (Finds found) (inl fails) = refused_not_kept _ fails.0
not_suffered before after call (Finds found) (inr memory) = refused_not_kept _ memory.0
not_suffered before after call (Passes left) is = refused_not_kept _ is.0
not_suffered before after call (Changes said next) (inl fails) = refused_not_kept _ fails.0
not_suffered before after call (Changes said next) (inr (inl breaks)) = refused_not_kept _ breaks.0
not_suffered before after call (Changes said next) (inr (inr (inl memory))) =
    refused_not_kept _ memory.0
not_suffered before after call (Changes said next) (inr (inr (inr room))) = refused_not_kept _ room.0

stored_no_kept : (s : State) (key content : List ℕ) (old : Option (List ℕ))
    → IsNoKept (stored s key content Replace old)
stored_no_kept s key content (Some old) = λ e. cc
stored_no_kept s key content None =
    elim (nat_le s.bounds.limit (len s.map)) as
    (λ b. IsNoKept (cond b (Declines Full) (Changes Stored (with_map s (insert s.map key content))))) [
      | true ↦
          tt
      | false ↦ λ e. cc
    ]

usable_no_kept : (n : ℕ) (s : State) (key content : List ℕ)
    → IsNoKept (usable_case n s (Store key content Replace))
usable_no_kept n s key content =
    elim s.writable as (λ b. IsNoKept
    (cond (not b) (Refuses ReadOnly)
    (cond (is_allowed s.bounds.version (key, content))
    (stored s key content Replace (get s.map key)) (Refuses TooLong)))) [
      | true ↦ elim (is_allowed s.bounds.version (key, content)) as
          (λ b. IsNoKept (cond b (stored s key content Replace (get s.map key))
          (Refuses TooLong))) [
            | true ↦ stored_no_kept s key content (get s.map key)
            | false ↦ tt
          ]
      | false ↦ tt
    ]

no_kept : (h : Handle) (key content : List ℕ) → IsNoKept (case_of h (Store key content Replace))
no_kept h key content = elim h.state.usable as
    (λ b. IsNoKept (cond b (usable_case h.capacity h.state (Store key content Replace))
    (broken_case h.capacity h.state (Store key content Replace)))) [
      | true ↦ usable_no_kept h.capacity h.state key content
      | false ↦ tt
    ]

-- a replacing store is never answered so
pub never_kept : (before after : Handle) (key content : List ℕ)
    → Step before (Store key content Replace) Kept after → ⊥
never_kept before after key content step =
    let call = Store key content Replace in
    ⊎_elim (not_answered before.state (case_of before call) after.state
    (no_kept before key content))
    (not_suffered before after call (case_of before call)) step.answers

first : (a b : Bool) → T (a && b) → T a
first true b p = tt
first false b p = p

second : (a b : Bool) → T (a && b) → T b
second true b p = p
second false b p = absurd p

less : (o : Ordering) → T (is_lt o) → o ≡ Less
less Less p = refl
less Equal p = absurd p
less Greater p = absurd p

-- a key below all of a list is below each of it
below_one : (key : Key) (done : List Pair) (pair : Pair) (todo : List Pair)
    → T (below_all key_cmp key (done ++ pair ∷ todo)) → key_cmp key pair.0 ≡ Less
below_one key [] pair todo h = less (key_cmp key pair.0) (first _ _ h)
below_one key (e ∷ done) pair todo h = below_one key done pair todo (second _ _ h)

-- a pair whose key is above all goes to the end
put_last : (done : List Pair) (pair : Pair) (todo : List Pair)
    → T (is_sorted key_cmp (done ++ pair ∷ todo))
    → put key_cmp pair.0 pair.1 done ≡ done ++ pair ∷ []
put_last [] pair todo h = refl
put_last (e ∷ done) pair todo h =
    let above : key_cmp pair.0 e.0 ≡ Greater =
    nat_list_cmp_total.antisymm pair.0 e.0
    ∙ ap ordering_reverse (below_one e.0 done pair todo (first _ _ h)) in
    ap (λ (o : Ordering). by_order o ((pair.0, pair.1) ∷ e ∷ done) ((e.0, pair.1) ∷ done)
    (e ∷ put key_cmp pair.0 pair.1 done)) above
    ∙ ap (λ (rest : List Pair). e ∷ rest) (put_last done pair todo (second _ _ h))

-- pairs in ascending order of keys are stored one behind another
stored_behind : (done todo : List Pair) (before after : Handle)
    → T (is_sorted key_cmp (done ++ todo)) → entries before.state.map ≡ done
    → Run before (map replacing todo) (map (λ _. Stored) todo) after
    → entries after.state.map ≡ done ++ todo
stored_behind done [] before after sorted is run =
    ap (λ (h : Handle). entries h.state.map) run ∙ is ∙ sym (append-nil done)
stored_behind done (pair ∷ todo) before after sorted is run =
    let one : entries run.0.state.map ≡ done ++ pair ∷ [] =
    ap entries (stored_map before run.0 pair.0 pair.1 Replace run.1)
    ∙ entries-insert nat_list_cmp_total before.state.map pair.0 pair.1
    ∙ ap (put key_cmp pair.0 pair.1) is ∙ put_last done pair todo sorted in
    stored_behind (done ++ pair ∷ []) todo run.0 after
    (subst (λ (pairs : List Pair). T (is_sorted key_cmp pairs))
    (sym (append_assoc done (pair ∷ []) todo)) sorted) one run.2
    ∙ append_assoc done (pair ∷ []) todo

no_entries : entries (empty {X = List ℕ} {R = key_cmp}) ≡ []
no_entries = nil_from_length (entries (empty {X = List ℕ} {R = key_cmp}))
    (sym (len-entries (empty {X = List ℕ} {R = key_cmp})) ∙ len-empty key_cmp (List ℕ))

-- the pairs of a map, stored into the empty map in ascending order, give the map
pub fills : (contents : Contents) (before after : Handle) → before.state.map ≡ empty
    → Run before (map replacing (entries contents)) (map (λ _. Stored) (entries contents)) after
    → after.state.map ≡ contents
fills contents before after is run =
    same_entries_map after.state.map contents
    (stored_behind [] (entries contents) before after (entries_sorted contents)
    (ap entries is ∙ no_entries) run)
