-- Small periods: handles, calls that were answered, and calls that were cut short.
use Rattle.std.proofs.Common.{◌≡◌, ◌≢◌, ◌⊎◌, inl, inr, ⊎_elim, ℕ, Bool, true, false, cond, refl, sym, ◌∙◌, ap, subst, arith, Option, Some, None, List}
use Rattle.std.specs.Prelude.{nat_eq, nat_le, is_some, IsSome}
use Rattle.std.proofs.lemmas.Bool.{eq-eqb, eqb-true}
use Rattle.std.specs.FinMap.{empty, get, insert, remove, get-empty, get-insert, get-remove, len-empty}
use Rattle.std.specs.Ordering.{eq_by_cmp}
use Rattle.dbm_model.specs.Bounds.{Bounds, in_v1}
use Rattle.dbm_model.specs.Calls.{Replace, Call, Store, Delete, Fault, Reply, Stored, Deleted}
use Rattle.dbm_model.specs.Examples.{one}
use Rattle.dbm_model.specs.Holding.{IsWithin}
use Rattle.dbm_model.specs.KeyOrder.{ComesBefore}
use Rattle.dbm_model.specs.Pairs.{Contents, Key, key_cmp}
use Rattle.dbm_model.specs.SessionExamples.{store}
use Rattle.dbm_model.specs.States.{State, Pass, NotBegun, Begun, Behind, fresh}
use Rattle.dbm_model.specs.Steps.{Case, Changes, deleted, case_for, Answers, IsNextKey, IsOver}
use Rattle.dbm_model.proofs.HoldingLemmas.{stays_within}
use Rattle.dbm_model.proofs.KeyOrderLemmas.{never_before_itself, never_back}
use Rattle.dbm_model.proofs.PassRuns.{a, b, a_before_b}
use Rattle.dbm_model.proofs.RunLemmas.{order, adds, none_yet, one_more}
use Rattle.dbm_model.proofs.SessionSample.{disk}
use Rattle.dbm_model.proofs.SessionSample as sample
use Rattle.dbm_model.proofs.TimesLemmas.{same_key, itself}
use Rattle.dbm_sharing.specs.Handles.{Own, Shared, state_of, IsHandleAt}
use Rattle.dbm_sharing.specs.Periods.{IsAnswered}
use Rattle.dbm_sharing.specs.Examples.{with_a, with_both}
use Rattle.dbm_sharing.proofs.Rules.{run_step}

-- ---- handles

abbrev pub eight : Bounds
eight = in_v1 8

abbrev pub over : Contents → (ℕ → Own) → Shared
over map own = record { map = map; bounds = eight; own = own }

-- a map within the limit
abbrev pub IsFine : Contents → Type 0
IsFine map = IsWithin (fresh map eight true)

pub is_handle : (map : Contents) (own : ℕ → Own) (who : ℕ) → IsFine map
    → IsHandleAt 8 (state_of (over map own) who) (sample.at (state_of (over map own) who))
is_handle map own who fine = record {
  state = refl;
  disk = disk;
  size = refl;
  is_on = record {
    capacity = refl;
    counts = omega arith;
    limited = (omega arith, omega arith);
    within = record { few = fine.few; allowed = λ key content has. fine.allowed key content has };
    light = omega (arith, fine.few);
    few_pages = omega arith;
  };
}

-- what this handle has now, and all others what they had
abbrev pub own_of : State → Own
own_of t = record { error = t.error; pass = t.pass; writable = t.writable }

abbrev pub with_own : (ℕ → Own) → ℕ → Own → (ℕ → Own)
with_own own who mine n = cond (nat_eq n who) mine (own n)

not_same : (n m : ℕ) → n ≢ m → nat_eq n m ≡ false
not_same n m differ = by_mark (nat_eq n m) refl
  where
    by_mark : (b : Bool) → nat_eq n m ≡ b → nat_eq n m ≡ false
    by_mark true is = absurd (differ (eqb-true n m is))
    by_mark false is = is

pub others : (own : ℕ → Own) (who : ℕ) (mine : Own) (other : ℕ) → other ≢ who
    → with_own own who mine other ≡ own other
others own who mine other differ =
    ap (λ (c : Bool). cond c mine (own other)) (not_same other who differ)

abbrev with_parts : State → Bounds → Bool → Own → State
with_parts t bounds usable mine = record {
  map = t.map;
  bounds = bounds;
  error = mine.error;
  pass = mine.pass;
  writable = mine.writable;
  usable = usable;
}

own_is : (own : ℕ → Own) (who : ℕ) (t : State) → t.bounds ≡ eight → t.usable ≡ true
    → t ≡ state_of (over t.map (with_own own who (own_of t))) who
own_is own who t bounds usable =
    ap (λ (x : Bounds). with_parts t x t.usable (own_of t)) bounds
    ∙ ap (λ (u : Bool). with_parts t eight u (own_of t)) usable
    ∙ ap (λ (c : Bool). with_parts t eight true (cond c (own_of t) (own who)))
    (sym (eq-eqb who who refl))

-- a call that is answered by its rule
pub answered : (map : Contents) (own : ℕ → Own) (who : ℕ) (call : Call) (c : Case) (reply : Reply)
    (t : State) → IsFine map → case_for 8 (state_of (over map own) who) call ≡ c
    → Answers (state_of (over map own) who) c reply t → t.bounds ≡ eight → t.usable ≡ true
    → IsAnswered 8 (over map own) who call reply (over t.map (with_own own who (own_of t)))
answered map own who call c reply t fine rule answers bounds usable =
    let s = state_of (over map own) who in
    let next = run_step 8 (sample.at s) s t call reply refl refl
    (subst (λ (d : Case). Answers s d reply t) (sym rule) answers) in
    record {
      first = sample.at s;
      begins = is_handle map own who fine;
      last = next.0;
      step = next.4;
      ends = next.1 ∙ own_is own who t bounds usable;
      others = others own who (own_of t);
    }

-- and what it leaves is within the limit
pub fine_after : (map : Contents) (call : Call) (c : Case) (reply : Reply) (t : State) → IsFine map
    → case_for 8 (fresh map eight true) call ≡ c → Answers (fresh map eight true) c reply t
    → t.bounds ≡ eight → IsFine t.map
fine_after map call c reply t fine rule answers bounds =
    let s = fresh map eight true in
    let next = run_step 8 (sample.at s) s t call reply refl refl
    (subst (λ (d : Case). Answers s d reply t) (sym rule) answers) in
    let within = subst IsWithin next.1 (stays_within (sample.at s) next.0 call reply fine next.4) in
    let there = subst (λ (x : Bounds). IsWithin (record t { bounds = x })) bounds within in
    record { few = there.few; allowed = λ key content has. there.allowed key content has }

-- ---- maps

abbrev pub x : List ℕ
x = one 0x01

pub none_fine : IsFine empty
none_fine = record {
  few = omega (arith, len-empty key_cmp (List ℕ));
  allowed = λ key content has. absurd (let e = sym (get-empty key_cmp key) ∙ has in cc);
}

pub store_rule : (error : Option Fault) (pass : Pass)
    → case_for 8 (record (fresh empty eight true) { error = error; pass = pass }) store
    ≡ Changes Stored (record (fresh with_a eight true) { error = error; pass = pass })
store_rule error pass = adds eight empty error pass a x refl (get-empty key_cmp a)
    (none_yet 8 (omega arith))

pub a_fine : IsFine with_a
a_fine = fine_after empty store (Changes Stored (fresh with_a eight true)) Stored (fresh with_a eight true)
    none_fine (store_rule None NotBegun) (refl, refl) refl

b_rule : case_for 8 (fresh with_a eight true) (Store b x Replace)
    ≡ Changes Stored (fresh with_both eight true)
b_rule = adds eight with_a None NotBegun b x refl
    (get-insert order empty a x b ∙ get-empty key_cmp b)
    (ap (nat_le 8) (one_more a x))

pub both_fine : IsFine with_both
both_fine = fine_after with_a (Store b x Replace) (Changes Stored (fresh with_both eight true)) Stored
    (fresh with_both eight true) a_fine b_rule (refl, refl) refl

pub has_a : get with_a a ≡ Some x
has_a = get-insert order empty a x a

pub both_have_a : get with_both a ≡ Some x
both_have_a = get-insert order with_a b x a ∙ has_a

pub both_have_b : get with_both b ≡ Some x
both_have_b = get-insert order with_a b x b

abbrev pub without : Key → Contents
without key = remove with_both key

pub fine_without : (key : Key) → get with_both key ≡ Some x → IsFine (without key)
fine_without key has = fine_after with_both (Delete key)
    (Changes Deleted (fresh (without key) eight true)) Deleted (fresh (without key) eight true)
    both_fine (ap (deleted (fresh with_both eight true) key) has) (refl, refl) refl

-- ---- their keys

none_there : (key : Key) → IsSome (get (empty {X = List ℕ} {R = key_cmp}) key) → ⊥
none_there key there = let none = sym there ∙ ap is_some (get-empty key_cmp key) in cc

in_inserted : (map : Contents) (name content : List ℕ) (key : Key)
    → IsSome (get (insert map name content) key) → (key ≡ name) ⊎ IsSome (get map key)
in_inserted map name content key there =
    by_tie (eq_by_cmp key_cmp key name) refl
    (sym (ap is_some (get-insert order map name content key)) ∙ there)
  where
    by_tie : (b : Bool) → eq_by_cmp key_cmp key name ≡ b
        → is_some (cond b (Some content) (get map key)) ≡ true
        → (key ≡ name) ⊎ IsSome (get map key)
    by_tie true is has = inl (same_key key name is)
    by_tie false is has = inr has

pub in_a : (key : Key) → IsSome (get with_a key) → key ≡ a
in_a key there = ⊎_elim (λ is. is) (λ none. absurd (none_there key none))
    (in_inserted empty a x key there)

in_both : (key : Key) → IsSome (get with_both key) → (key ≡ b) ⊎ (key ≡ a)
in_both key there = ⊎_elim (λ is. inl is) (λ old. inr (in_a key old))
    (in_inserted with_a b x key there)

in_without : (name key : Key) → IsSome (get (without name) key)
    → (key ≢ name) × IsSome (get with_both key)
in_without name key there =
    by_tie (eq_by_cmp key_cmp key name) refl
    (sym (ap is_some (get-remove order with_both name key)) ∙ there)
  where
    by_tie : (b : Bool) → eq_by_cmp key_cmp key name ≡ b
        → is_some (cond b None (get with_both key)) ≡ true
        → (key ≢ name) × IsSome (get with_both key)
    by_tie true is has = absurd (let none = has in cc)
    by_tie false is has = (
      (λ same. absurd (let tied = sym is ∙ ap (λ k. eq_by_cmp key_cmp k name) same
          ∙ itself name in cc)),
      has,
    )

pub first_of_a : IsNextKey with_a Begun a
first_of_a = record {
  there = ap is_some has_a;
  ahead = tt;
  least = λ other there ahead before. never_before_itself a
      (subst (λ k. ComesBefore k a) (in_a other there) before);
}

pub first_of_both : IsNextKey with_both Begun a
first_of_both = record {
  there = ap is_some both_have_a;
  ahead = tt;
  least = λ other there ahead before. ⊎_elim
      (λ is. never_back a b a_before_b (subst (λ k. ComesBefore k a) is before))
      (λ is. never_before_itself a (subst (λ k. ComesBefore k a) is before))
      (in_both other there);
}

-- behind a there is none once b is deleted, and b where a is
pub over_without_b : IsOver (without b) (Behind a)
over_without_b key there ahead =
    let old = in_without b key there in
    ⊎_elim (λ is. old.0 is)
    (λ is. never_before_itself a (subst (λ k. ComesBefore a k) is ahead))
    (in_both key old.1)

pub next_without_a : IsNextKey (without a) (Behind a) b
next_without_a = record {
  there = ap is_some (get-remove order with_both a b ∙ both_have_b);
  ahead = a_before_b;
  least = λ other there ahead before.
      let old = in_without a other there in
      ⊎_elim (λ is. never_before_itself b (subst (λ k. ComesBefore k b) is before))
      (λ is. old.0 is) (in_both other old.1);
}

pub b_is_gone : IsSome (get (without b) b) → ⊥
b_is_gone there = (in_without b b there).0 refl
