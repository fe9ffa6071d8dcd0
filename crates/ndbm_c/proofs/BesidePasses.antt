-- Where the pass of a handle stands behind a step of its database, and the step as the handle has it.
use Rattle.std.proofs.Common.{◌≡◌, ◌⊎◌, inl, inr, ⊎_elim, ◌*◌, ℕ, Bool, true, false, cond, not, refl, sym, ◌∙◌, ap, subst, Option, Some, None, List}
use Rattle.std.specs.FinMap.{get, len}
use Rattle.std.specs.Prelude.{nat_le, nat_lt}
use Rattle.dbm_model.specs.Bounds.{Version, V1, V2, upgraded}
use Rattle.dbm_model.specs.Calls.{Mode, Insert, Replace, Call, Store, Fetch, Delete, First, Next, Error, Clear, Upgrade, Reply, Bytes, End, Refused, Fault, Device, NoPass, Broken, is_changing}
use Rattle.dbm_model.specs.Pairs.{is_allowed}
use Rattle.dbm_model.specs.Sizes.{home}
use Rattle.dbm_model.specs.States.{State, Pass, NotBegun, Begun, Behind, Handle}
use Rattle.dbm_model.specs.Steps.{Case, Tells, Refuses, Declines, Finds, Passes, Changes, Answers, Suffers, fetched, passed, stored, deleted, raised, case_of, takes_memory, Step}
use Rattle.dbm_sharing.specs.Views.{is_about_error}
use Rattle.ndbm_c.proofs.Beside.{beside_handle, Passed, shifted, step_so, takes_so, changes_so, StandsAs, next_so, fetch_so, first_so}
use Rattle.ndbm_c.specs.Periods as made
use Rattle.ndbm_c.specs.Periods.{made_of}
use Rattle.ndbm_calls.specs.Statuses.{status_of, GivesBytes}

-- ---- where the pass stands behind it

-- the rule is no step of a pass, and leaves it
abbrev Keeps : State → Case → Type 0
Keeps s (Tells said told) = told.pass ≡ s.pass
Keeps s (Changes said next) = next.pass ≡ s.pass
Keeps s (Refuses fault) = Unit {0}
Keeps s (Declines fault) = Unit {0}
Keeps s (Finds found) = Unit {0}
Keeps s (Passes from) = ⊥

one_of : (s : State) (b : Bool) (x y : Case) → Keeps s x → Keeps s y → Keeps s (cond b x y)
one_of s true x y is_x is_y = is_x
one_of s false x y is_x is_y = is_y

fetched_keeps : (s : State) (old : Option (List ℕ)) → Keeps s (fetched old)
fetched_keeps s None = tt
fetched_keeps s (Some content) = tt

stored_keeps : (s : State) (key content : List ℕ) (mode : Mode) (old : Option (List ℕ))
    → Keeps s (stored s key content mode old)
stored_keeps s key content Insert (Some old) = tt
stored_keeps s key content Replace (Some old) = refl
stored_keeps s key content Insert None = one_of s (nat_le s.bounds.limit (len s.map)) _ _ tt refl
stored_keeps s key content Replace None = one_of s (nat_le s.bounds.limit (len s.map)) _ _ tt refl

deleted_keeps : (s : State) (key : List ℕ) (old : Option (List ℕ)) → Keeps s (deleted s key old)
deleted_keeps s key None = tt
deleted_keeps s key (Some content) = refl

raised_keeps : (capacity : ℕ) (s : State) (version : Version)
    → Keeps s (raised capacity s version)
raised_keeps capacity s V1 =
    one_of s (nat_lt capacity (2 * home (upgraded s.bounds))) _ _ tt refl
raised_keeps capacity s V2 = refl

module _ (h : Handle) where
  abbrev here : State
  here = h.state

  store_keeps : (key content : List ℕ) (mode : Mode)
      → Keeps here (case_of h (Store key content mode))
  store_keeps key content mode = one_of here here.usable _ _ (one_of here (not here.writable) _ _ tt
      (one_of here (is_allowed here.bounds.version (key, content)) _ _
      (stored_keeps here key content mode (get here.map key)) tt)) tt

  delete_keeps : (key : List ℕ) → Keeps here (case_of h (Delete key))
  delete_keeps key = one_of here here.usable _ _ (one_of here here.writable _ _
      (deleted_keeps here key (get here.map key)) tt) tt

  upgrade_keeps : Keeps here (case_of h Upgrade)
  upgrade_keeps = one_of here here.usable _ _ (one_of here here.writable _ _
      (raised_keeps h.capacity here here.bounds.version) tt) tt

  fetch_keeps : (key : List ℕ) → Keeps here (case_of h (Fetch key))
  fetch_keeps key = one_of here here.usable _ _ (fetched_keeps here (get here.map key)) tt

  module _ (last : Handle) (call : Call) (reply : Reply) where
    answer_keeps : (c : Case) → Keeps here c → Answers here c reply last.state
        → last.state.pass ≡ here.pass
    answer_keeps (Tells said told) keeps is = ap (λ (s : State). s.pass) is.1 ∙ keeps
    answer_keeps (Refuses fault) keeps is = ap (λ (s : State). s.pass) is.1
    answer_keeps (Declines fault) keeps is = ap (λ (s : State). s.pass) is.1
    answer_keeps (Finds found) keeps is = ap (λ (s : State). s.pass) is.1
    answer_keeps (Passes from) keeps is = absurd keeps
    answer_keeps (Changes said next) keeps is = ap (λ (s : State). s.pass) is.1 ∙ keeps

    suffer_keeps : (c : Case) → Suffers h call c reply last → last.state.pass ≡ here.pass
    suffer_keeps (Tells said told) is = absurd is
    suffer_keeps (Refuses fault) is = absurd is
    suffer_keeps (Declines fault) is = ap (λ (s : State). s.pass) is.2
    suffer_keeps (Finds found) (inl is) = ap (λ (s : State). s.pass) is.2
    suffer_keeps (Finds found) (inr is) = ap (λ (s : State). s.pass) is.1
    suffer_keeps (Passes from) is = ap (λ (s : State). s.pass) is.2
    suffer_keeps (Changes said next) (inl is) = ap (λ (s : State). s.pass) is.2
    suffer_keeps (Changes said next) (inr (inl is)) = ap (λ (s : State). s.pass) is.4
    suffer_keeps (Changes said next) (inr (inr (inl is))) = ap (λ (s : State). s.pass) is.1
    suffer_keeps (Changes said next) (inr (inr (inr is))) = ap (λ (s : State). s.pass) is.2

    pass_kept : Keeps here (case_of h call) → Step h call reply last
        → last.state.pass ≡ here.pass
    pass_kept keeps step = ⊎_elim (answer_keeps (case_of h call) keeps)
        (suffer_keeps (case_of h call)) step.answers

  keeps_passed : (c : Case) (reply : Reply) (pass : Pass) → Keeps here c → Passed c reply pass pass
  keeps_passed (Tells said told) reply pass keeps = refl
  keeps_passed (Refuses fault) reply pass keeps = refl
  keeps_passed (Declines fault) reply pass keeps = refl
  keeps_passed (Finds found) reply pass keeps = refl
  keeps_passed (Passes from) reply pass keeps = absurd keeps
  keeps_passed (Changes said next) reply pass keeps = refl

-- the pass of the handle behind a step, and that of its database
pub record GoesTo (h last : Handle) (asked : Call) (reply : Reply) (old new : Pass) : Type 0 where
  pub passed : Passed (case_of h asked) reply old new
  pub stands : StandsAs new last.state.pass

goes_still : (h last : Handle) (call : Call) (reply : Reply) (pass : Pass)
    → Keeps h.state (case_of h call) → Step h call reply last → StandsAs pass h.state.pass
    → GoesTo h last call reply pass pass
goes_still h last call reply pass keeps step stands = record {
  passed = keeps_passed h (case_of h call) reply pass keeps;
  stands = subst (StandsAs pass) (sym (pass_kept h last call reply keeps step)) stands;
}

-- A reply of a pass, and where the pass stands behind it. The last call was this one.
abbrev Goes : Handle → Call → List ℕ → Pass → Case → Reply → Type 0
Goes last asked bytes pass c reply =
    Passed c reply pass (made.passed asked (status_of reply) bytes pass)
    × StandsAs (made.passed asked (status_of reply) bytes pass) last.state.pass

told_so : (last : Handle) (asked : Call) (bytes : List ℕ) (pass : Pass) (c : Case)
    (reply said : Reply) → reply ≡ said → Goes last asked bytes pass c said
    → Goes last asked bytes pass c reply
told_so last asked bytes pass c reply said is goes =
    subst (Goes last asked bytes pass c) (sym is) goes

stood : (pass : Pass) (h last : Handle) → StandsAs pass h.state.pass
    → last.state.pass ≡ h.state.pass → StandsAs pass last.state.pass
stood pass h last stands is = subst (StandsAs pass) (sym is) stands

first_goes : (h last : Handle) (reply : Reply) (bytes : List ℕ) (pass : Pass)
    → GivesBytes reply bytes → StandsAs pass h.state.pass → Step h First reply last
    → GoesTo h last First reply pass (made.passed First (status_of reply) bytes pass)
first_goes h last reply bytes pass gives stands step =
    let both = by_case h.state.usable step.answers in
    record { passed = both.0; stands = both.1 }
  where
    by_case : (b : Bool)
        → Answers h.state (cond b (Passes Begun) (Refuses Broken)) reply last.state
        ⊎ Suffers h First (cond b (Passes Begun) (Refuses Broken)) reply last
        → Goes last First bytes pass (cond b (Passes Begun) (Refuses Broken)) reply
    by_case true (inl (inl over)) =
        told_so last First bytes pass (Passes Begun) reply End over.1 (refl, tt)
    by_case true (inl (inr given)) =
        let same = subst (λ (r : Reply). GivesBytes r bytes) given.2 gives in
        told_so last First bytes pass (Passes Begun) reply (Bytes given.0) given.2
        (ap Behind same, ap (λ (s : State). s.pass) given.3 ∙ ap Behind (sym same))
    by_case true (inr fails) =
        told_so last First bytes pass (Passes Begun) reply (Refused Device) fails.0
        (refl, stood pass h last stands (ap (λ (s : State). s.pass) fails.2))
    by_case false (inl is) =
        told_so last First bytes pass (Refuses Broken) reply (Refused Broken) is.0
        (refl, stood pass h last stands (ap (λ (s : State). s.pass) is.1))
    by_case false (inr none) = absurd none

-- the next key of a pass that stands behind one
behind_goes : (h last : Handle) (reply : Reply) (bytes key : List ℕ)
    → GivesBytes reply bytes → h.state.pass ≡ Behind key → Step h Next reply last
    → GoesTo h last Next reply (Behind key)
    (made.passed Next (status_of reply) bytes (Behind key))
behind_goes h last reply bytes key gives stands step =
    let both = by_case h.state.usable h.state.pass stands step.answers in
    record { passed = both.0; stands = both.1 }
  where
    by_case : (b : Bool) (from : Pass) → from ≡ Behind key
        → Answers h.state (cond b (passed from) (Refuses Broken)) reply last.state
        ⊎ Suffers h Next (cond b (passed from) (Refuses Broken)) reply last
        → Goes last Next bytes (Behind key) (cond b (passed from) (Refuses Broken)) reply
    by_case true (Behind own) is (inl (inl over)) =
        told_so last Next bytes (Behind key) (Passes (Behind own)) reply End over.1
        (sym is, ap (λ (s : State). s.pass) over.2 ∙ is)
    by_case true (Behind own) is (inl (inr given)) =
        let same = subst (λ (r : Reply). GivesBytes r bytes) given.2 gives in
        told_so last Next bytes (Behind key) (Passes (Behind own)) reply (Bytes given.0) given.2
        (ap Behind same, ap (λ (s : State). s.pass) given.3 ∙ ap Behind (sym same))
    by_case true (Behind own) is (inr fails) =
        told_so last Next bytes (Behind key) (Passes (Behind own)) reply (Refused Device) fails.0
        (refl, stood (Behind key) h last stands (ap (λ (s : State). s.pass) fails.2))
    by_case true NotBegun is answers = absurd (let x = is in cc)
    by_case true Begun is answers = absurd (let x = is in cc)
    by_case false from is (inl refused) =
        told_so last Next bytes (Behind key) (Refuses Broken) reply (Refused Broken) refused.0
        (refl, stood (Behind key) h last stands (ap (λ (s : State). s.pass) refused.1))
    by_case false from is (inr none) = absurd none

-- where no pass was begun there is none
none_goes : (h last : Handle) (reply : Reply) (bytes : List ℕ)
    → h.state.pass ≡ NotBegun → Step h Next reply last
    → GoesTo h last Next reply NotBegun (made.passed Next (status_of reply) bytes NotBegun)
none_goes h last reply bytes stands step =
    let both = by_case h.state.usable h.state.pass stands step.answers in
    record { passed = both.0; stands = both.1 }
  where
    by_case : (b : Bool) (from : Pass) → from ≡ NotBegun
        → Answers h.state (cond b (passed from) (Refuses Broken)) reply last.state
        ⊎ Suffers h Next (cond b (passed from) (Refuses Broken)) reply last
        → Goes last Next bytes NotBegun (cond b (passed from) (Refuses Broken)) reply
    by_case true NotBegun is (inl refused) =
        told_so last Next bytes NotBegun (Refuses NoPass) reply (Refused NoPass) refused.0
        (refl, stood NotBegun h last stands (ap (λ (s : State). s.pass) refused.1))
    by_case true NotBegun is (inr none) = absurd none
    by_case true Begun is answers = absurd (let x = is in cc)
    by_case true (Behind own) is answers = absurd (let x = is in cc)
    by_case false from is (inl refused) =
        told_so last Next bytes NotBegun (Refuses Broken) reply (Refused Broken) refused.0
        (refl, stood NotBegun h last stands (ap (λ (s : State). s.pass) refused.1))
    by_case false from is (inr none) = absurd none

-- ---- any call

-- the step as the handle has it, and its pass
pub record IsBeside (error : Option Fault) (pass : Pass) (writable : Bool) (h last : Handle)
    (call : Call) (reply : Reply) (new : Pass) : Type 0 where
  pub step : Step (beside_handle error pass writable h) call reply
      (beside_handle error new writable last)
  pub stands : StandsAs new last.state.pass

module _ (error : Option Fault) (pass : Pass) (writable : Bool) (h last : Handle) (reply : Reply)
    (bytes : List ℕ) (gives : GivesBytes reply bytes) (stands : StandsAs pass h.state.pass) where
  abbrev Made : Call → Type 0
  Made call = IsBeside error pass writable h last call reply
      (made.passed (made_of call pass) (status_of reply) bytes pass)

  by : (call asked : Call) (new : Pass)
      → case_of (beside_handle error pass writable h) call
      ≡ shifted error pass pass writable (case_of h asked)
      → takes_memory (beside_handle error pass writable h) call ≡ takes_memory h asked
      → GoesTo h last asked reply pass new → Step h asked reply last
      → IsBeside error pass writable h last call reply new
  by call asked new rule takes goes step = record {
    step = step_so error pass new writable h last reply call asked rule takes goes.passed step;
    stands = goes.stands;
  }

  same_rule : (call : Call) → h.state.writable ≡ writable → is_changing call ≡ true
      → case_of (beside_handle error pass writable h) call
      ≡ shifted error pass pass writable (case_of h call)
  same_rule call access changing =
      subst (λ (w : Bool). case_of (beside_handle error pass w h) call
      ≡ shifted error pass pass w (case_of h call)) access (changes_so error pass h call changing)

  next_by : StandsAs pass h.state.pass → Step h (made_of Next pass) reply last → Made Next
  next_by stood step =
      by Next (made_of Next pass) (made.passed (made_of Next pass) (status_of reply) bytes pass)
      (next_so error pass writable h stood) (takes pass) (goes pass gives stood step) step
    where
      takes : (p : Pass) → takes_memory (beside_handle error pass writable h) Next
          ≡ takes_memory h (made_of Next p)
      takes NotBegun = refl
      takes Begun = refl
      takes (Behind key) = refl

      goes : (p : Pass) → GivesBytes reply bytes → StandsAs p h.state.pass
          → Step h (made_of Next p) reply last
          → GoesTo h last (made_of Next p) reply p
          (made.passed (made_of Next p) (status_of reply) bytes p)
      goes NotBegun gives stood step = none_goes h last reply bytes stood step
      goes Begun gives stood step = first_goes h last reply bytes Begun gives stood step
      goes (Behind key) gives stood step = behind_goes h last reply bytes key gives stood step

  -- the call is no step of a pass
  still_by : (call : Call) → case_of (beside_handle error pass writable h) call
      ≡ shifted error pass pass writable (case_of h call)
      → Keeps h.state (case_of h call) → Step h call reply last
      → IsBeside error pass writable h last call reply pass
  still_by call rule keeps step = by call call pass rule (takes_so error pass writable h call)
      (goes_still h last call reply pass keeps step stands) step

  -- the rule that it falls under
  pub beside_rule : (call : Call) → is_about_error call ≡ false
      → (is_changing call ≡ true → h.state.writable ≡ writable)
      → case_of (beside_handle error pass writable h) call
      ≡ shifted error pass pass writable (case_of h (made_of call pass))
  beside_rule (Store key content mode) other access =
      same_rule (Store key content mode) (access refl) refl
  beside_rule (Delete key) other access = same_rule (Delete key) (access refl) refl
  beside_rule Upgrade other access = same_rule Upgrade (access refl) refl
  beside_rule (Fetch key) other access = fetch_so error pass writable h key
  beside_rule First other access = first_so error pass writable h
  beside_rule Next other access = next_so error pass writable h stands
  beside_rule Error other access = absurd (let x = other in cc)
  beside_rule Clear other access = absurd (let x = other in cc)

  pub beside_step : (call : Call) → is_about_error call ≡ false
      → (is_changing call ≡ true → h.state.writable ≡ writable)
      → Step h (made_of call pass) reply last → Made call
  beside_step (Store key content mode) other access step =
      still_by (Store key content mode) (same_rule (Store key content mode) (access refl) refl)
      (store_keeps h key content mode) step
  beside_step (Delete key) other access step =
      still_by (Delete key) (same_rule (Delete key) (access refl) refl) (delete_keeps h key) step
  beside_step Upgrade other access step =
      still_by Upgrade (same_rule Upgrade (access refl) refl) (upgrade_keeps h) step
  beside_step (Fetch key) other access step =
      still_by (Fetch key) (fetch_so error pass writable h key) (fetch_keeps h key) step
  beside_step First other access step =
      by First First (made.passed First (status_of reply) bytes pass)
      (first_so error pass writable h) refl
      (first_goes h last reply bytes pass gives stands step) step
  beside_step Next other access step = next_by stands step
  beside_step Error other access step = absurd (let x = other in cc)
  beside_step Clear other access step = absurd (let x = other in cc)
