-- A step of a database as one of the handle that keeps its error and its pass beside it.
use Rattle.std.proofs.Common.{◌≡◌, inl, inr, ⊎_elim, ◌*◌, ℕ, Bool, true, false, cond, not, refl, sym, ◌∙◌, ap, subst, Option, Some, None, List}
use Rattle.std.specs.FinMap.{get, len}
use Rattle.std.specs.Prelude.{nat_le, nat_lt}
use Rattle.dbm_model.specs.Bounds.{Bounds, Version, V1, V2, upgraded}
use Rattle.dbm_model.specs.Calls.{Mode, Insert, Replace, Call, Store, Fetch, Delete, First, Next, Error, Clear, Upgrade, Reply, Bytes, End, Fault, Memory, Device, NoRoom, is_changing}
use Rattle.dbm_model.specs.Pairs.{Contents, is_allowed}
use Rattle.dbm_model.specs.Sizes.{home}
use Rattle.dbm_model.specs.States.{State, Pass, NotBegun, Begun, Behind, Handle, first_fault, flagged}
use Rattle.dbm_model.specs.Steps.{Case, Tells, Refuses, Declines, Finds, Passes, Changes, Answers, Fails, Breaks, LacksMemory, Suffers, store_takes, fetched, passed, stored, deleted, raised, case_of, takes_memory, Step}
use Rattle.dbm_sharing.specs.Anew.{kept_error}
use Rattle.ndbm_c.specs.Periods.{made_of}

-- the state as the handle has it that keeps this error beside, and whose pass and access are these
abbrev pub beside : Option Fault → Pass → Bool → State → State
beside error pass writable s =
    record s { error = kept_error error s.error; pass = pass; writable = writable }

abbrev pub beside_handle : Option Fault → Pass → Bool → Handle → Handle
beside_handle error pass writable h = record h { state = beside error pass writable h.state }

-- the first of two errors comes before a fault
kept_first : (error own : Option Fault) (fault : Fault)
    → kept_error error (first_fault own fault) ≡ first_fault (kept_error error own) fault
kept_first None own fault = refl
kept_first (Some earlier) own fault = refl

-- where the pass of the handle stands behind a step by this rule
abbrev pub Passed : Case → Reply → Pass → Pass → Type 0
Passed (Passes from) End old new = new ≡ from
Passed (Passes from) (Bytes key) old new = new ≡ Behind key
Passed rule reply old new = new ≡ old

module _ (error : Option Fault) (old new : Pass) (writable : Bool) where
  abbrev before : State → State
  before = beside error old writable

  abbrev after : State → State
  after = beside error new writable

  -- the rule as it is to the handle
  abbrev pub shifted : Case → Case
  shifted (Tells said told) = Tells said (beside error old writable told)
  shifted (Refuses fault) = Refuses fault
  shifted (Declines fault) = Declines fault
  shifted (Finds found) = Finds found
  shifted (Passes from) = Passes from
  shifted (Changes said next) = Changes said (beside error old writable next)

  -- flagged, with another map maybe
  flags : (s last : State) (fault : Fault) (map : Contents) (bounds : Bounds) (usable : Bool)
      → new ≡ old
      → last ≡ record (flagged fault s) { map = map; bounds = bounds; usable = usable }
      → after last
      ≡ record (flagged fault (before s)) { map = map; bounds = bounds; usable = usable }
  flags s last fault map bounds usable stays is = ap after is
      ∙ ap (λ (e : Option Fault). record (before s)
      { error = e; pass = new; map = map; bounds = bounds; usable = usable })
      (kept_first error s.error fault)
      ∙ ap (λ (p : Pass). record (flagged fault (before s))
      { pass = p; map = map; bounds = bounds; usable = usable }) stays

  same : (last next : State) → new ≡ old → last ≡ next → after last ≡ before next
  same last next stays is = ap after is ∙ ap (λ (p : Pass). beside error p writable next) stays

  passes : (s last : State) (from to : Pass) → new ≡ to → last ≡ record s { pass = from }
      → after last ≡ record (before s) { pass = to }
  passes s last from to is_new is =
      ap after is ∙ ap (λ (p : Pass). record (before s) { pass = p }) is_new

  answers_so : (s last : State) (c : Case) (reply : Reply) → Passed c reply old new
      → Answers s c reply last → Answers (before s) (shifted c) reply (after last)
  answers_so s last (Tells said told) reply stays is = (is.0, same last told stays is.1)
  answers_so s last (Refuses fault) reply stays is =
      (is.0, flags s last fault s.map s.bounds s.usable stays is.1)
  answers_so s last (Declines fault) reply stays is =
      (is.0, flags s last fault s.map s.bounds s.usable stays is.1)
  answers_so s last (Finds found) reply stays is = (is.0, same last s stays is.1)
  answers_so s last (Passes from) reply goes (inl over) =
      inl (
        over.0,
        over.1,
        passes s last from from
            (subst (λ (r : Reply). Passed (Passes from) r old new) over.1 goes) over.2,
      )
  answers_so s last (Passes from) reply goes (inr given) =
      inr (
        given.0,
        given.1,
        given.2,
        passes s last (Behind given.0) (Behind given.0)
            (subst (λ (r : Reply). Passed (Passes from) r old new) given.2 goes) given.3,
      )
  answers_so s last (Changes said next) reply stays is = (is.0, same last next stays is.1)

  module _ (h last : Handle) (reply : Reply) where
    fails : new ≡ old → Fails h reply last
        → Fails (beside_handle error old writable h) reply (beside_handle error new writable last)
    fails stays is = (
      is.0,
      is.1,
      flags h.state last.state Device h.state.map h.state.bounds
          h.state.usable stays is.2,
    )

    lacks : (call asked : Call) → new ≡ old
        → takes_memory (beside_handle error old writable h) call ≡ takes_memory h asked
        → LacksMemory h asked reply last
        → LacksMemory (beside_handle error old writable h) call reply
        (beside_handle error new writable last)
    lacks call asked stays takes is = (
      is.0,
      flags h.state last.state Memory h.state.map
          h.state.bounds h.state.usable stays is.1,
      takes ∙ is.2,
    )

    breaks : (next : State) → new ≡ old → Breaks h next reply last
        → Breaks (beside_handle error old writable h) (before next) reply
        (beside_handle error new writable last)
    breaks next stays is = (
      is.0,
      is.1,
      before is.2,
      ⊎_elim (λ was. inl (ap before was)) (λ made. inr (ap before made)) is.3,
      flags h.state last.state Device is.2.map is.2.bounds false stays is.4,
    )

    suffers_so : (call asked : Call) (c : Case)
        → takes_memory (beside_handle error old writable h) call ≡ takes_memory h asked
        → Passed c reply old new → Suffers h asked c reply last
        → Suffers (beside_handle error old writable h) call (shifted c) reply
        (beside_handle error new writable last)
    suffers_so call asked (Tells said told) takes stays is = absurd is
    suffers_so call asked (Refuses fault) takes stays is = absurd is
    suffers_so call asked (Declines fault) takes stays is = fails stays is
    suffers_so call asked (Finds found) takes stays (inl is) = inl (fails stays is)
    suffers_so call asked (Finds found) takes stays (inr is) =
        inr (lacks call asked stays takes is)
    suffers_so call asked (Passes from) takes goes is =
        fails (subst (λ (r : Reply). Passed (Passes from) r old new) is.0 goes) is
    suffers_so call asked (Changes said next) takes stays (inl is) = inl (fails stays is)
    suffers_so call asked (Changes said next) takes stays (inr (inl is)) =
        inr (inl (breaks next stays is))
    suffers_so call asked (Changes said next) takes stays (inr (inr (inl is))) =
        inr (inr (inl (lacks call asked stays takes is)))
    suffers_so call asked (Changes said next) takes stays (inr (inr (inr is))) =
        inr (inr (inr (
          is.0,
          is.1,
          flags h.state last.state NoRoom h.state.map h.state.bounds
              h.state.usable stays is.2,
        )))

    -- where the rule is the same, so is the step
    pub step_so : (call asked : Call)
        → case_of (beside_handle error old writable h) call ≡ shifted (case_of h asked)
        → takes_memory (beside_handle error old writable h) call ≡ takes_memory h asked
        → Passed (case_of h asked) reply old new → Step h asked reply last
        → Step (beside_handle error old writable h) call reply
        (beside_handle error new writable last)
    step_so call asked rule takes goes step =
        let first = beside_handle error old writable h in
        let ends = beside_handle error new writable last in
        let c = case_of h asked in
        record {
          counts = step.counts;
          capacity = step.capacity;
          pages = step.pages;
          bounded = step.bounded;
          buckets = step.buckets;
          answers = ⊎_elim
              (λ is. inl (subst (λ (d : Case). Answers first.state d reply ends.state) (sym rule)
              (answers_so h.state last.state c reply goes is)))
              (λ is. inr (subst (λ (d : Case). Suffers first call d reply ends) (sym rule)
              (suffers_so call asked c takes goes is)))
              step.answers;
        }

-- ---- which rule it is

module _ (error : Option Fault) (pass : Pass) (writable : Bool) where
  abbrev moved : Case → Case
  moved c = shifted error pass pass writable c

  either : (b : Bool) (x y u v : Case) → x ≡ moved u → y ≡ moved v
      → cond b x y ≡ moved (cond b u v)
  either true x y u v is_x is_y = is_x
  either false x y u v is_x is_y = is_y

  stored_so : (s : State) (key content : List ℕ) (mode : Mode) (old : Option (List ℕ))
      → stored (beside error pass writable s) key content mode old
      ≡ moved (stored s key content mode old)
  stored_so s key content Insert (Some old) = refl
  stored_so s key content Replace (Some old) = refl
  stored_so s key content Insert None =
      either (nat_le s.bounds.limit (len s.map)) _ _ _ _ refl refl
  stored_so s key content Replace None =
      either (nat_le s.bounds.limit (len s.map)) _ _ _ _ refl refl

  deleted_so : (s : State) (key : List ℕ) (old : Option (List ℕ))
      → deleted (beside error pass writable s) key old ≡ moved (deleted s key old)
  deleted_so s key None = refl
  deleted_so s key (Some content) = refl

  raised_so : (capacity : ℕ) (s : State) (version : Version)
      → raised capacity (beside error pass writable s) version ≡ moved (raised capacity s version)
  raised_so capacity s V1 =
      either (nat_lt capacity (2 * home (upgraded s.bounds))) _ _ _ _ refl refl
  raised_so capacity s V2 = refl

  fetched_so : (old : Option (List ℕ)) → fetched old ≡ moved (fetched old)
  fetched_so None = refl
  fetched_so (Some content) = refl

  passed_so : (from : Pass) → passed from ≡ moved (passed from)
  passed_so NotBegun = refl
  passed_so Begun = refl
  passed_so (Behind last) = refl

  pub takes_so : (h : Handle) (call : Call)
      → takes_memory (beside_handle error pass writable h) call ≡ takes_memory h call
  takes_so h (Store key content mode) = store_so mode (get h.state.map key)
    where
      store_so : (mode : Mode) (old : Option (List ℕ))
          → store_takes (beside_handle error pass writable h) key content mode old
          ≡ store_takes h key content mode old
      store_so Insert (Some old) = refl
      store_so Replace (Some old) = refl
      store_so Insert None = refl
      store_so Replace None = refl
  takes_so h (Fetch key) = refl
  takes_so h (Delete key) = refl
  takes_so h First = refl
  takes_so h Next = refl
  takes_so h Error = refl
  takes_so h Clear = refl
  takes_so h Upgrade = refl

-- a change, with the access of the database
pub changes_so : (error : Option Fault) (pass : Pass) (h : Handle) (call : Call)
    → is_changing call ≡ true → case_of (beside_handle error pass h.state.writable h) call
    ≡ shifted error pass pass h.state.writable (case_of h call)
changes_so error pass h (Store key content mode) is =
    let w = h.state.writable in
    either error pass w h.state.usable _ _ _ _
    (either error pass w (not w) _ _ _ _ refl
    (either error pass w (is_allowed h.state.bounds.version (key, content)) _ _ _ _
    (stored_so error pass w h.state key content mode (get h.state.map key)) refl)) refl
changes_so error pass h (Delete key) is =
    let w = h.state.writable in
    either error pass w h.state.usable _ _ _ _
    (either error pass w w _ _ _ _
    (deleted_so error pass w h.state key (get h.state.map key)) refl) refl
changes_so error pass h Upgrade is =
    let w = h.state.writable in
    either error pass w h.state.usable _ _ _ _
    (either error pass w w _ _ _ _
    (raised_so error pass w h.capacity h.state h.state.bounds.version) refl) refl
changes_so error pass h (Fetch key) is = absurd (let x = is in cc)
changes_so error pass h First is = absurd (let x = is in cc)
changes_so error pass h Next is = absurd (let x = is in cc)
changes_so error pass h Error is = absurd (let x = is in cc)
changes_so error pass h Clear is = absurd (let x = is in cc)

-- the pass of the database is that of the handle, but where this stands before all keys
abbrev pub StandsAs : Pass → Pass → Type 0
StandsAs Begun own = Unit {0}
StandsAs NotBegun own = own ≡ NotBegun
StandsAs (Behind key) own = own ≡ Behind key

pub next_so : (error : Option Fault) (pass : Pass) (writable : Bool) (h : Handle)
    → StandsAs pass h.state.pass → case_of (beside_handle error pass writable h) Next
    ≡ shifted error pass pass writable (case_of h (made_of Next pass))
next_so error Begun writable h stands =
    either error Begun writable h.state.usable _ _ _ _ refl refl
next_so error NotBegun writable h stands =
    either error NotBegun writable h.state.usable _ _ _ _
    (subst (λ (p : Pass). passed NotBegun ≡ shifted error NotBegun NotBegun writable (passed p))
    (sym stands) refl) refl
next_so error (Behind key) writable h stands =
    either error (Behind key) writable h.state.usable _ _ _ _
    (subst (λ (p : Pass). passed (Behind key)
    ≡ shifted error (Behind key) (Behind key) writable (passed p)) (sym stands) refl) refl

pub fetch_so : (error : Option Fault) (pass : Pass) (writable : Bool) (h : Handle) (key : List ℕ)
    → case_of (beside_handle error pass writable h) (Fetch key)
    ≡ shifted error pass pass writable (case_of h (Fetch key))
fetch_so error pass writable h key = either error pass writable h.state.usable _ _ _ _
    (fetched_so error pass writable (get h.state.map key)) refl

pub first_so : (error : Option Fault) (pass : Pass) (writable : Bool) (h : Handle)
    → case_of (beside_handle error pass writable h) First
    ≡ shifted error pass pass writable (case_of h First)
first_so error pass writable h = either error pass writable h.state.usable _ _ _ _ refl refl
