-- A handle that opens the file anew between two of its calls.
use Rattle.std.proofs.Common.{◌≡◌, ◌⊎◌, inl, inr, ⊎_elim, ◌*◌, ℕ, Bool, true, false, cond, not, refl, sym, ◌∙◌, ap, subst, Option, Some, None, List}
use Rattle.std.specs.Prelude.{nat_le, nat_lt}
use Rattle.std.specs.FinMap.{get, len}
use Rattle.dbm_model.specs.Bounds.{Bounds, Version, V1, V2, upgraded}
use Rattle.dbm_model.specs.Pairs.{Contents, Key, is_allowed}
use Rattle.dbm_model.specs.Sizes.{home}
use Rattle.dbm_model.specs.Calls.{Mode, Insert, Replace, Call, Store, Fetch, Delete, First, Next, Error, Clear, Upgrade, Reply, Refused, Fault, Memory, Device, NoRoom}
use Rattle.dbm_model.specs.Members.{Member, held}
use Rattle.dbm_model.specs.States.{State, Pass, NotBegun, Begun, Behind, Handle, first_fault, flagged}
use Rattle.dbm_model.specs.Steps.{Case, Tells, Refuses, Declines, Finds, Passes, Changes, Answers, Fails, Breaks, LacksMemory, Suffers, store_takes, fetched, passed, stored, deleted, raised, case_of, takes_memory}
use Rattle.dbm_model.proofs.CaseLemmas.{suits, Suits}
use Rattle.dbm_model.proofs.Cuts.{broken_leaves}
use Rattle.dbm_sharing.specs.Anew.{HandlesResume, with_error, kept_error, ErrorsAreKeptBeside, BreaksLeaveEither}
use Rattle.dbm_sharing.specs.Periods.{IsLeft}
use Rattle.dbm_sharing.specs.Views.{is_about_error}
use Rattle.dbm_sharing.proofs.SharedChanges.{shifted, either, alike}
use Rattle.dbm_sharing.proofs.WriterLemmas.{is_changing_rule}

pub handles_resume : HandlesResume
handles_resume pages s h error pass is = record {
  state = ap (λ (t : State). record t { error = error; pass = pass }) is.state;
  disk = is.disk;
  size = is.size;
  is_on = record {
    capacity = is.is_on.capacity;
    counts = is.is_on.counts;
    limited = is.is_on.limited;
    within = record {
      few = is.is_on.within.few;
      allowed = λ key content has. is.is_on.within.allowed key content has;
    };
    light = is.is_on.light;
    few_pages = is.is_on.few_pages;
  };
}

-- ---- an error that is kept beside

fetched_erred : (error : Option Fault) (pass : Pass) (old : Option (List ℕ))
    → fetched old ≡ shifted error pass (fetched old)
fetched_erred error pass None = refl
fetched_erred error pass (Some content) = refl

passed_erred : (error : Option Fault) (pass from : Pass)
    → passed from ≡ shifted error pass (passed from)
passed_erred error pass NotBegun = refl
passed_erred error pass Begun = refl
passed_erred error pass (Behind last) = refl

-- the rule at a handle with this error
erred : (error : Option Fault) (h : Handle) (call : Call) → is_about_error call ≡ false
    → case_of (with_error error h) call ≡ shifted error h.state.pass (case_of h call)
erred error h (Store key content mode) other = alike error h.state.pass h (Store key content mode) tt
erred error h (Delete key) other = alike error h.state.pass h (Delete key) tt
erred error h Upgrade other = alike error h.state.pass h Upgrade tt
erred error h (Fetch key) other = either error h.state.pass h.state.usable _ _ _ _
    (fetched_erred error h.state.pass (get h.state.map key)) refl
erred error h First other = either error h.state.pass h.state.usable _ _ _ _ refl refl
erred error h Next other = either error h.state.pass h.state.usable _ _ _ _
    (passed_erred error h.state.pass h.state.pass) refl
erred error h Error other = absurd (let x = other in cc)
erred error h Clear other = absurd (let x = other in cc)

-- what a rule changes to has the error and the pass of the state
abbrev IsQuiet : State → Case → Type 0
IsQuiet s (Tells said told) = (told.error ≡ s.error) × (told.pass ≡ s.pass)
IsQuiet s (Changes said next) = (next.error ≡ s.error) × (next.pass ≡ s.pass)
IsQuiet s (Refuses fault) = Unit {0}
IsQuiet s (Declines fault) = Unit {0}
IsQuiet s (Finds found) = Unit {0}
IsQuiet s (Passes from) = Unit {0}

one_of : (s : State) (b : Bool) (x y : Case) → IsQuiet s x → IsQuiet s y → IsQuiet s (cond b x y)
one_of s true x y is_x is_y = is_x
one_of s false x y is_x is_y = is_y

fetched_quiet : (s : State) (old : Option (List ℕ)) → IsQuiet s (fetched old)
fetched_quiet s None = tt
fetched_quiet s (Some content) = tt

passed_quiet : (s : State) (from : Pass) → IsQuiet s (passed from)
passed_quiet s NotBegun = tt
passed_quiet s Begun = tt
passed_quiet s (Behind last) = tt

stored_quiet : (s : State) (key content : List ℕ) (mode : Mode) (old : Option (List ℕ))
    → IsQuiet s (stored s key content mode old)
stored_quiet s key content Insert (Some old) = tt
stored_quiet s key content Replace (Some old) = (refl, refl)
stored_quiet s key content Insert None =
    one_of s (nat_le s.bounds.limit (len s.map)) _ _ tt (refl, refl)
stored_quiet s key content Replace None =
    one_of s (nat_le s.bounds.limit (len s.map)) _ _ tt (refl, refl)

deleted_quiet : (s : State) (key : Key) (old : Option (List ℕ)) → IsQuiet s (deleted s key old)
deleted_quiet s key None = tt
deleted_quiet s key (Some content) = (refl, refl)

raised_quiet : (capacity : ℕ) (s : State) (version : Version)
    → IsQuiet s (raised capacity s version)
raised_quiet capacity s V1 =
    one_of s (nat_lt capacity (2 * home (upgraded s.bounds))) _ _ tt (refl, refl)
raised_quiet capacity s V2 = (refl, refl)

quiet : (h : Handle) (call : Call) → is_about_error call ≡ false → IsQuiet h.state (case_of h call)
quiet h (Store key content mode) other =
    let s = h.state in
    one_of s s.usable _ _ (one_of s (not s.writable) _ _ tt
    (one_of s (is_allowed s.bounds.version (key, content)) _ _
    (stored_quiet s key content mode (get s.map key)) tt)) tt
quiet h (Delete key) other =
    let s = h.state in
    one_of s s.usable _ _ (one_of s s.writable _ _ (deleted_quiet s key (get s.map key)) tt) tt
quiet h Upgrade other =
    let s = h.state in
    one_of s s.usable _ _ (one_of s s.writable _ _ (raised_quiet h.capacity s s.bounds.version) tt) tt
quiet h (Fetch key) other =
    one_of h.state h.state.usable _ _ (fetched_quiet h.state (get h.state.map key)) tt
quiet h First other = one_of h.state h.state.usable _ _ tt tt
quiet h Next other = one_of h.state h.state.usable _ _ (passed_quiet h.state h.state.pass) tt
quiet h Error other = absurd (let x = other in cc)
quiet h Clear other = absurd (let x = other in cc)

kept_none : (error own : Option Fault) → own ≡ None → kept_error error own ≡ error
kept_none None own is = is
kept_none (Some earlier) own is = refl

kept_first : (error own : Option Fault) (fault : Fault) → own ≡ None
    → kept_error error (first_fault own fault) ≡ first_fault error fault
kept_first None own fault is = ap (λ (e : Option Fault). first_fault e fault) is
kept_first (Some earlier) own fault is = refl

-- the state with the error that is kept
abbrev erring : Option Fault → State → State
erring error s = record s { error = kept_error error s.error }

module _ (error : Option Fault) (s : State) (none : s.error ≡ None) where
  abbrev beside : State
  beside = record s { error = error }

  -- a state with the error and the pass of the state
  same : (after next : State) → after ≡ next → next.error ≡ s.error → next.pass ≡ s.pass
      → erring error after ≡ record next { error = error; pass = s.pass }
  same after next is err pass =
      ap (erring error) is
      ∙ ap (λ (e : Option Fault). record next { error = e }) (kept_none error next.error (err ∙ none))
      ∙ ap (λ (p : Pass). record next { error = error; pass = p }) pass

  -- the state itself, with a pass
  passing : (after : State) (from : Pass) → after ≡ record s { pass = from }
      → erring error after ≡ record beside { pass = from }
  passing after from is = ap (erring error) is
      ∙ ap (λ (e : Option Fault). record s { error = e; pass = from }) (kept_none error s.error none)

  still : (after : State) → after ≡ s → erring error after ≡ beside
  still after is = passing after s.pass is

  -- flagged, with another map maybe
  fault_kept : (after : State) (fault : Fault) (map : Contents) (bounds : Bounds) (usable : Bool)
      → after ≡ record (flagged fault s) { map = map; bounds = bounds; usable = usable }
      → erring error after
      ≡ record (flagged fault beside) { map = map; bounds = bounds; usable = usable }
  fault_kept after fault map bounds usable is = ap (erring error) is
      ∙ ap (λ (e : Option Fault).
      record s { error = e; map = map; bounds = bounds; usable = usable })
      (kept_first error s.error fault none)

  answers_beside : (c : Case) (reply : Reply) (after : State) → IsQuiet s c → Answers s c reply after
      → Answers beside (shifted error s.pass c) reply (erring error after)
  answers_beside (Tells said told) reply after quiet is =
      (is.0, same after told is.1 quiet.0 quiet.1)
  answers_beside (Refuses fault) reply after quiet is =
      (is.0, fault_kept after fault s.map s.bounds s.usable is.1)
  answers_beside (Declines fault) reply after quiet is =
      (is.0, fault_kept after fault s.map s.bounds s.usable is.1)
  answers_beside (Finds found) reply after quiet is = (is.0, still after is.1)
  answers_beside (Passes from) reply after quiet (inl end) =
      inl (end.0, end.1, passing after from end.2)
  answers_beside (Passes from) reply after quiet (inr given) =
      inr (given.0, given.1, given.2, passing after (Behind given.0) given.3)
  answers_beside (Changes said next) reply after quiet is =
      (is.0, same after next is.1 quiet.0 quiet.1)

takes_same : (error : Option Fault) (h : Handle) (call : Call)
    → takes_memory (with_error error h) call ≡ takes_memory h call
takes_same error h (Store key content mode) = store_takes_same mode (get h.state.map key)
  where
    store_takes_same : (mode : Mode) (old : Option (List ℕ))
        → store_takes (with_error error h) key content mode old
        ≡ store_takes h key content mode old
    store_takes_same Insert (Some old) = refl
    store_takes_same Replace (Some old) = refl
    store_takes_same Insert None = refl
    store_takes_same Replace None = refl
takes_same error h (Fetch key) = refl
takes_same error h (Delete key) = refl
takes_same error h First = refl
takes_same error h Next = refl
takes_same error h Error = refl
takes_same error h Clear = refl
takes_same error h Upgrade = refl

module _ (error : Option Fault) (before after : Handle) (call : Call) (reply : Reply)
    (none : before.state.error ≡ None) where
  abbrev first : Handle
  first = with_error error before

  abbrev last : Handle
  last = with_error (kept_error error after.state.error) after

  flags : (fault : Fault) → after.state ≡ flagged fault before.state
      → last.state ≡ flagged fault first.state
  flags fault is = fault_kept error before.state none after.state fault before.state.map
      before.state.bounds before.state.usable is

  fails : Fails before reply after → Fails first reply last
  fails is = (is.0, is.1, flags Device is.2)

  lacks : LacksMemory before call reply after → LacksMemory first call reply last
  lacks is = (is.0, flags Memory is.1, takes_same error before call ∙ is.2)

  breaks : (next : State) → Breaks before next reply after
      → Breaks first (record next { error = error; pass = before.state.pass }) reply last
  breaks next is =
      let left = record is.2 { error = error; pass = before.state.pass } in (
        is.0,
        is.1,
        left,
        ⊎_elim
            (λ old. inl
            (ap (λ (s : State). record s { error = error; pass = before.state.pass }) old))
            (λ new. inr
            (ap (λ (s : State). record s { error = error; pass = before.state.pass }) new)) is.3,
        fault_kept error before.state none after.state Device is.2.map is.2.bounds false is.4,
      )

  suffers_beside : (c : Case) → Suffers before call c reply after
      → Suffers first call (shifted error before.state.pass c) reply last
  suffers_beside (Tells said told) is = absurd is
  suffers_beside (Refuses fault) is = absurd is
  suffers_beside (Declines fault) is = fails is
  suffers_beside (Finds found) (inl is) = inl (fails is)
  suffers_beside (Finds found) (inr is) = inr (lacks is)
  suffers_beside (Passes from) is = fails is
  suffers_beside (Changes said next) (inl is) = inl (fails is)
  suffers_beside (Changes said next) (inr (inl is)) = inr (inl (breaks next is))
  suffers_beside (Changes said next) (inr (inr (inl is))) = inr (inr (inl (lacks is)))
  suffers_beside (Changes said next) (inr (inr (inr is))) =
      inr (inr (inr (is.0, is.1, flags NoRoom is.2)))

pub errors_are_kept_beside : ErrorsAreKeptBeside
errors_are_kept_beside before after call reply error other none step =
    let c = case_of before call in
    let rule = sym (erred error before call other) in
    let first = with_error error before in
    let last = with_error (kept_error error after.state.error) after in
    record {
      counts = step.counts;
      capacity = step.capacity;
      pages = step.pages;
      bounded = step.bounded;
      buckets = step.buckets;
      answers = ⊎_elim
          (λ answers. inl (subst (λ (d : Case). Answers first.state d reply last.state) rule
          (answers_beside error before.state none c reply after.state (quiet before call other)
          answers)))
          (λ suffers. inr (subst (λ (d : Case). Suffers first call d reply last) rule
          (suffers_beside error before after call reply none c suffers)))
          step.answers;
    }

-- ---- a call that broke the handle

-- which of the two a break leaves
abbrev chosen : Bool → State → State → State
chosen true s next = next
chosen false s next = s

is_chosen : (made : Bool) (s next : State)
    → (chosen made s next ≡ s) ⊎ (chosen made s next ≡ next)
is_chosen true s next = inr refl
is_chosen false s next = inl refl

left_chosen : (made : Bool) (s : State) (said : Reply) (next : State) (left : Member)
    → IsLeft made s (Changes said next) left → left ≡ held (chosen made s next)
left_chosen true s said next left is = is
left_chosen false s said next left is = is

-- a break says so of the state
broke : (before broken : Handle) (call : Call) (said : Reply) (next : State)
    → before.state.usable ≡ true → next.usable ≡ before.state.usable
    → broken.state.usable ≡ false → Suffers before call (Changes said next) (Refused Device) broken
    → Breaks before next (Refused Device) broken
broke before broken call said next was stays now (inl is) =
    absurd (let x = ap (λ (s : State). s.usable) is.2 in cc)
broke before broken call said next was stays now (inr (inl is)) = is
broke before broken call said next was stays now (inr (inr (inl is))) =
    absurd (let x = is.0 in cc)
broke before broken call said next was stays now (inr (inr (inr is))) =
    absurd (let x = is.0 in cc)

-- but for the map and the bounds it is the same
same_beside : (s broken left one : State)
    → broken ≡ record (flagged Device s) { map = left.map; bounds = left.bounds; usable = false }
    → record (flagged Device s) { map = one.map; bounds = one.bounds; usable = false }
    ≡ record broken { map = one.map; bounds = one.bounds }
same_beside s broken left one is =
    sym (ap (λ (t : State). record t { map = one.map; bounds = one.bounds }) is)

pub breaks_leave_either : BreaksLeaveEither
breaks_leave_either before broken call made left was step now is =
    let change = is_changing_rule before.state (case_of before call) _ _
    (broken_leaves before broken call (Refused Device) step was now) in
    let said = change.0 in
    let next = change.1 in
    let fits = subst (Suits before.state call) change.2 (suits before call) in
    let stays = ap (λ (s : State). s.usable) fits.rest in
    let one = chosen made before.state next in
    let breaks = ⊎_elim
    (λ answers. absurd (let x = ap (λ (s : State). s.usable)
    (subst (λ (c : Case). Answers before.state c (Refused Device) broken.state) change.2
    answers).1 in cc))
    (λ suffers. broke before broken call said next was stays now
    (subst (λ (c : Case). Suffers before call c (Refused Device) broken) change.2 suffers))
    step.answers in
    let other = record broken {
      state = record (flagged Device before.state) {
        map = one.map;
        bounds = one.bounds;
        usable = false;
      };
    } in (
      other,
      record {
        counts = step.counts;
        capacity = step.capacity;
        pages = step.pages;
        bounded = step.bounded;
        buckets = step.buckets;
        answers = inr (subst (λ (c : Case). Suffers before call c (Refused Device) other)
            (sym change.2)
            (inr (inl (refl, breaks.1, one, is_chosen made before.state next, refl))));
      },
      sym (left_chosen made before.state said next left
          (subst (λ (c : Case). IsLeft made before.state c left) change.2 is)),
      same_beside before.state broken.state breaks.2 one breaks.4,
    )
