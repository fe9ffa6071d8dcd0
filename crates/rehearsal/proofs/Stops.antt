-- What a stop within a list of calls leaves.
use Rattle.std.proofs.Common.{◌≡◌, inl, inr, ⊎_elim, ℕ, ◌≤◌, true, false, List, [], ◌∷◌, ◌++◌, refl, sym, ◌∙◌, ap, subst, arith, append_assoc, Contains}
use Rattle.std.proofs.lemmas.Bool.{cases_Bool}
use Rattle.dbm_model.specs.Calls.{Call, Store, Fetch, Delete, First, Next, Error, Clear, Upgrade, Reply, Fault, Broken}
use Rattle.dbm_model.specs.Pairs.{Pair}
use Rattle.dbm_model.specs.States.{State, Handle}
use Rattle.dbm_model.specs.Steps.{Case, Tells, Refuses, Declines, Finds, Passes, Changes, broken_case, case_of, Step, Run}
use Rattle.dbm_model.proofs.CaseLemmas.{Suits, suits}
use Rattle.dbm_model.proofs.RuleLemmas.{ByCase, if_broken, falls}
use Rattle.dbm_model.proofs.Runs.{run-push}
use Rattle.dbm_model.specs.Members.{Member, Holding, Members, held}
use Rattle.dbm_model.specs.Sessions as model
use Rattle.dbm_model.specs.Sessions.{StoppedCall, left_by}
use Rattle.dbm_model.proofs.Failures.{counts_up}
use Rattle.dbm_model.proofs.Lists.{is_first, is_later}
use Rattle.dbm_file.specs.Answers.{MayBeLeft}
use Rattle.dbm_file.specs.Held.{Held, held_by}
use Rattle.dbm_file.specs.Runs.{MayBeLeftWithin}
use Rattle.dbm_file.proofs.Breaks.{alike}
use Rattle.rehearsal.specs.Sessions.{IsStopOf, GoesOn}

-- ---- one call of a usable handle

is_left : (s : State) (c : Case) (left : Held) → left ≡ held_by s
    → Contains (left_by s c) (Holding left.map left.bounds)
is_left s c left is =
    subst (λ (h : Held). Contains (left_by s c) (Holding h.map h.bounds)) (sym is) (by c)
  where
    by : (d : Case) → Contains (left_by s d) (held s)
    by (Tells said told) = is_first (held s) [] (held s) refl
    by (Refuses fault) = is_first (held s) [] (held s) refl
    by (Declines fault) = is_first (held s) [] (held s) refl
    by (Finds found) = is_first (held s) [] (held s) refl
    by (Passes from) = is_first (held s) [] (held s) refl
    by (Changes said next) = is_first (held s) (held next ∷ []) (held s) refl

is_asked : (s : State) (said : Reply) (next : State) (left : Held) → left ≡ held_by next
    → Contains (left_by s (Changes said next)) (Holding left.map left.bounds)
is_asked s said next left is =
    is_later (held s) (held next ∷ []) (Holding left.map left.bounds)
    (is_first (held next) [] (Holding left.map left.bounds)
    (ap (λ (h : Held). Holding h.map h.bounds) is))

-- what is held after a step is what a stop within it leaves
by_case : (before after : Handle) (call : Call) (c : Case) (reply : Reply)
    → Suits before.state call c → ByCase before call c reply after
    → Contains (left_by before.state c) (held after.state)
by_case before after call (Tells said told) reply fits (inl is) =
    is_left before.state (Tells said told) (held_by after.state)
    (ap held_by is.1 ∙ alike fits.0 fits.3)
by_case before after call (Tells said told) reply fits (inr is) = absurd is
by_case before after call (Refuses fault) reply fits (inl is) =
    is_left before.state (Refuses fault) (held_by after.state) (ap held_by is.1)
by_case before after call (Refuses fault) reply fits (inr is) = absurd is
by_case before after call (Declines fault) reply fits (inl is) =
    is_left before.state (Declines fault) (held_by after.state) (ap held_by is.1)
by_case before after call (Declines fault) reply fits (inr is) =
    is_left before.state (Declines fault) (held_by after.state) (ap held_by is.2)
by_case before after call (Finds found) reply fits (inl is) =
    is_left before.state (Finds found) (held_by after.state) (ap held_by is.1)
by_case before after call (Finds found) reply fits (inr (inl fails)) =
    is_left before.state (Finds found) (held_by after.state) (ap held_by fails.2)
by_case before after call (Finds found) reply fits (inr (inr memory)) =
    is_left before.state (Finds found) (held_by after.state) (ap held_by memory.1)
by_case before after call (Passes from) reply fits (inl (inl end)) =
    is_left before.state (Passes from) (held_by after.state) (ap held_by end.2)
by_case before after call (Passes from) reply fits (inl (inr given)) =
    is_left before.state (Passes from) (held_by after.state) (ap held_by given.3)
by_case before after call (Passes from) reply fits (inr is) =
    is_left before.state (Passes from) (held_by after.state) (ap held_by is.2)
by_case before after call (Changes said next) reply fits (inl is) =
    is_asked before.state said next (held_by after.state) (ap held_by is.1)
by_case before after call (Changes said next) reply fits (inr (inl fails)) =
    is_left before.state (Changes said next) (held_by after.state) (ap held_by fails.2)
by_case before after call (Changes said next) reply fits (inr (inr (inl breaks))) =
    let is = ap held_by breaks.4 in
    ⊎_elim (λ old. is_left before.state (Changes said next) (held_by after.state)
    (is ∙ ap held_by old))
    (λ new. is_asked before.state said next (held_by after.state) (is ∙ ap held_by new)) breaks.3
by_case before after call (Changes said next) reply fits (inr (inr (inr (inl memory)))) =
    is_left before.state (Changes said next) (held_by after.state) (ap held_by memory.1)
by_case before after call (Changes said next) reply fits (inr (inr (inr (inr room)))) =
    is_left before.state (Changes said next) (held_by after.state) (ap held_by room.2)

step_left : (before after : Handle) (call : Call) (reply : Reply) → Step before call reply after
    → Contains (left_by before.state (case_of before call)) (held after.state)
step_left before after call reply step =
    by_case before after call (case_of before call) reply (suits before call) step.answers

-- so is each that may be left within it
may_left : (before after : Handle) (call : Call) (reply : Reply) (left : Held)
    → Step before call reply after → MayBeLeft before after call left
    → Contains (left_by before.state (case_of before call)) (Holding left.map left.bounds)
may_left before after call reply left step (inl old) =
    is_left before.state (case_of before call) left old
may_left before after call reply left step (inr (inl new)) =
    subst (λ (h : Held). Contains (left_by before.state (case_of before call))
    (Holding h.map h.bounds)) (sym new) (step_left before after call reply step)
may_left before after call reply left step (inr (inr (broken, (said, next, asks, is)))) =
    subst (λ (c : Case). Contains (left_by before.state c) (Holding left.map left.bounds))
    (sym asks) (is_asked before.state said next left is)

-- ---- calls of a broken handle

abbrev Stays : Handle → Handle → Type 0
Stays before after =
    (after.state.usable ≡ before.state.usable) × (held_by after.state ≡ held_by before.state)

refused : (before after : Handle) (call : Call) (reply : Reply) (fault : Fault)
    → ByCase before call (Refuses fault) reply after → Stays before after
refused before after call reply fault (inl is) =
    (ap (λ (t : State). t.usable) is.1, ap held_by is.1)
refused before after call reply fault (inr is) = absurd is

told : (before after : Handle) (call : Call) (reply said : Reply) (s : State)
    → s.usable ≡ before.state.usable → held_by s ≡ held_by before.state
    → ByCase before call (Tells said s) reply after → Stays before after
told before after call reply said s usable same (inl is) =
    (ap (λ (t : State). t.usable) is.1 ∙ usable, ap held_by is.1 ∙ same)
told before after call reply said s usable same (inr is) = absurd is

by_broken : (before after : Handle) (call : Call) (reply : Reply)
    → ByCase before call (broken_case before.capacity before.state call) reply after
    → Stays before after
by_broken before after (Store key content mode) reply is =
    refused before after (Store key content mode) reply Broken is
by_broken before after (Fetch key) reply is = refused before after (Fetch key) reply Broken is
by_broken before after (Delete key) reply is = refused before after (Delete key) reply Broken is
by_broken before after First reply is = refused before after First reply Broken is
by_broken before after Next reply is = refused before after Next reply Broken is
by_broken before after Error reply is = told before after Error reply _ _ refl refl is
by_broken before after Clear reply is = told before after Clear reply _ _ refl refl is
by_broken before after Upgrade reply is = refused before after Upgrade reply Broken is

stays_broken : (before after : Handle) (call : Call) (reply : Reply) → Step before call reply after
    → before.state.usable ≡ false → Stays before after
stays_broken before after call reply step broken =
    by_broken before after call reply
    (falls before after call reply (broken_case before.capacity before.state call)
    (if_broken before call broken) step)

asks_nothing : (capacity : ℕ) (s : State) (call : Call) (said : Reply) (next : State)
    → broken_case capacity s call ≡ Changes said next → ⊥
asks_nothing capacity s (Store key content mode) said next is = absurd (let x = is in cc)
asks_nothing capacity s (Fetch key) said next is = absurd (let x = is in cc)
asks_nothing capacity s (Delete key) said next is = absurd (let x = is in cc)
asks_nothing capacity s First said next is = absurd (let x = is in cc)
asks_nothing capacity s Next said next is = absurd (let x = is in cc)
asks_nothing capacity s Error said next is = absurd (let x = is in cc)
asks_nothing capacity s Clear said next is = absurd (let x = is in cc)
asks_nothing capacity s Upgrade said next is = absurd (let x = is in cc)

broken_left : (before after : Handle) (call : Call) (reply : Reply) (left : Held)
    → Step before call reply after → before.state.usable ≡ false
    → MayBeLeft before after call left → left ≡ held_by before.state
broken_left before after call reply left step broken (inl old) = old
broken_left before after call reply left step broken (inr (inl new)) =
    new ∙ (stays_broken before after call reply step broken).1
broken_left before after call reply left step broken
    (inr (inr (unusable, (said, next, asks, is)))) =
    absurd (asks_nothing before.capacity before.state call said next
    (sym (if_broken before call broken) ∙ asks))

pub broken_within : (before after : Handle) (calls : List Call) (replies : List Reply)
    (left : Held) → before.state.usable ≡ false
    → MayBeLeftWithin before calls replies after left → left ≡ held_by before.state
broken_within before after [] [] left broken may = may.1
broken_within before after [] (reply ∷ replies) left broken may = absurd may
broken_within before after (call ∷ calls) [] left broken may = absurd may
broken_within before after (call ∷ calls) (reply ∷ replies) left broken
    (mid, step, inl (here, run)) =
    broken_left before mid call reply left step broken here
broken_within before after (call ∷ calls) (reply ∷ replies) left broken
    (mid, step, inr later) =
    let same = stays_broken before mid call reply step broken in
    broken_within mid after calls replies left (same.0 ∙ broken) later ∙ same.1

-- ---- a list of calls

-- the device fails no less often behind them
counts_within : (before after : Handle) (calls : List Call) (replies : List Reply)
    (left : Held) → MayBeLeftWithin before calls replies after left
    → before.faults ≤ after.faults
counts_within before after [] [] left may =
    omega (arith, ap (λ (h : Handle). h.faults) may.0)
counts_within before after [] (reply ∷ replies) left may = absurd may
counts_within before after (call ∷ calls) [] left may = absurd may
counts_within before after (call ∷ calls) (reply ∷ replies) left (mid, step, inl (here, run)) =
    omega (arith, step.counts, counts_up mid after calls replies run)
counts_within before after (call ∷ calls) (reply ∷ replies) left (mid, step, inr later) =
    omega (arith, step.counts, counts_within mid after calls replies left later)

-- a stop of a session that answered so leaves this member
pub record Found (most : ℕ) (first : Handle) (calls : List Call) (replies : List Reply)
    (member : Member) : Type 0 where
  pub stop : model.Ending
  pub is_stop : IsStopOf (model.Rested replies) stop
  pub after : Members
  pub goes : (group : List Pair) → GoesOn most first calls group stop after
  pub among : Contains after member

-- the calls that were made, up to one that is cut short
cut_at : (most : ℕ) (first held_at : Handle) (made : List Call) (answered : List Reply) (call : Call)
    (calls : List Call) (reply : Reply) (replies : List Reply) (member : Member)
    → Run first made answered held_at → held_at.state.usable ≡ true → held_at.faults ≤ most
    → Contains (left_by held_at.state (case_of held_at call)) member
    → Found most first (made ++ call ∷ calls) (answered ++ reply ∷ replies) member
cut_at most first held_at made answered call calls reply replies member run usable counts among =
    record {
      stop = StoppedCall answered;
      is_stop = (reply, replies, refl);
      after = left_by held_at.state (case_of held_at call);
      goes = λ group. record {
        goes = record {
          made = made;
          later = call ∷ calls;
          calls_are = refl;
          last = held_at;
          run = run;
          usable = usable;
          counts = counts;
        };
        call = call;
        rest = calls;
        next = refl;
        left = refl;
      };
      among = among;
    }

all_made : (most : ℕ) (first held_at : Handle) (made : List Call) (answered : List Reply)
    (member : Member) → Run first made answered held_at → held_at.state.usable ≡ true
    → held_at.faults ≤ most → member ≡ held held_at.state
    → Found most first (made ++ []) (answered ++ []) member
all_made most first held_at made answered member run usable counts is = record {
  stop = model.Rested answered;
  is_stop = ([], refl);
  after = held held_at.state ∷ [];
  goes = λ group. record {
    goes = record {
      made = made;
      later = [];
      calls_are = refl;
      last = held_at;
      run = run;
      usable = usable;
      counts = counts;
    };
    left = refl;
  };
  among = is_first (held held_at.state) [] member is;
}

-- of the calls made so far, and of those that came then
within_from : (most : ℕ) (first now after : Handle) (made calls : List Call)
    (answered replies : List Reply) (left : Held) → Run first made answered now
    → now.state.usable ≡ true → after.faults ≤ most
    → MayBeLeftWithin now calls replies after left
    → Found most first (made ++ calls) (answered ++ replies) (Holding left.map left.bounds)
within_from most first now after made [] answered [] left run usable counts may =
    all_made most first now made answered (Holding left.map left.bounds) run usable
    (omega (arith, counts_within now after [] [] left may, counts))
    (ap (λ (h : Held). Holding h.map h.bounds) may.1)
within_from most first now after made [] answered (reply ∷ replies) left run usable counts may =
    absurd may
within_from most first now after made (call ∷ calls) answered [] left run usable counts may =
    absurd may
within_from most first now after made (call ∷ calls) answered (reply ∷ replies) left run usable
    counts (mid, step, inl (here, rest)) =
    cut_at most first now made answered call calls reply replies (Holding left.map left.bounds) run
    usable (omega (arith, step.counts, counts_up mid after calls replies rest, counts))
    (may_left now mid call reply left step here)
within_from most first now after made (call ∷ calls) answered (reply ∷ replies) left run usable
    counts (mid, step, inr later) = ⊎_elim
    (λ on.
    subst (λ (cs : List Call).
    Found most first cs (answered ++ reply ∷ replies) (Holding left.map left.bounds))
    (append_assoc made (call ∷ []) calls)
    (subst (λ (rs : List Reply). Found most first ((made ++ call ∷ []) ++ calls) rs
    (Holding left.map left.bounds)) (append_assoc answered (reply ∷ []) replies)
    (within_from most first mid after (made ++ call ∷ []) calls (answered ++ reply ∷ []) replies
    left (run-push first now mid made answered call reply run step) on counts later)))
    (λ broken.
    cut_at most first now made answered call calls reply replies (Holding left.map left.bounds) run
    usable (omega (arith, step.counts, counts_within mid after calls replies left later, counts))
    (subst (λ (h : Held). Contains (left_by now.state (case_of now call)) (Holding h.map h.bounds))
    (sym (broken_within mid after calls replies left broken later))
    (step_left now mid call reply step)))
    (cases_Bool mid.state.usable)

pub within : (most : ℕ) (first after : Handle) (calls : List Call) (replies : List Reply)
    (left : Held) → first.state.usable ≡ true → after.faults ≤ most
    → MayBeLeftWithin first calls replies after left
    → Found most first calls replies (Holding left.map left.bounds)
within most first after calls replies left usable counts may =
    within_from most first first after [] calls [] replies left refl usable counts may
