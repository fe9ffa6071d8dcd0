use Rattle.std.proofs.Common.{◌≡◌, ◌∙◌, ℕ, ◌≤◌, List, length, [], inl, Err, map, refl, sym, ap, arith, rules}
use Rattle.std.proofs.lemmas.Result.{IfOk-from_err}
use Rattle.std.specs.BTreeSet.{insert_key}
use Rattle.std.specs.Global.{Vec}
use Rattle.std.specs.Cmp.Lexicographic.{slice_cmp}
use Rattle.std.specs.Ordering.{nat_cmp}
use Rattle.std.proofs.lemmas.List.{length-map}
use Rattle.dbm_engines.specs.Dumping.{IsChance}
use Rattle.dbm_fault.specs.declared.fault.Fault.TheVariants.{Broken}
use Rattle.dbm_fault.specs.declared.engine_fault.EngineFault.TheVariants.{Memory, Db}
use Rattle.dbm_engines.proofs.Dumping.{reads_on, reads_well, reads_gave, reads_damaged, reads_no_memory, reads_refused, chance_told}
use Rattle.page_io.proofs.Exits.{exit_is, if_exit, no_err}
use Rattle.dbm_engines.proofs.Exits.{same_exit, of_beginning, as_many}
use Rattle.dbm_engines.proofs.DumpingKeys.{pass_begins, pass_begins_not, pass_ends, pass_too_short, pass_too_long, none_left, pass_goes_on, pass_goes_on_not, bytes_put, one_more_at_most}
use Rattle.dbm_engines.proofs.gather.gather_keys.Given.{Over}
use Rattle.dbm_engines.proofs.gather.gather_keys.Goals as goal
use Rattle.dbm_engines.proofs.gather.gather_keys.Goals.{then-is_some-via-then-is_some, then-is_some-via-else-is_some+then-len-most}

none_yet : (keys : List (Vec ℕ)) (n : ℕ) → keys ≡ [] → length keys ≤ n
none_yet keys n none = rw none (omega arith)

no_memory : (g : Over) (c : goal.After-drop-keys-in_err-map_err g)
    → c.from_residual-in_err-map_err.result ≡ Err Memory
no_memory g c = search rules

pub loop-step-init : goal.loop-step-init
loop-step-init g c =
    let none : c.new-keys.result.keys ≡ [] = c.new-keys.ensures.empty in
    record {
      reads = reads_well g.S.PageStore _ _ c.copy_first.result c.in_ok-given.given c.in_ok-given.was
          c.copy_first.ensures.reads;
      many = none_yet _ _ none;
      passing = λ honest h at usable.
          pass_begins _ _ h c.copy_first.result c.in_ok-given.given _ usable
          (c.copy_first.ensures.step honest h at) c.in_ok-given.was
          (ap (map (λ key. key.items)) none);
    }

pub returns-in_err-given-2-clause-keys : goal.returns-in_err-given-2-clause-keys
returns-in_err-given-2-clause-keys g c honest h at usable =
    let told = exit_is c.from_residual-in_err-given-2.result _
    c.from_residual-in_err-given-2.ensures.1 in
    let so_far = c.loop-step.invariant.passing honest h at usable in
    let chance = pass_goes_on_not _ _ _ _ _ c.in-Some.key _ c.copy_next.result so_far c.in-Some.is
    (c.copy_next.ensures.step (c.loop-step.invariant.reads.goes.honesty.1 honest) so_far.now
    so_far.is_at) c.in_err-given-2.field-0.0 c.in_err-given-2.was in
    chance_told IsChance _ _ _ told chance

pub returns-in_err-given-2-clause-reads : goal.returns-in_err-given-2-clause-reads
returns-in_err-given-2-clause-reads g c =
    let told = exit_is c.from_residual-in_err-given-2.result _
    c.from_residual-in_err-given-2.ensures.1 in
    reads_refused g.S.PageStore _ _ c.copy_next.result _ c.in_err-given-2.field-0.0
    c.in_err-given-2.was told (reads_on g.S.PageStore _ _ _ _ c.loop-step.invariant.reads _
    c.copy_next.ensures.reads)

pub loop-step-preserved : goal.loop-step-preserved
loop-step-preserved g c =
    let put : c.insert.new.self.keys
    ≡ insert_key (λ x y. slice_cmp nat_cmp x.items y.items) c.loop-step.keys.keys
    c.in-Some.key = search rules in
    let invariant = c.loop-step.invariant in
    record {
      reads = reads_well g.S.PageStore _ _ c.copy_next.result c.in_ok-given-2.given
          c.in_ok-given-2.was (reads_on g.S.PageStore _ _ _ _ invariant.reads _
          c.copy_next.ensures.reads);
      many = one_more_at_most c.loop-step.keys.keys _ c.in-Some.key _ put invariant.many;
      passing = λ honest h at usable.
          let so_far = invariant.passing honest h at usable in
          pass_goes_on _ _ _ _ _ c.in-Some.key _ c.copy_next.result so_far c.in-Some.is
          (c.copy_next.ensures.step (invariant.reads.goes.honesty.1 honest) so_far.now
          so_far.is_at) c.in_ok-given-2.given _ c.in_ok-given-2.was
          (bytes_put c.loop-step.keys.keys _ c.in-Some.key put);
    }

-- ---- the pass is not begun

pub returns-in_err-given-clause-keys : goal.returns-in_err-given-clause-keys
returns-in_err-given-clause-keys g c honest h at usable =
    chance_told IsChance _ c.in_err-given.field-0.0 _ (exit_is _ _ c.from_residual.ensures.1)
    (pass_begins_not _ _ h c.copy_first.result _ usable (c.copy_first.ensures.step honest h at)
    c.in_err-given.was)

pub returns-in_err-given-clause-counted : goal.returns-in_err-given-clause-counted
returns-in_err-given-clause-counted g c = IfOk-from_err _ _ c.from_residual.ensures.0

pub returns-in_err-given-clause-reads : goal.returns-in_err-given-clause-reads
returns-in_err-given-clause-reads g c =
    reads_refused g.S.PageStore _ _ c.copy_first.result _ c.in_err-given.field-0.0
    c.in_err-given.was (exit_is _ _ c.from_residual.ensures.1) c.copy_first.ensures.reads

pub returns-in_err-given-clause-broken : goal.returns-in_err-given-clause-broken
returns-in_err-given-clause-broken g c broken =
    same_exit _ c.in_err-given.field-0.0 (Db Broken) (exit_is _ _ c.from_residual.ensures.1)
    (c.in_err-given.ensures.broken broken)

pub returns-in_err-given-clause-only : goal.returns-in_err-given-clause-only
returns-in_err-given-clause-only g c =
    if_exit _ _ c.in_err-given.field-0.0 (exit_is _ _ c.from_residual.ensures.1)
    (of_beginning _ c.in_err-given.ensures.only)

-- ---- fewer keys than are counted

pub returns-in_default-clause-keys : goal.returns-in_default-clause-keys
returns-in_default-clause-keys g c honest h at usable =
    let counts = c.stat-most.ensures.counts h at usable in
    let so_far = c.loop-step.invariant.passing honest h at usable in
    pass_too_short _ _ _ _ c.loop-step.given c.loop-step._step (length c.loop-step.keys.keys)
    c.stat-most.result.pairs so_far c.in_default.is
    (length-map c.loop-step.keys.keys (λ key. key.items)) counts.0
    (omega (arith, c.loop-step.invariant.many, c.loop-step-test.true))

pub returns-in_default-clause-reads : goal.returns-in_default-clause-reads
returns-in_default-clause-reads g c = reads_damaged g.S.PageStore _ _ c.loop-step.invariant.reads

pub returns-in_default-clause-broken : goal.returns-in_default-clause-broken
returns-in_default-clause-broken g c broken =
    no_err c.in_ok-given.given (Db Broken) (c.in_ok-given.ensures.broken broken)

-- ---- all keys are there

pub returns-clause-keys : goal.returns-clause-keys
returns-clause-keys g c honest h at usable =
    pass_ends _ _ _ c.loop-step.given _ (c.loop-step.invariant.passing honest h at usable)
    (none_left c.loop-step.given (sym c.is_some.ensures ∙ c.if-is_some.false))

-- that the loop ends at the counted number is searched, so that an edit of its end leaves this goal
-- open
pub returns-clause-counted : goal.returns-clause-counted
returns-clause-counted g c = as_many _ _ _ _ c.loop-step.invariant.many
    c.loop-step.auto._step-end (omega (arith, c.len.ensures, c.if-len-most.false)) (search rules)

pub returns-clause-reads : goal.returns-clause-reads
returns-clause-reads g c = reads_gave g.S.PageStore _ _ c.loop-step.keys c.loop-step.invariant.reads

pub returns-clause-broken : goal.returns-clause-broken
returns-clause-broken g c broken =
    no_err c.in_ok-given.given (Db Broken) (c.in_ok-given.ensures.broken broken)

-- ---- want of memory

pub returns-in_err-map_err-clause-keys : goal.returns-in_err-map_err-clause-keys
returns-in_err-map_err-clause-keys g c honest h at usable =
    chance_told IsChance _ Memory _ (no_memory g c) (inl refl)

pub returns-in_err-map_err-clause-counted : goal.returns-in_err-map_err-clause-counted
returns-in_err-map_err-clause-counted g c = IfOk-from_err _ _ c.from_residual-in_err-map_err.ensures.0

pub returns-in_err-map_err-clause-reads : goal.returns-in_err-map_err-clause-reads
returns-in_err-map_err-clause-reads g c =
    reads_no_memory g.S.PageStore _ _ c.from_residual-in_err-map_err.result (no_memory g c)
    c.loop-step.invariant.reads

pub returns-in_err-map_err-clause-broken : goal.returns-in_err-map_err-clause-broken
returns-in_err-map_err-clause-broken g c broken =
    no_err c.in_ok-given.given (Db Broken) (c.in_ok-given.ensures.broken broken)

pub returns-in_err-map_err-clause-only : goal.returns-in_err-map_err-clause-only
returns-in_err-map_err-clause-only g c = if_exit _ _ Memory (no_memory g c) (inl refl)

-- ---- a later key is not read

pub returns-in_err-given-2-clause-counted : goal.returns-in_err-given-2-clause-counted
returns-in_err-given-2-clause-counted g c = IfOk-from_err _ _ c.from_residual-in_err-given-2.ensures.0

pub returns-in_err-given-2-clause-broken : goal.returns-in_err-given-2-clause-broken
returns-in_err-given-2-clause-broken g c broken =
    no_err c.in_ok-given.given (Db Broken) (c.in_ok-given.ensures.broken broken)

pub returns-in_err-given-2-clause-only : goal.returns-in_err-given-2-clause-only
returns-in_err-given-2-clause-only g c =
    if_exit _ _ c.in_err-given-2.field-0.0 (exit_is _ _ c.from_residual-in_err-given-2.ensures.1)
    c.in_err-given-2.ensures.only

-- ---- more or fewer keys than are counted

pub returns-then-is_some-clause-keys : goal.returns-then-is_some-clause-keys
returns-then-is_some-clause-keys g c honest h at usable =
    let counts = c.stat-most.ensures.counts h at usable in
    let so_far = c.loop-step.invariant.passing honest h at usable in
    elim c.then-is_some.branch [
      | then-is_some-via-then-is_some w ↦
          pass_too_long _ _ _ _ c.loop-step.given c.loop-step._step c.stat-most.result.pairs so_far
          (sym c.is_some.ensures ∙ w.if-is_some.true) counts.0 c.loop-step-test.false
      | then-is_some-via-else-is_some+then-len-most w ↦
          pass_too_short _ _ _ _ c.loop-step.given c.loop-step._step (length c.loop-step.keys.keys)
          c.stat-most.result.pairs so_far
          (none_left c.loop-step.given (sym c.is_some.ensures ∙ w.if-is_some.false))
          (length-map c.loop-step.keys.keys (λ key. key.items)) counts.0
          (omega (arith, w.len.ensures, w.if-len-most.true))
    ]

pub returns-then-is_some-clause-reads : goal.returns-then-is_some-clause-reads
returns-then-is_some-clause-reads g c = reads_damaged g.S.PageStore _ _ c.loop-step.invariant.reads

pub returns-then-is_some-clause-broken : goal.returns-then-is_some-clause-broken
returns-then-is_some-clause-broken g c broken =
    no_err c.in_ok-given.given (Db Broken) (c.in_ok-given.ensures.broken broken)
