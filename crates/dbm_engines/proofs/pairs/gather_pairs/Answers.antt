use Rattle.std.proofs.Common.{◌≡◌, ◌∙◌, ℕ, ◌≤◌, List, length, [], inl, Ok, Err, map, refl, sym, ap, arith, rules}
use Rattle.std.proofs.lemmas.Result.{IfOk-from_err}
use Rattle.std.specs.BTreeMap.{insert_entry}
use Rattle.std.specs.Cmp.Lexicographic.{slice_cmp}
use Rattle.std.specs.Ordering.{nat_cmp}
use Rattle.dbm_engines.specs.Dumping.{IsPairChance}
use Rattle.dbm_fault.specs.declared.fault.Fault.TheVariants.{Broken}
use Rattle.dbm_fault.specs.declared.engine_fault.EngineFault.TheVariants.{Memory, Db}
use Rattle.dbm_engines.proofs.Dumping.{reads_on, reads_well, reads_gave, reads_damaged, reads_no_memory, reads_refused, chance_told}
use Rattle.page_io.proofs.Exits.{exit_is, if_exit, no_err}
use Rattle.dbm_engines.proofs.Exits.{same_exit, of_beginning, of_next, of_content, as_many}
use Rattle.dbm_engines.proofs.DumpingKeys.{pass_begins, pass_begins_not, pass_too_short, pass_too_long, none_left, pass_goes_on_not}
use Rattle.dbm_engines.proofs.DumpingPairs.{Owned, many_bytes, pair_put, one_pair_more, fetch_begins, fetch_goes_on, fetch_goes_on_not, none_missing, pass_stays, fetch_ends}
use Rattle.dbm_engines.proofs.pairs.gather_pairs.Given.{Over}
use Rattle.dbm_engines.proofs.pairs.gather_pairs.Goals as goal
use Rattle.dbm_engines.proofs.pairs.gather_pairs.Goals.{then-is_some-via-then-is_some, then-is_some-via-else-is_some+then-len-most}

none_yet : (pairs : List Owned) (n : ℕ) → pairs ≡ [] → length pairs ≤ n
none_yet pairs n none = rw none (omega arith)

no_memory : (g : Over) (c : goal.After-drop-pairs-in_err-map_err g)
    → c.from_residual-in_err-map_err.result ≡ Err Memory
no_memory g c = search rules

pub loop-step-init : goal.loop-step-init
loop-step-init g c =
    let none : c.new-pairs.result.entries ≡ [] = c.new-pairs.ensures.empty in
    record {
      reads = reads_well g.S.PageStore _ _ c.copy_first.result c.in_ok-given.given c.in_ok-given.was
          c.copy_first.ensures.reads;
      many = none_yet _ _ none;
      passing = λ honest h at usable.
          fetch_begins _ _ _ c.in_ok-given.given
          (ap (map (λ pair. (pair.0.items, pair.1.items))) none)
          (pass_begins _ _ h c.copy_first.result c.in_ok-given.given [] usable
          (c.copy_first.ensures.step honest h at) c.in_ok-given.was refl);
    }

-- ---- the pass is not begun

pub returns-in_err-given-clause-pairs : goal.returns-in_err-given-clause-pairs
returns-in_err-given-clause-pairs g c honest h at usable =
    chance_told (IsPairChance h.state.map) _ c.in_err-given.field-0.0 _ (exit_is _ _ c.from_residual.ensures.1)
    (inl (pass_begins_not _ _ h c.copy_first.result _ usable
    (c.copy_first.ensures.step honest h at) c.in_err-given.was))

pub returns-in_err-given-clause-counted : goal.returns-in_err-given-clause-counted
returns-in_err-given-clause-counted g c = IfOk-from_err _ _ c.from_residual.ensures.0

pub returns-in_err-given-clause-reads : goal.returns-in_err-given-clause-reads
returns-in_err-given-clause-reads g c =
    reads_refused g.S.PageStore _ _ c.copy_first.result _ c.in_err-given.field-0.0
    c.in_err-given.was (exit_is _ _ c.from_residual.ensures.1) c.copy_first.ensures.reads

pub returns-in_err-given-clause-broken : goal.returns-in_err-given-clause-broken
returns-in_err-given-clause-broken g c broken =
    same_exit _ c.in_err-given.field-0.0 (Db Broken) (exit_is _ _ c.from_residual.ensures.1)
    (c.in_err-given.ensures.broken broken)

pub returns-in_err-given-clause-only : goal.returns-in_err-given-clause-only
returns-in_err-given-clause-only g c =
    if_exit _ _ c.in_err-given.field-0.0 (exit_is _ _ c.from_residual.ensures.1)
    (of_next _ (of_beginning _ c.in_err-given.ensures.only))

-- ---- fewer keys than are counted

pub returns-in_default-clause-pairs : goal.returns-in_default-clause-pairs
returns-in_default-clause-pairs g c honest h at usable =
    let counts = c.stat-most.ensures.counts h at usable in
    let so_far = c.loop-step.invariant.passing honest h at usable in
    pass_too_short _ _ _ _ c.loop-step.given c.loop-step._step (length c.loop-step.pairs.entries)
    c.stat-most.result.pairs so_far.pass c.in_default.is
    (many_bytes c.loop-step.pairs.entries) counts.0
    (omega (arith, c.loop-step.invariant.many, c.loop-step-test.true))

pub returns-in_default-clause-reads : goal.returns-in_default-clause-reads
returns-in_default-clause-reads g c = reads_damaged g.S.PageStore _ _ c.loop-step.invariant.reads

pub returns-in_default-clause-broken : goal.returns-in_default-clause-broken
returns-in_default-clause-broken g c broken =
    no_err c.in_ok-given.given (Db Broken) (c.in_ok-given.ensures.broken broken)

-- ---- all pairs are there

pub returns-clause-pairs : goal.returns-clause-pairs
returns-clause-pairs g c honest h at usable =
    fetch_ends _ _ _ c.loop-step.given _ (c.loop-step.invariant.passing honest h at usable)
    (none_left c.loop-step.given (sym c.is_some.ensures ∙ c.if-is_some.false))

-- that the loop ends at the counted number is searched, so that an edit of its end leaves this goal
-- open
pub returns-clause-counted : goal.returns-clause-counted
returns-clause-counted g c = as_many _ _ _ _ c.loop-step.invariant.many
    c.loop-step.auto._step-end (omega (arith, c.len.ensures, c.if-len-most.false)) (search rules)

pub returns-clause-reads : goal.returns-clause-reads
returns-clause-reads g c =
    reads_gave g.S.PageStore _ _ c.loop-step.pairs c.loop-step.invariant.reads

pub returns-clause-broken : goal.returns-clause-broken
returns-clause-broken g c broken =
    no_err c.in_ok-given.given (Db Broken) (c.in_ok-given.ensures.broken broken)

-- ---- more or fewer keys than are counted

pub returns-then-is_some-clause-pairs : goal.returns-then-is_some-clause-pairs
returns-then-is_some-clause-pairs g c honest h at usable =
    let counts = c.stat-most.ensures.counts h at usable in
    let so_far = c.loop-step.invariant.passing honest h at usable in
    elim c.then-is_some.branch [
      | then-is_some-via-then-is_some w ↦
          pass_too_long _ _ _ _ c.loop-step.given c.loop-step._step c.stat-most.result.pairs so_far.pass
          (sym c.is_some.ensures ∙ w.if-is_some.true) counts.0 c.loop-step-test.false
      | then-is_some-via-else-is_some+then-len-most w ↦
          pass_too_short _ _ _ _ c.loop-step.given c.loop-step._step (length c.loop-step.pairs.entries)
          c.stat-most.result.pairs so_far.pass
          (none_left c.loop-step.given (sym c.is_some.ensures ∙ w.if-is_some.false))
          (many_bytes c.loop-step.pairs.entries) counts.0
          (omega (arith, w.len.ensures, w.if-len-most.true))
    ]

pub returns-then-is_some-clause-reads : goal.returns-then-is_some-clause-reads
returns-then-is_some-clause-reads g c = reads_damaged g.S.PageStore _ _ c.loop-step.invariant.reads

pub returns-then-is_some-clause-broken : goal.returns-then-is_some-clause-broken
returns-then-is_some-clause-broken g c broken =
    no_err c.in_ok-given.given (Db Broken) (c.in_ok-given.ensures.broken broken)

-- ---- a content is not read

pub returns-in_err-content-clause-pairs : goal.returns-in_err-content-clause-pairs
returns-in_err-content-clause-pairs g c honest h at usable =
    let told = exit_is c.from_residual-in_err-content.result c.in_err-content.field-0.0
    c.from_residual-in_err-content.ensures.1 in
    let so_far = c.loop-step.invariant.passing honest h at usable in
    let step = c.copy_content.ensures.step (c.loop-step.invariant.reads.goes.honesty.1 honest)
    so_far.pass.now so_far.pass.is_at in
    chance_told (IsPairChance h.state.map) _ _ _ told (fetch_goes_on_not _ c.copy_content.new.db _ _ c.loop-step.given _
    c.in-Some.key c.deref.result.now c.copy_content.result so_far c.in-Some.is
    c.deref.ensures.value step c.in_err-content.field-0.0 c.in_err-content.was)

pub returns-in_err-content-clause-counted : goal.returns-in_err-content-clause-counted
returns-in_err-content-clause-counted g c = IfOk-from_err _ _ c.from_residual-in_err-content.ensures.0

pub returns-in_err-content-clause-reads : goal.returns-in_err-content-clause-reads
returns-in_err-content-clause-reads g c =
    reads_refused g.S.PageStore _ _ c.copy_content.result _ c.in_err-content.field-0.0
    c.in_err-content.was (exit_is _ _ c.from_residual-in_err-content.ensures.1)
    (reads_on g.S.PageStore _ _ _ _ c.loop-step.invariant.reads _ c.copy_content.ensures.reads)

pub returns-in_err-content-clause-broken : goal.returns-in_err-content-clause-broken
returns-in_err-content-clause-broken g c broken =
    no_err c.in_ok-given.given (Db Broken) (c.in_ok-given.ensures.broken broken)

pub returns-in_err-content-clause-only : goal.returns-in_err-content-clause-only
returns-in_err-content-clause-only g c =
    if_exit _ _ c.in_err-content.field-0.0
    (exit_is _ _ c.from_residual-in_err-content.ensures.1)
    (of_content _ c.in_err-content.ensures.only)

-- ---- a key has none

pub returns-in_default-2-clause-pairs : goal.returns-in_default-2-clause-pairs
returns-in_default-2-clause-pairs g c honest h at usable =
    let so_far = c.loop-step.invariant.passing honest h at usable in
    let step = c.copy_content.ensures.step (c.loop-step.invariant.reads.goes.honesty.1 honest)
    so_far.pass.now so_far.pass.is_at in
    absurd (none_missing _ c.copy_content.new.db _ _ c.loop-step.given _ c.in-Some.key
    c.deref.result.now c.copy_content.result so_far c.in-Some.is c.deref.ensures.value step
    (c.in_ok-content.was ∙ ap Ok c.in_default-2.is))

pub returns-in_default-2-clause-reads : goal.returns-in_default-2-clause-reads
returns-in_default-2-clause-reads g c =
    reads_damaged g.S.PageStore _ _
    (reads_well g.S.PageStore _ _ c.copy_content.result c.in_ok-content.field-0
    c.in_ok-content.was (reads_on g.S.PageStore _ _ _ _ c.loop-step.invariant.reads _
    c.copy_content.ensures.reads))

pub returns-in_default-2-clause-broken : goal.returns-in_default-2-clause-broken
returns-in_default-2-clause-broken g c broken =
    no_err c.in_ok-given.given (Db Broken) (c.in_ok-given.ensures.broken broken)

-- ---- want of memory

pub returns-in_err-map_err-clause-pairs : goal.returns-in_err-map_err-clause-pairs
returns-in_err-map_err-clause-pairs g c honest h at usable =
    chance_told (IsPairChance h.state.map) _ Memory _ (no_memory g c) (inl (inl refl))

pub returns-in_err-map_err-clause-counted : goal.returns-in_err-map_err-clause-counted
returns-in_err-map_err-clause-counted g c = IfOk-from_err _ _ c.from_residual-in_err-map_err.ensures.0

pub returns-in_err-map_err-clause-reads : goal.returns-in_err-map_err-clause-reads
returns-in_err-map_err-clause-reads g c =
    reads_no_memory g.S.PageStore _ _ c.from_residual-in_err-map_err.result (no_memory g c)
    (reads_well g.S.PageStore _ _ c.copy_content.result c.in_ok-content.field-0
    c.in_ok-content.was (reads_on g.S.PageStore _ _ _ _ c.loop-step.invariant.reads _
    c.copy_content.ensures.reads))

pub returns-in_err-map_err-clause-broken : goal.returns-in_err-map_err-clause-broken
returns-in_err-map_err-clause-broken g c broken =
    no_err c.in_ok-given.given (Db Broken) (c.in_ok-given.ensures.broken broken)

pub returns-in_err-map_err-clause-only : goal.returns-in_err-map_err-clause-only
returns-in_err-map_err-clause-only g c = if_exit _ _ Memory (no_memory g c) (inl refl)

-- ---- a later key is not read

pub returns-in_err-given-2-clause-pairs : goal.returns-in_err-given-2-clause-pairs
returns-in_err-given-2-clause-pairs g c honest h at usable =
    let told = exit_is c.from_residual-in_err-given-2.result _
    c.from_residual-in_err-given-2.ensures.1 in
    let here = c.loop-step.invariant.reads.goes.honesty.1 honest in
    let so_far = c.loop-step.invariant.passing honest h at usable in
    let step = c.copy_content.ensures.step here so_far.pass.now so_far.pass.is_at in
    let stays = pass_stays _ c.copy_content.new.db _ _ c.loop-step.given _ c.in-Some.key
    c.deref.result.now c.copy_content.result so_far c.in-Some.is c.deref.ensures.value step
    c.in-Some-2.content (c.in_ok-content.was ∙ ap Ok c.in-Some-2.is) in
    chance_told (IsPairChance h.state.map) _ _ _ told (inl (pass_goes_on_not _ _ _ _ c.loop-step.given c.in-Some.key _
    c.copy_next.result stays c.in-Some.is
    (c.copy_next.ensures.step (c.copy_content.ensures.reads.goes.honesty.1 here) stays.now
    stays.is_at) c.in_err-given-2.field-0.0 c.in_err-given-2.was))

pub returns-in_err-given-2-clause-counted : goal.returns-in_err-given-2-clause-counted
returns-in_err-given-2-clause-counted g c = IfOk-from_err _ _ c.from_residual-in_err-given-2.ensures.0

pub returns-in_err-given-2-clause-reads : goal.returns-in_err-given-2-clause-reads
returns-in_err-given-2-clause-reads g c =
    let fetched = reads_well g.S.PageStore _ _ c.copy_content.result c.in_ok-content.field-0
    c.in_ok-content.was (reads_on g.S.PageStore _ _ _ _ c.loop-step.invariant.reads _
    c.copy_content.ensures.reads) in
    reads_refused g.S.PageStore _ _ c.copy_next.result _ c.in_err-given-2.field-0.0
    c.in_err-given-2.was (exit_is _ _ c.from_residual-in_err-given-2.ensures.1)
    (reads_on g.S.PageStore _ _ _ _ fetched _ c.copy_next.ensures.reads)

pub returns-in_err-given-2-clause-broken : goal.returns-in_err-given-2-clause-broken
returns-in_err-given-2-clause-broken g c broken =
    no_err c.in_ok-given.given (Db Broken) (c.in_ok-given.ensures.broken broken)

pub returns-in_err-given-2-clause-only : goal.returns-in_err-given-2-clause-only
returns-in_err-given-2-clause-only g c =
    if_exit _ _ c.in_err-given-2.field-0.0 (exit_is _ _ c.from_residual-in_err-given-2.ensures.1)
    (of_next _ c.in_err-given-2.ensures.only)

-- ---- one more pair

pub loop-step-preserved : goal.loop-step-preserved
loop-step-preserved g c =
    let invariant = c.loop-step.invariant in
    let inserted : c.insert.new.self.entries
    ≡ insert_entry (λ x y. slice_cmp nat_cmp x.items y.items) c.loop-step.pairs.entries
    c.in-Some.key c.in-Some-2.content = search rules in
    let fetched = reads_well g.S.PageStore _ _ c.copy_content.result c.in_ok-content.field-0
    c.in_ok-content.was (reads_on g.S.PageStore _ _ _ _ invariant.reads _
    c.copy_content.ensures.reads) in
    record {
      reads = reads_well g.S.PageStore _ _ c.copy_next.result c.in_ok-given-2.given
          c.in_ok-given-2.was (reads_on g.S.PageStore _ _ _ _ fetched _
          c.copy_next.ensures.reads);
      many = one_pair_more c.loop-step.pairs.entries _ c.in-Some.key c.in-Some-2.content _ inserted
          invariant.many;
      passing = λ honest h at usable.
          let here = invariant.reads.goes.honesty.1 honest in
          let so_far = invariant.passing honest h at usable in
          let step = c.copy_content.ensures.step here so_far.pass.now so_far.pass.is_at in
          fetch_goes_on _ c.copy_content.new.db _ _ c.loop-step.given _ c.in-Some.key
          c.deref.result.now c.copy_content.result so_far c.in-Some.is c.deref.ensures.value step
          c.in-Some-2.content (c.in_ok-content.was ∙ ap Ok c.in-Some-2.is) _ c.copy_next.result
          c.in_ok-given-2.given _
          (c.copy_next.ensures.step (c.copy_content.ensures.reads.goes.honesty.1 here)
          step.2.after step.2.is_at) c.in_ok-given-2.was
          (pair_put c.loop-step.pairs.entries _ c.in-Some.key c.in-Some-2.content inserted);
    }
