use Rattle.std.proofs.Common.{◌≡◌, List, map, take, length, subst, sym, arith}
use Rattle.dbm_file.specs.Pairs.{pair_of}
use Rattle.dbm_model.specs.Pairs.{Pair}
use Rattle.dbm_file.specs.GroupsInMemory.{StoresOne, StoresMany}
use Rattle.dbm_file.proofs.GroupSteps.{one_more_stored, no_more_stored}
use Rattle.dbm_file.proofs.Runs.{seen_next, still_goes}
use Rattle.dbm_file.proofs.groups.fill.Goals as goal

pub returns-then-not-branch-clause-stored : goal.returns-then-not-branch-clause-stored
returns-then-not-branch-clause-stored g c =
    no_more_stored c.args.group.now c.loop-count.group c.store_in.new.group
    (map pair_of (take c.loop-count.count c.args.pairs.now))
    c.loop-count.invariant.goes.honesty.1 c.loop-count.invariant.stored
    (subst (StoresOne c.loop-count.group c.store_in.new.group (pair_of c.index-pairs-count.result))
    c.if-not-branch.true c.in_ok-store_in.ensures.stored)

pub loop-count-preserved : goal.loop-count-preserved
loop-count-preserved g c =
    let pairs = c.args.pairs.now in
    let i = c.loop-count.count in
    let pair = c.index-pairs-count.result in
    let so_far = c.loop-count.invariant in
    record {
      goes = still_goes c.args.group.now c.loop-count.group c.store_in.new.group so_far.goes
          c.in_ok-store_in.ensures.goes;
      stored = subst (λ (ps : List Pair). StoresMany c.args.group.now c.store_in.new.group ps)
          (sym (seen_next pair_of pairs i pair c.loop-count-test.true c.index-pairs-count.is))
          (one_more_stored c.args.group.now c.loop-count.group c.store_in.new.group
          (map pair_of (take i pairs)) (pair_of pair) so_far.goes.bounds so_far.goes.capacity
          so_far.goes.honesty.1 so_far.stored
          (subst (StoresOne c.loop-count.group c.store_in.new.group (pair_of pair))
          c.if-not-branch.false c.in_ok-store_in.ensures.stored));
    }

pub returns-clause-stored : goal.returns-clause-stored
returns-clause-stored g c =
    let pairs = c.args.pairs.now in
    let all : c.loop-count.count ≡ length pairs =
    omega (arith, c.loop-count-test.false, c.loop-count.auto.count-end) in
    subst (λ n. StoresMany c.args.group.now c.loop-count.group (map pair_of (take n pairs))) all
    c.loop-count.invariant.stored
