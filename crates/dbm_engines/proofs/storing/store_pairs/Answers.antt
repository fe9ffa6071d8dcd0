use Rattle.std.proofs.Common.{◌≤◌, List, length, map, take, arith, refl, subst}
use Rattle.std.proofs.lemmas.List.{length-map}
use Rattle.dbm_model.specs.Pairs.{Pair}
use Rattle.dbm_file.specs.Database.{store_of}
use Rattle.dbm_file.proofs.Runs.{goes_nowhere, still_goes}
use Rattle.dbm_engines.specs.Storing.{StopsBehind, StoresAll, pair_of}
use Rattle.dbm_engines.proofs.Stores.{rest_length, rest_of, stores_none, stored_on, stopped_on, stored_all}
use Rattle.dbm_engines.proofs.storing.store_pairs.Goals as goal

pub loop-round-init : goal.loop-round-init
loop-round-init g c = record {
  stores = stores_none g.S.PageStore c.args.db.now
      (λ x honest left. g.met.S.PageStore.only_now (store_of c.args.db.now) x honest left);
  goes = goes_nowhere c.args.db.now;
  within = omega arith;
  rounds = omega arith;
}

pub loop-round-preserved : goal.loop-round-preserved
loop-round-preserved g c =
    let h = c.loop-round.invariant in
    let pairs = c.args.pairs.now in
    let rest = rest_of pair_of c.loop-round.done pairs pairs refl in
    record {
      stores = stored_on g.S.PageStore c.args.db.now c.loop-round.db c.store_some.new.db h.goes
          c.store_some.ensures.goes (map pair_of pairs) c.loop-round.done h.stores
          c.in-Ok.stored (subst (λ (ps : List Pair).
          StoresAll c.loop-round.db c.store_some.new.db (take c.in-Ok.stored ps)) rest
          c.in-Ok.ensures.stores);
      goes = still_goes _ _ _ h.goes c.store_some.ensures.goes;
      within = omega (
        arith,
        c.in-Ok.ensures.within,
        rest_length c.loop-round.done pairs,
        c.if-done-pairs.false,
      );
      rounds = omega (arith, c.in-Ok.ensures.within, h.rounds);
    }

pub returns-in-Err-clause-stores : goal.returns-in-Err-clause-stores
returns-in-Err-clause-stores g c =
    let h = c.loop-round.invariant in
    let pairs = c.args.pairs.now in
    let rest = rest_of pair_of c.loop-round.done pairs pairs refl in
    stopped_on g.S.PageStore c.args.db.now c.loop-round.db c.store_some.new.db h.goes
    c.store_some.ensures.goes (map pair_of pairs) c.loop-round.done h.stores c.in-Err.fault
    (simp length-map h.within)
    (subst (λ (ps : List Pair). StopsBehind c.loop-round.db c.store_some.new.db ps 0 c.in-Err.fault)
    rest c.in-Err.ensures.stores)

pub returns-in-Err-clause-goes : goal.returns-in-Err-clause-goes
returns-in-Err-clause-goes g c =
    still_goes _ _ _ c.loop-round.invariant.goes c.store_some.ensures.goes

pub returns-then-done-pairs-clause-stores : goal.returns-then-done-pairs-clause-stores
returns-then-done-pairs-clause-stores g c =
    let all : length (map pair_of c.args.pairs.now) ≤ c.loop-round.done =
    simp length-map (omega arith) in
    stored_all g.S.PageStore c.args.db.now c.loop-round.db (map pair_of c.args.pairs.now)
    c.loop-round.done all c.loop-round.invariant.stores

pub returns-clause-stores : goal.returns-clause-stores
returns-clause-stores g c =
    let all : length (map pair_of c.args.pairs.now) ≤ c.loop-round.done =
    simp length-map (omega (arith, c.loop-round.invariant.rounds)) in
    stored_all g.S.PageStore c.args.db.now c.loop-round.db (map pair_of c.args.pairs.now)
    c.loop-round.done all c.loop-round.invariant.stores
