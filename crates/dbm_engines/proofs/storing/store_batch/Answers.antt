use Rattle.std.proofs.Common.{◌≡◌, List, length, map, rules, vec_len, subst, sym, ap, ◌∙◌}
use Rattle.dbm_model.specs.Pairs.{Pair}
use Rattle.dbm_engines.specs.Storing.{StopsBehind, StoresAll, pair_of}
use Rattle.dbm_engines.proofs.Held.{pairs_held, stops_held}
use Rattle.dbm_engines.proofs.storing.store_batch.Goals as goal

pub returns-in-Ok-clause-stores : goal.returns-in-Ok-clause-stores
returns-in-Ok-clause-stores g c =
    let batch = c.args.batch.now in
    let lines : length batch.lines.items ≡ vec_len batch.lines = search rules in
    let pairs : length batch.pairs.items ≡ vec_len batch.pairs = search rules in
    subst (λ (ps : List Pair). StoresAll c.args.db.now c.store_pairs.new.db ps)
    (ap (map pair_of) c.deref.ensures.value
    ∙ sym (pairs_held batch.lines.items batch.pairs.items
    (lines ∙ batch.numbered ∙ sym pairs))) c.in-Ok.ensures.stores

pub returns-in-Err-clause-stores : goal.returns-in-Err-clause-stores
returns-in-Err-clause-stores g c =
    let batch = c.args.batch.now in
    let lines : length batch.lines.items ≡ vec_len batch.lines = search rules in
    let pairs : length batch.pairs.items ≡ vec_len batch.pairs = search rules in
    stops_held g.S.PageStore c.args.db.now c.store_pairs.new.db batch.lines.items batch.pairs.items
    c.index.result.now c.in-Err.stop.stored c.in-Err.stop.fault
    (lines ∙ batch.numbered ∙ sym pairs)
    (subst (λ (ps : List Pair).
    StopsBehind c.args.db.now c.store_pairs.new.db ps c.in-Err.stop.stored c.in-Err.stop.fault)
    (ap (map pair_of) c.deref.ensures.value) c.in-Err.ensures.stores) c.index.ensures
