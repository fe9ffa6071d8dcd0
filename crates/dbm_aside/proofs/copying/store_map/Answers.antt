use Rattle.std.proofs.Common.{List, map, subst, ap, ◌∙◌}
use Rattle.dbm_model.specs.Pairs.{Pair}
use Rattle.dbm_engines.specs.Storing.{StoresAll, pair_of}
use Rattle.dbm_aside.proofs.copying.store_map.Goals as goal

pub returns-in-Ok-store_pairs-clause-stores : goal.returns-in-Ok-store_pairs-clause-stores
returns-in-Ok-store_pairs-clause-stores g c =
    subst (λ (ps : List Pair). StoresAll c.args.to.now c.store_pairs.new.db ps)
    (ap (map pair_of) c.deref.ensures.value ∙ c.in-Ok.ensures) c.in-Ok-store_pairs.ensures.stores
