use Rattle.std.proofs.Common.{◌≡◌, length}
use Rattle.std.proofs.lemmas.List.{length-map}
use Rattle.dbm_engines.specs.Dumping.{bytes_of_pairs}
use Rattle.dbm_file.specs.Database.{store_of, meta_kept}
use Rattle.dbm_aside.proofs.Copies.{copied, stopped, counted, stays_still}
use Rattle.dbm_aside.proofs.copying.copy_engine.Goals as goal

pub returns-then-stat-clause-reads : goal.returns-then-stat-clause-reads
returns-then-stat-clause-reads g c =
    stays_still g.S.PageStore c.args.from.now
    (λ x honest left. g.met.S.PageStore.only_now (store_of c.args.from.now) x honest left)

pub returns-clause-copies : goal.returns-clause-copies
returns-clause-copies g c honest h at usable =
    copied c.store_map.result c.args.to.now c.store_map.new.to (bytes_of_pairs c.in_ok-pairs.pairs)
    h.state.map (c.in_ok-pairs.ensures.pairs honest h at usable) c.store_map.ensures.stores

pub returns-clause-stops : goal.returns-clause-stops
returns-clause-stops g c honest h at usable =
    stopped c.store_map.result c.args.to.now c.store_map.new.to (bytes_of_pairs c.in_ok-pairs.pairs)
    h.state.map (c.in_ok-pairs.ensures.pairs honest h at usable) c.store_map.ensures.stores

pub returns-clause-counted : goal.returns-clause-counted
returns-clause-counted g c =
    let as_many : length (bytes_of_pairs c.in_ok-pairs.pairs) ≡ (meta_kept c.args.from.now).pairs =
    simp length-map c.in_ok-pairs.ensures.counted in
    counted c.store_map.result c.args.to.now c.store_map.new.to
    (bytes_of_pairs c.in_ok-pairs.pairs) _ as_many c.store_map.ensures.stores
