use Rattle.std.proofs.Common.{◌≡◌, Err, rules}
use Rattle.dbm_file.specs.Database.{store_of}
use Rattle.dbm_engines.specs.Batches.{held_in}
use Rattle.dbm_engines.proofs.Batching.{is_held, is_stored, not_reached, is_alone}
use Rattle.dbm_engines.proofs.grouping.group_pair.Goals as goal

pub returns-in_err-store_batch-clause-pair : goal.returns-in_err-store_batch-clause-pair
returns-in_err-store_batch-clause-pair g c =
    let same : c.from_residual.result ≡ Err c.in_err-store_batch.field-0.0 = search rules in
    rw same (not_reached g.S.PageStore c.args.db.now c.store_batch.new.db
    (held_in c.args.batch.now) (held_in c.keep.new.self) _ _ c.in_err-store_batch.field-0.0
    c.in_default.ensures.held c.in_err-store_batch.ensures.stores)

pub returns-in_default-clause-pair : goal.returns-in_default-clause-pair
returns-in_default-clause-pair g c =
    is_alone g.S.PageStore c.args.db.now c.store_batch.new.db c.store_alone.new.db
    (held_in c.args.batch.now) (held_in c.keep.new.self) _ _ c.store_alone.result
    c.store_batch.ensures.goes c.store_alone.ensures.goes
    (λ x honest left.
    g.met.S.PageStore.only_now (store_of c.store_batch.new.db) x honest left)
    (λ honest t x le left.
    g.met.S.PageStore.counts_now (store_of c.store_alone.new.db) t x honest le left)
    c.in_default.ensures.held c.in_ok-store_batch.ensures.stores c.in_ok-store_batch.ensures.none
    c.store_alone.ensures.stores

pub returns-then-is_full-clause-pair : goal.returns-then-is_full-clause-pair
returns-then-is_full-clause-pair g c =
    is_stored g.S.PageStore c.args.db.now c.store_batch-then-is_full.new.db
    (held_in c.args.batch.now) (held_in c.keep.new.self) _ _ c.store_batch-then-is_full.result
    c.in-Ok.ensures.held c.store_batch-then-is_full.ensures.stores
    c.store_batch-then-is_full.ensures.none

pub returns-clause-pair : goal.returns-clause-pair
returns-clause-pair g c =
    is_held g.S.PageStore c.args.db.now (held_in c.args.batch.now) (held_in c.keep.new.self) _
    (λ x honest left. g.met.S.PageStore.only_now (store_of c.args.db.now) x honest left)
    c.in-Ok.ensures.held
