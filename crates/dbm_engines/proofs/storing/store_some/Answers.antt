use Rattle.std.proofs.Common.{◌≡◌, List, ◌∷◌, map, take, drop, Err, subst, sym, ap, ◌∙◌, rules}
use Rattle.std.proofs.lemmas.List.{length-map}
use Rattle.dbm_model.specs.Calls.{Stored}
use Rattle.dbm_model.specs.Changes.{replacing}
use Rattle.dbm_model.specs.Pairs.{Pair}
use Rattle.dbm_file.specs.Database.{store_of}
use Rattle.dbm_file.proofs.Runs.{still_goes}
use Rattle.dbm_engines.specs.Storing.{StoresAll, StopsBehind, pair_of}
use Rattle.dbm_engines.proofs.Stores.{stops_group, stores_group, some_mapped, next_of, none_taken, after_none, stops_at, stores_one}
use Rattle.dbm_engines.proofs.storing.store_some.Goals as goal

pub returns-in_err-stored-clause-stores : goal.returns-in_err-stored-clause-stores
returns-in_err-stored-clause-stores g c =
    let same : c.from_residual.result ≡ Err c.in_err-stored.field-0.0 = search rules in
    let db = c.args.db.now in
    rw same (stops_group g.S.PageStore db c.store_many.new.self _ c.in_err-stored.field-0.0
    (λ x honest left. g.met.S.PageStore.only_now (store_of db) x honest left)
    (some_mapped pair_of c.args.pairs.now c.requires) c.in_err-stored.ensures.ends)

pub returns-then-stored-gt0-clause-stores : goal.returns-then-stored-gt0-clause-stores
returns-then-stored-gt0-clause-stores g c =
    stores_group g.S.PageStore c.args.db.now c.store_many.new.self (map pair_of c.args.pairs.now)
    c.in_ok-stored.stored c.if-stored-gt0.true
    (simp length-map c.in_ok-stored.ensures.within) c.in_ok-stored.ensures.ends

pub returns-in_err-store_pair-clause-stores : goal.returns-in_err-store_pair-clause-stores
returns-in_err-store_pair-clause-stores g c =
    let same : c.from_residual-in_err-store_pair.result ≡ Err c.in_err-store_pair.field-0.0 =
    search rules in
    let db = c.args.db.now in
    let pairs = c.args.pairs.now in
    let next = next_of pair_of 0 pairs c.index-pairs-0.result c.requires c.index-pairs-0.is in
    let told : (c.deref.result.now, c.deref-2.result.now) ≡ pair_of c.index-pairs-0.result =
    (λ i. (c.deref.ensures.value i, c.deref-2.ensures.value i)) in
    let none = none_taken g.S.PageStore db c.store_many.new.self _ c.in_ok-stored.stored
    c.if-stored-gt0.false c.in_ok-stored.ensures.ends in
    let step = after_none g.S.PageStore db c.store_many.new.self c.store_pair.new.db _ _
    c.in_ok-stored.ensures.keeps.goes none c.in_err-store_pair.ensures.stores in
    rw same (subst (λ (ps : List Pair).
    StopsBehind db c.store_pair.new.db ps 0 c.in_err-store_pair.field-0.0)
    (ap (λ (p : Pair). p ∷ drop 1 (map pair_of pairs)) told ∙ sym next)
    (stops_at g.S.PageStore db c.store_pair.new.db
    (λ x honest left. g.met.S.PageStore.only_now (store_of db) x honest left)
    (λ honest t x le left.
    g.met.S.PageStore.counts_now (store_of c.store_pair.new.db) t x honest le left)
    (still_goes db c.store_many.new.self c.store_pair.new.db c.in_ok-stored.ensures.keeps.goes
    c.store_pair.ensures.goes) (c.deref.result.now, c.deref-2.result.now)
    (drop 1 (map pair_of pairs)) c.in_err-store_pair.field-0.0 step))

pub returns-clause-stores : goal.returns-clause-stores
returns-clause-stores g c =
    let db = c.args.db.now in
    let pairs = c.args.pairs.now in
    let next = next_of pair_of 0 pairs c.index-pairs-0.result c.requires c.index-pairs-0.is in
    let told : (c.deref.result.now, c.deref-2.result.now) ≡ pair_of c.index-pairs-0.result =
    (λ i. (c.deref.ensures.value i, c.deref-2.ensures.value i)) in
    let none = none_taken g.S.PageStore db c.store_many.new.self _ c.in_ok-stored.stored
    c.if-stored-gt0.false c.in_ok-stored.ensures.ends in
    let step = after_none g.S.PageStore db c.store_many.new.self c.store_pair.new.db
    (replacing (c.deref.result.now, c.deref-2.result.now)) Stored
    c.in_ok-stored.ensures.keeps.goes none c.in_ok-store_pair.ensures.stores in
    subst (λ (ps : List Pair). StoresAll db c.store_pair.new.db (take 1 ps))
    (ap (λ (p : Pair). p ∷ drop 1 (map pair_of pairs)) told ∙ sym next)
    (stores_one g.S.PageStore db c.store_pair.new.db
    (λ x honest left. g.met.S.PageStore.only_now (store_of db) x honest left)
    (λ honest t x le left.
    g.met.S.PageStore.counts_now (store_of c.store_pair.new.db) t x honest le left)
    (still_goes db c.store_many.new.self c.store_pair.new.db c.in_ok-stored.ensures.keeps.goes
    c.store_pair.ensures.goes) (c.deref.result.now, c.deref-2.result.now) step)
