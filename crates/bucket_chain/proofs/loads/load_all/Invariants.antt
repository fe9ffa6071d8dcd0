use Rattle.std.proofs.Common.{◌≡◌, ◌⊎◌, map}
use Rattle.std.specs.List.{AllByRecursion}
use Rattle.page_io.specs.Versions.{model_version}
use Rattle.page_io.specs.Views.{body_at, ReadsOnly}
use Rattle.bucket_chain.specs.Pairs.{record_as, IsSmall}
use Rattle.bucket_chain.proofs.LoadedRecords.{AreLoaded}
use Rattle.bucket_chain.proofs.loads.load_all.Given as goal

abbrev pub invariant-loop-step : goal.invariant-loop-step
invariant-loop-step g l = record {
  kinds : (l.kind ≡ 3) ⊎ (l.kind ≡ 4);
  small : AllByRecursion (IsSmall (model_version l.version)) (map record_as l.pairs.items);
  reads : ReadsOnly g.S.PageStore l.fn.store l.store;
  loaded : g.S.PageStore.honest l.fn.store
      → AreLoaded (body_at g.S.PageStore l.fn.store) l.fn.head l.at l.kind l._step
      (map record_as l.pairs.items);
}
