use Rattle.std.proofs.Common.{◌≡◌, List, [], map, take}
use Rattle.page_io.specs.Versions.{model_version}
use Rattle.page_io.specs.Views.{body_at, StagesOnly, MayEnd}
use Rattle.page_model.specs.Chain.{Chain, Entry, entries_in, pages_in, record_of}
use Rattle.page_model.specs.Space.{Space}
use Rattle.free_pages.specs.FreeList.{HasEnds}
use Rattle.bucket_chain.specs.Pairs.{record_as}
use Rattle.bucket_chain.specs.AnyFile.{AreAdded}
use Rattle.bucket_chain.specs.Changes.{IsPlaced, AreHeld, HaveKeysOnce}
use Rattle.bucket_chain.proofs.Storing.{HavePut}
use Rattle.bucket_chain.proofs.stores.put_all.Given as goal

abbrev pub invariant-loop-pair : goal.invariant-loop-pair
invariant-loop-pair g l = record {
  stages : StagesOnly g.S.PageStore l.fn.store l.store;
  ends : HasEnds l.fn.space → HasEnds l.space;
  may_end : MayEnd (g.S.PageStore.state l.fn.store) l.fn.space.file_end
      → MayEnd (g.S.PageStore.state l.store) l.space.file_end;
  added : g.S.PageStore.honest l.fn.store
      → AreAdded (body_at g.S.PageStore l.fn.store) (body_at g.S.PageStore l.store)
      (MayEnd (g.S.PageStore.state l.fn.store) l.fn.space.file_end) l.fn.space l.space
      (λ r. l.fn.head) (take l.pair-index (map record_as l.fn.pairs));
  put : g.S.PageStore.honest l.fn.store → (chain : Chain) (s : Space)
      → IsPlaced (model_version l.fn.version) (body_at g.S.PageStore l.fn.store) l.fn.space
      l.fn.head chain s
      → (entries : List Entry) → map record_of entries ≡ map record_as l.fn.pairs
      → AreHeld (model_version l.fn.version) (body_at g.S.PageStore l.fn.store) (pages_in chain) s
      entries
      → entries_in chain ≡ [] → HaveKeysOnce entries
      → HavePut (model_version l.fn.version) (body_at g.S.PageStore l.fn.store)
      (body_at g.S.PageStore l.store) l.fn.space l.space l.fn.head (chain, s) entries l.pair-index;
}
