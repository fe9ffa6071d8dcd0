use Rattle.std.proofs.Common.{map, take}
use Rattle.page_model.specs.Placement.{Placement}
use Rattle.page_io.specs.Versions.{model_version}
use Rattle.page_io.specs.Views.{body_at, StagesOnly, MayEnd}
use Rattle.free_pages.specs.FreeList.{HasEnds}
use Rattle.lin_addr.specs.Shapes.{shape_of}
use Rattle.bucket_chain.specs.Pairs.{record_as}
use Rattle.bucket_chain.specs.AnyFile.{AreAdded}
use Rattle.linear_hash.specs.AnyFile.{head_for}
use Rattle.linear_hash.specs.Splitting.{IsRefilled}
use Rattle.linear_hash.proofs.Fillings.{IsFilling}
use Rattle.linear_hash.proofs.splitting.refill.Given as goal

abbrev pub invariant-loop-pair : goal.invariant-loop-pair
invariant-loop-pair g l = record {
  stages : StagesOnly g.S.PageStore l.fn.store l.store;
  ends : HasEnds l.fn.space → HasEnds l.space;
  may_end : MayEnd (g.S.PageStore.state l.fn.store) l.fn.space.file_end
      → MayEnd (g.S.PageStore.state l.store) l.space.file_end;
  added : g.S.PageStore.honest l.fn.store
      → AreAdded (body_at g.S.PageStore l.fn.store) (body_at g.S.PageStore l.store)
      (MayEnd (g.S.PageStore.state l.fn.store) l.fn.space.file_end) l.fn.space l.space
      (head_for l.fn.shape.level l.fn.heads.old l.fn.heads.new)
      (take l.pair-index (map record_as l.fn.pairs));
  filling : g.S.PageStore.honest l.fn.store → (p : Placement)
      → IsRefilled (model_version l.fn.version) (body_at g.S.PageStore l.fn.store) l.fn.space
      (shape_of l.fn.shape) l.fn.heads.old
      l.fn.heads.new (map record_as l.fn.pairs) p
      → IsFilling (body_at g.S.PageStore l.store) l.space p l.pair-index;
}
