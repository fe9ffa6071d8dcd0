use Rattle.std.proofs.Common.{◌≡◌}
use Rattle.page_io.specs.Views.{body_at, StagesOnly, MayEnd}
use Rattle.free_pages.specs.FreeList.{HasEnds}
use Rattle.bucket_chain.proofs.OverflowGivings.{AreGivenIn}
use Rattle.bucket_chain.proofs.stores.give_overflow.Given as goal

abbrev pub invariant-loop-step : goal.invariant-loop-step
invariant-loop-step g l = record {
  stages : StagesOnly g.S.PageStore l.fn.store l.store;
  ends : HasEnds l.fn.space → HasEnds l.space;
  end : l.space.file_end ≡ l.fn.space.file_end;
  may_end : MayEnd (g.S.PageStore.state l.fn.store) l.fn.space.file_end
      → MayEnd (g.S.PageStore.state l.store) l.space.file_end;
  given : g.S.PageStore.honest l.fn.store
      → AreGivenIn (body_at g.S.PageStore l.fn.store) (body_at g.S.PageStore l.store) l.fn.space
      l.space l.fn.first l.at l._step;
}
