use Rattle.std.proofs.Common.{◌≡◌, ◌++◌}
use Rattle.page_io.specs.Views.{StagesOnly}
use Rattle.page_group.specs.Changed.{changed_pages}
use Rattle.page_group.proofs.Entries.{bytes_in}
use Rattle.page_group.proofs.changed_pages.ChangedPages.stage_into.Given as goal

abbrev pub invariant-loop-page : goal.invariant-loop-page
invariant-loop-page g l = record {
  stages : StagesOnly g.S.PageStore l.fn.store l.store;
  staged : (g.S.PageStore.state l.store).staged ++ bytes_in l.page-iterator
      ≡ changed_pages l.self;
}
