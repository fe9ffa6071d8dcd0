use Rattle.std.proofs.Common.{sym, ◌∙◌, ap}
use Rattle.page_io.specs.Store.{committed_with}
use Rattle.page_group.specs.Changed.{changed_pages}
use Rattle.page_group.proofs.Committed.{none_changed}
use Rattle.page_group.proofs.group_pages.GroupPages.over.Goals as goal

pub returns-clause-committed : goal.returns-clause-committed
returns-clause-committed g c =
    let base = g.S.PageStore.committed c.args.base.now in
    ap (λ (s : g.row.S.Denot). committed_with (g.S.PageStore.committed s)
    (changed_pages c.new.result) c.end.result) c.of.ensures
    ∙ none_changed base (changed_pages c.new.result) c.end.result c.new.ensures
    (g.met.S.PageStore.ends c.args.base.now ∙ sym c.end.ensures)
