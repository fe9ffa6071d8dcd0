use Rattle.std.proofs.Common.{◌≡◌, List, false, sym, subst, ◌∙◌, ap, OnOk}
use Rattle.page_io.specs.Store.{bytes_of, page_of, overlaid, has_page, committed_with}
use Rattle.page_io.specs.declared.page.Page.{Page}
use Rattle.page_io.proofs.Overlays.{overlaid-staged, overlaid-none}
use Rattle.page_group.specs.Changed.{changed_pages}
use Rattle.page_group.specs.Group.{pages_over}
use Rattle.page_group.specs.Over.{Over}
use Rattle.page_group.proofs.Bases.{read_base}
use Rattle.page_group.proofs.Committed.{changed_one}
use Rattle.page_group.proofs.group_pages.page_store.GroupPagesPageStore.read.Goals as goal

pub returns-then-find_staged-clause-found : goal.returns-then-find_staged-clause-found
returns-then-find_staged-clause-found g c honest =
    let s = g.S.PageStore in
    let held = c.self.inside.held in
    let home = page_of (committed_with (s.committed c.self.inside.first.value)
    (changed_pages held.changed) held.end) in
    subst (λ (group : Over g.row.S.Denot). c.find_staged.new.page.bytes
    ≡ overlaid (bytes_of group.held.staged.items) (page_of (pages_over s group)) c.args.n)
    c.self.view_is
    (c.find_staged.ensures.page
    ∙ overlaid-staged (bytes_of c.as_slice.result.now) home (λ _. c.args.page.now.bytes) c.args.n
    (sym c.find_staged.ensures.found ∙ c.if-find_staged.true)
    ∙ ap (λ (ps : List Page). overlaid (bytes_of ps) home c.args.n) c.as_slice.ensures)

pub returns-then-find-clause-found : goal.returns-then-find-clause-found
returns-then-find-clause-found g c honest =
    let s = g.S.PageStore in
    let held = c.self.inside.held in
    let base = s.committed c.self.inside.first.value in
    let home = page_of (committed_with base (changed_pages held.changed) held.end) in
    let none : has_page (bytes_of held.staged.items) c.args.n ≡ false =
    ap (λ (ps : List Page). has_page (bytes_of ps) c.args.n) (sym c.as_slice.ensures)
    ∙ sym c.find_staged.ensures.found ∙ c.if-find_staged.false in
    subst (λ (group : Over g.row.S.Denot). c.find.new.page.bytes
    ≡ overlaid (bytes_of group.held.staged.items) (page_of (pages_over s group)) c.args.n)
    c.self.view_is
    (changed_one base (changed_pages held.changed) held.end c.args.n _
    (λ _. c.find_staged.new.page.bytes) c.if-n-lt1.false c.if-self-n.false
    (sym c.find.ensures.found ∙ c.if-find.true) c.find.ensures.page
    ∙ sym (overlaid-none (bytes_of held.staged.items) home c.args.n none))

pub returns-clause-found : goal.returns-clause-found
returns-clause-found g c honest =
    let s = g.S.PageStore in
    let held = c.self.inside.held in
    let over = c.self.invariant.2 in
    let none : has_page (bytes_of held.staged.items) c.args.n ≡ false =
    ap (λ (ps : List Page). has_page (bytes_of ps) c.args.n) (sym c.as_slice.ensures)
    ∙ sym c.find_staged.ensures.found ∙ c.if-find_staged.false in
    subst (λ (group : Over g.row.S.Denot). OnOk c.read.result (c.read.new.page.bytes
    ≡ overlaid (bytes_of group.held.staged.items) (page_of (pages_over s group)) c.args.n))
    c.self.view_is
    (read_base s c.self.inside.first.value c.self.inside.base.now over.reads over.ready.idle
    (changed_pages held.changed) (bytes_of held.staged.items) held.end c.args.n _ c.read.result
    c.if-n-lt1.false c.if-self-n.false (sym c.find.ensures.found ∙ c.if-find.false) none
    (subst (λ (group : Over g.row.S.Denot). s.honest group.first) (sym c.self.view_is) honest)
    c.read.ensures.found)
