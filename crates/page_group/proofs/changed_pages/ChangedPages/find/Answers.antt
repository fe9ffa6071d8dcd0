use Rattle.std.proofs.Common.{sym, ◌∙◌, ap}
use Rattle.std.specs.Option.{option_copied}
use Rattle.page_io.specs.declared.page.Page.{Page}
use Rattle.page_io.proofs.Overlays.{overlaid-none}
use Rattle.page_group.specs.Changed.{changed_pages}
use Rattle.page_group.proofs.Entries.{found_page, absent_page}
use Rattle.page_group.proofs.changed_pages.ChangedPages.find.Goals as goal

pub returns-in-Some-clause-found : goal.returns-in-Some-clause-found
returns-in-Some-clause-found c =
    let changed = c.args.self.now in
    sym (found_page 1 4294967296 changed.pages.entries c.args.n c.in-Some.found.now
    changed.numbered changed.order
    (sym c.get.ensures.value ∙ ap option_copied c.in-Some.is)).0

pub returns-in-Some-clause-page : goal.returns-in-Some-clause-page
returns-in-Some-clause-page c =
    let changed = c.args.self.now in
    ap (λ (page : Page). page.bytes) c.deref.ensures
    ∙ sym ((found_page 1 4294967296 changed.pages.entries c.args.n c.in-Some.found.now
    changed.numbered changed.order
    (sym c.get.ensures.value ∙ ap option_copied c.in-Some.is)).1 (λ _. c.args.page.now.bytes))

pub returns-in-None-clause-found : goal.returns-in-None-clause-found
returns-in-None-clause-found c =
    let changed = c.args.self.now in
    sym (absent_page changed.pages.entries c.args.n changed.numbered
    (sym c.get.ensures.value ∙ ap option_copied c.in-None.is))

pub returns-in-None-clause-page : goal.returns-in-None-clause-page
returns-in-None-clause-page c =
    let changed = c.args.self.now in
    sym (overlaid-none (changed_pages changed) (λ _. c.args.page.now.bytes) c.args.n
    (absent_page changed.pages.entries c.args.n changed.numbered
    (sym c.get.ensures.value ∙ ap option_copied c.in-None.is)))
