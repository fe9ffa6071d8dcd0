use Rattle.std.proofs.Common.{sym, ◌∙◌, ap, arith}
use Rattle.page_io.specs.Page.{own_number}
use Rattle.page_io.specs.Store.{put_page}
use Rattle.page_io.specs.declared.page.Page.{Page}
use Rattle.page_group.specs.Changed.{changed_pages}
use Rattle.page_group.specs.Numbered.{pages_in}
use Rattle.page_group.proofs.Entries.{put_entry, after_put}
use Rattle.page_group.proofs.changed_pages.ChangedPages.put.Goals as goal

pub invariant_of-self-2 : goal.invariant_of-self-2
invariant_of-self-2 c =
    let old = c.args.self.now in
    let own = ap (λ (page : Page). own_number page.bytes) c.in_ok-one.ensures
    ∙ sym c.own.ensures.number in
    let after = after_put c.insert.result old.pages.entries c.insert.new.self.entries c.own.result
    4294967296 c.in_ok-one.one old.numbered old.order own
    (omega (arith, c.requires, c.own.ensures.number)) c.own.type_inv
    c.insert.ensures.entries c.insert.ensures.err in
    record { numbered = after.0; order = after.1 }

pub returns : goal.returns
returns c =
    let old = c.args.self.now in
    let own = ap (λ (page : Page). own_number page.bytes) c.in_ok-one.ensures
    ∙ sym c.own.ensures.number in
    ap pages_in c.in_ok-replaced.ensures.entries
    ∙ put_entry old.pages.entries c.own.result c.in_ok-one.one old.numbered own
    ∙ ap (λ (page : Page). put_page (changed_pages old) page.bytes) c.in_ok-one.ensures
