use Rattle.std.proofs.Common.{◌≡◌, [], get_or, take, sym, ◌∙◌, ap, arith}
use Rattle.std.proofs.lemmas.List.{length-map}
use Rattle.page_io.specs.Page.{own_number}
use Rattle.page_io.specs.Store.{Pages, bytes_of, put_page}
use Rattle.page_io.specs.declared.page.Page.{Page}
use Rattle.page_io.proofs.PageLists.{bytes_more, bytes_at}
use Rattle.page_io.proofs.StagedPages.{in_range}
use Rattle.page_group.specs.Changed.{changed_pages, put_all}
use Rattle.page_group.proofs.Putting.{put_all-push}
use Rattle.page_group.proofs.changed_pages.ChangedPages.put_all.Goals as goal

pub put-requires : goal.put-requires
put-requires c =
    let pages = c.args.pages.now in
    let index = c.loop-page.page-index in
    let own : own_number (get_or (bytes_of pages) index [])
    ≡ own_number c.page-item.result.bytes =
    ap own_number (bytes_at pages index c.page-item.result c.loop-page-test.true c.page-item.is) in
    let within = in_range 1 4294967296 (bytes_of pages) index c.requires
    (omega (arith, c.loop-page-test.true, length-map pages (λ (p : Page). p.bytes))) in
    omega (arith, own, within.0)

pub loop-page-preserved : goal.loop-page-preserved
loop-page-preserved c =
    let pages = c.args.pages.now in
    let index = c.loop-page.page-index in
    let page = c.page-item.result in
    let old = changed_pages c.args.self.now in
    c.in_ok-put.ensures ∙ ap (λ (ps : Pages). put_page ps page.bytes) c.loop-page.invariant
    ∙ sym (put_all-push old (bytes_of (take index pages)) page.bytes)
    ∙ sym (ap (put_all old)
    (bytes_more pages index page c.loop-page-test.true c.page-item.is))
