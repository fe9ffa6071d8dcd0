use Rattle.std.proofs.Common.{◌≡◌, ◌<◌, ◌≤◌, ◌^◌, ℕ, List, [], length, take, get_or, sym, ◌∙◌, ap, subst, true, arith}
use Rattle.page_io.specs.Page.{own_number}
use Rattle.page_io.specs.Store.{Pages, overlaid, are_in_order, bytes_of, put_page}
use Rattle.page_io.specs.declared.page.Page.{Page}
use Rattle.page_io.proofs.PageLists.{bytes_more, bytes_at}
use Rattle.page_io.proofs.StagedPages.{order_put, order_wider}
use Rattle.redo_area.proofs.LogReads.{page_more, page_left}
use Rattle.redo_area.proofs.reading.put_pages.Goals as goal
use Rattle.redo_area.proofs.reading.put_pages.Goals.{then-own-end+in_ok-put_staged, else-own-end}

-- the number of a page at an index is from 1 on
at_least : (pages : List Page) (idx : ℕ) (page : Page)
    → ((k : ℕ) → k < length pages → 1 ≤ own_number (get_or (bytes_of pages) k []))
    → idx < length pages → page ≡ get_or pages idx page → 1 ≤ own_number page.bytes
at_least pages idx page numbers lt is =
    omega (arith, numbers idx lt, ap own_number (bytes_at pages idx page lt is))

pub put_staged-requires-clause-order : goal.put_staged-requires-clause-order
put_staged-requires-clause-order c =
    order_wider 1 c.args.end (2 ^ 32) (bytes_of c.loop-page.redo.items)
    (omega (arith, c.ranges.end.fits)) c.loop-page.invariant.order

pub put_staged-requires-clause-number : goal.put_staged-requires-clause-number
put_staged-requires-clause-number c = (
  at_least c.args.pages.now c.loop-page.page-index c.page-item.result c.requires.numbers
      c.loop-page-test.true c.page-item.is,
  omega (arith, c.own.ensures.number, c.if-own-end.true, c.ranges.end.fits),
)

pub loop-page-preserved : goal.loop-page-preserved
loop-page-preserved c =
    let pages = c.args.pages.now in
    let idx = c.loop-page.page-index in
    let page = c.page-item.result in
    let inv = c.loop-page.invariant in
    let items = bytes_of c.loop-page.redo.items in
    let so_far = bytes_of (take idx pages) in
    let more = bytes_more pages idx page c.loop-page-test.true c.page-item.is in
    let old = λ (home : ℕ → List ℕ). overlaid (bytes_of c.args.redo.now.items) home in
    elim c.if-own-end.branch [
      | then-own-end+in_ok-put_staged w ↦
          let put : bytes_of c.if-own-end.redo.items ≡ put_page items page.bytes =
          ap (λ r. bytes_of r.items) w.redo-is ∙ w.in_ok-put_staged.ensures.ok in
          record {
            order = subst (λ (ps : Pages). are_in_order 1 c.args.end ps ≡ true) (sym put)
                (order_put 1 c.args.end items page.bytes inv.order
                (at_least pages idx page c.requires.numbers c.loop-page-test.true c.page-item.is)
                (omega (arith, c.own.ensures.number, w.if-own-end.true)));
            put = λ home n lt. ap (λ (ps : Pages). overlaid ps home n) put
                ∙ page_more 1 c.args.end items so_far home (old home) page.bytes n inv.order
                (inv.put home n lt)
                ∙ ap (λ (ps : Pages). overlaid ps (old home) n) (sym more);
          }
      | else-own-end w ↦
          let same : bytes_of c.if-own-end.redo.items ≡ items =
          ap (λ r. bytes_of r.items) w.redo-is in
          record {
            order = subst (λ (ps : Pages). are_in_order 1 c.args.end ps ≡ true) (sym same) inv.order;
            put = λ home n lt. ap (λ (ps : Pages). overlaid ps home n) same
                ∙ page_left items so_far home (old home) page.bytes n c.args.end
                (omega (arith, c.own.ensures.number, w.if-own-end.false)) lt (inv.put home n lt)
                ∙ ap (λ (ps : Pages). overlaid ps (old home) n) (sym more);
          }
    ]
