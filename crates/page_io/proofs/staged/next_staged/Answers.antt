use Rattle.std.proofs.Common.{◌≡◌, ◌<◌, [], length, slice_index_or, ap, sym, ◌∙◌, arith}
use Rattle.std.proofs.lemmas.List.{length-map}
use Rattle.page_io.specs.Page.{own_number}
use Rattle.page_io.specs.Store.{bytes_of}
use Rattle.page_io.proofs.Overlays.{has_page-at}
use Rattle.page_io.proofs.PageLists.{bytes_at}
use Rattle.page_io.proofs.StagedPages.{has_between}
use Rattle.page_io.proofs.staged.next_staged.Goals as goal

pub returns-then-at-staged : goal.returns-then-at-staged
returns-then-at-staged c =
    let pages = bytes_of c.args.staged.now in
    let at = c.place_behind-at.result in
    let long : length pages ≡ length c.args.staged.now =
    length-map c.args.staged.now (λ page. page.bytes) in
    let inside : at < length pages = omega (arith, long, c.if-at-staged.true) in
    let is : own_number (slice_index_or pages at []) ≡ c.own.result =
    ap own_number (bytes_at c.args.staged.now at c.index-staged-at.result c.if-at-staged.true
    c.index-staged-at.is) ∙ sym c.own.ensures.number in (
      omega (arith, is, c.place_behind-at.ensures.after c.if-at-staged.true),
      has_page-at pages at c.own.result inside is,
      λ m ge lt. has_between 1 4294967296 pages at m c.requires.order
          (λ k lk. let before = c.place_behind-at.ensures.before k lk in omega (arith, before, ge))
          (λ within. omega (arith, lt, is)) (omega (arith, inside)),
    )

pub returns-else-at-staged : goal.returns-else-at-staged
returns-else-at-staged c =
    let pages = bytes_of c.args.staged.now in
    let long : length pages ≡ length c.args.staged.now =
    length-map c.args.staged.now (λ page. page.bytes) in
    λ m ge. has_between 1 4294967296 pages c.place_behind-at.result m c.requires.order
    (λ k lk. let before = c.place_behind-at.ensures.before k lk in omega (arith, before, ge))
    (λ within. absurd (omega (arith, within, long, c.if-at-staged.false)))
    (omega (arith, long, c.place_behind-at.ensures.within))
