use Rattle.std.proofs.Common.{◌≡◌, ◌<◌, ◌+◌, ℕ, List, [], ◌∷◌, ◌++◌, length, take, sym, ◌∙◌, ap, arith}
use Rattle.std.proofs.lemmas.List.{take_more_set, map-append}
use Rattle.sect_dev.specs.Device.{part_of}
use Rattle.page_io.specs.Page.{page_at, own_number}
use Rattle.page_io.specs.Store.{Pages, pages_from, bytes_of}
use Rattle.page_io.specs.declared.page.Page.{Page}
use Rattle.page_io.proofs.Overlays.{pages_more}
use Rattle.commit_log.specs.Log.{unstamped}
use Rattle.commit_log.proofs.Orders.{one_in_order}
use Rattle.commit_log.proofs.finding.read_pages.Goals as goal

pub loop-i-preserved : goal.loop-i-preserved
loop-i-preserved c =
    let at = page_at (unstamped (part_of c.args.bytes.now)) in
    let i = c.loop-i.i in
    let place : i ≡ 0 + i = omega arith in
    let page = c.page_in-page.result in
    let is : page.bytes ≡ at (0 + i) = c.page_in-page.ensures ∙ ap at place in
    let inv = c.loop-i.invariant in
    let inside : i < length c.loop-i.pages = omega (arith, c.requires, c.loop-i-test.true) in
    record {
      small = omega arith;
      checked = inv.checked ∙ one_in_order at 0 c.args.count c.args.end i c.loop-i.least
          c.from-own.result c.loop-i-test.true
          (c.from-own.ensures ∙ c.own.ensures.number ∙ ap own_number is)
          (omega (arith, c.if-own-least.false))
          (omega (arith, c.if-from-own.false, c.from.ensures));
      read = ap bytes_of (take_more_set c.loop-i.pages i page inside)
          ∙ map-append (λ (p : Page). p.bytes) (take i c.loop-i.pages) (page ∷ [])
          ∙ ap (λ (ps : Pages). ps ++ page.bytes ∷ []) inv.read
          ∙ ap (λ (b : List ℕ). pages_from at 0 i ++ b ∷ []) is
          ∙ sym (pages_more at 0 i);
    }
