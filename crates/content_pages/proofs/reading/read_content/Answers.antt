use Rattle.std.proofs.Common.{◌≡◌, ◌+◌, ◌<◌, length, sym, ◌∙◌, arith}
use Rattle.page_io.specs.Views.{body_at}
use Rattle.page_io.specs.declared.store.PageFault.TheVariants.{Damaged}
use Rattle.page_io.proofs.Exits.{exit_is, came}
use Rattle.page_io.proofs.Views.{reads_then, same_said}
use Rattle.content_pages.proofs.ContentWalks.{said_too, read_goes_on, read_ends, to_read, rest_goes_on}
use Rattle.content_pages.proofs.FarContents.{one_content}
use Rattle.content_pages.proofs.reading.read_content.Goals as goal

pub loop-page-preserved : goal.loop-page-preserved
loop-page-preserved g c =
    let st = g.S.PageStore in
    let so_far = c.loop-page.invariant in
    let told = c.in_ok-at.ensures in
    let more : 0 < c.loop-page.left = omega (
      arith,
      so_far.left,
      c.loop-page-test.true,
      c.pages_for-page-end.ensures.number,
    ) in
    record {
      reads = reads_then st _ _ _ (g.met.S.PageStore.counts_now c.loop-page.store) so_far.reads
          told.reads.only;
      room = omega (
        arith,
        so_far.room,
        told.longer,
        told.capacity,
        c.min-part.ensures,
      );
      held = omega (arith, so_far.held, told.longer, c.min-part.ensures);
      left = omega (arith, so_far.left, c.min-part.ensures);
      read = λ honest.
          let same = same_said st _ _ so_far.reads honest in
          let part = told.says (so_far.reads.stages_only.honesty.1 honest) in
          read_goes_on (body_at st c.args.store.now) c.args.first c.loop-page.at c.loop-page._page
          c.in_ok-at.at c.loop-page.content.items part.0 c.read_part.new.content.items
          (so_far.read honest) (omega (arith, so_far.held, so_far.left, more)) told.known
          (omega (arith, part.1, c.min-part.ensures))
          (said_too _ _ c.loop-page.at _ (sym same) part.3) part.2;
      rest = λ honest bytes long is.
          let same = same_said st _ _ so_far.reads honest in
          let part = told.says (so_far.reads.stages_only.honesty.1 honest) in
          rest_goes_on (body_at st c.args.store.now) c.loop-page.at c.loop-page.left
          c.loop-page.content.items bytes (so_far.rest honest bytes long is)
          (omega (arith, so_far.held, long)) more c.in_ok-at.at part.0
          c.read_part.new.content.items (part.1 ∙ c.min-part.ensures)
          (said_too _ _ c.loop-page.at _ (sym same) part.3) part.2;
    }

-- the page says what it has to say
pub returns-in_err-at-clause-whole : goal.returns-in_err-at-clause-whole
returns-in_err-at-clause-whole g c honest bytes long is damaged =
    let st = g.S.PageStore in
    let so_far = c.loop-page.invariant in
    let told = c.in_err-at.ensures in
    let result = c.from_residual-in_err-at in
    let exit = exit_is result.result c.in_err-at.field-0.0 result.ensures.1 in
    let same = same_said st _ _ so_far.reads honest in
    let rest = so_far.rest honest bytes long is in
    let size : length c.loop-page.content.items + c.loop-page.left ≡ length bytes =
    omega (arith, so_far.held, long) in
    let more : 0 < c.loop-page.left = omega (
      arith,
      so_far.left,
      c.loop-page-test.true,
      c.pages_for-page-end.ensures.number,
    ) in
    let here = to_read (body_at st c.args.store.now) c.loop-page.at c.loop-page.left
    c.loop-page.content.items bytes rest size more (body_at st c.loop-page.store) c.min-part.result
    same c.min-part.ensures in
    told.whole (so_far.reads.stages_only.honesty.1 honest) here.next here.part here.some
    here.size_is here.says (came _ _ exit Damaged damaged)

pub returns-then-at-eq0-clause-read : goal.returns-then-at-eq0-clause-read
returns-then-at-eq0-clause-read g c honest =
    let so_far = c.loop-page.invariant in
    let number = c.pages_for-page-end.ensures.number in
    read_ends (body_at g.S.PageStore c.args.store.now) c.args.first c.loop-page.at c.loop-page._page
    c.loop-page.content.items (so_far.read honest) c.if-at-eq0.true
    (omega (
      arith,
      so_far.held,
      so_far.left,
      number,
      c.loop-page-test.false,
      c.loop-page.auto._page-end,
    ))

pub returns-then-at-eq0-clause-exact : goal.returns-then-at-eq0-clause-exact
returns-then-at-eq0-clause-exact g c honest bytes long is =
    let so_far = c.loop-page.invariant in
    let number = c.pages_for-page-end.ensures.number in
    one_content (body_at g.S.PageStore c.args.store.now) c.args.first c.loop-page.content.items
    bytes (returns-then-at-eq0-clause-read g c honest) is
    (omega (arith, so_far.held, so_far.left, number, c.loop-page-test.false, long))
