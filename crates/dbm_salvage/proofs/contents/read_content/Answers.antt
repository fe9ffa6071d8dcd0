use Rattle.std.proofs.Common.{◌≡◌, ℕ, ◌+◌, ◌<◌, List, [], ◌++◌, length, sym, ap, refl, ◌∙◌, arith}
use Rattle.sect_dev.specs.Device.{Image}
use Rattle.page_io.proofs.Exits.{exit_is, came, more_later}
use Rattle.content_pages.proofs.ContentWalks.{said_too, read_goes_on, read_ends, to_read, rest_goes_on, no_page, length-rest}
use Rattle.dbm_salvage.specs.Laid.{laid}
use Rattle.dbm_salvage.specs.Salvage.{said_in}
use Rattle.dbm_salvage.specs.declared.contents.NoContent.TheVariants.{Failed, Broken}
use Rattle.dbm_salvage.proofs.LookRuns.{looks_none, looks_then}
use Rattle.dbm_salvage.proofs.contents.read_content.Goals as goal

pub loop-page-init : goal.loop-page-init
loop-page-init g c =
    let none : c.clear.new.self.items ≡ [] = c.clear.ensures.items in
    record {
      looks = looks_none g.D.SectorDev c.args.dev.now
          (λ image h left. g.met.D.SectorDev.only_now c.args.dev.now image h left);
      capacity = omega (arith, c.clear.ensures.capacity);
      room = omega (
        arith,
        c.clear.ensures.capacity,
        c.clear.ensures.len,
        c.requires.room,
        c.from-left.ensures,
        c.ranges.long,
      );
      held = omega (arith, ap length none, c.from-left.ensures);
      left = omega (arith, c.from-left.ensures);
      read = λ honest. record { pages = []; many = refl; held = (refl, none) };
      rest = λ honest bytes long is. record {
        rest = bytes;
        parts = ap (λ (xs : List ℕ). xs ++ bytes) (sym none);
        stands = is;
      };
    }

pub read_part-requires-clause-fits : goal.read_part-requires-clause-fits
read_part-requires-clause-fits g c =
    omega (arith, c.requires.fits, c.loop-page.invariant.looks.size)

pub returns-in_err-at-clause-looks : goal.returns-in_err-at-clause-looks
returns-in_err-at-clause-looks g c =
    looks_then g.D.SectorDev _ _ _ c.loop-page.invariant.looks c.in_err-at.ensures.looks

pub returns-in_err-at-clause-cause : goal.returns-in_err-at-clause-cause
returns-in_err-at-clause-cause g c failed =
    let exit = exit_is c.from_residual.result c.in_err-at.field-0.0 c.from_residual.ensures.1 in
    more_later _ _ _ c.loop-page.invariant.looks.later
    (c.in_err-at.ensures.cause (came _ _ exit Failed failed))

pub returns-in_err-at-clause-capacity : goal.returns-in_err-at-clause-capacity
returns-in_err-at-clause-capacity g c =
    omega (arith, c.loop-page.invariant.capacity, c.in_err-at.ensures.capacity)

-- the page says what it has to say
pub returns-in_err-at-clause-whole : goal.returns-in_err-at-clause-whole
returns-in_err-at-clause-whole g c honest bytes long is broken =
    let dev = g.D.SectorDev in
    let so_far = c.loop-page.invariant in
    let told = c.in_err-at.ensures in
    let exit = exit_is c.from_residual.result c.in_err-at.field-0.0 c.from_residual.ensures.1 in
    let at = said_in (laid c.args.images.now (dev.seen c.args.dev.now)) c.args.pages in
    let same = ap (λ (image : Image). said_in (laid c.args.images.now image) c.args.pages) (so_far.looks.only_reads honest).seen in
    let rest = so_far.rest honest bytes long is in
    let size : length c.loop-page.content.items + c.loop-page.left ≡ length bytes =
    omega (arith, so_far.held, long) in
    let more : 0 < c.loop-page.left = omega (
      arith,
      so_far.left,
      c.loop-page-test.true,
      c.pages_for-page-end.ensures.number,
    ) in
    let here = to_read at c.loop-page.at c.loop-page.left c.loop-page.content.items bytes rest size
    more (said_in (laid c.args.images.now (dev.seen c.loop-page.dev)) c.args.pages) c.min-part.result same
    c.min-part.ensures in
    told.whole (so_far.looks.honesty.1 honest) here.next here.part here.some
    here.size_is here.says (came _ _ exit Broken broken)

pub loop-page-preserved : goal.loop-page-preserved
loop-page-preserved g c =
    let dev = g.D.SectorDev in
    let so_far = c.loop-page.invariant in
    let told = c.in_ok-at.ensures in
    let at = said_in (laid c.args.images.now (dev.seen c.args.dev.now)) c.args.pages in
    let more : 0 < c.loop-page.left = omega (
      arith,
      so_far.left,
      c.loop-page-test.true,
      c.pages_for-page-end.ensures.number,
    ) in
    record {
      looks = looks_then dev _ _ _ so_far.looks told.looks;
      capacity = omega (arith, so_far.capacity, told.capacity);
      room = omega (
        arith,
        so_far.room,
        told.longer,
        told.capacity,
        c.min-part.ensures,
      );
      held = omega (arith, so_far.held, told.longer, c.min-part.ensures);
      left = omega (arith, so_far.left, c.min-part.ensures);
      read = λ honest.
          let same = ap (λ (image : Image). said_in (laid c.args.images.now image) c.args.pages) (so_far.looks.only_reads honest).seen in
          let part = told.says (so_far.looks.honesty.1 honest) in
          read_goes_on at c.args.first c.loop-page.at c.loop-page._page
          c.in_ok-at.at c.loop-page.content.items part.0 c.read_part.new.content.items
          (so_far.read honest) (omega (arith, so_far.held, so_far.left, more)) told.known
          (omega (arith, part.1, c.min-part.ensures))
          (said_too _ _ c.loop-page.at _ (sym same) part.3) part.2;
      rest = λ honest bytes long is.
          let same = ap (λ (image : Image). said_in (laid c.args.images.now image) c.args.pages) (so_far.looks.only_reads honest).seen in
          let part = told.says (so_far.looks.honesty.1 honest) in
          rest_goes_on at c.loop-page.at c.loop-page.left
          c.loop-page.content.items bytes (so_far.rest honest bytes long is)
          (omega (arith, so_far.held, long)) more c.in_ok-at.at part.0
          c.read_part.new.content.items (part.1 ∙ c.min-part.ensures)
          (said_too _ _ c.loop-page.at _ (sym same) part.3) part.2;
    }

pub returns-then-at-eq0-clause-looks : goal.returns-then-at-eq0-clause-looks
returns-then-at-eq0-clause-looks g c = c.loop-page.invariant.looks

pub returns-then-at-eq0-clause-capacity : goal.returns-then-at-eq0-clause-capacity
returns-then-at-eq0-clause-capacity g c = c.loop-page.invariant.capacity

pub returns-then-at-eq0-clause-length : goal.returns-then-at-eq0-clause-length
returns-then-at-eq0-clause-length g c =
    let so_far = c.loop-page.invariant in
    omega (
      arith,
      so_far.held,
      so_far.left,
      c.pages_for-page-end.ensures.number,
      c.loop-page-test.false,
    )

pub returns-then-at-eq0-clause-read : goal.returns-then-at-eq0-clause-read
returns-then-at-eq0-clause-read g c honest =
    let so_far = c.loop-page.invariant in
    let number = c.pages_for-page-end.ensures.number in
    read_ends (said_in (laid c.args.images.now (g.D.SectorDev.seen c.args.dev.now)) c.args.pages) c.args.first c.loop-page.at c.loop-page._page
    c.loop-page.content.items (so_far.read honest) c.if-at-eq0.true
    (omega (
      arith,
      so_far.held,
      so_far.left,
      number,
      c.loop-page-test.false,
      c.loop-page.auto._page-end,
    ))

pub returns-else-at-eq0-clause-looks : goal.returns-else-at-eq0-clause-looks
returns-else-at-eq0-clause-looks g c = c.loop-page.invariant.looks

pub returns-else-at-eq0-clause-capacity : goal.returns-else-at-eq0-clause-capacity
returns-else-at-eq0-clause-capacity g c = c.loop-page.invariant.capacity

pub returns-else-at-eq0-clause-whole : goal.returns-else-at-eq0-clause-whole
returns-else-at-eq0-clause-whole g c honest bytes long is broken =
    let so_far = c.loop-page.invariant in
    let at = said_in (laid c.args.images.now (g.D.SectorDev.seen c.args.dev.now)) c.args.pages in
    let rest = so_far.rest honest bytes long is in
    let none : c.loop-page.left ≡ 0 = omega (
      arith,
      so_far.left,
      c.pages_for-page-end.ensures.number,
      c.loop-page-test.false,
    ) in
    c.if-at-eq0.false (no_page at c.loop-page.at rest.rest rest.stands
    (length-rest at c.loop-page.at 0 c.loop-page.content.items bytes rest
    (omega (arith, so_far.held, none, long))))
