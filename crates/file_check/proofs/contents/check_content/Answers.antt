use Rattle.std.proofs.Common.{refl, ◌-◌, ◌<◌, ◌++◌, sym, ◌∙◌, arith}
use Rattle.page_io.specs.Views.{body_at}
use Rattle.page_io.specs.declared.store.PageFault.TheVariants.{Damaged}
use Rattle.page_io.proofs.Exits.{exit_is, came}
use Rattle.page_io.proofs.Views.{reads_then, same_said}
use Rattle.bucket_chain.proofs.ReadPages.{reads_none, still_honest}
use Rattle.content_pages.proofs.ContentWalks.{said_too}
use Rattle.file_check.proofs.ContentChecks.{none_checked, part_more, all_checked, whole_rest, no_rest, rest_mark, rest_part, rest_more}
use Rattle.file_check.proofs.SeenPages.{mark_more, not_refused}
use Rattle.file_check.proofs.ToldFlaws.{kept_then}
use Rattle.file_check.proofs.contents.check_content.Goals as goal

pub loop-page-init : goal.loop-page-init
loop-page-init g c = record {
  marks = refl;
  reads = reads_none g.S.PageStore c.args.store.now
      (λ y h left. g.met.S.PageStore.only_now c.args.store.now y h left);
  told = λ told was. was;
  left = omega (arith, c.from-left.ensures);
  part = λ honest seen are. none_checked (body_at g.S.PageStore c.args.store.now)
      (g.S.PageStore.state c.args.store.now).end c.args.first c.args.long c.from-left.result
      c.args.marks.now seen c.from-left.ensures are;
  rest = λ honest seen pages content are is.
      whole_rest (body_at g.S.PageStore c.args.store.now)
      (g.S.PageStore.state c.args.store.now).end c.args.first c.args.long c.from-left.result
      pages content c.args.marks.now seen c.from-left.ensures are is;
}

pub returns-in_err-next-clause-whole : goal.returns-in_err-next-clause-whole
returns-in_err-next-clause-whole g c honest seen pages content are is may damaged =
    let st = g.S.PageStore in
    let so_far = c.loop-page.invariant in
    let told = c.in_err-next.ensures in
    let result = c.from_residual in
    let exit = exit_is result.result c.in_err-next.field-0.0 result.ensures.1 in
    let same = same_said st _ _ so_far.reads honest in
    let more : 0 < c.loop-page.left = omega (
      arith,
      so_far.left,
      c.loop-page-test.true,
      c.pages_for-page-end.ensures.number,
    ) in
    let here = rest_part (body_at st c.args.store.now) (st.state c.args.store.now).end
    c.loop-page.at c.loop-page.left pages c.loop-page.marks seen
    (so_far.rest honest seen pages content are is) more (body_at st c.loop-page.store)
    c.min-part.result may same c.min-part.ensures in
    told.whole (still_honest st _ _ so_far.reads honest) here.next here.part here.some
    here.size_is here.says (came _ _ exit Damaged damaged)

pub returns-then-not-mark-clause-whole : goal.returns-then-not-mark-clause-whole
returns-then-not-mark-clause-whole g c honest seen pages content are is may damaged =
    let st = g.S.PageStore in
    let so_far = c.loop-page.invariant in
    let more : 0 < c.loop-page.left = omega (
      arith,
      so_far.left,
      c.loop-page-test.true,
      c.pages_for-page-end.ensures.number,
    ) in
    let rest = so_far.rest honest seen pages content are is in
    not_refused c.loop-page.marks c.mark.result c.end-end.result
    (st.state c.args.store.now).end c.loop-page.at (seen ++ rest.done) c.end-end.ensures
    c.mark.ensures.may_be rest.marked
    (rest_mark (body_at st c.args.store.now) (st.state c.args.store.now).end c.loop-page.at
    c.loop-page.left pages c.loop-page.marks seen rest more may)
    c.if-not-mark.true

pub loop-page-preserved : goal.loop-page-preserved
loop-page-preserved g c =
    let st = g.S.PageStore in
    let so_far = c.loop-page.invariant in
    let told = c.in_ok-next.ensures in
    let end = (st.state c.args.store.now).end in
    let more : 0 < c.loop-page.left = omega (
      arith,
      so_far.left,
      c.loop-page-test.true,
      c.pages_for-page-end.ensures.number,
    ) in
    record {
      marks = c.if-not-mark.ensures.length ∙ so_far.marks;
      reads = reads_then st _ _ _ (g.met.S.PageStore.counts_now c.loop-page.store) so_far.reads
          told.reads.only;
      told = kept_then (kept_then so_far.told told.told (λ is. cc)) c.mark.ensures.told
          (λ is. let marked = c.if-not-mark.false in cc);
      left = omega (arith, so_far.left, c.min-part.ensures);
      part = λ honest seen are.
          let same = same_said st _ _ so_far.reads honest in
          let part = so_far.part honest seen are in
          part_more (body_at st c.args.store.now) end c.args.first c.args.long c.loop-page.at
          c.loop-page._page c.loop-page.left c.in_ok-next.next c.min-part.result
          (c.loop-page.left - c.min-part.result) c.loop-page.marks c.mark.new.marks seen
          c.check_part.new.page.bytes part so_far.left more c.min-part.ensures refl told.known.0
          (omega arith) told.bytes
          (said_too _ _ c.loop-page.at _ (sym same)
          (told.says (still_honest st _ _ so_far.reads honest)))
          (mark_more c.loop-page.marks c.mark.new.marks c.end-end.result end c.loop-page.at
          (seen ++ part.pages) c.end-end.ensures c.if-not-mark.ensures.marked part.marked);
      rest = λ honest seen pages content are is.
          let same = same_said st _ _ so_far.reads honest in
          let rest = so_far.rest honest seen pages content are is in
          rest_more (body_at st c.args.store.now) end c.loop-page.at c.loop-page.left pages
          c.loop-page.marks seen rest more c.mark.new.marks c.in_ok-next.next c.min-part.result
          (c.loop-page.left - c.min-part.result) _
          (said_too _ _ c.loop-page.at _ (sym same)
          (told.says (still_honest st _ _ so_far.reads honest)))
          c.min-part.ensures refl
          (mark_more c.loop-page.marks c.mark.new.marks c.end-end.result end c.loop-page.at
          (seen ++ rest.done) c.end-end.ensures c.if-not-mark.ensures.marked rest.marked);
    }

pub returns-then-at-eq0-clause-sound : goal.returns-then-at-eq0-clause-sound
returns-then-at-eq0-clause-sound g c honest seen are =
    let st = g.S.PageStore in
    let so_far = c.loop-page.invariant in
    let number = c.pages_for-page-end.ensures.number in
    all_checked (body_at st c.args.store.now) (st.state c.args.store.now).end c.args.first
    c.args.long c.loop-page.at c.loop-page._page c.loop-page.left c.loop-page.marks seen
    (so_far.part honest seen are) c.if-at-eq0.true
    (omega (arith, so_far.left, number, c.loop-page-test.false))
    (omega (arith, number, c.loop-page-test.false, c.loop-page.auto._page-end))

pub returns-else-at-eq0-clause-whole : goal.returns-else-at-eq0-clause-whole
returns-else-at-eq0-clause-whole g c honest seen pages content are is may damaged =
    let st = g.S.PageStore in
    let so_far = c.loop-page.invariant in
    let number = c.pages_for-page-end.ensures.number in
    c.if-at-eq0.false
    (no_rest (body_at st c.args.store.now) (st.state c.args.store.now).end c.loop-page.at
    c.loop-page.left pages c.loop-page.marks seen (so_far.rest honest seen pages content are is)
    (omega (arith, so_far.left, number, c.loop-page-test.false)))
