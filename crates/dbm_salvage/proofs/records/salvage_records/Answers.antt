use Rattle.std.proofs.Common.{◌≤◌, ℕ, cond, Bool, true, false, ⊎_elim, ap, ◌∙◌, subst, arith}
use Rattle.std.specs.Option.{is_none}
use Rattle.sect_dev.specs.Device.{Image}
use Rattle.page_io.specs.BucketPages.{page_records}
use Rattle.page_io.proofs.Exits.{more_later}
use Rattle.dbm_salvage.specs.Laid.{laid}
use Rattle.dbm_salvage.specs.Salvage.{said_in, is_failed, IsRecordSalvaged}
use Rattle.dbm_salvage.proofs.LookRuns.{looks_then}
use Rattle.dbm_salvage.proofs.RecordPairs.{within_page, whole_page, done_more, printed_more}
use Rattle.dbm_salvage.proofs.FoundPages.{bucket_page}
use Rattle.dbm_salvage.proofs.records.salvage_records.Goals as goal

pub salvage_record-requires-clause-within : goal.salvage_record-requires-clause-within
salvage_record-requires-clause-within g c =
    within_page c.args.page.now.bytes c.loop-i.i c.from-i-end.result c.requires.page
    (c.from-i-end.ensures ∙ c.slots-count.ensures) c.loop-i-test.true

one_at_most : (b : Bool) → cond {A = ℕ} b 1 0 ≤ 1
one_at_most true = omega arith
one_at_most false = omega arith

pub loop-i-preserved : goal.loop-i-preserved
loop-i-preserved g c =
    let dev = g.D.SectorDev in
    let bytes = c.args.page.now.bytes in
    let so_far = c.loop-i.invariant in
    let told = c.in-Ok.ensures in
    let lost = c.in-Ok.lost in
    let count = c.count_pair-printed.ensures in
    let within = within_page bytes c.loop-i.i c.from-i-end.result c.requires.page
    (c.from-i-end.ensures ∙ c.slots-count.ensures) c.loop-i-test.true in
    record {
      looks = looks_then dev _ _ _ so_far.looks told.looks;
      capacity = omega (arith, so_far.capacity, told.capacity);
      few = omega (arith, so_far.few, count, one_at_most (is_none lost));
      failed = λ yes. ⊎_elim (λ before. omega (arith, so_far.failed before, told.looks.later))
          (λ now. more_later _ _ _ so_far.looks.later (told.cause now))
          (c.failed_after-has_failed.ensures.only yes);
      done = λ honest.
          let same = (so_far.looks.only_reads honest).seen in
          let is = subst (λ (image : Image). IsRecordSalvaged (laid c.args.images.now image) c.args.pages
          (page_records bytes) c.loop-i.i (g.W.Write.contents c.loop-i.writer)
          (g.W.Write.contents c.salvage_record.new.writer) lost) same
          (told.pair (so_far.looks.honesty.1 honest)) in
          let done = so_far.done honest in
          done_more (said_in (laid c.args.images.now (dev.seen c.args.dev.now)) c.args.pages) c.loop-i.has_failed
          (is_failed lost) c.failed_after-has_failed.result (page_records bytes) c.loop-i.i _ _ _
          c.loop-i.printed _ is.pair within c.failed_after-has_failed.ensures.kept
          c.failed_after-has_failed.ensures.now done is.is
          (omega (
            arith,
            done.count_is,
            printed_more done.pairs is.pair,
            count,
            ap (λ (b : Bool). cond {A = ℕ} b 1 0) is.told,
          ))
          is.written;
    }

pub returns-clause-page : goal.returns-clause-page
returns-clause-page g c honest read =
    let image = laid c.args.images.now (g.D.SectorDev.seen c.args.dev.now) in
    let bytes = c.args.page.now.bytes in
    let so_far = c.loop-i.invariant in
    let all = whole_page bytes c.slots-count.result c.requires.page c.slots-count.ensures in
    bucket_page image c.args.pages _ c.args.n bytes (page_records bytes) c.loop-i.i
    c.loop-i.has_failed _ _ c.loop-i.printed c.slots-count.result c.trouble_with.result read
    c.requires.reads c.requires.records
    (omega (arith, all, c.from-i-end.ensures, c.loop-i-test.false)) all
    (omega (arith, so_far.few, c.loop-i.auto.i-end, c.from-i-end.ensures))
    (so_far.done honest) so_far.failed c.trouble_with.ensures.failed c.trouble_with.ensures.lost
    c.trouble_with.ensures.whole
