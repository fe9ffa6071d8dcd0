use Rattle.std.proofs.Common.{◌≡◌, ◌∙◌, refl, sym, true, is_ok, rules}
use Rattle.dbm_file.specs.Database.{store_of}
use Rattle.dbm_file.proofs.Runs.{no_run, goes_nowhere, still_goes}
use Rattle.dbm_lines.proofs.TextLines.{counted_first, counted_on}
use Rattle.dbm_engines.proofs.Answering.{at_start, go_on, stand, stand_with, answered_first, said, was_read, was_none}
use Rattle.dbm_engines.proofs.Telling.{told_none, tell_on, told_well, told_whole}
use Rattle.dbm_engines.proofs.script.run_lines.Goals as goal

pub loop-init : goal.loop-init
loop-init g c = record {
  answered = λ honest start at.
      let db = c.args.db.now in
      at_start c.args.buffers.now.form db start _ _ (no_run g.S.PageStore db start at
      (λ x left. g.met.S.PageStore.only_now db.store x honest left));
  told = told_none c.args.buffers.now.form c.args.db.now _ _;
  goes = goes_nowhere c.args.db.now;
  form = refl;
  counted = counted_first (g.R.Read.remaining c.args.reader.now) 4294967295;
}

-- a line was cut short
pub returns-in_err-read-clause-stands : goal.returns-in_err-read-clause-stands
returns-in_err-read-clause-stands g c honest start at =
    stand c.args.buffers.now.form _ _ start _ _ _ _ (c.loop.invariant.answered honest start at)

pub returns-in_err-read-clause-cut : goal.returns-in_err-read-clause-cut
returns-in_err-read-clause-cut g c honest start at is =
    answered_first c.args.buffers.now.form _ _ start _ _ _ _ (c.loop.invariant.answered honest start at)

-- a reply was not written
pub returns-in_err-map_err-clause-stands : goal.returns-in_err-map_err-clause-stands
returns-in_err-map_err-clause-stands g c honest start at =
    let so_far = c.loop.invariant in
    let h = so_far.answered honest start at in
    let mid = so_far.goes.honesty.1 honest in
    let form = c.args.buffers.now.form in
    let read = rw so_far.form at c.in_ok-read.ensures.line in
    let line = rw (c.in_ok-read.ensures.form, so_far.form) at
    (c.answer_and_flush.ensures.line mid h.answered.run.after h.answered.run.is_at) in
    stand_with g.S.PageStore form _ _ _ start _ _ _ _ _ c.next_line.new.buffers.line.items _
    c.answer_and_flush.ensures.goes
    (λ t x le left. g.met.S.PageStore.counts_now (store_of c.answer_and_flush.new.db) t x
    (c.answer_and_flush.ensures.goes.honesty.1 mid) le left) h
    (was_read form _ _ _ _ (sym c.is_line.ensures ∙ c.if-not-is_line.false) read) line

-- at the end of the text
pub returns-then-not-is_line-clause-stands : goal.returns-then-not-is_line-clause-stands
returns-then-not-is_line-clause-stands g c honest start at =
    stand c.args.buffers.now.form _ _ start _ _ _ _ (c.loop.invariant.answered honest start at)

pub returns-then-not-is_line-clause-tells : goal.returns-then-not-is_line-clause-tells
returns-then-not-is_line-clause-tells g c =
    let form = c.args.buffers.now.form in
    told_whole form _ _ _ _ _ _ _ c.next_line.new.buffers.line.items c.loop.invariant.told
    (was_none form _ _ _ _ (sym c.is_line.ensures ∙ c.if-not-is_line.true)
    (rw c.loop.invariant.form at c.in_ok-read.ensures.line))

-- after as many lines as can be counted
pub returns-clause-stands : goal.returns-clause-stands
returns-clause-stands g c honest start at =
    stand c.args.buffers.now.form _ _ start _ _ _ _ (c.loop.invariant.answered honest start at)

pub returns-clause-cut : goal.returns-clause-cut
returns-clause-cut g c honest start at is =
    answered_first c.args.buffers.now.form _ _ start _ _ _ _ (c.loop.invariant.answered honest start at)

pub loop-preserved : goal.loop-preserved
loop-preserved g c =
    let so_far = c.loop.invariant in
    let form = c.args.buffers.now.form in
    let read = rw so_far.form at c.in_ok-read.ensures.line in
    let there = was_read form _ _ _ _ (sym c.is_line.ensures ∙ c.if-not-is_line.false) read in
    let same : c.next_line.new.buffers.form ≡ form = c.in_ok-read.ensures.form ∙ so_far.form in
    let wrote : is_ok c.answer_and_flush.result ≡ true = search rules in
    record {
      answered = λ honest start at.
          let h = so_far.answered honest start at in
          let mid = so_far.goes.honesty.1 honest in
          go_on g.S.PageStore form _ _ _ start _ _ _ _ _ _ c.next_line.new.buffers.line.items
          c.answer_and_flush.ensures.goes
          (λ t x le left. g.met.S.PageStore.counts_now (store_of c.answer_and_flush.new.db) t x
          (c.answer_and_flush.ensures.goes.honesty.1 mid) le left) h there
          (said c.answer_and_flush.result form _ _ _ h.answered.run.after _ wrote
          (rw same at
          (c.answer_and_flush.ensures.line mid h.answered.run.after h.answered.run.is_at)));
      told = tell_on form _ _ _ _ _ _ _ _ _ c.next_line.new.buffers.line.items so_far.told there
          (told_well c.answer_and_flush.result form _ _ _ _ wrote
          (rw same at c.answer_and_flush.ensures.tells));
      goes = still_goes _ _ _ so_far.goes c.answer_and_flush.ensures.goes;
      form = c.answer_and_flush.ensures.form ∙ same;
      counted = counted_on _ _ _ _ _ _ so_far.counted c.in_ok-read.ensures.counted;
    }
