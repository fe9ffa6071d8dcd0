use Rattle.std.proofs.Common.{◌≡◌, ◌∙◌, ◌+◌, true, false, Ok, Err, IfSome, refl, subst, rules}
use Rattle.dbm_file.specs.Database.{store_of}
use Rattle.dbm_file.proofs.Runs.{goes_nowhere, still_goes}
use Rattle.dbm_lines.specs.Bounds.{longest_in}
use Rattle.dbm_lines.specs.Forms.{is_passed_in, pair_in}
use Rattle.dbm_lines.specs.Reading.{ReadsLine, IsCounted}
use Rattle.dbm_lines.specs.declared.forms.TextForm.{TextForm}
use Rattle.dbm_lines.proofs.TextLines.{counted_first, counted_on}
use Rattle.dbm_engines.specs.Batches.{held_in, GroupsLine}
use Rattle.dbm_engines.specs.LoadEndings.{IsBadFor}
use Rattle.dbm_engines.proofs.Endings.{batch_why, grouped_why}
use Rattle.dbm_engines.proofs.Loading.{read_in}
use Rattle.dbm_engines.proofs.Gathering.{none_held, batch_refused, unread, ended, line_went, line_stopped}
use Rattle.dbm_engines.proofs.grouping.load_groups.Goals as goal

pub loop-number-init : goal.loop-number-init
loop-number-init g c = record {
  gathering = none_held g.S.PageStore c.args.buffers.now.form c.args.db.now _ _
      (λ x honest left. g.met.S.PageStore.only_now (store_of c.args.db.now) x honest left)
      c.requires.none;
  form = refl;
  goes = goes_nowhere c.args.db.now;
  counted = counted_first (g.R.Read.remaining c.args.reader.now) 4294967295;
}

pub returns-in_err-store_batch-clause-loads : goal.returns-in_err-store_batch-clause-loads
returns-in_err-store_batch-clause-loads g c =
    let same : c.from_residual.result ≡ Err c.in_err-store_batch.field-0.0 = search rules in
    let h = c.loop-number.invariant in
    rw same (batch_refused g.S.PageStore _ _ _ _ _ _ _ _ h.goes c.store_batch.ensures.goes
    h.gathering _ c.in_err-store_batch.ensures.stores)

pub returns-in_default-clause-loads : goal.returns-in_default-clause-loads
returns-in_default-clause-loads g c =
    let h = c.loop-number.invariant in
    unread g.S.PageStore _ _ _ _ _ _ _ _ h.goes c.store_batch.ensures.goes h.gathering
    c.in_ok-store_batch.ensures.stores

pub returns-then-not-is_line-clause-loads : goal.returns-then-not-is_line-clause-loads
returns-then-not-is_line-clause-loads g c =
    let read : IfSome (g.R.Read.remaining c.loop-number.reader)
    (λ text. ReadsLine (longest_in c.loop-number.buffers.form + 1) text false
    c.read_line.new.buffers.line.items (g.R.Read.remaining c.read_line.new.reader)) =
    search rules in
    let h = c.loop-number.invariant in
    ended g.S.PageStore _ _ _ _ _ _ _ _ h.goes c.store_batch-then-not-is_line.ensures.goes
    h.gathering c.store_batch-then-not-is_line.result _ _ (read_in _ _ _ _ _ _ h.form read)
    c.store_batch-then-not-is_line.ensures.stores

pub returns-in_err-group_line-clause-loads : goal.returns-in_err-group_line-clause-loads
returns-in_err-group_line-clause-loads g c =
    let read : IfSome (g.R.Read.remaining c.loop-number.reader)
    (λ text. ReadsLine (longest_in c.loop-number.buffers.form + 1) text true
    c.read_line.new.buffers.line.items (g.R.Read.remaining c.read_line.new.reader)) =
    search rules in
    let same : c.from_residual-in_err-group_line.result ≡ Err c.in_err-group_line.field-0.0 =
    search rules in
    let h = c.loop-number.invariant in
    rw same (line_stopped g.S.PageStore _ _ _ _ _ _ _ _ _ _ h.goes c.group_line.ensures.goes
    (λ honest t x le left.
    g.met.S.PageStore.counts_now (store_of c.group_line.new.db) t x honest le left)
    h.gathering (read_in _ _ _ _ _ _ h.form read) _ _ (subst (λ (form : TextForm).
    GroupsLine (is_passed_in form c.read_line.new.buffers.line.items)
    (Err c.in_err-group_line.field-0.0) (pair_in form c.read_line.new.buffers.line.items) c.loop-number.number c.loop-number.db
    c.group_line.new.db (held_in c.loop-number.batch) (held_in c.group_line.new.batch))
    (c.read_line.ensures.form ∙ h.form) c.in_err-group_line.ensures.line))

pub loop-number-preserved : goal.loop-number-preserved
loop-number-preserved g c =
    let read : IfSome (g.R.Read.remaining c.loop-number.reader)
    (λ text. ReadsLine (longest_in c.loop-number.buffers.form + 1) text true
    c.read_line.new.buffers.line.items (g.R.Read.remaining c.read_line.new.reader)) =
    search rules in
    let count : IsCounted (g.R.Read.remaining c.loop-number.reader) c.loop-number.left
    (g.R.Read.remaining c.read_line.new.reader) c.read_line.new.left = search rules in
    let h = c.loop-number.invariant in
    record {
      gathering = line_went g.S.PageStore _ _ _ _ _ _ _ _ _ _ h.goes c.group_line.ensures.goes
          (λ honest t x le left.
          g.met.S.PageStore.counts_now (store_of c.group_line.new.db) t x honest le left)
          h.gathering (read_in _ _ _ _ _ _ h.form read) _ (subst (λ (form : TextForm).
          GroupsLine (is_passed_in form c.read_line.new.buffers.line.items) (Ok tt) (pair_in form c.read_line.new.buffers.line.items)
          c.loop-number.number c.loop-number.db c.group_line.new.db
          (held_in c.loop-number.batch) (held_in c.group_line.new.batch))
          (c.read_line.ensures.form ∙ h.form) c.in_ok-group_line.ensures.line);
      form = c.group_line.ensures.form ∙ c.read_line.ensures.form ∙ h.form;
      goes = still_goes _ _ _ h.goes c.group_line.ensures.goes;
      counted = counted_on _ _ _ _ _ _ h.counted count;
    }

pub returns-in_err-store_batch-2-clause-loads : goal.returns-in_err-store_batch-2-clause-loads
returns-in_err-store_batch-2-clause-loads g c =
    let same : c.from_residual-in_err-store_batch-2.result ≡ Err c.in_err-store_batch-2.field-0.0 =
    search rules in
    let h = c.loop-number.invariant in
    rw same (batch_refused g.S.PageStore _ _ _ _ _ _ _ _ h.goes c.store_batch-2.ensures.goes
    h.gathering _ c.in_err-store_batch-2.ensures.stores)

pub returns-clause-loads : goal.returns-clause-loads
returns-clause-loads g c =
    let h = c.loop-number.invariant in
    unread g.S.PageStore _ _ _ _ _ _ _ _ h.goes c.store_batch-2.ensures.goes h.gathering
    c.in_ok-store_batch-2.ensures.stores

pub returns-in_err-group_line-clause-why : goal.returns-in_err-group_line-clause-why
returns-in_err-group_line-clause-why g c =
    let read : IfSome (g.R.Read.remaining c.loop-number.reader)
    (λ text. ReadsLine (longest_in c.loop-number.buffers.form + 1) text true
    c.read_line.new.buffers.line.items (g.R.Read.remaining c.read_line.new.reader)) =
    search rules in
    let same : c.from_residual-in_err-group_line.result ≡ Err c.in_err-group_line.field-0.0 =
    search rules in
    let h = c.loop-number.invariant in
    let form = c.read_line.ensures.form ∙ h.form in
    rw same (grouped_why c.args.buffers.now.form c.loop-number.db c.group_line.new.db _ _ _ _
    h.gathering.done _ h.gathering.read h.gathering.counted (read_in _ _ _ _ _ _ h.form read) _
    (held_in c.loop-number.batch) (held_in c.group_line.new.batch)
    (subst (λ (form : TextForm). GroupsLine (is_passed_in form c.read_line.new.buffers.line.items)
    (Err c.in_err-group_line.field-0.0) (pair_in form c.read_line.new.buffers.line.items)
    c.loop-number.number c.loop-number.db c.group_line.new.db (held_in c.loop-number.batch)
    (held_in c.group_line.new.batch)) form c.in_err-group_line.ensures.line)
    (subst (λ (form : TextForm). IsBadFor form c.read_line.new.buffers.line.items
    (Err c.in_err-group_line.field-0.0)) form c.in_err-group_line.ensures.why))

pub returns-then-not-is_line-clause-why : goal.returns-then-not-is_line-clause-why
returns-then-not-is_line-clause-why g c =
    batch_why g.S.PageStore c.args.buffers.now.form c.store_batch-then-not-is_line.result
    c.loop-number.db c.store_batch-then-not-is_line.new.db (held_in c.loop-number.batch)
    (g.R.Read.remaining c.args.reader.now) c.store_batch-then-not-is_line.ensures.stores

pub returns-in_err-store_batch-clause-why : goal.returns-in_err-store_batch-clause-why
returns-in_err-store_batch-clause-why g c =
    let same : c.from_residual.result ≡ Err c.in_err-store_batch.field-0.0 = search rules in
    rw same (batch_why g.S.PageStore c.args.buffers.now.form (Err c.in_err-store_batch.field-0.0)
    c.loop-number.db c.store_batch.new.db (held_in c.loop-number.batch)
    (g.R.Read.remaining c.args.reader.now) c.in_err-store_batch.ensures.stores)

pub returns-in_err-store_batch-2-clause-why : goal.returns-in_err-store_batch-2-clause-why
returns-in_err-store_batch-2-clause-why g c =
    let same : c.from_residual-in_err-store_batch-2.result ≡ Err c.in_err-store_batch-2.field-0.0 =
    search rules in
    rw same (batch_why g.S.PageStore c.args.buffers.now.form (Err c.in_err-store_batch-2.field-0.0)
    c.loop-number.db c.store_batch-2.new.db (held_in c.loop-number.batch)
    (g.R.Read.remaining c.args.reader.now) c.in_err-store_batch-2.ensures.stores)
