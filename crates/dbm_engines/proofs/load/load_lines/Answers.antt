use Rattle.std.proofs.Common.{◌≡◌, ◌∙◌, ◌+◌, true, Ok, Err, IfSome, refl, subst, rules}
use Rattle.dbm_file.specs.Database.{store_of}
use Rattle.dbm_file.proofs.Runs.{no_run, goes_nowhere, still_goes}
use Rattle.dbm_lines.specs.Bounds.{longest_in}
use Rattle.dbm_lines.specs.Forms.{is_passed_in, pair_in}
use Rattle.dbm_lines.specs.Reading.{ReadsLine, IsCounted}
use Rattle.dbm_lines.specs.declared.forms.TextForm.{TextForm}
use Rattle.dbm_engines.specs.declared.load_stop.LoadStop.TheVariants.{Read}
use Rattle.dbm_lines.proofs.TextLines.{counted_first, counted_on}
use Rattle.dbm_engines.specs.LoadEndings.{IsBadFor}
use Rattle.dbm_engines.specs.Loading.{LoadsLine}
use Rattle.dbm_engines.proofs.Endings.{alone_why}
use Rattle.dbm_engines.proofs.Loading.{at_start, read_in, go_on, stopped, not_read}
use Rattle.dbm_engines.proofs.load.load_lines.Goals as goal

pub loop-number-init : goal.loop-number-init
loop-number-init g c = record {
  loading =
      let db = c.args.db.now in
      at_start c.args.buffers.now.form db _ (λ start honest at.
      no_run g.S.PageStore db start at
      (λ x left. g.met.S.PageStore.only_now db.store x honest left));
  form = refl;
  goes = goes_nowhere c.args.db.now;
  counted = counted_first (g.R.Read.remaining c.args.reader.now) 4294967295;
}

pub returns-in_err-map_err-clause-loads : goal.returns-in_err-map_err-clause-loads
returns-in_err-map_err-clause-loads g c =
    let same : c.from_residual.result ≡ Err Read = search rules in
    rw same (not_read _ _ _ _ _ _ c.loop-number.invariant.loading)

pub returns-in_err-load_line-clause-loads : goal.returns-in_err-load_line-clause-loads
returns-in_err-load_line-clause-loads g c =
    let read : IfSome (g.R.Read.remaining c.loop-number.reader)
    (λ text. ReadsLine (longest_in c.loop-number.buffers.form + 1) text true
    c.read_line-read.new.buffers.line.items (g.R.Read.remaining c.read_line-read.new.reader)) =
    search rules in
    let same : c.from_residual-in_err-load_line.result ≡ Err c.in_err-load_line.field-0.0 =
    search rules in
    let h = c.loop-number.invariant in
    rw same (stopped g.S.PageStore _ _ _ _ _ _ _ _ _ h.goes.honesty.1
    c.load_line.ensures.goes (λ honest t x le left.
    g.met.S.PageStore.counts_now (store_of c.load_line.new.db) t x honest le left)
    h.loading (read_in _ _ _ _ _ _ h.form read) _ (subst (λ (form : TextForm).
    LoadsLine (is_passed_in form c.read_line-read.new.buffers.line.items)
    (Err c.in_err-load_line.field-0.0) (pair_in form c.read_line-read.new.buffers.line.items)
    c.loop-number.number c.loop-number.db c.load_line.new.db) (c.read_line-read.ensures.form ∙ h.form) c.in_err-load_line.ensures.line))

pub loop-number-preserved : goal.loop-number-preserved
loop-number-preserved g c =
    let read : IfSome (g.R.Read.remaining c.loop-number.reader)
    (λ text. ReadsLine (longest_in c.loop-number.buffers.form + 1) text true
    c.read_line-read.new.buffers.line.items (g.R.Read.remaining c.read_line-read.new.reader)) =
    search rules in
    let count : IsCounted (g.R.Read.remaining c.loop-number.reader) c.loop-number.left
    (g.R.Read.remaining c.read_line-read.new.reader) c.read_line-read.new.left = search rules in
    let h = c.loop-number.invariant in
    record {
      loading = go_on g.S.PageStore _ _ _ _ _ _ _ _ _ h.goes.honesty.1
          c.load_line.ensures.goes (λ honest t x le left.
          g.met.S.PageStore.counts_now (store_of c.load_line.new.db) t x honest le left)
          h.loading (read_in _ _ _ _ _ _ h.form read) (subst (λ (form : TextForm).
          LoadsLine (is_passed_in form c.read_line-read.new.buffers.line.items) (Ok tt)
          (pair_in form c.read_line-read.new.buffers.line.items) c.loop-number.number
          c.loop-number.db c.load_line.new.db)
          (c.read_line-read.ensures.form ∙ h.form) c.in_ok-load_line.ensures.line);
      form = c.load_line.ensures.form ∙ c.read_line-read.ensures.form ∙ h.form;
      goes = still_goes _ _ _ h.goes c.load_line.ensures.goes;
      counted = counted_on _ _ _ _ _ _ h.counted count;
    }

pub returns-clause-loads : goal.returns-clause-loads
returns-clause-loads g c = not_read _ _ _ _ _ _ c.loop-number.invariant.loading

pub returns-in_err-load_line-clause-why : goal.returns-in_err-load_line-clause-why
returns-in_err-load_line-clause-why g c =
    let read : IfSome (g.R.Read.remaining c.loop-number.reader)
    (λ text. ReadsLine (longest_in c.loop-number.buffers.form + 1) text true
    c.read_line-read.new.buffers.line.items (g.R.Read.remaining c.read_line-read.new.reader)) =
    search rules in
    let same : c.from_residual-in_err-load_line.result ≡ Err c.in_err-load_line.field-0.0 =
    search rules in
    let h = c.loop-number.invariant in
    let form = c.read_line-read.ensures.form ∙ h.form in
    rw same (alone_why c.args.buffers.now.form c.loop-number.db c.load_line.new.db _ _ _ _ h.loading.done _
    h.loading.read h.loading.counted (read_in _ _ _ _ _ _ h.form read) _
    (subst (λ (form : TextForm).
    LoadsLine (is_passed_in form c.read_line-read.new.buffers.line.items)
    (Err c.in_err-load_line.field-0.0) (pair_in form c.read_line-read.new.buffers.line.items)
    c.loop-number.number c.loop-number.db c.load_line.new.db) form
    c.in_err-load_line.ensures.line)
    (subst (λ (form : TextForm). IsBadFor form c.read_line-read.new.buffers.line.items
    (Err c.in_err-load_line.field-0.0)) form c.in_err-load_line.ensures.why))
