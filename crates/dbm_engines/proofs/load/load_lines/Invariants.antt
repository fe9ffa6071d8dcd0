use Rattle.std.specs.Prelude.{◌≡◌}
use Rattle.dbm_file.specs.Answers.{IsSameDatabase}
use Rattle.dbm_lines.specs.Reading.{IsCounted}
use Rattle.dbm_engines.proofs.Loading.{IsLoading}
use Rattle.dbm_engines.proofs.load.load_lines.Given as goal

abbrev pub invariant-loop-number : goal.invariant-loop-number
invariant-loop-number g l = record {
  loading : IsLoading l.initial.buffers.form l.initial.db l.db (g.R.Read.remaining l.initial.reader)
      (g.R.Read.remaining l.reader) l.number;
  form : l.buffers.form ≡ l.initial.buffers.form;
  goes : IsSameDatabase l.initial.db l.db;
  counted : IsCounted (g.R.Read.remaining l.initial.reader) 4294967295
      (g.R.Read.remaining l.reader) l.left;
}
