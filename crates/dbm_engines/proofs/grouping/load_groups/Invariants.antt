use Rattle.std.specs.Prelude.{◌≡◌}
use Rattle.dbm_file.specs.Answers.{IsSameDatabase}
use Rattle.dbm_lines.specs.Reading.{IsCounted}
use Rattle.dbm_engines.specs.Batches.{held_in}
use Rattle.dbm_engines.proofs.Gathering.{IsGathering}
use Rattle.dbm_engines.proofs.grouping.load_groups.Given as goal

abbrev pub invariant-loop-number : goal.invariant-loop-number
invariant-loop-number g l = record {
  gathering : IsGathering l.initial.buffers.form l.initial.db l.db (g.R.Read.remaining l.initial.reader)
      (g.R.Read.remaining l.reader) (held_in l.batch) l.number;
  form : l.buffers.form ≡ l.initial.buffers.form;
  goes : IsSameDatabase l.initial.db l.db;
  counted : IsCounted (g.R.Read.remaining l.initial.reader) 4294967295
      (g.R.Read.remaining l.reader) l.left;
}
