use Rattle.std.proofs.Common.{◌≡◌}
use Rattle.dbm_model.specs.States.{Handle}
use Rattle.dbm_file.specs.Answers.{IsSameDatabase}
use Rattle.dbm_file.specs.Database.{store_of, IsAt}
use Rattle.dbm_lines.specs.Reading.{IsCounted}
use Rattle.dbm_engines.proofs.Answering.{IsAnswered}
use Rattle.dbm_engines.proofs.Telling.{IsTold}
use Rattle.dbm_engines.proofs.script.run_lines.Given as goal

abbrev pub invariant-loop : goal.invariant-loop
invariant-loop g l = record {
  answered : g.S.PageStore.honest (store_of l.initial.db) → (h : Handle) → IsAt l.initial.db h
      → IsAnswered l.initial.buffers.form l.initial.db l.db h (g.R.Read.remaining l.initial.reader)
      (g.R.Read.remaining l.reader) (g.W.Write.contents l.initial.writer)
      (g.W.Write.contents l.writer);
  told : IsTold l.initial.buffers.form l.initial.db l.db (g.R.Read.remaining l.initial.reader)
      (g.R.Read.remaining l.reader) (g.W.Write.contents l.initial.writer)
      (g.W.Write.contents l.writer);
  goes : IsSameDatabase l.initial.db l.db;
  form : l.buffers.form ≡ l.initial.buffers.form;
  counted : IsCounted (g.R.Read.remaining l.initial.reader) 4294967295
      (g.R.Read.remaining l.reader) l.left;
}
