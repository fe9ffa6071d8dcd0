use Rattle.std.proofs.Common.{◌≡◌, map}
use Rattle.dbm_file.specs.Calls.{call_of}
use Rattle.dbm_lines.specs.declared.forms.TextForm.TheVariants.{Hexadecimal}
use Rattle.dbm_rehearse.proofs.ScriptLines.{IsRead}
use Rattle.dbm_rehearse.proofs.reading.read_calls.Given as goal

abbrev pub invariant-loop : goal.invariant-loop
invariant-loop g l = record {
  read : IsRead (g.R.Read.remaining l.initial.reader) (g.R.Read.remaining l.reader)
      (g.W.Write.contents l.initial.writer) (g.W.Write.contents l.writer)
      (map call_of l.calls.items);
  form : l.buffers.form ≡ Hexadecimal;
}
