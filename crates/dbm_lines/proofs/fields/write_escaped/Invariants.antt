use Rattle.std.proofs.Common.{◌≡◌, ◌-◌, ◌≤◌, ◌++◌, take, drop}
use Rattle.std.specs.Io.KnownBytes.{Appends}
use Rattle.dbm_lines.specs.Escapes.{escaped}
use Rattle.dbm_lines.proofs.fields.write_escaped.Given as goal

abbrev pub invariant-loop-at : goal.invariant-loop-at
invariant-loop-at g l = record {
  start : l.start ≤ l.at;
  written : Appends (g.W.Write.contents l.fn.writer) (g.W.Write.contents l.writer)
      (escaped (take l.start l.bytes));
  run : escaped (take l.at l.bytes)
      ≡ escaped (take l.start l.bytes) ++ take (l.at - l.start) (drop l.start l.bytes);
}
