use Rattle.std.proofs.Common.{◌≤◌, vec_len, vec_capacity}
use Rattle.dbm_lines.proofs.Reading.{IsReading}
use Rattle.dbm_lines.specs.Reading.{IsCounted}
use Rattle.dbm_lines.proofs.lines.read_up_to.Given as goal

abbrev pub invariant-loop : goal.invariant-loop
invariant-loop g l = record {
  reading : IsReading l.most (g.R.Read.remaining l.initial.reader) (g.R.Read.remaining l.reader)
      l.line.items l.more;
  counted : IsCounted (g.R.Read.remaining l.initial.reader) l.initial.left
      (g.R.Read.remaining l.reader) l.left;
  length : vec_len l.line ≤ l.most;
  room : l.most ≤ vec_capacity l.line;
}
