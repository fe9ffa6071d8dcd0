use Rattle.std.proofs.Common.{true, ◌+◌, ◌∙◌, IfSome, rules}
use Rattle.dbm_lines.specs.Bounds.{longest_in}
use Rattle.dbm_lines.specs.Reading.{ReadsLine}
use Rattle.dbm_rehearse.proofs.ScriptLines.{with_line}
use Rattle.dbm_rehearse.proofs.reading.read_calls.Goals as goal

pub loop-preserved : goal.loop-preserved
loop-preserved g c =
    let so_far = c.loop.invariant in
    let read : IfSome (g.R.Read.remaining c.loop.reader) (λ text.
    ReadsLine (longest_in c.loop.buffers.form + 1) text true c.read_line-read.new.buffers.line.items
    (g.R.Read.remaining c.read_line-read.new.reader)) =
    search rules in
    record {
      read = with_line _ _ _ _ _ _ c.read_line-read.new.buffers.line.items _ _
          (rw so_far.form at read) so_far.read c.in_ok-keep_call.ensures.line;
      form = c.in_ok-keep_call.ensures.form ∙ c.read_line-read.ensures.form ∙ so_far.form;
    }

pub returns-then-not-is_line-clause-calls : goal.returns-then-not-is_line-clause-calls
returns-then-not-is_line-clause-calls g c = search rules
