use Rattle.std.proofs.Common.{subst}
use Rattle.std.specs.Io.KnownBytes.{Appends}
use Rattle.dbm_lines.proofs.WordRuns.{none_written, run_more}
use Rattle.dbm_lines.proofs.replies.write_word.Goals as goal

pub loop-rest-init : goal.loop-rest-init
loop-rest-init g c = none_written _ c.args.bytes.now

pub loop-rest-preserved : goal.loop-rest-preserved
loop-rest-preserved g c =
    run_more _ _ _ _ c.loop-rest.rest.now c.split_at.result.0.now _ c.loop-rest.invariant
    (c.split_at.ensures.by_index.0) (subst (Appends _ _)
    c.encode.ensures c.in_ok-write_all.ensures.bytes)
