use Rattle.commit_log.proofs.Rewritten.{AddsNone}
use Rattle.commit_log.proofs.rewriting.write_homes_back.Given as goal

abbrev pub invariant-loop-page : goal.invariant-loop-page
invariant-loop-page g l = record {
  adds : AddsNone g.D.SectorDev l.fn.dev l.dev;
}
