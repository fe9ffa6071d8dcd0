use Rattle.std.proofs.Common.{◌≡◌, ◌+◌, ◌<◌, ℕ}
use Rattle.sect_dev.specs.Device.{NoNewCandidate, part_of, IsRunPartlyWritten, with_run_candidates}
use Rattle.sect_dev.proofs.RunSteps.{WentOn}
use Rattle.sect_dev.proofs.device.SectorDev.write_run.Given as goal

-- the sectors so far are written
abbrev pub invariant-loop-k : goal.invariant-loop-k
invariant-loop-k g l =
    let dev = g.Self.SectorDev in
    let first = l.fn.self in
    record {
      went : WentOn dev.sectors dev.faults dev.moment dev.honest dev.candidate dev.left_since
          first l.self;
      quiet : dev.faults l.self ≡ dev.faults first;
      written : dev.honest first → (j : ℕ) → j < l.k
          → dev.seen l.self (l.n + j) ≡ part_of l.from j;
      partly : dev.honest first
          → IsRunPartlyWritten (dev.seen first) l.n l.from (dev.seen l.self);
      candidates : dev.honest first
          → NoNewCandidate (with_run_candidates (dev.candidate first) l.n l.from)
          (dev.candidate l.self);
    }
