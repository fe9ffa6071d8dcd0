use Rattle.std.proofs.Common.{◌≡◌, ◌+◌, ◌<◌, ℕ}
use Rattle.sect_dev.specs.Device.{NoNewCandidate, part_of}
use Rattle.sect_dev.proofs.RunSteps.{WentOn}
use Rattle.sect_dev.proofs.device.SectorDev.read_run.Given as goal

-- the sectors so far are read
abbrev pub invariant-loop-k : goal.invariant-loop-k
invariant-loop-k g l =
    let dev = g.Self.SectorDev in
    let first = l.fn.self in
    record {
      went : WentOn dev.sectors dev.faults dev.moment dev.honest dev.candidate dev.left_since
          first l.self;
      quiet : dev.faults l.self ≡ dev.faults first;
      still : (dev.moment l.self).at ≡ (dev.moment first).at;
      seen : dev.honest first → dev.seen l.self ≡ dev.seen first;
      candidates : dev.honest first → NoNewCandidate (dev.candidate first) (dev.candidate l.self);
      read : dev.honest first → (j : ℕ) → j < l.k → dev.seen first (l.n + j) ≡ part_of l.out j;
    }
