use Rattle.std.proofs.Common.{◌≡◌, length}
use Rattle.dbm_rehearse.specs.Counts.{AreCounted}
use Rattle.dbm_rehearse.proofs.stopping.Rehearsal.make_stops.Given as goal

abbrev pub invariant-loop-i : goal.invariant-loop-i
invariant-loop-i g l = record {
  counted : AreCounted l.counts;
  calls : l.counts.calls ≡ length l.self.calls.now;
  device_calls : l.counts.device_calls ≡ l.device_calls;
  stops : l.counts.stops ≡ l.i;
}
