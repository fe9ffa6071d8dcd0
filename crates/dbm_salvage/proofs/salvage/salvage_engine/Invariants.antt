use Rattle.std.proofs.Common.{◌+◌, ◌-◌, ◌*◌, ◌≤◌, vec_capacity}
use Rattle.sect_dev.specs.Device.{MoreFaults}
use Rattle.dbm_salvage.specs.Laid.{laid}
use Rattle.dbm_salvage.specs.Reads.{Looks}
use Rattle.dbm_salvage.specs.Salvage.{AreSalvaged}
use Rattle.dbm_salvage.proofs.salvage.salvage_engine.Given as goal

abbrev pub invariant-loop-n : goal.invariant-loop-n
invariant-loop-n g l =
    let dev = g.D.SectorDev in
    record {
      looks : Looks dev l.fn.dev l.dev;
      capacity : 65535 ≤ vec_capacity l.content;
      last : l.n - 1 ≤ l.pages - 1;
      few_pairs : l.all.pairs ≤ 65535 * l.n;
      few_troubles : l.all.troubles + 1 ≤ l.n;
      done : dev.honest l.fn.dev → AreSalvaged (laid l.images (dev.seen l.fn.dev)) l.pages
          (MoreFaults (dev.faults l.fn.dev) (dev.faults l.dev)) l.n
          (g.W.Write.contents l.fn.writer) (g.W.Write.contents l.writer)
          (g.T.Troubles.told l.fn.troubles) (g.T.Troubles.told l.troubles)
          l.all.pairs l.all.troubles;
    }
