use Rattle.std.proofs.Common.{◌≡◌, ◌≤◌, length}
use Rattle.sect_dev.specs.Device.{MoreFaults}
use Rattle.dbm_salvage.specs.Reads.{Looks}
use Rattle.dbm_salvage.specs.Images.{AreOnDevice, AreLaid}
use Rattle.dbm_salvage.proofs.images.Images.of.Given as goal

abbrev pub invariant-loop-i : goal.invariant-loop-i
invariant-loop-i g l =
    let dev = g.D.SectorDev in
    record {
      looks : Looks dev l.fn.dev l.dev;
      long : length l.places.items ≡ l.fn.pages;
      few : l.lost ≤ l.i;
      within : AreOnDevice l.places.items l.fn.pages (dev.sectors l.fn.dev);
      laid : dev.honest l.fn.dev → AreLaid (dev.seen l.fn.dev) l.fn.pages l.fn.start l.i
          (MoreFaults (dev.faults l.fn.dev) (dev.faults l.dev)) l.places.items l.lost;
    }
