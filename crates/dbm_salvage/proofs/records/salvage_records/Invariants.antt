use Rattle.std.proofs.Common.{◌≡◌, ◌≤◌, true, vec_capacity}
use Rattle.sect_dev.specs.Device.{MoreFaults}
use Rattle.page_io.specs.BucketPages.{page_records}
use Rattle.dbm_salvage.specs.Laid.{laid}
use Rattle.dbm_salvage.specs.Reads.{Looks}
use Rattle.dbm_salvage.specs.Salvage.{said_in}
use Rattle.dbm_salvage.proofs.RecordPairs.{AreDone}
use Rattle.dbm_salvage.proofs.records.salvage_records.Given as goal

abbrev pub invariant-loop-i : goal.invariant-loop-i
invariant-loop-i g l =
    let dev = g.D.SectorDev in
    record {
      looks : Looks dev l.fn.dev l.dev;
      capacity : vec_capacity l.fn.content ≤ vec_capacity l.content;
      few : l.printed ≤ l.i;
      failed : l.has_failed ≡ true → MoreFaults (dev.faults l.fn.dev) (dev.faults l.dev);
      done : dev.honest l.fn.dev → AreDone (said_in (laid l.images (dev.seen l.fn.dev)) l.pages) l.has_failed
          (page_records l.page.bytes) l.i (g.W.Write.contents l.fn.writer)
          (g.W.Write.contents l.writer) l.printed;
    }
