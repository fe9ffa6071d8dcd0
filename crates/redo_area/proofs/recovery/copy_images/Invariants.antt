use Rattle.std.proofs.Common.{◌≡◌, ℕ}
use Rattle.page_io.specs.Page.{page_at}
use Rattle.page_io.specs.Store.{overlaid, pages_from}
use Rattle.redo_area.specs.File.{redo_images, IsOutsideAll}
use Rattle.commit_log.proofs.WriteRuns.{Keeps}
use Rattle.redo_area.proofs.recovery.copy_images.Given as goal

abbrev pub invariant-loop-i : goal.invariant-loop-i
invariant-loop-i g l =
    let dev = g.D.SectorDev in
    let first = l.fn.dev in
    record {
      keeps : Keeps dev (IsOutsideAll (redo_images (dev.seen first) l.start l.count)) first l.dev;
      written : dev.honest first → (n : ℕ)
          → page_at (dev.seen l.dev) n ≡ overlaid
          (pages_from (page_at (dev.seen first)) l.start l.i) (page_at (dev.seen first)) n;
    }
