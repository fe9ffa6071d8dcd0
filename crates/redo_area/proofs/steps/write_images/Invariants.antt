use Rattle.std.proofs.Common.{◌≡◌, ◌+◌, ◌*◌, length, take}
use Rattle.page_io.specs.Page.{page_at, IsOutside}
use Rattle.page_io.specs.Store.{pages_from, bytes_of}
use Rattle.commit_log.proofs.WriteRuns.{Keeps}
use Rattle.redo_area.proofs.steps.write_images.Given as goal

abbrev pub invariant-loop-page : goal.invariant-loop-page
invariant-loop-page g l =
    let dev = g.D.SectorDev in
    let first = l.fn.dev in
    record {
      place : l.n ≡ l.start + l.page-index;
      keeps : Keeps dev (IsOutside (4 * l.start) (4 * (l.start + length l.pages))) first l.dev;
      written : dev.honest first → pages_from (page_at (dev.seen l.dev)) l.start l.page-index
          ≡ bytes_of (take l.page-index l.pages);
    }
