use Rattle.std.proofs.Common.{◌≡◌, ℕ, false, take}
use Rattle.page_io.specs.Page.{page_at}
use Rattle.page_io.specs.Store.{overlaid, has_page, bytes_of}
use Rattle.commit_log.specs.Homes.{IsOutsideAll}
use Rattle.commit_log.proofs.WriteRuns.{Keeps}
use Rattle.commit_log.proofs.homes.write_homes_but.Given as goal

abbrev pub invariant-loop-page : goal.invariant-loop-page
invariant-loop-page g l =
    let dev = g.D.SectorDev in
    let first = l.fn.dev in
    record {
      keeps : Keeps dev (IsOutsideAll (bytes_of l.pages)) first l.dev;
      written : dev.honest first → (n : ℕ) → has_page (bytes_of l.newer) n ≡ false
          → page_at (dev.seen l.dev) n ≡ overlaid (bytes_of (take l.page-index l.pages))
          (page_at (dev.seen first)) n;
    }
