use Rattle.std.proofs.Common.{◌≡◌, ◌≤◌, ◌↔◌, ℕ, false, take}
use Rattle.sect_dev.specs.Reads.{OnlyReads}
use Rattle.page_io.specs.Page.{page_at}
use Rattle.page_io.specs.Store.{overlaid, has_page, bytes_of}
use Rattle.commit_log.proofs.resuming.are_home.Given as goal

abbrev pub invariant-loop-page : goal.invariant-loop-page
invariant-loop-page g l =
    let dev = g.D.SectorDev in
    let first = l.fn.dev in
    record {
      size : dev.sectors l.dev ≡ dev.sectors first;
      honesty : dev.honest l.dev ↔ dev.honest first;
      faults : dev.faults first ≤ dev.faults l.dev;
      only_reads : dev.honest first → OnlyReads dev first l.dev;
      home : dev.honest first → (n : ℕ) → has_page (bytes_of l.newer) n ≡ false
          → overlaid (bytes_of (take l.page-index l.pages)) (page_at (dev.seen first)) n
          ≡ page_at (dev.seen first) n;
    }
