use Rattle.std.proofs.Common.{◌≡◌, ◌≤◌, ◌+◌, ◌-◌, ◌^◌, take}
use Rattle.sect_dev.specs.Device.{part_of}
use Rattle.page_io.specs.Page.{page_at}
use Rattle.page_io.specs.Store.{bytes_of, pages_from, are_in_order}
use Rattle.commit_log.specs.Log.{unstamped}
use Rattle.commit_log.proofs.finding.read_pages.Given as goal

abbrev pub invariant-loop-i : goal.invariant-loop-i
invariant-loop-i l =
    let at = page_at (unstamped (part_of l.bytes)) in
    record {
      small : l.least ≤ 2 ^ 32;
      checked : are_in_order 1 l.end (pages_from at 0 l.count)
          ≡ are_in_order l.least l.end (pages_from at (0 + l.i) (l.count - l.i));
      read : bytes_of (take l.i l.pages) ≡ pages_from at 0 l.i;
    }
