use Rattle.std.proofs.Common.{◌≡◌, true, ◌≤◌, ◌+◌, ◌-◌, ◌↔◌, ◌^◌}
use Rattle.page_io.specs.Page.{page_at}
use Rattle.page_io.specs.Store.{bytes_of, pages_from, are_in_order, AllBelow}
use Rattle.sect_dev.specs.Reads.{OnlyReads}
use Rattle.redo_area.proofs.reading.read_images.Given as goal

abbrev pub invariant-loop-i : goal.invariant-loop-i
invariant-loop-i g l =
    let dev = g.D.SectorDev in
    let first = l.fn.dev in
    let at = page_at (dev.seen first) in
    record {
      size : dev.sectors l.dev ≡ dev.sectors first;
      small : l.least ≤ 2 ^ 32;
      honesty : dev.honest l.dev ↔ dev.honest first;
      faults : dev.faults first ≤ dev.faults l.dev;
      only_reads : dev.honest first → OnlyReads dev first l.dev;
      checked : dev.honest first → are_in_order 1 l.end (pages_from at l.start l.count)
          ≡ are_in_order l.least l.end (pages_from at (l.start + l.i) (l.count - l.i));
      rising : are_in_order 1 l.end (bytes_of l.images.items) ≡ true;
      below : AllBelow l.least (bytes_of l.images.items);
      positive : 1 ≤ l.least;
      images : dev.honest first → bytes_of l.images.items ≡ pages_from at l.start l.i;
    }
