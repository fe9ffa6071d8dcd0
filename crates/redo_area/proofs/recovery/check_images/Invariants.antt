use Rattle.std.proofs.Common.{◌≡◌, ◌≤◌, ◌+◌, ◌-◌, ◌↔◌, ◌^◌}
use Rattle.sect_dev.specs.Device.{LeavesOnly, IsImageOf, NoNewCandidate}
use Rattle.page_io.specs.Page.{page_at}
use Rattle.page_io.specs.Store.{pages_from, are_in_order}
use Rattle.redo_area.proofs.recovery.check_images.Given as goal

abbrev pub invariant-loop-i : goal.invariant-loop-i
invariant-loop-i g l =
    let dev = g.D.SectorDev in
    let first = l.fn.dev in
    let at = page_at (dev.seen first) in
    record {
      size : dev.sectors l.dev ≡ dev.sectors first;
      small : l.least ≤ 2 ^ 32;
      honesty : dev.honest l.dev ↔ dev.honest first;
      faults : dev.faults first ≤ dev.faults l.dev;
      seen : dev.honest first → dev.seen l.dev ≡ dev.seen first;
      candidates : dev.honest first → NoNewCandidate (dev.candidate first) (dev.candidate l.dev);
      moments : dev.honest first → LeavesOnly dev.moment dev.left_since first l.dev
          (IsImageOf (dev.candidate first));
      checked : dev.honest first → are_in_order 1 l.end (pages_from at l.start l.count)
          ≡ are_in_order l.least l.end (pages_from at (l.start + l.i) (l.count - l.i));
    }
