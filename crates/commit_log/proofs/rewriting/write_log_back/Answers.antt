use Rattle.std.proofs.Common.{◌≡◌, ◌≤◌, ◌*◌, ◌^◌, take, arith}
use Rattle.page_io.specs.Store.{bytes_of}
use Rattle.page_io.proofs.StagedPages.{order_wider}
use Rattle.commit_log.proofs.OwnPages.{fit}
use Rattle.commit_log.proofs.rewriting.write_log_back.Goals as goal

pub write_homes_back-requires-clause-room : goal.write_homes_back-requires-clause-room
write_homes_back-requires-clause-room g c k lt =
    let found = c.in_ok-second.second in
    fit (take found.count found.pages) found.end c.args.start _ c.in_ok-second.ensures.rising
    c.in_ok-second.ensures.above
    (omega (
      arith,
      c.requires,
      c.write_slot_back.ensures.device.size,
      c.write_slot_back-2.ensures.device.size,
    )) k lt

pub write_homes_back-requires-clause-order : goal.write_homes_back-requires-clause-order
write_homes_back-requires-clause-order g c =
    let found = c.in_ok-first.first in
    order_wider 1 found.end (2 ^ 32) (bytes_of (take found.count found.pages))
    (omega (arith, c.in_ok-first.ensures.above, c.ranges.start.fits)) c.in_ok-first.ensures.rising

pub write_homes_back-requires-2-clause-room : goal.write_homes_back-requires-2-clause-room
write_homes_back-requires-2-clause-room g c k lt =
    let found = c.in_ok-first.first in
    fit (take found.count found.pages) found.end c.args.start _ c.in_ok-first.ensures.rising
    c.in_ok-first.ensures.above
    (omega (
      arith,
      c.requires,
      c.write_slot_back.ensures.device.size,
      c.write_slot_back-2.ensures.device.size,
    )) k lt

pub write_homes_back-requires-2-clause-order : goal.write_homes_back-requires-2-clause-order
write_homes_back-requires-2-clause-order g c =
    let found = c.in_ok-second.second in
    order_wider 1 found.end (2 ^ 32) (bytes_of (take found.count found.pages))
    (omega (arith, c.in_ok-second.ensures.above, c.ranges.start.fits)) c.in_ok-second.ensures.rising
