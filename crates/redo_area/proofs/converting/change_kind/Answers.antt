use Rattle.std.proofs.Common.{◌/◌}
use Rattle.redo_area.proofs.Headers.{says_clear, kind_seen}
use Rattle.redo_area.proofs.Images.{rest_after}
use Rattle.redo_area.proofs.KindChanges.{kind_leaves}
use Rattle.redo_area.proofs.converting.change_kind.Goals as goal

pub returns-in-Ok-clause-any_moment : goal.returns-in-Ok-clause-any_moment
returns-in-Ok-clause-any_moment g c honest =
    let dev = g.D.SectorDev in
    let met = g.met.D.SectorDev in
    let first = c.args.dev.now in
    let mid = c.recover.new.dev in
    let h1 = c.recover.ensures.honesty.1 honest in
    let run = c.recover.ensures.any_moment honest in
    kind_leaves dev first mid c.put_header.new.dev c.clear_sector.result run
    (c.in_ok-rest.ensures.rest honest)
    (run.each (dev.seen mid) (met.counts_now mid (dev.moment first).at (dev.seen mid) h1 run.later
    (met.seen_may_stay mid h1)))
    (says_clear c.args.kind (dev.sectors first) c.in_ok-rest.rest.end c.clear_sector.result
    (met.fits first) c.in_ok-rest.ensures.end.0 c.in_ok-rest.ensures.end.1 c.clear_sector.ensures)
    (c.put_header.ensures.any_moment h1)

pub returns-in-Err-clause-any_moment : goal.returns-in-Err-clause-any_moment
returns-in-Err-clause-any_moment g c honest =
    let dev = g.D.SectorDev in
    let met = g.met.D.SectorDev in
    let first = c.args.dev.now in
    let mid = c.recover.new.dev in
    let h1 = c.recover.ensures.honesty.1 honest in
    let run = c.recover.ensures.any_moment honest in
    kind_leaves dev first mid c.put_header.new.dev c.clear_sector.result run
    (c.in_ok-rest.ensures.rest honest)
    (run.each (dev.seen mid) (met.counts_now mid (dev.moment first).at (dev.seen mid) h1 run.later
    (met.seen_may_stay mid h1)))
    (says_clear c.args.kind (dev.sectors first) c.in_ok-rest.rest.end c.clear_sector.result
    (met.fits first) c.in_ok-rest.ensures.end.0 c.in_ok-rest.ensures.end.1 c.clear_sector.ensures)
    (c.put_header.ensures.any_moment h1)

pub returns-in-Ok-clause-rest : goal.returns-in-Ok-clause-rest
returns-in-Ok-clause-rest g c honest =
    let dev = g.D.SectorDev in
    let first = c.args.dev.now in
    let h1 = c.recover.ensures.honesty.1 honest in
    let end = c.in_ok-rest.rest.end in (
      end,
      rest_after (dev.sectors first / 4) (dev.candidate c.put_header.new.dev)
          (dev.seen c.recover.new.dev) (dev.seen c.put_header.new.dev) c.clear_sector.result end
          (c.in-Ok.ensures.stable h1) (c.in-Ok.ensures.seen h1)
          (says_clear c.args.kind (dev.sectors first) end c.clear_sector.result
          (g.met.D.SectorDev.fits first) c.in_ok-rest.ensures.end.0 c.in_ok-rest.ensures.end.1
          c.clear_sector.ensures),
    )

pub returns-in-Ok-clause-kind : goal.returns-in-Ok-clause-kind
returns-in-Ok-clause-kind g c honest =
    kind_seen c.args.kind _ _ _ _ _ _ c.clear_sector.result
    (c.in-Ok.ensures.seen (c.recover.ensures.honesty.1 honest)) c.clear_sector.ensures
