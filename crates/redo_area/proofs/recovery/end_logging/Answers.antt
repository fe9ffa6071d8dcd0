use Rattle.std.proofs.Common.{◌/◌, ◌∙◌, arith}
use Rattle.redo_area.proofs.Headers.{says_clear, kind_seen}
use Rattle.redo_area.proofs.Images.{rest_after, settled-logging}
use Rattle.redo_area.proofs.LogRecoveries.{redo_leaves, end_leaves}
use Rattle.redo_area.proofs.Results.{from_some, from_none}
use Rattle.redo_area.proofs.recovery.end_logging.Goals as goal

pub returns-in_err-end-clause-any_moment : goal.returns-in_err-end-clause-any_moment
returns-in_err-end-clause-any_moment g c honest =
    redo_leaves g.D.SectorDev c.args.dev.now c.recover_log.new.dev c.args.start
    (c.requires.header honest) (c.recover_log.ensures.any_moment honest)

pub returns-in-None-clause-any_moment : goal.returns-in-None-clause-any_moment
returns-in-None-clause-any_moment g c honest =
    redo_leaves g.D.SectorDev c.args.dev.now c.recover_log.new.dev c.args.start
    (c.requires.header honest) (c.recover_log.ensures.any_moment honest)

pub returns-in_err-put_header-in-Some-clause-any_moment :
    goal.returns-in_err-put_header-in-Some-clause-any_moment
returns-in_err-put_header-in-Some-clause-any_moment g c honest =
    let dev = g.D.SectorDev in
    let log = c.in_ok-end.ensures in
    let end = from_some _ c.in_ok-end.field-0 c.in-Some.end c.in-Some.is log.end in
    end_leaves dev c.args.dev.now c.recover_log.new.dev c.args.start (c.requires.header honest)
    (c.recover_log.ensures.any_moment honest) c.args.kind c.put_header.new.dev c.clear_sector.result
    c.in-Some.end (log.stable honest) (log.same honest)
    (from_some _ c.in_ok-end.field-0 c.in-Some.end c.in-Some.is (log.home honest))
    (g.met.D.SectorDev.fits c.args.dev.now) end.0 (omega (arith, end.1, c.requires.room))
    c.clear_sector.ensures
    (c.put_header.ensures.any_moment (c.recover_log.ensures.device.honesty.1 honest))

pub returns-in_ok-put_header-in-Some-clause-any_moment :
    goal.returns-in_ok-put_header-in-Some-clause-any_moment
returns-in_ok-put_header-in-Some-clause-any_moment g c honest =
    let dev = g.D.SectorDev in
    let log = c.in_ok-end.ensures in
    let end = from_some _ c.in_ok-end.field-0 c.in-Some.end c.in-Some.is log.end in
    end_leaves dev c.args.dev.now c.recover_log.new.dev c.args.start (c.requires.header honest)
    (c.recover_log.ensures.any_moment honest) c.args.kind c.put_header.new.dev c.clear_sector.result
    c.in-Some.end (log.stable honest) (log.same honest)
    (from_some _ c.in_ok-end.field-0 c.in-Some.end c.in-Some.is (log.home honest))
    (g.met.D.SectorDev.fits c.args.dev.now) end.0 (omega (arith, end.1, c.requires.room))
    c.clear_sector.ensures
    (c.put_header.ensures.any_moment (c.recover_log.ensures.device.honesty.1 honest))

pub returns-in_ok-put_header-in-Some-clause-rest : goal.returns-in_ok-put_header-in-Some-clause-rest
returns-in_ok-put_header-in-Some-clause-rest g c honest =
    let dev = g.D.SectorDev in
    let h1 = c.recover_log.ensures.device.honesty.1 honest in
    let end = from_some _ c.in_ok-end.field-0 c.in-Some.end c.in-Some.is c.in_ok-end.ensures.end in
    let put = c.in_ok-put_header-in-Some.ensures in
    rest_after (dev.sectors c.args.dev.now / 4) (dev.candidate c.put_header.new.dev)
    (dev.seen c.recover_log.new.dev) (dev.seen c.put_header.new.dev) c.clear_sector.result
    c.in-Some.end (put.stable h1) (put.seen h1)
    (says_clear c.args.kind (dev.sectors c.args.dev.now) c.in-Some.end c.clear_sector.result
    (g.met.D.SectorDev.fits c.args.dev.now) end.0 (omega (arith, end.1, c.requires.room))
    c.clear_sector.ensures)

pub returns-in-None-clause-refused : goal.returns-in-None-clause-refused
returns-in-None-clause-refused g c honest =
    let dev = g.D.SectorDev in
    let log = c.in_ok-end.ensures in
    let none = from_none c.in_ok-end.field-0 c.in-None.is (log.none honest) in (
      log.stable honest,
      none.1,
      settled-logging (dev.sectors c.args.dev.now / 4) (dev.seen c.args.dev.now) c.args.start
          (c.requires.header honest) ∙ none.0,
    )

pub returns-in_ok-put_header-in-Some-clause-kind : goal.returns-in_ok-put_header-in-Some-clause-kind
returns-in_ok-put_header-in-Some-clause-kind g c honest =
    kind_seen c.args.kind _ _ _ _ _ _ c.clear_sector.result
    (c.in_ok-put_header-in-Some.ensures.seen (c.recover_log.ensures.device.honesty.1 honest))
    c.clear_sector.ensures
