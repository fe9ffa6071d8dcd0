use Rattle.std.proofs.Common.{◌≤◌, ◌/◌, ℕ, length, ◌∙◌, ap, arith}
use Rattle.sect_dev.specs.Device.{Image, Candidates}
use Rattle.page_io.specs.Page.{page_at}
use Rattle.page_io.specs.Store.{Pages, file_pages}
use Rattle.redo_area.specs.File.{redo_images, IsArmed, HoldsWaiting}
use Rattle.redo_area.proofs.Headers.{says_clear, kind_seen}
use Rattle.redo_area.proofs.Images.{armed_holds, now_clear, rest_after}
use Rattle.redo_area.proofs.CommitRuns.{homes_leave}
use Rattle.redo_area.proofs.Recoveries.{sync_leaves, replay_leaves}
use Rattle.redo_area.proofs.recovery.replay.Goals as goal

held : {capacity end start : ℕ} {redo : Pages} {candidate : Candidates} {seen : Image}
    → end ≤ start → 4 ≤ end → IsArmed capacity end start redo candidate seen
    → HoldsWaiting capacity end start (length redo) redo candidate seen
held {capacity} above least armed = armed_holds capacity armed above (omega (arith, least))

pub returns-in_err-good-clause-any_moment : goal.returns-in_err-good-clause-any_moment
returns-in_err-good-clause-any_moment g c honest =
    homes_leave g.D.SectorDev c.args.dev.now (held c.requires.above c.requires.least (c.requires.armed honest))
    c.copy_images.new.dev (c.copy_images.ensures.any_moment honest)

pub returns-then-not-good-clause-any_moment : goal.returns-then-not-good-clause-any_moment
returns-then-not-good-clause-any_moment g c honest =
    homes_leave g.D.SectorDev c.args.dev.now (held c.requires.above c.requires.least (c.requires.armed honest))
    c.copy_images.new.dev (c.copy_images.ensures.any_moment honest)

pub returns-in_err-sync-clause-any_moment : goal.returns-in_err-sync-clause-any_moment
returns-in_err-sync-clause-any_moment g c honest =
    let copied = c.copy_images.ensures in
    let h1 = copied.device.honesty.1 honest in
    sync_leaves g.D.SectorDev c.args.dev.now c.copy_images.new.dev c.sync.new.self
    (held c.requires.above c.requires.least (c.requires.armed honest)) (copied.any_moment honest)
    (copied.candidates honest)
    (c.sync.ensures.time h1) (c.sync.ensures.candidates h1)

pub returns-in_err-put_header-clause-any_moment : goal.returns-in_err-put_header-clause-any_moment
returns-in_err-put_header-clause-any_moment g c honest =
    let h1 = c.copy_images.ensures.device.honesty.1 honest in
    replay_leaves g.D.SectorDev c.args.dev.now c.copy_images.new.dev c.sync.new.self
    (held c.requires.above c.requires.least (c.requires.armed honest)) (c.copy_images.ensures.any_moment honest)
    (c.copy_images.ensures.candidates honest) (c.sync.ensures.time h1)
    (c.sync.ensures.candidates h1) c.args.kind c.put_header.new.dev c.clear_sector.result
    (c.in_ok-sync.ensures.seen h1) (c.in_ok-sync.ensures.stable h1)
    (c.in_ok-good.ensures.others honest) (c.in_ok-good.ensures.written honest)
    (g.met.D.SectorDev.fits c.args.dev.now) c.requires.least
    (omega (arith, c.requires.above, c.requires.room))
    c.clear_sector.ensures (c.put_header.ensures.any_moment (c.sync.ensures.honesty.1 h1))

pub returns-clause-any_moment : goal.returns-clause-any_moment
returns-clause-any_moment g c honest =
    let h1 = c.copy_images.ensures.device.honesty.1 honest in
    replay_leaves g.D.SectorDev c.args.dev.now c.copy_images.new.dev c.sync.new.self
    (held c.requires.above c.requires.least (c.requires.armed honest)) (c.copy_images.ensures.any_moment honest)
    (c.copy_images.ensures.candidates honest) (c.sync.ensures.time h1)
    (c.sync.ensures.candidates h1) c.args.kind c.put_header.new.dev c.clear_sector.result
    (c.in_ok-sync.ensures.seen h1) (c.in_ok-sync.ensures.stable h1)
    (c.in_ok-good.ensures.others honest) (c.in_ok-good.ensures.written honest)
    (g.met.D.SectorDev.fits c.args.dev.now) c.requires.least
    (omega (arith, c.requires.above, c.requires.room))
    c.clear_sector.ensures (c.put_header.ensures.any_moment (c.sync.ensures.honesty.1 h1))

pub returns-clause-rest : goal.returns-clause-rest
returns-clause-rest g c honest =
    let dev = g.D.SectorDev in
    let h2 = c.sync.ensures.honesty.1 (c.copy_images.ensures.device.honesty.1 honest) in
    let header = says_clear c.args.kind (dev.sectors c.args.dev.now) c.args.end c.clear_sector.result
    (g.met.D.SectorDev.fits c.args.dev.now) c.requires.least
    (omega (arith, c.requires.above, c.requires.room)) c.clear_sector.ensures in
    rest_after (dev.sectors c.args.dev.now / 4) (dev.candidate c.put_header.new.dev)
    (dev.seen c.sync.new.self) (dev.seen c.put_header.new.dev) c.clear_sector.result c.args.end
    (c.in_ok-put_header.ensures.stable h2) (c.in_ok-put_header.ensures.seen h2) header

pub returns-clause-pages : goal.returns-clause-pages
returns-clause-pages g c honest =
    let dev = g.D.SectorDev in
    let first = dev.seen c.args.dev.now in
    let h1 = c.copy_images.ensures.device.honesty.1 honest in
    ap (λ (s : Image). file_pages (page_at s) c.args.end)
    (c.in_ok-put_header.ensures.seen (c.sync.ensures.honesty.1 h1))
    ∙ now_clear (dev.sectors c.args.dev.now / 4) first (dev.seen c.sync.new.self)
    c.clear_sector.result c.args.end (redo_images first c.args.start c.args.count)
    (λ n. ap (λ (s : Image). page_at s n) (c.in_ok-sync.ensures.seen h1)
    ∙ c.in_ok-good.ensures.written honest n)

pub returns-clause-kind : goal.returns-clause-kind
returns-clause-kind g c honest =
    let h1 = c.copy_images.ensures.device.honesty.1 honest in
    kind_seen c.args.kind _ _ _ _ _ _ c.clear_sector.result
    (c.in_ok-put_header.ensures.seen (c.sync.ensures.honesty.1 h1)) c.clear_sector.ensures
