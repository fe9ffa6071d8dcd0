use Rattle.std.proofs.Common.{◌≡◌, ◌<◌, ◌/◌, [], length, get_or, ◌∙◌, ap, arith}
use Rattle.std.proofs.lemmas.List.{length-map}
use Rattle.sect_dev.specs.Device.{Image}
use Rattle.page_io.specs.Page.{page_at, own_number}
use Rattle.page_io.specs.Store.{file_pages, bytes_of}
use Rattle.page_io.specs.declared.page.Page.{Page}
use Rattle.redo_area.proofs.Headers.{says_clear, kind_seen}
use Rattle.commit_log.proofs.Outside.{below_end}
use Rattle.redo_area.proofs.Images.{now_clear, rest_after}
use Rattle.redo_area.proofs.CommitRuns.{homes_leave, clear_leaves}
use Rattle.redo_area.proofs.steps.disarm.Goals as goal

pub returns-in_err-put_homes-clause-any_moment : goal.returns-in_err-put_homes-clause-any_moment
returns-in_err-put_homes-clause-any_moment g c honest =
    homes_leave g.D.SectorDev c.args.dev.now (c.requires.held honest)
    c.put_homes.new.dev (c.put_homes.ensures.any_moment honest)

pub returns-in_err-put_header-clause-any_moment : goal.returns-in_err-put_header-clause-any_moment
returns-in_err-put_header-clause-any_moment g c honest =
    let homes = c.in_ok-put_homes.ensures in
    let run = homes_leave g.D.SectorDev c.args.dev.now (c.requires.held honest)
    c.put_homes.new.dev (c.put_homes.ensures.any_moment honest) in
    clear_leaves g.D.SectorDev c.args.dev.now (c.requires.held honest)
    c.args.area.kind c.put_homes.new.dev c.put_header.new.dev c.clear_sector.result run (homes.stable honest)
    (homes.others honest)
    (homes.written honest) (g.met.D.SectorDev.fits c.args.dev.now) c.requires.least c.requires.room
    c.clear_sector.ensures (c.put_header.ensures.any_moment
    (c.put_homes.ensures.device.honesty.1 honest))

pub returns-clause-any_moment : goal.returns-clause-any_moment
returns-clause-any_moment g c honest =
    let homes = c.in_ok-put_homes.ensures in
    let run = homes_leave g.D.SectorDev c.args.dev.now (c.requires.held honest)
    c.put_homes.new.dev (c.put_homes.ensures.any_moment honest) in
    clear_leaves g.D.SectorDev c.args.dev.now (c.requires.held honest)
    c.args.area.kind c.put_homes.new.dev c.put_header.new.dev c.clear_sector.result run (homes.stable honest)
    (homes.others honest)
    (homes.written honest) (g.met.D.SectorDev.fits c.args.dev.now) c.requires.least c.requires.room
    c.clear_sector.ensures (c.put_header.ensures.any_moment
    (c.put_homes.ensures.device.honesty.1 honest))

pub returns-clause-rest : goal.returns-clause-rest
returns-clause-rest g c honest =
    let dev = g.D.SectorDev in
    let h1 = c.put_homes.ensures.device.honesty.1 honest in
    let header = says_clear c.args.area.kind (dev.sectors c.args.dev.now) c.args.end c.clear_sector.result
    (g.met.D.SectorDev.fits c.args.dev.now) c.requires.least c.requires.room
    c.clear_sector.ensures in
    rest_after (dev.sectors c.args.dev.now / 4) (dev.candidate c.put_header.new.dev)
    (dev.seen c.put_homes.new.dev) (dev.seen c.put_header.new.dev)
    c.clear_sector.result c.args.end
    (c.in_ok-put_header.ensures.stable h1) (c.in_ok-put_header.ensures.seen h1) header

pub returns-clause-pages : goal.returns-clause-pages
returns-clause-pages g c honest =
    let dev = g.D.SectorDev in
    ap (λ (s : Image). file_pages (page_at s) c.args.end)
    (c.in_ok-put_header.ensures.seen (c.put_homes.ensures.device.honesty.1 honest))
    ∙ now_clear (dev.sectors c.args.dev.now / 4) (dev.seen c.args.dev.now)
    (dev.seen c.put_homes.new.dev) c.clear_sector.result c.args.end (bytes_of c.args.pages.now)
    (c.in_ok-put_homes.ensures.written honest)

pub put_homes-requires : goal.put_homes-requires
put_homes-requires g c k lt =
    let staged = bytes_of c.args.pages.now in
    let long : length staged ≡ length c.args.pages.now =
    length-map c.args.pages.now (λ (p : Page). p.bytes) in
    let below : own_number (get_or staged k []) < c.args.end =
    below_end 1 c.args.end staged k c.requires.in_order (omega (arith, lt, long)) in
    omega (arith, below, c.requires.room)

pub returns-clause-kind : goal.returns-clause-kind
returns-clause-kind g c honest =
    kind_seen c.args.area.kind _ _ _ _ _ _ c.clear_sector.result
    (c.in_ok-put_header.ensures.seen (c.put_homes.ensures.device.honesty.1 honest))
    c.clear_sector.ensures
