use Rattle.std.proofs.Common.{◌≡◌, ◌<◌, ◌+◌, ◌^◌, [], length, get_or, sym, ◌∙◌, ap, subst, arith}
use Rattle.std.proofs.lemmas.List.{length-map}
use Rattle.sect_dev.specs.Device.{Image, IsStable}
use Rattle.page_io.specs.Page.{page_at, own_number}
use Rattle.page_io.specs.Store.{bytes_of}
use Rattle.page_io.specs.declared.page.Page.{Page}
use Rattle.page_io.proofs.StagedPages.{order_wider}
use Rattle.commit_log.specs.Log.{IsLogged}
use Rattle.commit_log.proofs.Outside.{below_end}
use Rattle.commit_log.proofs.Nexts.{exact, log_leaves, homes_leave, sync_leaves, pages_now, sector_now, next_logged}
use Rattle.commit_log.proofs.Results.{both_ok, if_ok}
use Rattle.commit_log.proofs.steps.log_over.Goals as goal

pub returns-in_err-write_run-clause-any_moment : goal.returns-in_err-write_run-clause-any_moment
returns-in_err-write_run-clause-any_moment g c honest =
    let dev = g.D.SectorDev in
    let w = c.write_run.ensures in
    log_leaves dev c.args.dev.now (c.requires.logged honest) (bytes_of c.args.pages.now)
    c.args.new_end c.args.bytes.now c.requires.spelled (exact c.args.bytes.now c.args.pages.now c.requires.long) c.requires.new c.write_run.new.self
    (w.candidates honest)
    (λ image left. g.met.D.SectorDev.only_now c.args.dev.now image honest left) (w.time honest)

pub write_homes_but-requires-clause-room : goal.write_homes_but-requires-clause-room
write_homes_but-requires-clause-room g c k lt =
    let staged = bytes_of c.args.waiting.now in
    let long : length staged ≡ length c.args.waiting.now =
    length-map c.args.waiting.now (λ (p : Page). p.bytes) in
    let below : own_number (get_or staged k []) < c.args.old_end =
    below_end 1 c.args.old_end staged k c.requires.rising (omega (arith, lt, long)) in
    omega (arith, below, c.requires.above, c.requires.room, c.write_run.ensures.size)

pub returns-in_err-write_homes_but-clause-any_moment : goal.returns-in_err-write_homes_but-clause-any_moment
returns-in_err-write_homes_but-clause-any_moment g c honest =
    let dev = g.D.SectorDev in
    let w = c.write_run.ensures in
    let h1 = w.honesty.1 honest in
    homes_leave dev c.args.dev.now (c.requires.logged honest) (bytes_of c.args.pages.now)
    c.args.new_end c.args.bytes.now c.requires.spelled (exact c.args.bytes.now c.args.pages.now c.requires.long) c.requires.new c.write_run.new.self
    (w.candidates honest) c.write_homes_but.new.dev
    (log_leaves dev c.args.dev.now (c.requires.logged honest) (bytes_of c.args.pages.now)
    c.args.new_end c.args.bytes.now c.requires.spelled (exact c.args.bytes.now c.args.pages.now c.requires.long) c.requires.new c.write_run.new.self
    (w.candidates honest)
    (λ image left. g.met.D.SectorDev.only_now c.args.dev.now image honest left) (w.time honest))
    (c.write_homes_but.ensures.any_moment h1)

pub returns-clause-any_moment : goal.returns-clause-any_moment
returns-clause-any_moment g c honest =
    let dev = g.D.SectorDev in
    let w = c.write_run.ensures in
    let h1 = w.honesty.1 honest in
    let h2 = c.write_homes_but.ensures.device.honesty.1 h1 in
    sync_leaves dev c.args.dev.now (c.requires.logged honest) (bytes_of c.args.pages.now)
    c.args.new_end c.args.bytes.now c.requires.spelled (exact c.args.bytes.now c.args.pages.now c.requires.long) c.requires.new c.write_run.new.self
    (w.candidates honest) c.write_homes_but.new.dev c.sync.new.self
    (homes_leave dev c.args.dev.now (c.requires.logged honest) (bytes_of c.args.pages.now)
    c.args.new_end c.args.bytes.now c.requires.spelled (exact c.args.bytes.now c.args.pages.now c.requires.long) c.requires.new c.write_run.new.self
    (w.candidates honest) c.write_homes_but.new.dev
    (log_leaves dev c.args.dev.now (c.requires.logged honest) (bytes_of c.args.pages.now)
    c.args.new_end c.args.bytes.now c.requires.spelled (exact c.args.bytes.now c.args.pages.now c.requires.long) c.requires.new c.write_run.new.self
    (w.candidates honest)
    (λ image left. g.met.D.SectorDev.only_now c.args.dev.now image honest left) (w.time honest))
    (c.write_homes_but.ensures.any_moment h1))
    (c.write_homes_but.ensures.candidates h1) (c.sync.ensures.candidates h2) (c.sync.ensures.time h2)

pub returns-clause-logged : goal.returns-clause-logged
returns-clause-logged g c honest =
    let dev = g.D.SectorDev in
    let h1 = c.write_run.ensures.honesty.1 honest in
    let h2 = c.write_homes_but.ensures.device.honesty.1 h1 in
    let homes = c.in_ok-write_homes_but.ensures in
    both_ok c.sync.result (c.sync.ensures.stable h2) (c.sync.ensures.seen h2)
    (λ stable same. subst (λ (seen : Image). IsLogged c.args.new_end c.args.start
    (c.args.number + 1) c.args.beside c.args.at (bytes_of c.args.pages.now)
    (dev.candidate c.sync.new.self) seen) (sym same)
    (next_logged (c.requires.logged honest) (bytes_of c.args.pages.now)
    c.args.new_end c.args.bytes.now c.requires.spelled (exact c.args.bytes.now c.args.pages.now c.requires.long) c.requires.new
    (dev.seen c.write_run.new.self) (dev.seen c.write_homes_but.new.dev)
    (c.in_ok-write_run.ensures.written honest) (homes.others h1) (homes.written h1)
    (dev.candidate c.sync.new.self)
    (subst (λ (seen : Image). IsStable (dev.candidate c.sync.new.self) seen) same stable)
    c.requires.least c.requires.in_order))

pub returns-clause-sector : goal.returns-clause-sector
returns-clause-sector g c honest =
    let dev = g.D.SectorDev in
    let h1 = c.write_run.ensures.honesty.1 honest in
    let h2 = c.write_homes_but.ensures.device.honesty.1 h1 in
    let homes = c.in_ok-write_homes_but.ensures in
    if_ok c.sync.result (c.sync.ensures.seen h2)
    (λ same. ap (λ (seen : Image). seen 0) same
    ∙ sector_now (c.requires.logged honest) (bytes_of c.args.pages.now)
    c.args.new_end c.args.bytes.now c.requires.spelled (exact c.args.bytes.now c.args.pages.now c.requires.long) c.requires.new
    (dev.seen c.write_run.new.self) (dev.seen c.write_homes_but.new.dev)
    (c.in_ok-write_run.ensures.written honest) (homes.others h1) (homes.written h1))

pub returns-clause-pages : goal.returns-clause-pages
returns-clause-pages g c honest =
    let dev = g.D.SectorDev in
    let h1 = c.write_run.ensures.honesty.1 honest in
    let h2 = c.write_homes_but.ensures.device.honesty.1 h1 in
    let homes = c.in_ok-write_homes_but.ensures in
    if_ok c.sync.result (c.sync.ensures.seen h2)
    (λ same n lt none. ap (λ (seen : Image). page_at seen n) same
    ∙ pages_now (c.requires.logged honest) (bytes_of c.args.pages.now)
    c.args.new_end c.args.bytes.now c.requires.spelled (exact c.args.bytes.now c.args.pages.now c.requires.long) c.requires.new
    (dev.seen c.write_run.new.self) (dev.seen c.write_homes_but.new.dev)
    (c.in_ok-write_run.ensures.written honest) (homes.others h1) (homes.written h1) n lt none)

pub write_homes_but-requires-clause-order : goal.write_homes_but-requires-clause-order
write_homes_but-requires-clause-order g c =
    order_wider 1 c.args.new_end (2 ^ 32) (bytes_of c.args.pages.now)
    (omega (arith, c.ranges.new_end.fits)) c.requires.in_order
