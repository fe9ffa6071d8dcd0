use Rattle.std.proofs.Common.{◌<◌, ◌+◌, ◌*◌, ◌^◌, ℕ, List, [], length, get_or, replicate, sym, ◌∙◌, ap, subst, arith}
use Rattle.std.proofs.lemmas.List.{length-map, length-replicate}
use Rattle.sect_dev.specs.Device.{Image, IsStable}
use Rattle.page_io.specs.Page.{page_at, own_number}
use Rattle.page_io.specs.Store.{bytes_of}
use Rattle.page_io.specs.declared.page.Page.{Page}
use Rattle.page_io.proofs.StagedPages.{order_wider}
use Rattle.commit_log.specs.Log.{IsLogged}
use Rattle.commit_log.proofs.Results.{if_ok, both_ok}
use Rattle.commit_log.proofs.Begins.{zero_number, one_leaves, two_leave, home_too, sync_too, begin_pages, begun}
use Rattle.commit_log.proofs.steps.begin_log.Goals as goal

below : (pages : List Page) (start : ℕ)
    → ((k : ℕ) → k < length pages → own_number (get_or (bytes_of pages) k []) < start) → (k : ℕ)
    → k < length (bytes_of pages) → own_number (get_or (bytes_of pages) k []) < start
below pages start are k lt = are k (omega (arith, lt, length-map pages (λ (p : Page). p.bytes)))

pub returns-in_err-write_run-2-clause-any_moment : goal.returns-in_err-write_run-2-clause-any_moment
returns-in_err-write_run-2-clause-any_moment g c honest =
    let dev = g.D.SectorDev in
    let first = c.args.dev.now in
    let one = c.write_run.new.self in
    let w = c.write_run.ensures in
    let h1 = w.honesty.1 honest in
    let zeros : List ℕ = replicate 31232 0 in
    two_leave dev first one c.write_run-2.new.self c.args.start (bytes_of c.args.waiting.now)
    c.args.bytes.now zeros c.told-bytes (length-replicate {A = ℕ} 31232 0) (w.candidates honest)
    (one_leaves dev first one c.write_run-2.new.self c.args.start (bytes_of c.args.waiting.now)
    c.args.bytes.now zeros c.told-bytes (length-replicate {A = ℕ} 31232 0) (w.candidates honest)
    (λ image left. g.met.D.SectorDev.only_now first image honest left) (w.time honest))
    (c.write_run-2.ensures.candidates h1) (c.write_run-2.ensures.time h1)

pub returns-in_err-write_homes_but-clause-any_moment : goal.returns-in_err-write_homes_but-clause-any_moment
returns-in_err-write_homes_but-clause-any_moment g c honest =
    let dev = g.D.SectorDev in
    let first = c.args.dev.now in
    let one = c.write_run.new.self in
    let two = c.write_run-2.new.self in
    let w = c.write_run.ensures in
    let h1 = w.honesty.1 honest in
    let h2 = c.write_run-2.ensures.honesty.1 h1 in
    let zeros : List ℕ = replicate 31232 0 in
    let long = length-replicate {A = ℕ} 31232 0 in
    let waiting = bytes_of c.args.waiting.now in
    let run = one_leaves dev first one two c.args.start waiting c.args.bytes.now zeros
    c.told-bytes long (w.candidates honest)
    (λ image left. g.met.D.SectorDev.only_now first image honest left) (w.time honest) in
    home_too dev first one two c.args.start waiting c.args.bytes.now zeros c.told-bytes long
    (w.candidates honest) run (c.write_run-2.ensures.candidates h1) c.write_homes_but.new.dev
    (two_leave dev first one two c.args.start waiting c.args.bytes.now zeros c.told-bytes long
    (w.candidates honest) run (c.write_run-2.ensures.candidates h1)
    (c.write_run-2.ensures.time h1))
    (c.write_homes_but.ensures.any_moment h2)

pub returns-clause-any_moment : goal.returns-clause-any_moment
returns-clause-any_moment g c honest =
    let dev = g.D.SectorDev in
    let first = c.args.dev.now in
    let one = c.write_run.new.self in
    let two = c.write_run-2.new.self in
    let w = c.write_run.ensures in
    let h1 = w.honesty.1 honest in
    let h2 = c.write_run-2.ensures.honesty.1 h1 in
    let h3 = c.write_homes_but.ensures.device.honesty.1 h2 in
    let zeros : List ℕ = replicate 31232 0 in
    let long = length-replicate {A = ℕ} 31232 0 in
    let waiting = bytes_of c.args.waiting.now in
    let run = one_leaves dev first one two c.args.start waiting c.args.bytes.now zeros
    c.told-bytes long (w.candidates honest)
    (λ image left. g.met.D.SectorDev.only_now first image honest left) (w.time honest) in
    sync_too dev first one two c.args.start waiting c.args.bytes.now zeros c.told-bytes long
    (w.candidates honest) run (c.write_run-2.ensures.candidates h1) c.write_homes_but.new.dev
    c.sync.new.self
    (home_too dev first one two c.args.start waiting c.args.bytes.now zeros c.told-bytes long
    (w.candidates honest) run (c.write_run-2.ensures.candidates h1) c.write_homes_but.new.dev
    (two_leave dev first one two c.args.start waiting c.args.bytes.now zeros c.told-bytes long
    (w.candidates honest) run (c.write_run-2.ensures.candidates h1)
    (c.write_run-2.ensures.time h1))
    (c.write_homes_but.ensures.any_moment h2))
    (c.write_homes_but.ensures.candidates h2) (c.sync.ensures.candidates h3) (c.sync.ensures.time h3)

pub returns-clause-logged : goal.returns-clause-logged
returns-clause-logged g c honest =
    let dev = g.D.SectorDev in
    let h1 = c.write_run.ensures.honesty.1 honest in
    let h2 = c.write_run-2.ensures.honesty.1 h1 in
    let h3 = c.write_homes_but.ensures.device.honesty.1 h2 in
    both_ok c.sync.result (c.sync.ensures.stable h3) (c.sync.ensures.seen h3)
    (λ stable same. subst (λ (seen : Image). IsLogged c.args.new_end c.args.start 1
    (4 * c.args.start) (4 * c.args.start + 64) (bytes_of c.args.pages.now)
    (dev.candidate c.sync.new.self) seen) (sym same)
    (begun (dev.seen c.args.dev.now) (dev.seen c.write_run.new.self)
    (dev.seen c.write_run-2.new.self) (dev.seen c.write_homes_but.new.dev) c.args.start
    (bytes_of c.args.waiting.now) c.args.bytes.now (replicate 31232 0) c.told-bytes
    (length-replicate {A = ℕ} 31232 0) (below c.args.waiting.now c.args.start c.requires.homes)
    (c.in_ok-write_run.ensures.written honest) (c.in_ok-write_run-2.ensures.written h1)
    (c.in_ok-write_homes_but.ensures.others h2) zero_number (bytes_of c.args.pages.now)
    c.args.new_end c.requires.spelled c.requires.alone (dev.candidate c.sync.new.self)
    (subst (λ (seen : Image). IsStable (dev.candidate c.sync.new.self) seen) same stable)
    c.requires.least c.requires.in_order c.requires.new))

pub returns-clause-pages : goal.returns-clause-pages
returns-clause-pages g c honest =
    let dev = g.D.SectorDev in
    let h1 = c.write_run.ensures.honesty.1 honest in
    let h2 = c.write_run-2.ensures.honesty.1 h1 in
    let h3 = c.write_homes_but.ensures.device.honesty.1 h2 in
    if_ok c.sync.result (c.sync.ensures.seen h3)
    (λ same n lt none. ap (λ (seen : Image). page_at seen n) same
    ∙ begin_pages (dev.seen c.args.dev.now) (dev.seen c.write_run.new.self)
    (dev.seen c.write_run-2.new.self) (dev.seen c.write_homes_but.new.dev) c.args.start
    (bytes_of c.args.waiting.now) c.args.bytes.now (replicate 31232 0) c.told-bytes
    (length-replicate {A = ℕ} 31232 0) (below c.args.waiting.now c.args.start c.requires.homes)
    (c.in_ok-write_run.ensures.written honest) (c.in_ok-write_run-2.ensures.written h1)
    (c.in_ok-write_homes_but.ensures.others h2) n
    (c.in_ok-write_homes_but.ensures.written h2 n none) lt)

pub write_homes_but-requires-clause-order : goal.write_homes_but-requires-clause-order
write_homes_but-requires-clause-order g c =
    order_wider 1 c.args.new_end (2 ^ 32) (bytes_of c.args.pages.now)
    (omega (arith, c.ranges.new_end.fits)) c.requires.in_order
