use Rattle.std.proofs.Common.{◌≡◌, ◌<◌, ◌/◌, ℕ, [], length, get_or, refl, ◌∙◌, ap, arith}
use Rattle.std.proofs.lemmas.List.{length-map}
use Rattle.sect_dev.specs.Device.{Image, with_sector}
use Rattle.page_io.specs.Page.{page_at, own_number}
use Rattle.page_io.specs.Store.{file_pages, overlaid, bytes_of}
use Rattle.page_io.specs.declared.page.Page.{Page}
use Rattle.page_io.proofs.PageLaws.{same_page, at_same, at_other}
use Rattle.commit_log.proofs.StillLogged.{still_logged}
use Rattle.redo_area.specs.declared.header.CommitKind.TheVariants.{Log}
use Rattle.redo_area.specs.Header.{header_of}
use Rattle.redo_area.proofs.Headers.{says_logging, kind_seen}
use Rattle.commit_log.proofs.Outside.{below_end}
use Rattle.redo_area.proofs.LogRuns.{log_written, log_named}
use Rattle.redo_area.proofs.logging.arm_log.Goals as goal

pub log_first-requires-clause-homes : goal.log_first-requires-clause-homes
log_first-requires-clause-homes g c k lt =
    let staged = bytes_of c.args.waiting.now in
    let long : length staged ≡ length c.args.waiting.now =
    length-map c.args.waiting.now (λ (p : Page). p.bytes) in
    let below : own_number (get_or staged k []) < c.args.old_end =
    below_end 1 c.args.old_end staged k c.requires.rising (omega (arith, lt, long)) in
    omega (arith, below, c.requires.place.behind)

pub returns-in_err-log_first-clause-any_moment : goal.returns-in_err-log_first-clause-any_moment
returns-in_err-log_first-clause-any_moment g c honest =
    let dev = g.D.SectorDev in
    log_written dev c.args.dev.now c.log_first.new.dev (c.requires.held honest)
    (omega (arith, c.requires.place.behind)) c.requires.place.apart
    (c.log_first.ensures.any_moment honest)
    (file_pages (overlaid (bytes_of c.args.pages.now)
    (overlaid (bytes_of c.args.waiting.now) (page_at (dev.seen c.args.dev.now)))) c.args.new_end)

pub returns-in_err-put_header-clause-any_moment : goal.returns-in_err-put_header-clause-any_moment
returns-in_err-put_header-clause-any_moment g c honest =
    let dev = g.D.SectorDev in
    let log = c.in_ok-log_first.ensures in
    log_named dev c.args.dev.now c.log_first.new.dev (c.requires.held honest)
    (omega (arith, c.requires.place.behind)) c.requires.place.apart
    (c.log_first.ensures.any_moment honest) c.put_header.new.dev c.logging_sector.result
    (log.logged honest) (log.others honest) (log.pages honest)
    (g.met.D.SectorDev.fits c.args.dev.now) c.requires.place.room c.logging_sector.ensures
    (c.put_header.ensures.any_moment (c.log_first.ensures.device.honesty.1 honest))

pub returns-clause-any_moment : goal.returns-clause-any_moment
returns-clause-any_moment g c honest =
    let dev = g.D.SectorDev in
    let log = c.in_ok-log_first.ensures in
    log_named dev c.args.dev.now c.log_first.new.dev (c.requires.held honest)
    (omega (arith, c.requires.place.behind)) c.requires.place.apart
    (c.log_first.ensures.any_moment honest) c.put_header.new.dev c.logging_sector.result
    (log.logged honest) (log.others honest) (log.pages honest)
    (g.met.D.SectorDev.fits c.args.dev.now) c.requires.place.room c.logging_sector.ensures
    (c.put_header.ensures.any_moment (c.log_first.ensures.device.honesty.1 honest))

pub returns-clause-header : goal.returns-clause-header
returns-clause-header g c honest =
    let dev = g.D.SectorDev in
    let h1 = c.log_first.ensures.device.honesty.1 honest in
    let cap : ℕ = dev.sectors c.args.dev.now / 4 in
    ap (λ (s : Image). header_of cap (s 0)) (c.in_ok-put_header.ensures.seen h1)
    ∙ ap (header_of cap) (at_same (dev.seen c.log_first.new.dev) 0 c.logging_sector.result 0 refl)
    ∙ says_logging (dev.sectors c.args.dev.now) c.args.new_end c.args.place c.logging_sector.result
    (g.met.D.SectorDev.fits c.args.dev.now) c.requires.pages.least
    (omega (arith, c.requires.place.behind)) c.requires.place.room c.logging_sector.ensures

pub returns-clause-logged : goal.returns-clause-logged
returns-clause-logged g c honest =
    let dev = g.D.SectorDev in
    let h1 = c.log_first.ensures.device.honesty.1 honest in
    let log = dev.seen c.log_first.new.dev in
    still_logged (c.in_ok-log_first.ensures.logged honest) (dev.candidate c.put_header.new.dev)
    (dev.seen c.put_header.new.dev) (c.in_ok-put_header.ensures.stable h1)
    (λ m pos. ap (λ (s : Image). s m) (c.in_ok-put_header.ensures.seen h1)
    ∙ at_other log 0 c.logging_sector.result m (omega (arith, pos)))

pub returns-clause-pages : goal.returns-clause-pages
returns-clause-pages g c honest =
    let dev = g.D.SectorDev in
    let h1 = c.log_first.ensures.device.honesty.1 honest in
    let log = dev.seen c.log_first.new.dev in
    λ n pos lt none. ap (λ (s : Image). page_at s n) (c.in_ok-put_header.ensures.seen h1)
    ∙ same_page (with_sector log 0 c.logging_sector.result) log n
    (λ m ge4 lt4. at_other log 0 c.logging_sector.result m (omega (arith, pos, ge4)))
    ∙ c.in_ok-log_first.ensures.pages honest n lt none

pub returns-clause-kind : goal.returns-clause-kind
returns-clause-kind g c honest =
    kind_seen Log _ _ _ _ _ _ c.logging_sector.result
    (c.in_ok-put_header.ensures.seen (c.log_first.ensures.device.honesty.1 honest))
    c.logging_sector.ensures
