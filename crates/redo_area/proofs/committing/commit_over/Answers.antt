use Rattle.std.proofs.Common.{◌/◌, ℕ, List, length, take, None, true, refl, sym, ◌∙◌, ap, subst, arith}
use Rattle.std.proofs.lemmas.List.{length-take-le, take_all}
use Rattle.page_io.specs.Page.{page_at}
use Rattle.page_io.specs.Store.{bytes_of, file_pages, overlaid}
use Rattle.page_io.specs.declared.page.Page.{Page}
use Rattle.page_io.proofs.Overlays.{same_file, overlaid-over, apart-has_page}
use Rattle.commit_log.specs.Log.{IsLogged}
use Rattle.redo_area.specs.Header.{kind_of}
use Rattle.redo_area.specs.declared.area.LogPlace.{LogPlace}
use Rattle.redo_area.specs.declared.area.RedoArea.{RedoArea}
use Rattle.redo_area.specs.Settling.{SettlesToPages, waits_at}
use Rattle.redo_area.specs.Arming.{IsPlaced}
use Rattle.redo_area.proofs.Armings.{beside}
use Rattle.redo_area.proofs.Holding.{images_hold, may_hold}
use Rattle.redo_area.proofs.Kept.{new_pages}
use Rattle.redo_area.proofs.LogCommits.{waits_in_log, log_placed, no_other}
use Rattle.redo_area.proofs.committing.commit_over.Goals as goal

-- in the log that there is
pub log_on-requires-clause-header : goal.log_on-requires-clause-header
log_on-requires-clause-header g c honest =
    ((c.requires.waiting.waits honest).logs c.in-Next.log c.in-Next.ensures.way.1).header

pub log_on-requires-clause-logged : goal.log_on-requires-clause-logged
log_on-requires-clause-logged g c honest =
    ((c.requires.waiting.waits honest).logs c.in-Next.log c.in-Next.ensures.way.1).logged

pub returns-in_err-log_on-in-Next-clause-any_moment : goal.returns-in_err-log_on-in-Next-clause-any_moment
returns-in_err-log_on-in-Next-clause-any_moment g c honest =
    beside g.D.SectorDev c.args.dev.now c.log_on.new.dev c.args.old_end c.args.new_end
    (bytes_of c.args.waiting.now) (bytes_of c.args.pages.now) c.requires.grown
    (c.log_on.ensures.any_moment honest)

pub returns-in_ok-log_on-in-Next-clause-any_moment : goal.returns-in_ok-log_on-in-Next-clause-any_moment
returns-in_ok-log_on-in-Next-clause-any_moment g c honest =
    beside g.D.SectorDev c.args.dev.now c.log_on.new.dev c.args.old_end c.args.new_end
    (bytes_of c.args.waiting.now) (bytes_of c.args.pages.now) c.requires.grown
    (c.log_on.ensures.any_moment honest)

pub returns-in_ok-log_on-in-Next-clause-settles : goal.returns-in_ok-log_on-in-Next-clause-settles
returns-in_ok-log_on-in-Next-clause-settles g c honest =
    let dev = g.D.SectorDev in
    let new = c.log_on.new.dev in
    let cap : ℕ = dev.sectors c.args.dev.now / 4 in
    let pages = c.args.pages.now in
    let done = c.in_ok-log_on-in-Next.ensures in
    subst (λ (area : RedoArea). SettlesToPages true cap c.args.new_end area
    (bytes_of (take (length pages) pages)) (dev.candidate new) (dev.seen new))
    (sym c.with_log.ensures)
    (waits_in_log pages c.next.result
    (ap kind_of (done.sector honest) ∙ (c.requires.waiting.waits honest).kind) (done.header honest)
    (subst (λ (log : LogPlace). IsLogged c.args.new_end c.args.area.start log.number log.at
    log.beside (bytes_of pages) (dev.candidate new) (dev.seen new)) (sym c.next.ensures)
    (done.logged honest)))

pub returns-in_ok-log_on-in-Next-clause-pages : goal.returns-in_ok-log_on-in-Next-clause-pages
returns-in_ok-log_on-in-Next-clause-pages g c honest =
    let dev = g.D.SectorDev in
    let pages = bytes_of c.args.pages.now in
    let home = overlaid (bytes_of c.args.waiting.now) (page_at (dev.seen c.args.dev.now)) in
    let new = page_at (dev.seen c.log_on.new.dev) in
    ap (λ (ps : List Page). file_pages (overlaid (bytes_of ps) new) c.args.new_end)
    (take_all (length c.args.pages.now) c.args.pages.now (omega arith))
    ∙ same_file (overlaid pages new) (overlaid pages home) c.args.new_end
    (λ n ge lt. overlaid-over pages home new n
    (λ apart. c.in_ok-log_on-in-Next.ensures.pages honest n
    (omega (arith, lt, c.in-Next.ensures.way.2)) (apart-has_page pages n apart)))
    ∙ new_pages (file_pages home c.args.old_end) home c.args.old_end refl c.args.new_end pages pages
    refl c.requires.grown

pub returns-in_ok-log_on-in-Next-clause-placed : goal.returns-in_ok-log_on-in-Next-clause-placed
returns-in_ok-log_on-in-Next-clause-placed g c =
    let cap : ℕ = g.D.SectorDev.sectors c.args.dev.now / 4 in
    let room = c.requires.waiting.placed.log c.in-Next.log c.in-Next.ensures.way.1 in
    let at_is = ap (λ (log : LogPlace). log.at) c.next.ensures in
    let beside_is = ap (λ (log : LogPlace). log.beside) c.next.ensures in
    subst (IsPlaced cap c.args.new_end) (sym c.with_log.ensures)
    (log_placed c.next.result c.in-Next.ensures.way.2
    (record {
      room = room.room;
      at = omega (arith, room.beside, at_is);
      beside = omega (arith, room.at, beside_is);
    }))

-- in a log that begins
pub arm_log-requires-clause-held : goal.arm_log-requires-clause-held
arm_log-requires-clause-held g c honest =
    may_hold (c.requires.waiting.waits honest) c.requires.waiting.least

pub returns-in_err-arm_log-in-First-clause-any_moment : goal.returns-in_err-arm_log-in-First-clause-any_moment
returns-in_err-arm_log-in-First-clause-any_moment g c honest =
    beside g.D.SectorDev c.args.dev.now c.arm_log.new.dev c.args.old_end c.args.new_end
    (bytes_of c.args.waiting.now) (bytes_of c.args.pages.now) c.requires.grown
    (c.arm_log.ensures.any_moment honest)

pub returns-in_ok-arm_log-in-First-clause-any_moment : goal.returns-in_ok-arm_log-in-First-clause-any_moment
returns-in_ok-arm_log-in-First-clause-any_moment g c honest =
    beside g.D.SectorDev c.args.dev.now c.arm_log.new.dev c.args.old_end c.args.new_end
    (bytes_of c.args.waiting.now) (bytes_of c.args.pages.now) c.requires.grown
    (c.arm_log.ensures.any_moment honest)

pub returns-in_ok-arm_log-in-First-clause-settles : goal.returns-in_ok-arm_log-in-First-clause-settles
returns-in_ok-arm_log-in-First-clause-settles g c honest =
    let dev = g.D.SectorDev in
    let new = c.arm_log.new.dev in
    let cap : ℕ = dev.sectors c.args.dev.now / 4 in
    let pages = c.args.pages.now in
    let done = c.in_ok-arm_log-in-First.ensures in
    subst (λ (area : RedoArea). SettlesToPages true cap c.args.new_end area
    (bytes_of (take (length pages) pages)) (dev.candidate new) (dev.seen new))
    (sym c.of_log.ensures)
    (waits_in_log pages _ (done.kind honest) (done.header honest) (done.logged honest))

pub returns-in_ok-arm_log-in-First-clause-pages : goal.returns-in_ok-arm_log-in-First-clause-pages
returns-in_ok-arm_log-in-First-clause-pages g c honest =
    let dev = g.D.SectorDev in
    let pages = bytes_of c.args.pages.now in
    let home = overlaid (bytes_of c.args.waiting.now) (page_at (dev.seen c.args.dev.now)) in
    let new = page_at (dev.seen c.arm_log.new.dev) in
    ap (λ (ps : List Page). file_pages (overlaid (bytes_of ps) new) c.args.new_end)
    (take_all (length c.args.pages.now) c.args.pages.now (omega arith))
    ∙ same_file (overlaid pages new) (overlaid pages home) c.args.new_end
    (λ n ge lt. overlaid-over pages home new n
    (λ apart. c.in_ok-arm_log-in-First.ensures.pages honest n ge
    (omega (arith, lt, c.in-First.ensures.way.1.behind)) (apart-has_page pages n apart)))
    ∙ new_pages (file_pages home c.args.old_end) home c.args.old_end refl c.args.new_end pages pages
    refl c.requires.grown

-- by redo images
pub returns-in_ok-armed-in-Images-clause-settles : goal.returns-in_ok-armed-in-Images-clause-settles
returns-in_ok-armed-in-Images-clause-settles g c honest =
    let dev = g.D.SectorDev in
    let new = c.arm_over.new.dev in
    let cap : ℕ = dev.sectors c.args.dev.now / 4 in
    let pages = c.args.pages.now in
    let done = c.in_ok-armed-in-Images in
    let count = done.armed.images in
    let area : RedoArea = record
    { kind = c.args.area.kind; start = done.armed.place; held = count; log = None } in
    subst (λ (area : RedoArea). SettlesToPages true cap c.args.new_end area
    (bytes_of (take count pages)) (dev.candidate new) (dev.seen new)) (sym c.of_images.ensures)
    (waits_at true cap c.args.new_end area (bytes_of (take count pages)) (dev.candidate new)
    (dev.seen new) done.ensures.images.0
    (images_hold (take count pages) count (length-take-le count pages done.ensures.images.1)
    (done.ensures.armed honest) done.ensures.place.0 c.requires.pages.least)
    (done.ensures.kind honest) (λ log is. no_other is))
