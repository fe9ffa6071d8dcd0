use Rattle.std.proofs.Common.{refl, ◌∙◌, arith}
use Rattle.page_io.specs.Page.{page_at}
use Rattle.page_io.specs.Store.{bytes_of, file_pages, overlaid}
use Rattle.page_io.proofs.Overlays.{same_file, overlaid-over, apart-has_page}
use Rattle.redo_area.proofs.Images.{same_new}
use Rattle.redo_area.proofs.Armings.{beside, behind}
use Rattle.redo_area.proofs.Kept.{new_pages}
use Rattle.redo_area.proofs.arming.arm_all.Goals as goal

pub returns-in_err-arm_next-clause-any_moment : goal.returns-in_err-arm_next-clause-any_moment
returns-in_err-arm_next-clause-any_moment g c honest =
    beside g.D.SectorDev c.args.dev.now c.arm_next.new.dev c.args.old_end c.args.new_end
    (bytes_of c.args.waiting.now) (bytes_of c.args.pages.now) c.requires.grown
    (c.arm_next.ensures.any_moment honest)

pub returns-in-Some-clause-any_moment : goal.returns-in-Some-clause-any_moment
returns-in-Some-clause-any_moment g c honest =
    beside g.D.SectorDev c.args.dev.now c.arm_next.new.dev c.args.old_end c.args.new_end
    (bytes_of c.args.waiting.now) (bytes_of c.args.pages.now) c.requires.grown
    (c.arm_next.ensures.any_moment honest)

pub returns-in-Some-clause-pages : goal.returns-in-Some-clause-pages
returns-in-Some-clause-pages g c honest =
    let dev = g.D.SectorDev in
    let pages = bytes_of c.args.pages.now in
    let home = overlaid (bytes_of c.args.waiting.now) (page_at (dev.seen c.args.dev.now)) in
    let new = page_at (dev.seen c.arm_next.new.dev) in
    same_file (overlaid pages new) (overlaid pages home) c.args.new_end
    (λ n ge lt. overlaid-over pages home new n
    (λ apart. c.in_ok-arm_next.ensures.pages honest n ge
    (omega (arith, lt, c.in-Some.ensures.some.fits.behind, c.max-least.ensures))
    (apart-has_page pages n apart)))
    ∙ new_pages (file_pages home c.args.old_end) home c.args.old_end refl c.args.new_end pages pages
    refl c.requires.grown

pub returns-in_err-arm-clause-any_moment : goal.returns-in_err-arm-clause-any_moment
returns-in_err-arm-clause-any_moment g c honest =
    behind g.D.SectorDev c.args.dev.now c.arm.new.dev c.args.old_end c.args.new_end
    (bytes_of c.args.waiting.now) (bytes_of c.args.pages.now) c.requires.grown
    c.bring_home.new.dev c.bring_home.ensures.device.size (c.bring_home.ensures.any_moment honest)
    (c.in_ok-bring_home.ensures.pages honest)
    (c.arm.ensures.any_moment (c.bring_home.ensures.device.honesty.1 honest))

pub returns-clause-any_moment : goal.returns-clause-any_moment
returns-clause-any_moment g c honest =
    behind g.D.SectorDev c.args.dev.now c.arm.new.dev c.args.old_end c.args.new_end
    (bytes_of c.args.waiting.now) (bytes_of c.args.pages.now) c.requires.grown
    c.bring_home.new.dev c.bring_home.ensures.device.size (c.bring_home.ensures.any_moment honest)
    (c.in_ok-bring_home.ensures.pages honest)
    (c.arm.ensures.any_moment (c.bring_home.ensures.device.honesty.1 honest))

pub returns-clause-pages : goal.returns-clause-pages
returns-clause-pages g c honest =
    let dev = g.D.SectorDev in
    let pages = bytes_of c.args.pages.now in
    let home = overlaid (bytes_of c.args.waiting.now) (page_at (dev.seen c.args.dev.now)) in
    same_new (dev.seen c.bring_home.new.dev) (dev.seen c.arm.new.dev) pages c.args.new_end
    c.max-least.result (omega (arith, c.max-least.ensures))
    (c.in_ok-arm.ensures.pages (c.bring_home.ensures.device.honesty.1 honest))
    ∙ new_pages (file_pages home c.args.old_end) (page_at (dev.seen c.bring_home.new.dev))
    c.args.old_end (c.in_ok-bring_home.ensures.pages honest) c.args.new_end pages pages refl
    c.requires.grown

pub arm_next-requires-clause-held : goal.arm_next-requires-clause-held
arm_next-requires-clause-held g c honest =
    (c.requires.waiting.waits honest).holds (omega (arith, c.in-Some.ensures.some.some))
