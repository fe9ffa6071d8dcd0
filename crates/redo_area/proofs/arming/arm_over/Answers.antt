use Rattle.std.proofs.Common.{◌/◌, List, refl, sym, ap, subst, ◌∙◌, arith}
use Rattle.sect_dev.specs.Device.{LeavesOnly}
use Rattle.page_io.specs.Page.{page_at}
use Rattle.page_io.specs.Store.{Pages, bytes_of, file_pages, overlaid, IsEither}
use Rattle.page_io.specs.declared.page.Page.{Page}
use Rattle.page_io.proofs.Overlays.{same_file, overlaid-over}
use Rattle.redo_area.specs.File.{settled}
use Rattle.redo_area.proofs.Armings.{behind}
use Rattle.redo_area.proofs.Kept.{new_pages}
use Rattle.redo_area.proofs.Splits.{bytes_are, first_is, rest_is, grows, either_way}
use Rattle.redo_area.proofs.arming.arm_over.Goals as goal

pub arm_grown-requires-clause-grown : goal.arm_grown-requires-clause-grown
arm_grown-requires-clause-grown g c =
    let count = c.changed_in-changed.result in
    grows c.args.pages.now c.split_at.result.0.now c.split_at.result.1.now count c.args.old_end
    c.args.new_end c.split_at.ensures.by_index.0 c.split_at.ensures.front_len c.if-changed-gt0.true
    c.requires.pages.in_order (c.changed_in-changed.ensures.below c.if-changed-gt0.true)
    c.changed_in-changed.ensures.from
    (omega (arith, c.if-pages-changed.true, c.least_new.ensures, c.split_at.ensures.back_len))

pub arm_grown-requires-clause-changed : goal.arm_grown-requires-clause-changed
arm_grown-requires-clause-changed g c =
    let count = c.changed_in-changed.result in
    record {
      some = omega (arith, c.if-changed-gt0.true, c.split_at.ensures.front_len);
      least = c.requires.waiting.least;
      in_order =
          first_is c.args.pages.now c.split_at.result.0.now c.split_at.result.1.now count
          c.args.old_end c.args.new_end c.split_at.ensures.by_index.0
          c.split_at.ensures.front_len c.if-changed-gt0.true c.requires.pages.in_order
          (c.changed_in-changed.ensures.below c.if-changed-gt0.true)
          c.changed_in-changed.ensures.from;
    }

pub arm_grown-requires-clause-new : goal.arm_grown-requires-clause-new
arm_grown-requires-clause-new g c =
    let count = c.changed_in-changed.result in
    rest_is c.args.pages.now c.split_at.result.0.now c.split_at.result.1.now count c.args.old_end
    c.args.new_end c.split_at.ensures.by_index.0 c.split_at.ensures.front_len c.if-changed-gt0.true
    c.requires.pages.in_order (c.changed_in-changed.ensures.below c.if-changed-gt0.true)
    c.changed_in-changed.ensures.from

pub returns-in_err-arm_grown-clause-any_moment : goal.returns-in_err-arm_grown-clause-any_moment
returns-in_err-arm_grown-clause-any_moment g c honest =
    let dev = g.D.SectorDev in
    let mid = c.bring_home.new.dev in
    let pages = c.args.pages.now in
    let first = c.split_at.result.0.now in
    let rest = c.split_at.result.1.now in
    let count = c.changed_in-changed.result in
    let below = c.changed_in-changed.ensures.below c.if-changed-gt0.true in
    let low = first_is pages first rest count c.args.old_end c.args.new_end
    c.split_at.ensures.by_index.0 c.split_at.ensures.front_len c.if-changed-gt0.true
    c.requires.pages.in_order below c.changed_in-changed.ensures.from in
    let high = rest_is pages first rest count c.args.old_end c.args.new_end
    c.split_at.ensures.by_index.0 c.split_at.ensures.front_len c.if-changed-gt0.true
    c.requires.pages.in_order below c.changed_in-changed.ensures.from in
    let both = bytes_are pages first rest count c.args.old_end c.args.new_end
    c.split_at.ensures.by_index.0 c.split_at.ensures.front_len c.if-changed-gt0.true
    c.requires.pages.in_order below c.changed_in-changed.ensures.from in
    behind dev c.args.dev.now c.arm_grown.new.dev c.args.old_end c.args.new_end
    (bytes_of c.args.waiting.now) (bytes_of pages) c.requires.grown mid
    c.bring_home.ensures.device.size (c.bring_home.ensures.any_moment honest)
    (c.in_ok-bring_home.ensures.pages honest)
    (subst (λ (after : Pages). LeavesOnly dev.moment dev.left_since mid c.arm_grown.new.dev
    (λ image. IsEither (file_pages (page_at (dev.seen mid)) c.args.old_end) after
    (settled (dev.sectors mid / 4) image)))
    (either_way c.args.old_end c.args.new_end (bytes_of first) (bytes_of rest)
    (page_at (dev.seen mid)) low high
    ∙ ap (λ (ps : Pages). file_pages (overlaid ps (page_at (dev.seen mid))) c.args.new_end)
    (sym both))
    (c.arm_grown.ensures.any_moment (c.bring_home.ensures.device.honesty.1 honest)))

pub returns-then-pages-changed-clause-any_moment : goal.returns-then-pages-changed-clause-any_moment
returns-then-pages-changed-clause-any_moment g c honest =
    let dev = g.D.SectorDev in
    let mid = c.bring_home.new.dev in
    let pages = c.args.pages.now in
    let first = c.split_at.result.0.now in
    let rest = c.split_at.result.1.now in
    let count = c.changed_in-changed.result in
    let below = c.changed_in-changed.ensures.below c.if-changed-gt0.true in
    let low = first_is pages first rest count c.args.old_end c.args.new_end
    c.split_at.ensures.by_index.0 c.split_at.ensures.front_len c.if-changed-gt0.true
    c.requires.pages.in_order below c.changed_in-changed.ensures.from in
    let high = rest_is pages first rest count c.args.old_end c.args.new_end
    c.split_at.ensures.by_index.0 c.split_at.ensures.front_len c.if-changed-gt0.true
    c.requires.pages.in_order below c.changed_in-changed.ensures.from in
    let both = bytes_are pages first rest count c.args.old_end c.args.new_end
    c.split_at.ensures.by_index.0 c.split_at.ensures.front_len c.if-changed-gt0.true
    c.requires.pages.in_order below c.changed_in-changed.ensures.from in
    behind dev c.args.dev.now c.arm_grown.new.dev c.args.old_end c.args.new_end
    (bytes_of c.args.waiting.now) (bytes_of pages) c.requires.grown mid
    c.bring_home.ensures.device.size (c.bring_home.ensures.any_moment honest)
    (c.in_ok-bring_home.ensures.pages honest)
    (subst (λ (after : Pages). LeavesOnly dev.moment dev.left_since mid c.arm_grown.new.dev
    (λ image. IsEither (file_pages (page_at (dev.seen mid)) c.args.old_end) after
    (settled (dev.sectors mid / 4) image)))
    (either_way c.args.old_end c.args.new_end (bytes_of first) (bytes_of rest)
    (page_at (dev.seen mid)) low high
    ∙ ap (λ (ps : Pages). file_pages (overlaid ps (page_at (dev.seen mid))) c.args.new_end)
    (sym both))
    (c.arm_grown.ensures.any_moment (c.bring_home.ensures.device.honesty.1 honest)))

pub returns-then-pages-changed-clause-pages : goal.returns-then-pages-changed-clause-pages
returns-then-pages-changed-clause-pages g c honest =
    let dev = g.D.SectorDev in
    let mid = dev.seen c.bring_home.new.dev in
    let last = dev.seen c.arm_grown.new.dev in
    let pages = c.args.pages.now in
    let first = c.split_at.result.0.now in
    let rest = c.split_at.result.1.now in
    let count = c.changed_in-changed.result in
    let end = c.args.new_end in
    let below = c.changed_in-changed.ensures.below c.if-changed-gt0.true in
    let low = first_is pages first rest count c.args.old_end end
    c.split_at.ensures.by_index.0 c.split_at.ensures.front_len c.if-changed-gt0.true
    c.requires.pages.in_order below c.changed_in-changed.ensures.from in
    let high = rest_is pages first rest count c.args.old_end end
    c.split_at.ensures.by_index.0 c.split_at.ensures.front_len c.if-changed-gt0.true
    c.requires.pages.in_order below c.changed_in-changed.ensures.from in
    let both = bytes_are pages first rest count c.args.old_end end
    c.split_at.ensures.by_index.0 c.split_at.ensures.front_len c.if-changed-gt0.true
    c.requires.pages.in_order below c.changed_in-changed.ensures.from in
    let home = overlaid (bytes_of rest) (page_at mid) in
    ap (λ (ps : List Page). file_pages (overlaid (bytes_of ps) (page_at last)) end)
    (sym c.split_at.ensures.front)
    ∙ same_file (overlaid (bytes_of first) (page_at last)) (overlaid (bytes_of first) home) end
    (λ n ge lt. overlaid-over (bytes_of first) home (page_at last) n
    (λ apart. c.in_ok-arm_grown.ensures.pages
    (c.bring_home.ensures.device.honesty.1 honest) n ge lt))
    ∙ either_way c.args.old_end end (bytes_of first) (bytes_of rest) (page_at mid) low high
    ∙ ap (λ (ps : Pages). file_pages (overlaid ps (page_at mid)) end) (sym both)
    ∙ new_pages
    (file_pages (overlaid (bytes_of c.args.waiting.now) (page_at (dev.seen c.args.dev.now)))
    c.args.old_end) (page_at mid) c.args.old_end (c.in_ok-bring_home.ensures.pages honest) end
    (bytes_of pages) (bytes_of pages) refl c.requires.grown
