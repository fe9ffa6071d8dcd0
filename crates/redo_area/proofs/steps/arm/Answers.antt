use Rattle.std.proofs.Common.{◌/◌, ℕ, length, ◌∙◌, ap, arith}
use Rattle.std.proofs.lemmas.List.{length-map}
use Rattle.sect_dev.specs.Device.{Image}
use Rattle.page_io.specs.Page.{page_at}
use Rattle.page_io.proofs.PageLaws.{at_other}
use Rattle.page_io.specs.Store.{pages_from, file_pages, overlaid, bytes_of}
use Rattle.page_io.specs.declared.page.Page.{Page}
use Rattle.redo_area.specs.Header.{header_of}
use Rattle.redo_area.proofs.Headers.{says_armed, kind_seen}
use Rattle.redo_area.proofs.Images.{now_armed}
use Rattle.redo_area.proofs.CommitRuns.{images_leave, armed_leaves}
use Rattle.redo_area.proofs.steps.arm.Goals as goal

pub returns-in_err-put_images-clause-any_moment : goal.returns-in_err-put_images-clause-any_moment
returns-in_err-put_images-clause-any_moment g c honest =
    let dev = g.D.SectorDev in
    images_leave dev c.args.dev.now c.put_images.new.dev (c.requires.rest honest) c.args.start
    c.requires.old (omega (arith, c.requires.pages.least, c.requires.new))
    (c.put_images.ensures.any_moment honest)
    (file_pages (overlaid (bytes_of c.args.pages.now) (page_at (dev.seen c.args.dev.now)))
    c.args.new_end)

pub returns-in_err-put_header-clause-any_moment : goal.returns-in_err-put_header-clause-any_moment
returns-in_err-put_header-clause-any_moment g c honest =
    let images = c.in_ok-put_images.ensures in
    armed_leaves g.D.SectorDev c.args.dev.now c.put_images.new.dev (c.requires.rest honest)
    c.args.start c.requires.old (omega (arith, c.requires.pages.least, c.requires.new))
    (c.put_images.ensures.any_moment honest)
    c.args.kind c.put_header.new.dev c.armed_sector.result c.args.new_end c.args.pages.now
    (g.met.D.SectorDev.fits c.args.dev.now) c.requires.pages.least c.requires.pages.some
    c.requires.room c.armed_sector.ensures c.requires.new c.requires.pages.in_order
    (images.stable honest) (images.others honest)
    (images.written honest) (c.put_header.ensures.any_moment
    (c.put_images.ensures.device.honesty.1 honest))

pub returns-clause-any_moment : goal.returns-clause-any_moment
returns-clause-any_moment g c honest =
    let images = c.in_ok-put_images.ensures in
    armed_leaves g.D.SectorDev c.args.dev.now c.put_images.new.dev (c.requires.rest honest)
    c.args.start c.requires.old (omega (arith, c.requires.pages.least, c.requires.new))
    (c.put_images.ensures.any_moment honest)
    c.args.kind c.put_header.new.dev c.armed_sector.result c.args.new_end c.args.pages.now
    (g.met.D.SectorDev.fits c.args.dev.now) c.requires.pages.least c.requires.pages.some
    c.requires.room c.armed_sector.ensures c.requires.new c.requires.pages.in_order
    (images.stable honest) (images.others honest)
    (images.written honest) (c.put_header.ensures.any_moment
    (c.put_images.ensures.device.honesty.1 honest))

pub returns-clause-armed : goal.returns-clause-armed
returns-clause-armed g c honest =
    let dev = g.D.SectorDev in
    let pages = c.args.pages.now in
    let start = c.args.start in
    let cap : ℕ = dev.sectors c.args.dev.now / 4 in
    let h1 = c.put_images.ensures.device.honesty.1 honest in
    let header = says_armed c.args.kind (dev.sectors c.args.dev.now) c.args.new_end start (length pages)
    c.armed_sector.result (g.met.D.SectorDev.fits c.args.dev.now)
    c.requires.pages.least c.requires.new c.requires.pages.some c.requires.room
    c.armed_sector.ensures in
    let both = now_armed cap (dev.seen c.put_images.new.dev) c.armed_sector.result c.args.new_end
    start (length pages) (bytes_of pages) (length-map pages (λ (p : Page). p.bytes)) header
    (c.in_ok-put_images.ensures.written honest)
    (omega (arith, c.requires.pages.least, c.requires.new)) in
    let seen2 = c.in_ok-put_header.ensures.seen h1 in
    record {
      stable = c.in_ok-put_header.ensures.stable h1;
      header = ap (λ (s : Image). header_of cap (s 0)) seen2 ∙ both.0;
      images = ap (λ (s : Image). pages_from (page_at s) start (length (bytes_of pages)))
          seen2 ∙ both.1;
      in_order = c.requires.pages.in_order;
    }

pub returns-clause-pages : goal.returns-clause-pages
returns-clause-pages g c honest =
    let mid = g.D.SectorDev.seen c.put_images.new.dev in
    let h1 = c.put_images.ensures.device.honesty.1 honest in
    λ m pos lt. ap (λ (s : Image). s m) (c.in_ok-put_header.ensures.seen h1)
    ∙ at_other mid 0 c.armed_sector.result m (omega (arith, pos))
    ∙ c.in_ok-put_images.ensures.others honest m lt

pub returns-clause-kind : goal.returns-clause-kind
returns-clause-kind g c honest =
    kind_seen c.args.kind _ _ _ _ _ _ c.armed_sector.result
    (c.in_ok-put_header.ensures.seen (c.put_images.ensures.device.honesty.1 honest))
    c.armed_sector.ensures
