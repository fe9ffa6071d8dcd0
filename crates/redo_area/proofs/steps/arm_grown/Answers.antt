use Rattle.std.proofs.Common.{◌≡◌, ◌<◌, ◌/◌, ℕ, [], length, get_or, ◌∙◌, ap, arith}
use Rattle.std.proofs.lemmas.List.{length-map}
use Rattle.sect_dev.specs.Device.{Image, with_sector}
use Rattle.page_io.specs.Page.{page_at, own_number}
use Rattle.page_io.specs.Store.{pages_from, file_pages, overlaid, bytes_of}
use Rattle.page_io.specs.declared.page.Page.{Page}
use Rattle.page_io.proofs.PageLaws.{same_page, at_other}
use Rattle.page_io.proofs.StagedPages.{order_wider}
use Rattle.redo_area.specs.Header.{header_of}
use Rattle.redo_area.proofs.Headers.{says_armed, kind_seen}
use Rattle.commit_log.proofs.Outside.{below_end}
use Rattle.redo_area.proofs.Images.{now_armed}
use Rattle.redo_area.proofs.GrownRuns.{new_leave, images_follow, grown_leaves}
use Rattle.redo_area.proofs.steps.arm_grown.Goals as goal

pub returns-in_err-write_homes-clause-any_moment : goal.returns-in_err-write_homes-clause-any_moment
returns-in_err-write_homes-clause-any_moment g c honest =
    let dev = g.D.SectorDev in
    new_leave dev c.args.dev.now c.write_homes.new.dev (c.requires.rest honest)
    c.requires.changed.least c.requires.grown (bytes_of c.args.new.now) c.requires.new
    (c.write_homes.ensures.any_moment honest)
    (file_pages (overlaid (bytes_of c.args.changed.now)
    (overlaid (bytes_of c.args.new.now) (page_at (dev.seen c.args.dev.now)))) c.args.new_end)

pub returns-in_err-put_images-clause-any_moment : goal.returns-in_err-put_images-clause-any_moment
returns-in_err-put_images-clause-any_moment g c honest =
    let dev = g.D.SectorDev in
    images_follow dev c.args.dev.now c.write_homes.new.dev (c.requires.rest honest)
    c.requires.changed.least c.requires.grown (bytes_of c.args.new.now) c.requires.new
    (c.write_homes.ensures.any_moment honest) c.put_images.new.dev
    (c.write_homes.ensures.candidates honest)
    (c.put_images.ensures.any_moment (c.write_homes.ensures.device.honesty.1 honest))
    (file_pages (overlaid (bytes_of c.args.changed.now)
    (overlaid (bytes_of c.args.new.now) (page_at (dev.seen c.args.dev.now)))) c.args.new_end)

pub returns-in_err-put_header-clause-any_moment : goal.returns-in_err-put_header-clause-any_moment
returns-in_err-put_header-clause-any_moment g c honest =
    let dev = g.D.SectorDev in
    let h1 = c.write_homes.ensures.device.honesty.1 honest in
    let h2 = c.put_images.ensures.device.honesty.1 h1 in
    let changed = c.args.changed.now in
    grown_leaves dev c.args.dev.now c.write_homes.new.dev (c.requires.rest honest)
    c.requires.changed.least c.requires.grown (bytes_of c.args.new.now) c.requires.new
    (c.write_homes.ensures.any_moment honest) c.put_images.new.dev
    (c.write_homes.ensures.candidates honest) (c.put_images.ensures.any_moment h1)
    c.put_header.new.dev c.armed_sector.result changed
    (order_wider 1 c.args.old_end c.args.new_end (bytes_of changed) c.requires.grown
    c.requires.changed.in_order)
    (says_armed c.args.kind (dev.sectors c.args.dev.now) c.args.new_end c.args.new_end (length changed)
    c.armed_sector.result (g.met.D.SectorDev.fits c.args.dev.now)
    (omega (arith, c.requires.changed.least, c.requires.grown)) (omega arith)
    c.requires.changed.some c.requires.room c.armed_sector.ensures)
    (c.in_ok-write_homes.ensures.others honest) (c.in_ok-write_homes.ensures.written honest)
    (c.in_ok-put_images.ensures.others h1) (c.in_ok-put_images.ensures.written h1)
    (c.in_ok-put_images.ensures.stable h1) (c.put_header.ensures.any_moment h2)

pub returns-clause-any_moment : goal.returns-clause-any_moment
returns-clause-any_moment g c honest =
    let dev = g.D.SectorDev in
    let h1 = c.write_homes.ensures.device.honesty.1 honest in
    let h2 = c.put_images.ensures.device.honesty.1 h1 in
    let changed = c.args.changed.now in
    grown_leaves dev c.args.dev.now c.write_homes.new.dev (c.requires.rest honest)
    c.requires.changed.least c.requires.grown (bytes_of c.args.new.now) c.requires.new
    (c.write_homes.ensures.any_moment honest) c.put_images.new.dev
    (c.write_homes.ensures.candidates honest) (c.put_images.ensures.any_moment h1)
    c.put_header.new.dev c.armed_sector.result changed
    (order_wider 1 c.args.old_end c.args.new_end (bytes_of changed) c.requires.grown
    c.requires.changed.in_order)
    (says_armed c.args.kind (dev.sectors c.args.dev.now) c.args.new_end c.args.new_end (length changed)
    c.armed_sector.result (g.met.D.SectorDev.fits c.args.dev.now)
    (omega (arith, c.requires.changed.least, c.requires.grown)) (omega arith)
    c.requires.changed.some c.requires.room c.armed_sector.ensures)
    (c.in_ok-write_homes.ensures.others honest) (c.in_ok-write_homes.ensures.written honest)
    (c.in_ok-put_images.ensures.others h1) (c.in_ok-put_images.ensures.written h1)
    (c.in_ok-put_images.ensures.stable h1) (c.put_header.ensures.any_moment h2)

pub returns-clause-armed : goal.returns-clause-armed
returns-clause-armed g c honest =
    let dev = g.D.SectorDev in
    let h1 = c.write_homes.ensures.device.honesty.1 honest in
    let h2 = c.put_images.ensures.device.honesty.1 h1 in
    let changed = c.args.changed.now in
    let end = c.args.new_end in
    let cap : ℕ = dev.sectors c.args.dev.now / 4 in
    let header = says_armed c.args.kind (dev.sectors c.args.dev.now) end end (length changed)
    c.armed_sector.result (g.met.D.SectorDev.fits c.args.dev.now)
    (omega (arith, c.requires.changed.least, c.requires.grown)) (omega arith)
    c.requires.changed.some c.requires.room c.armed_sector.ensures in
    let both = now_armed cap (dev.seen c.put_images.new.dev) c.armed_sector.result end end
    (length changed) (bytes_of changed) (length-map changed (λ (p : Page). p.bytes)) header
    (c.in_ok-put_images.ensures.written h1)
    (omega (arith, c.requires.changed.least, c.requires.grown)) in
    let seen3 = c.in_ok-put_header.ensures.seen h2 in
    record {
      stable = c.in_ok-put_header.ensures.stable h2;
      header = ap (λ (s : Image). header_of cap (s 0)) seen3 ∙ both.0;
      images = ap (λ (s : Image). pages_from (page_at s) end (length (bytes_of changed)))
          seen3 ∙ both.1;
      in_order = order_wider 1 c.args.old_end end (bytes_of changed) c.requires.grown
          c.requires.changed.in_order;
    }

pub returns-clause-pages : goal.returns-clause-pages
returns-clause-pages g c honest =
    let dev = g.D.SectorDev in
    let h1 = c.write_homes.ensures.device.honesty.1 honest in
    let h2 = c.put_images.ensures.device.honesty.1 h1 in
    let images = dev.seen c.put_images.new.dev in
    λ n pos lt. ap (λ (s : Image). page_at s n) (c.in_ok-put_header.ensures.seen h2)
    ∙ same_page (with_sector images 0 c.armed_sector.result) (dev.seen c.write_homes.new.dev) n
    (λ m ge4 lt4. at_other images 0 c.armed_sector.result m (omega (arith, pos, ge4))
    ∙ c.in_ok-put_images.ensures.others h1 m (omega (arith, lt, lt4)))
    ∙ c.in_ok-write_homes.ensures.written honest n

pub write_homes-requires : goal.write_homes-requires
write_homes-requires g c k lt =
    let new = bytes_of c.args.new.now in
    let long : length new ≡ length c.args.new.now =
    length-map c.args.new.now (λ (p : Page). p.bytes) in
    let below : own_number (get_or new k []) < c.args.new_end =
    below_end c.args.old_end c.args.new_end new k c.requires.new (omega (arith, lt, long)) in
    omega (arith, below, c.requires.room)

pub returns-clause-kind : goal.returns-clause-kind
returns-clause-kind g c honest =
    let h1 = c.write_homes.ensures.device.honesty.1 honest in
    let h2 = c.put_images.ensures.device.honesty.1 h1 in
    kind_seen c.args.kind _ _ _ _ _ _ c.armed_sector.result (c.in_ok-put_header.ensures.seen h2) c.armed_sector.ensures
