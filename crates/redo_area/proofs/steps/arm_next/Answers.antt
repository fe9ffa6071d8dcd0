use Rattle.std.proofs.Common.{◌≡◌, ◌<◌, ◌/◌, ◌^◌, ℕ, [], length, get_or, inl, refl, ◌∙◌, ap, arith}
use Rattle.std.proofs.lemmas.List.{length-map}
use Rattle.sect_dev.specs.Device.{Image, with_sector}
use Rattle.page_io.specs.Page.{page_at, own_number}
use Rattle.page_io.specs.Store.{pages_from, file_pages, overlaid, bytes_of}
use Rattle.page_io.specs.declared.page.Page.{Page}
use Rattle.page_io.proofs.PageLaws.{same_page, at_other}
use Rattle.page_io.proofs.StagedPages.{order_wider}
use Rattle.redo_area.specs.Header.{header_of}
use Rattle.redo_area.proofs.Headers.{says_armed, kind_seen}
use Rattle.commit_log.proofs.Outside.{below_end}
use Rattle.redo_area.proofs.Images.{images_stay, now_home, now_armed}
use Rattle.redo_area.proofs.CommitRuns.{beside_leave, both_leave, next_leaves}
use Rattle.redo_area.proofs.steps.arm_next.Goals as goal

pub returns-in_err-write_images-clause-any_moment : goal.returns-in_err-write_images-clause-any_moment
returns-in_err-write_images-clause-any_moment g c honest =
    let dev = g.D.SectorDev in
    beside_leave dev c.args.dev.now c.write_images.new.dev (c.requires.held honest) c.args.place
    (length c.args.pages.now) (omega (arith, c.requires.place.behind))
    (omega (arith, c.requires.pages.least, c.requires.place.behind))
    c.requires.place.apart (c.write_images.ensures.any_moment honest)
    (file_pages (overlaid (bytes_of c.args.pages.now)
    (overlaid (bytes_of c.args.waiting.now) (page_at (dev.seen c.args.dev.now)))) c.args.new_end)

pub returns-in_err-put_homes_but-clause-any_moment : goal.returns-in_err-put_homes_but-clause-any_moment
returns-in_err-put_homes_but-clause-any_moment g c honest =
    let dev = g.D.SectorDev in
    let h1 = c.write_images.ensures.device.honesty.1 honest in
    both_leave dev c.args.dev.now c.write_images.new.dev (c.requires.held honest) c.args.place
    (length c.args.pages.now) (omega (arith, c.requires.place.behind))
    (omega (arith, c.requires.pages.least, c.requires.place.behind))
    c.requires.place.apart (c.write_images.ensures.any_moment honest) c.put_homes_but.new.dev
    (file_pages (overlaid (bytes_of c.args.pages.now)
    (overlaid (bytes_of c.args.waiting.now) (page_at (dev.seen c.args.dev.now)))) c.args.new_end)
    (c.write_images.ensures.candidates honest) (c.put_homes_but.ensures.any_moment h1)

pub returns-in_err-put_header-clause-any_moment : goal.returns-in_err-put_header-clause-any_moment
returns-in_err-put_header-clause-any_moment g c honest =
    let dev = g.D.SectorDev in
    let h1 = c.write_images.ensures.device.honesty.1 honest in
    let images = c.in_ok-write_images.ensures in
    let homes = c.in_ok-put_homes_but.ensures in
    next_leaves dev c.args.dev.now c.write_images.new.dev (c.requires.held honest) c.args.place
    (length c.args.pages.now) (omega (arith, c.requires.place.behind))
    (omega (arith, c.requires.pages.least, c.requires.place.behind))
    c.requires.place.apart (images.any_moment honest) c.put_homes_but.new.dev c.put_header.new.dev
    c.armed_sector.result c.args.new_end c.args.pages.now refl (images.candidates honest)
    (images.others honest) (images.written honest) (c.put_homes_but.ensures.any_moment h1)
    (homes.others h1) (homes.written h1) (homes.stable h1)
    (says_armed c.args.area.kind (dev.sectors c.args.dev.now) c.args.new_end c.args.place
    (length c.args.pages.now) c.armed_sector.result (g.met.D.SectorDev.fits c.args.dev.now)
    c.requires.pages.least (omega (arith, c.requires.place.behind))
    c.requires.pages.some c.requires.place.room c.armed_sector.ensures)
    (omega (arith, c.requires.place.behind)) c.requires.pages.in_order
    (c.put_header.ensures.any_moment (c.put_homes_but.ensures.device.honesty.1 h1))

pub returns-clause-any_moment : goal.returns-clause-any_moment
returns-clause-any_moment g c honest =
    let dev = g.D.SectorDev in
    let h1 = c.write_images.ensures.device.honesty.1 honest in
    let images = c.in_ok-write_images.ensures in
    let homes = c.in_ok-put_homes_but.ensures in
    next_leaves dev c.args.dev.now c.write_images.new.dev (c.requires.held honest) c.args.place
    (length c.args.pages.now) (omega (arith, c.requires.place.behind))
    (omega (arith, c.requires.pages.least, c.requires.place.behind))
    c.requires.place.apart (images.any_moment honest) c.put_homes_but.new.dev c.put_header.new.dev
    c.armed_sector.result c.args.new_end c.args.pages.now refl (images.candidates honest)
    (images.others honest) (images.written honest) (c.put_homes_but.ensures.any_moment h1)
    (homes.others h1) (homes.written h1) (homes.stable h1)
    (says_armed c.args.area.kind (dev.sectors c.args.dev.now) c.args.new_end c.args.place
    (length c.args.pages.now) c.armed_sector.result (g.met.D.SectorDev.fits c.args.dev.now)
    c.requires.pages.least (omega (arith, c.requires.place.behind))
    c.requires.pages.some c.requires.place.room c.armed_sector.ensures)
    (omega (arith, c.requires.place.behind)) c.requires.pages.in_order
    (c.put_header.ensures.any_moment (c.put_homes_but.ensures.device.honesty.1 h1))

pub returns-clause-armed : goal.returns-clause-armed
returns-clause-armed g c honest =
    let dev = g.D.SectorDev in
    let h1 = c.write_images.ensures.device.honesty.1 honest in
    let images = c.in_ok-write_images.ensures in
    let homes = c.in_ok-put_homes_but.ensures in
    let pages = c.args.pages.now in
    let start = c.args.place in
    let cap : ℕ = dev.sectors c.args.dev.now / 4 in
    let h2 = c.put_homes_but.ensures.device.honesty.1 h1 in
    let header = says_armed c.args.area.kind (dev.sectors c.args.dev.now) c.args.new_end start (length pages)
    c.armed_sector.result (g.met.D.SectorDev.fits c.args.dev.now)
    c.requires.pages.least (omega (arith, c.requires.place.behind))
    c.requires.pages.some c.requires.place.room c.armed_sector.ensures in
    let both = now_armed cap (dev.seen c.put_homes_but.new.dev) c.armed_sector.result c.args.new_end
    start (length pages) (bytes_of pages) (length-map pages (λ (p : Page). p.bytes)) header
    (images_stay (dev.seen c.write_images.new.dev) (dev.seen c.put_homes_but.new.dev) c.args.old_end
    start (length pages) (bytes_of c.args.waiting.now) (bytes_of pages) c.requires.rising
    (omega (arith, c.requires.place.behind)) (homes.others h1) (images.written honest))
    (omega (arith, c.requires.pages.least, c.requires.place.behind)) in
    let seen3 = c.in_ok-put_header.ensures.seen h2 in
    record {
      stable = c.in_ok-put_header.ensures.stable h2;
      header = ap (λ (s : Image). header_of cap (s 0)) seen3 ∙ both.0;
      images = ap (λ (s : Image). pages_from (page_at s) start (length (bytes_of pages)))
          seen3 ∙ both.1;
      in_order = c.requires.pages.in_order;
    }

pub returns-clause-pages : goal.returns-clause-pages
returns-clause-pages g c honest =
    let dev = g.D.SectorDev in
    let h1 = c.write_images.ensures.device.honesty.1 honest in
    let images = c.in_ok-write_images.ensures in
    let homes = c.in_ok-put_homes_but.ensures in
    let home = dev.seen c.put_homes_but.new.dev in
    λ n pos lt old. ap (λ (s : Image). page_at s n)
    (c.in_ok-put_header.ensures.seen (c.put_homes_but.ensures.device.honesty.1 h1))
    ∙ same_page (with_sector home 0 c.armed_sector.result) home n
    (λ m ge4 lt4. at_other home 0 c.armed_sector.result m (omega (arith, pos, ge4)))
    ∙ now_home (dev.seen c.args.dev.now) (dev.seen c.write_images.new.dev) home c.args.place
    (bytes_of c.args.waiting.now) n (homes.written h1 n old)
    (λ m low. images.others honest m (inl low)) lt

pub put_homes_but-requires-clause-room : goal.put_homes_but-requires-clause-room
put_homes_but-requires-clause-room g c k lt =
    let staged = bytes_of c.args.waiting.now in
    let long : length staged ≡ length c.args.waiting.now =
    length-map c.args.waiting.now (λ (p : Page). p.bytes) in
    let below : own_number (get_or staged k []) < c.args.old_end =
    below_end 1 c.args.old_end staged k c.requires.rising (omega (arith, lt, long)) in
    omega (
      arith,
      below,
      c.requires.place.behind,
      c.requires.place.room,
      c.write_images.ensures.device.size,
    )

pub returns-clause-kind : goal.returns-clause-kind
returns-clause-kind g c honest =
    let h1 = c.write_images.ensures.device.honesty.1 honest in
    let h2 = c.put_homes_but.ensures.device.honesty.1 h1 in
    kind_seen c.args.area.kind _ _ _ _ _ _ c.armed_sector.result (c.in_ok-put_header.ensures.seen h2) c.armed_sector.ensures

pub put_homes_but-requires-clause-order : goal.put_homes_but-requires-clause-order
put_homes_but-requires-clause-order g c =
    order_wider 1 c.args.new_end (2 ^ 32) (bytes_of c.args.pages.now)
    (omega (arith, c.ranges.new_end.fits)) c.requires.pages.in_order
