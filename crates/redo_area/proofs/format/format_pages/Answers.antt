use Rattle.std.proofs.Common.{◌≡◌, ◌<◌, ◌≤◌, ◌+◌, ◌-◌, ◌*◌, ◌/◌, ◌^◌, ℕ, List, length, inl, inr, refl, ◌∙◌, ap, arith}
use Rattle.sect_dev.specs.Device.{Image, IsImageOf, IsStable, with_sector, with_candidate, LeavesOnly}
use Rattle.sect_dev.specs.Sector.{zeros}
use Rattle.sect_dev.specs.Moments.{weaker}
use Rattle.sect_dev.specs.declared.device.SectorDev.{Ghosts}
use Rattle.page_io.specs.Page.{page_at, KeepsWhere}
use Rattle.page_io.proofs.PageLaws.{same_page, at_same, at_other}
use Rattle.page_io.specs.Store.{file_of, Pages, pages_from, file_pages, bytes_of}
use Rattle.page_io.proofs.Overlays.{same_pages}
use Rattle.redo_area.specs.Header.{header_of, spelled}
use Rattle.redo_area.specs.declared.header.CommitKind.{CommitKind}
use Rattle.redo_area.specs.File.{settled, IsBlankOr}
use Rattle.redo_area.proofs.Blanks.{blank_image}
use Rattle.redo_area.proofs.Headers.{says_clear, kind_seen}
use Rattle.redo_area.proofs.Images.{settled-clear, rest_after}
use Rattle.redo_area.proofs.CommitRuns.{then_header}
use Rattle.redo_area.proofs.format.format_pages.Goals as goal

-- the new file
made : (mid : Image) (content : List ℕ) (count : ℕ) (pages : Pages)
    → pages_from (page_at mid) 1 count ≡ pages
    → file_pages (page_at (with_sector mid 0 content)) (1 + count) ≡ pages
made mid content count pages is =
    let less : 1 + count - 1 ≡ count = omega arith in
    ap (pages_from (page_at (with_sector mid 0 content)) 1) less
    ∙ same_pages (page_at (with_sector mid 0 content)) (page_at mid) 1 count
    (λ n ge lt. same_page (with_sector mid 0 content) mid n
    (λ m ge4 lt4. at_other mid 0 content m (omega (arith, ge, ge4)))) ∙ is

module _ {D : Type 0} (dev : Ghosts D) (first mid : D)
    (none : (c : List ℕ) → dev.candidate first 0 c → c ≡ zeros) (pages : Pages)
    (put : LeavesOnly dev.moment dev.left_since first mid
    (KeepsWhere (dev.candidate first) (λ m. m < 4 * 1))) where
  -- the pages are written behind a blank first sector
  pages_leave : LeavesOnly dev.moment dev.left_since first mid
      (λ image. IsBlankOr pages (settled (dev.sectors first / 4) image))
  pages_leave =
      weaker dev.moment dev.left_since first mid
      (λ image. IsBlankOr pages (settled (dev.sectors first / 4) image)) _ put
      (λ image is. inl (blank_image (dev.sectors first / 4) image
      (none (image 0) (is 0 (omega arith)))))

  -- and then the clear commit sector
  file_leaves : (kind : CommitKind) (new : D) (content : List ℕ) (count : ℕ) → dev.candidate first 0 (dev.seen first 0)
      → dev.sectors first < 2 ^ 32 → 4 ≤ 1 + count → 1 + count ≤ dev.sectors first / 4
      → content ≡ spelled kind 0 (1 + count) 0 0 → IsStable (dev.candidate mid) (dev.seen mid)
      → ((m : ℕ) → m < 4 * 1 → dev.seen mid m ≡ dev.seen first m)
      → pages_from (page_at (dev.seen mid)) 1 count ≡ pages
      → LeavesOnly dev.moment dev.left_since mid new
      (IsImageOf (with_candidate (dev.candidate mid) 0 content))
      → LeavesOnly dev.moment dev.left_since first new
      (λ image. IsBlankOr pages (settled (dev.sectors first / 4) image))
  file_leaves kind new content count may fits least room spells stable others written cleared =
      let cap : ℕ = dev.sectors first / 4 in
      then_header dev (λ image. IsBlankOr pages (settled cap image)) first mid new content
      pages_leave stable cleared
      (inl (blank_image cap (dev.seen mid) (others 0 (omega arith) ∙ none (dev.seen first 0) may)))
      (inr (settled-clear cap (with_sector (dev.seen mid) 0 content) (1 + count)
      (ap (header_of cap) (at_same (dev.seen mid) 0 content 0 refl)
      ∙ says_clear kind (dev.sectors first) (1 + count) content fits least room spells)
      ∙ ap (λ (ps : Pages). file_of ps) (made (dev.seen mid) content count pages written)))

pub returns-in_err-put_images-clause-any_moment : goal.returns-in_err-put_images-clause-any_moment
returns-in_err-put_images-clause-any_moment g c honest none =
    pages_leave g.D.SectorDev c.args.dev.now c.put_images.new.dev none (bytes_of c.args.pages.now)
    (c.put_images.ensures.any_moment honest)

pub returns-in_err-put_header-clause-any_moment : goal.returns-in_err-put_header-clause-any_moment
returns-in_err-put_header-clause-any_moment g c honest none =
    let images = c.in_ok-put_images.ensures in
    file_leaves g.D.SectorDev c.args.dev.now c.put_images.new.dev none (bytes_of c.args.pages.now)
    (c.put_images.ensures.any_moment honest) c.args.kind c.put_header.new.dev c.clear_sector.result
    (length c.args.pages.now) (g.met.D.SectorDev.seen_may_stay c.args.dev.now honest 0)
    (g.met.D.SectorDev.fits c.args.dev.now) (omega arith) c.requires.room c.clear_sector.ensures
    (images.stable honest) (images.others honest) (images.written honest)
    (c.put_header.ensures.any_moment (c.put_images.ensures.device.honesty.1 honest))

pub returns-clause-any_moment : goal.returns-clause-any_moment
returns-clause-any_moment g c honest none =
    let images = c.in_ok-put_images.ensures in
    file_leaves g.D.SectorDev c.args.dev.now c.put_images.new.dev none (bytes_of c.args.pages.now)
    (c.put_images.ensures.any_moment honest) c.args.kind c.put_header.new.dev c.clear_sector.result
    (length c.args.pages.now) (g.met.D.SectorDev.seen_may_stay c.args.dev.now honest 0)
    (g.met.D.SectorDev.fits c.args.dev.now) (omega arith) c.requires.room c.clear_sector.ensures
    (images.stable honest) (images.others honest) (images.written honest)
    (c.put_header.ensures.any_moment (c.put_images.ensures.device.honesty.1 honest))

pub returns-clause-rest : goal.returns-clause-rest
returns-clause-rest g c honest =
    let dev = g.D.SectorDev in
    let end : ℕ = 1 + length c.args.pages.now in
    let h1 = c.put_images.ensures.device.honesty.1 honest in
    let header = says_clear c.args.kind (dev.sectors c.args.dev.now) end c.clear_sector.result
    (g.met.D.SectorDev.fits c.args.dev.now) (omega arith) c.requires.room
    c.clear_sector.ensures in
    rest_after (dev.sectors c.args.dev.now / 4) (dev.candidate c.put_header.new.dev)
    (dev.seen c.put_images.new.dev) (dev.seen c.put_header.new.dev) c.clear_sector.result end
    (c.in_ok-put_header.ensures.stable h1) (c.in_ok-put_header.ensures.seen h1) header

pub returns-clause-pages : goal.returns-clause-pages
returns-clause-pages g c honest =
    let pages = c.args.pages.now in
    ap (λ (s : Image). file_pages (page_at s) (1 + length pages))
    (c.in_ok-put_header.ensures.seen (c.put_images.ensures.device.honesty.1 honest))
    ∙ made (g.D.SectorDev.seen c.put_images.new.dev) c.clear_sector.result (length pages)
    (bytes_of pages) (c.in_ok-put_images.ensures.written honest)

pub returns-clause-kind : goal.returns-clause-kind
returns-clause-kind g c honest =
    kind_seen c.args.kind _ _ _ _ _ _ c.clear_sector.result
    (c.in_ok-put_header.ensures.seen (c.put_images.ensures.device.honesty.1 honest))
    c.clear_sector.ensures
