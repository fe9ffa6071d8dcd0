-- What a stop may leave while opening ends a log, call by call.
use Rattle.std.proofs.Common.{◌≡◌, ◌<◌, ◌≤◌, ◌/◌, ◌^◌, ℕ, List, refl, sym, ◌∙◌, ap, arith}
use Rattle.sect_dev.specs.Device.{Image, IsImageOf, IsStable, with_sector, with_candidate, LeavesOnly}
use Rattle.sect_dev.specs.Moments.{weaker}
use Rattle.sect_dev.specs.declared.device.SectorDev.{Ghosts}
use Rattle.page_io.specs.Page.{page_at}
use Rattle.page_io.specs.Store.{file_of, file_pages}
use Rattle.page_io.proofs.Overlays.{same_file}
use Rattle.page_io.proofs.PageLaws.{same_page, at_same, at_other}
use Rattle.commit_log.specs.Log.{settled_at}
use Rattle.redo_area.specs.Header.{header_of, spelled}
use Rattle.redo_area.specs.declared.header.CommitKind.{CommitKind}
use Rattle.redo_area.specs.declared.header.Header.TheVariants.{Logging}
use Rattle.redo_area.specs.File.{settled}
use Rattle.redo_area.proofs.Headers.{says_clear}
use Rattle.redo_area.proofs.Images.{settled-clear, settled-logging}
use Rattle.redo_area.proofs.CommitRuns.{then_header}

module _ {D : Type 0} (dev : Ghosts D) (first mid : D) (start : ℕ)
    (header : header_of (dev.sectors first / 4) (dev.seen first 0) ≡ Logging start)
    (run : LeavesOnly dev.moment dev.left_since first mid
    (λ image. (settled_at image start ≡ settled_at (dev.seen first) start)
    × (image 0 ≡ dev.seen first 0))) where
  still_logging : (image : Image) → settled_at image start ≡ settled_at (dev.seen first) start
      → image 0 ≡ dev.seen first 0
      → settled (dev.sectors first / 4) image ≡ settled (dev.sectors first / 4) (dev.seen first)
  still_logging image same sector =
      let cap : ℕ = dev.sectors first / 4 in
      settled-logging cap image start (ap (header_of cap) sector ∙ header) ∙ same
      ∙ sym (settled-logging cap (dev.seen first) start header)

  -- the pages of the log come home
  pub redo_leaves : LeavesOnly dev.moment dev.left_since first mid
      (λ image. settled (dev.sectors first / 4) image
      ≡ settled (dev.sectors first / 4) (dev.seen first))
  redo_leaves =
      weaker dev.moment dev.left_since first mid
      (λ image. settled (dev.sectors first / 4) image
      ≡ settled (dev.sectors first / 4) (dev.seen first)) _ run
      (λ image is. still_logging image is.0 is.1)

  -- and the commit sector is cleared
  pub end_leaves : (kind : CommitKind) (after : D) (content : List ℕ) (end : ℕ)
      → IsStable (dev.candidate mid) (dev.seen mid)
      → (settled_at (dev.seen mid) start ≡ settled_at (dev.seen first) start)
      × (dev.seen mid 0 ≡ dev.seen first 0)
      → settled_at (dev.seen first) start ≡ file_of (file_pages (page_at (dev.seen mid)) end)
      → dev.sectors first < 2 ^ 32 → 4 ≤ end → end ≤ dev.sectors first / 4
      → content ≡ spelled kind 0 end 0 0
      → LeavesOnly dev.moment dev.left_since mid after
      (IsImageOf (with_candidate (dev.candidate mid) 0 content))
      → LeavesOnly dev.moment dev.left_since first after
      (λ image. settled (dev.sectors first / 4) image
      ≡ settled (dev.sectors first / 4) (dev.seen first))
  end_leaves kind after content end stable same home fits least room spells put =
      let cap : ℕ = dev.sectors first / 4 in
      let image : Image = with_sector (dev.seen mid) 0 content in
      then_header dev (λ image. settled cap image ≡ settled cap (dev.seen first)) first mid after
      content redo_leaves stable put (still_logging (dev.seen mid) same.0 same.1)
      (settled-clear cap image end
      (ap (header_of cap) (at_same (dev.seen mid) 0 content 0 refl)
      ∙ says_clear kind (dev.sectors first) end content fits least room spells)
      ∙ ap file_of (same_file (page_at image) (page_at (dev.seen mid)) end
      (λ n ge lt. same_page image (dev.seen mid) n
      (λ m ge4 lt4. at_other (dev.seen mid) 0 content m (omega (arith, ge, ge4)))))
      ∙ sym home ∙ sym (settled-logging cap (dev.seen first) start header))
