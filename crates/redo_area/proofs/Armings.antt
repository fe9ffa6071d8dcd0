-- What a stop may leave while a commit is armed over pages that wait.
use Rattle.std.proofs.Common.{◌≡◌, ◌<◌, ◌≤◌, ◌/◌, inl, ℕ, true, refl, subst}
use Rattle.sect_dev.specs.Device.{LeavesOnly}
use Rattle.sect_dev.specs.Moments.{weaker, followed_by}
use Rattle.sect_dev.specs.declared.device.SectorDev.{Ghosts}
use Rattle.page_io.specs.Page.{page_at}
use Rattle.page_io.specs.Store.{Pages, file_of, file_pages, overlaid, has_page, committed_with, IsEither}
use Rattle.redo_area.specs.File.{settled}
use Rattle.redo_area.proofs.Kept.{either}

module _ {D : Type 0} (dev : Ghosts D) (first after : D) (old_end new_end : ℕ)
    (waiting pages : Pages)
    (grown : (n : ℕ) → old_end ≤ n → n < new_end → has_page pages n ≡ true) where
  -- pages come home while the images are written beside theirs
  pub beside : LeavesOnly dev.moment dev.left_since first after
      (λ image. IsEither (file_pages (overlaid waiting (page_at (dev.seen first))) old_end)
      (file_pages (overlaid pages (overlaid waiting (page_at (dev.seen first)))) new_end)
      (settled (dev.sectors first / 4) image))
      → LeavesOnly dev.moment dev.left_since first after
      (λ image. IsEither (file_pages (overlaid waiting (page_at (dev.seen first))) old_end)
      (committed_with (file_pages (overlaid waiting (page_at (dev.seen first))) old_end) pages
      new_end) (settled (dev.sectors first / 4) image))
  beside run =
      let cap : ℕ = dev.sectors first / 4 in
      let home = overlaid waiting (page_at (dev.seen first)) in
      let before = file_pages home old_end in
      weaker dev.moment dev.left_since first after
      (λ image. IsEither before (committed_with before pages new_end) (settled cap image)) _ run
      (λ image is. either before home old_end refl new_end pages pages (settled cap image) refl
      grown is)

  -- all pages are at home before the images are written
  pub behind : (mid : D) → dev.sectors mid ≡ dev.sectors first
      → LeavesOnly dev.moment dev.left_since first mid
      (λ image. settled (dev.sectors first / 4) image
      ≡ file_of (file_pages (overlaid waiting (page_at (dev.seen first))) old_end))
      → file_pages (page_at (dev.seen mid)) old_end
      ≡ file_pages (overlaid waiting (page_at (dev.seen first))) old_end
      → LeavesOnly dev.moment dev.left_since mid after
      (λ image. IsEither (file_pages (page_at (dev.seen mid)) old_end)
      (file_pages (overlaid pages (page_at (dev.seen mid))) new_end)
      (settled (dev.sectors mid / 4) image))
      → LeavesOnly dev.moment dev.left_since first after
      (λ image. IsEither (file_pages (overlaid waiting (page_at (dev.seen first))) old_end)
      (committed_with (file_pages (overlaid waiting (page_at (dev.seen first))) old_end) pages
      new_end) (settled (dev.sectors first / 4) image))
  behind mid size going_home at_home run =
      let cap : ℕ = dev.sectors first / 4 in
      let before = file_pages (overlaid waiting (page_at (dev.seen first))) old_end in
      let P = IsEither before (committed_with before pages new_end) in
      followed_by dev.moment dev.left_since first mid after (λ image. P (settled cap image)) _
      (weaker dev.moment dev.left_since first mid (λ image. P (settled cap image)) _ going_home
      (λ image is. inl is)) run
      (λ image is. subst (λ (s : ℕ). P (settled (s / 4) image)) size
      (either before (page_at (dev.seen mid)) old_end at_home new_end pages pages
      (settled (dev.sectors mid / 4) image) refl grown is))
