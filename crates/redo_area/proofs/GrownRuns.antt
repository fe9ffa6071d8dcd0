-- What a stop may leave while a commit goes on whose new pages come straight to their own numbers.
use Rattle.std.proofs.Common.{◌≡◌, ◌<◌, ◌≤◌, ◌*◌, ◌/◌, ℕ, List, length, true, inl, inr, ◌∙◌, ap, arith}
use Rattle.std.proofs.lemmas.List.{length-map}
use Rattle.sect_dev.specs.Device.{Image, IsImageOf, IsStable, with_sector, with_candidate, LeavesOnly}
use Rattle.sect_dev.specs.Moments.{followed_by, weaker}
use Rattle.sect_dev.specs.declared.device.SectorDev.{Ghosts}
use Rattle.page_io.specs.Page.{page_at, KeepsWhere}
use Rattle.page_io.proofs.Overlays.{same_file, overlaid-over}
use Rattle.page_io.proofs.PageLaws.{at_other}
use Rattle.page_io.specs.Store.{Pages, pages_from, file_of, file_pages, overlaid, are_in_order, bytes_of, IsEither}
use Rattle.page_io.specs.declared.page.Page.{Page}
use Rattle.redo_area.specs.Header.{header_of}
use Rattle.redo_area.specs.declared.header.Header.TheVariants.{Armed}
use Rattle.redo_area.specs.File.{settled, IsOutsideAll, IsAtRest}
use Rattle.redo_area.proofs.CommitRuns.{then_header}
use Rattle.commit_log.proofs.Outside.{outside-below}
use Rattle.redo_area.proofs.Images.{staging, armed_over, now_armed}

module _ {D : Type 0} (dev : Ghosts D) (first mid : D) {old_end new_end : ℕ}
    (rest : IsAtRest (dev.sectors first / 4) old_end (dev.candidate first) (dev.seen first))
    (least : 4 ≤ old_end) (grown : old_end ≤ new_end) (new : Pages)
    (order : are_in_order old_end new_end new ≡ true)
    (put : LeavesOnly dev.moment dev.left_since first mid
    (KeepsWhere (dev.candidate first) (IsOutsideAll new))) where
  -- what is below the old end is as it was
  stays : (image : Image) → ((m : ℕ) → m < 4 * old_end → image m ≡ dev.seen first m)
      → settled (dev.sectors first / 4) image
      ≡ file_of (file_pages (page_at (dev.seen first)) old_end)
  stays image same = staging (dev.sectors first / 4) (dev.seen first) image old_end old_end
      rest.header (omega arith) (omega (arith, least)) same

  -- the new pages are written
  pub new_leave : (after : Pages) → LeavesOnly dev.moment dev.left_since first mid
      (λ image. IsEither (file_pages (page_at (dev.seen first)) old_end) after
      (settled (dev.sectors first / 4) image))
  new_leave after =
      weaker dev.moment dev.left_since first mid
      (λ image. IsEither (file_pages (page_at (dev.seen first)) old_end) after
      (settled (dev.sectors first / 4) image)) _ put
      (λ image is. inl (stays image
      (λ m lt. rest.stable m (image m) (is m (outside-below old_end new_end new m order lt)))))

  module _ (images : D)
      (fewer : (m : ℕ) (c : List ℕ) → IsOutsideAll new m → dev.candidate mid m c
      → dev.candidate first m c)
      (run : LeavesOnly dev.moment dev.left_since mid images
      (KeepsWhere (dev.candidate mid) (λ m. m < 4 * new_end))) where
    -- the others are written as images
    pub images_follow : (after : Pages) → LeavesOnly dev.moment dev.left_since first images
        (λ image. IsEither (file_pages (page_at (dev.seen first)) old_end) after
        (settled (dev.sectors first / 4) image))
    images_follow after =
        followed_by dev.moment dev.left_since first mid images
        (λ image. IsEither (file_pages (page_at (dev.seen first)) old_end) after
        (settled (dev.sectors first / 4) image)) _ (new_leave after) run
        (λ image is. inl (stays image
        (λ m lt. rest.stable m (image m) (fewer m (image m)
        (outside-below old_end new_end new m order lt) (is m (omega (arith, lt, grown)))))))

    -- the commit sector is armed over them
    pub grown_leaves : (after : D) (content : List ℕ) (changed : List Page)
        → are_in_order 1 new_end (bytes_of changed) ≡ true
        → header_of (dev.sectors first / 4) content ≡ Armed new_end new_end (length changed)
        → ((m : ℕ) → IsOutsideAll new m → dev.seen mid m ≡ dev.seen first m)
        → ((n : ℕ) → page_at (dev.seen mid) n ≡ overlaid new (page_at (dev.seen first)) n)
        → ((m : ℕ) → m < 4 * new_end → dev.seen images m ≡ dev.seen mid m)
        → pages_from (page_at (dev.seen images)) new_end (length changed) ≡ bytes_of changed
        → IsStable (dev.candidate images) (dev.seen images)
        → LeavesOnly dev.moment dev.left_since images after
        (IsImageOf (with_candidate (dev.candidate images) 0 content))
        → LeavesOnly dev.moment dev.left_since first after
        (λ image. IsEither (file_pages (page_at (dev.seen first)) old_end)
        (file_pages (overlaid (bytes_of changed) (overlaid new (page_at (dev.seen first)))) new_end)
        (settled (dev.sectors first / 4) image))
    grown_leaves after content changed in_order header others at_home same written stable armed =
        let cap : ℕ = dev.sectors first / 4 in
        let home = overlaid new (page_at (dev.seen first)) in
        let pages = file_pages (overlaid (bytes_of changed) home) new_end in
        let both = now_armed cap (dev.seen images) content new_end new_end (length changed)
        (bytes_of changed) (length-map changed (λ (p : Page). p.bytes)) header written
        (omega (arith, least, grown)) in
        then_header dev (λ image. IsEither (file_pages (page_at (dev.seen first)) old_end) pages
        (settled cap image)) first images after content (images_follow pages) stable armed
        (inl (stays (dev.seen images) (λ m lt. same m (omega (arith, lt, grown))
        ∙ others m (outside-below old_end new_end new m order lt))))
        (inr (armed_over cap (dev.seen mid) (with_sector (dev.seen images) 0 content) new_end new_end
        (bytes_of changed) both.0 both.1 in_order (omega arith)
        (λ m pos lt. at_other (dev.seen images) 0 content m (omega (arith, pos)) ∙ same m lt)
        ∙ ap file_of (same_file (overlaid (bytes_of changed) (page_at (dev.seen mid)))
        (overlaid (bytes_of changed) home) new_end
        (λ n ge lt. overlaid-over (bytes_of changed) home (page_at (dev.seen mid)) n
        (λ apart. at_home n)))))
