-- What a stop may leave while a commit goes on, step by step.
use Rattle.std.proofs.Common.{◌≡◌, ◌⊎◌, ◌<◌, ◌≤◌, ◌*◌, ◌+◌, ◌/◌, ◌^◌, ℕ, List, length, true, false, inl, inr, ⊎_elim, refl, sym, ◌∙◌, ap, subst, arith}
use Rattle.std.proofs.lemmas.List.{length-map}
use Rattle.sect_dev.specs.Device.{Image, IsImageOf, IsStable, with_sector, with_candidate, LeavesOnly}
use Rattle.sect_dev.specs.Moments.{two_images, followed_by, weaker}
use Rattle.sect_dev.specs.declared.device.SectorDev.{Ghosts}
use Rattle.page_io.specs.Page.{page_at, IsOutside, KeepsWhere}
use Rattle.page_io.proofs.Overlays.{same_file, overlaid-over, apart-has_page}
use Rattle.page_io.proofs.PageLaws.{at_same, at_other}
use Rattle.page_io.specs.Store.{Pages, pages_from, file_of, file_pages, overlaid, are_in_order, has_page, bytes_of, IsEither}
use Rattle.page_io.specs.declared.page.Page.{Page}
use Rattle.redo_area.specs.Header.{header_of, spelled}
use Rattle.redo_area.specs.declared.header.CommitKind.{CommitKind}
use Rattle.redo_area.specs.declared.header.Header.TheVariants.{Armed}
use Rattle.redo_area.specs.File.{settled, IsOutsideAll, IsAtRest, HoldsWaiting}
use Rattle.redo_area.proofs.Headers.{says_clear, says_armed}
use Rattle.redo_area.proofs.Images.{staging, armed_over, now_armed, beside_held, images_stay, now_home, now_clear, settled-clear}

-- a run, and then the commit sector
pub then_header : {D : Type 0} (dev : Ghosts D) (P : Image → Type 0) (first mid new : D)
    (content : List ℕ) → LeavesOnly dev.moment dev.left_since first mid P
    → IsStable (dev.candidate mid) (dev.seen mid)
    → LeavesOnly dev.moment dev.left_since mid new
    (IsImageOf (with_candidate (dev.candidate mid) 0 content))
    → P (dev.seen mid) → P (with_sector (dev.seen mid) 0 content)
    → LeavesOnly dev.moment dev.left_since first new P
then_header dev P first mid new content run stable put without with_it =
    followed_by dev.moment dev.left_since first mid new P
    (IsImageOf (with_candidate (dev.candidate mid) 0 content)) run put
    (λ image is. ⊎_elim (λ same. subst P (sym same) without) (λ same. subst P (sym same) with_it)
    (two_images (dev.candidate mid) (dev.seen mid) 0 content image stable is))

-- steps 1 and 2, from a device at rest
module _ {D : Type 0} (dev : Ghosts D) (first mid : D) {old_end : ℕ}
    (rest : IsAtRest (dev.sectors first / 4) old_end (dev.candidate first) (dev.seen first))
    (start : ℕ) (old : old_end ≤ start) (some : 1 ≤ start)
    (put : LeavesOnly dev.moment dev.left_since first mid
    (KeepsWhere (dev.candidate first) (λ m. m < 4 * start))) where
  -- the images are written
  pub images_leave : (new : Pages)
      → LeavesOnly dev.moment dev.left_since first mid
      (λ image. IsEither (file_pages (page_at (dev.seen first)) old_end) new
      (settled (dev.sectors first / 4) image))
  images_leave new =
      weaker dev.moment dev.left_since first mid
      (λ image. IsEither (file_pages (page_at (dev.seen first)) old_end) new
      (settled (dev.sectors first / 4) image)) _ put
      (λ image is. inl (staging (dev.sectors first / 4) (dev.seen first) image old_end start
      rest.header old some (λ m lt. rest.stable m (image m) (is m lt))))

  -- the commit sector is armed over them
  pub armed_leaves : (kind : CommitKind) (after : D) (content : List ℕ) (new_end : ℕ) (pages : List Page)
      → dev.sectors first < 2 ^ 32 → 4 ≤ new_end → 0 < length pages
      → start + length pages ≤ dev.sectors first / 4
      → content ≡ spelled kind 1 new_end start (length pages)
      → new_end ≤ start → are_in_order 1 new_end (bytes_of pages) ≡ true
      → IsStable (dev.candidate mid) (dev.seen mid)
      → ((m : ℕ) → m < 4 * start → dev.seen mid m ≡ dev.seen first m)
      → pages_from (page_at (dev.seen mid)) start (length pages) ≡ bytes_of pages
      → LeavesOnly dev.moment dev.left_since mid after
      (IsImageOf (with_candidate (dev.candidate mid) 0 content))
      → LeavesOnly dev.moment dev.left_since first after
      (λ image. IsEither (file_pages (page_at (dev.seen first)) old_end)
      (file_pages (overlaid (bytes_of pages) (page_at (dev.seen first))) new_end)
      (settled (dev.sectors first / 4) image))
  armed_leaves kind after content new_end pages fits least count room spells above in_order stable others
      written armed =
      let cap : ℕ = dev.sectors first / 4 in
      let new = file_pages (overlaid (bytes_of pages) (page_at (dev.seen first))) new_end in
      let header = says_armed kind (dev.sectors first) new_end start (length pages) content fits least
      above count room spells in
      let both = now_armed cap (dev.seen mid) content new_end start (length pages) (bytes_of pages)
      (length-map pages (λ (p : Page). p.bytes)) header written some in
      then_header dev (λ image. IsEither (file_pages (page_at (dev.seen first)) old_end) new
      (settled cap image)) first mid after content (images_leave new) stable armed
      (inl (staging cap (dev.seen first) (dev.seen mid) old_end start rest.header old some others))
      (inr (armed_over cap (dev.seen first) (with_sector (dev.seen mid) 0 content) new_end start
      (bytes_of pages) both.0 both.1 in_order above
      (λ m pos lt. at_other (dev.seen mid) 0 content m (omega (arith, pos)) ∙ others m lt)))

-- steps 3 and 4, from a device that holds pages
module _ {D : Type 0} (dev : Ghosts D) (first : D) {end start held : ℕ} {redo : Pages}
    (holds : HoldsWaiting (dev.sectors first / 4) end start held redo (dev.candidate first)
    (dev.seen first)) where
  -- only pages that it holds are changed
  pub under_images : (image : Image)
      → ((m : ℕ) → IsOutsideAll redo m → dev.candidate first m (image m))
      → settled (dev.sectors first / 4) image
      ≡ file_of (file_pages (overlaid redo (page_at (dev.seen first))) end)
  under_images image is =
      holds.settles image (λ m out _. holds.stable m (image m) (is m out))

  -- the pages are written at their own numbers
  pub homes_leave : (mid : D) → LeavesOnly dev.moment dev.left_since first mid
      (KeepsWhere (dev.candidate first) (IsOutsideAll redo))
      → LeavesOnly dev.moment dev.left_since first mid
      (λ image. settled (dev.sectors first / 4) image
      ≡ file_of (file_pages (overlaid redo (page_at (dev.seen first))) end))
  homes_leave mid put =
      weaker dev.moment dev.left_since first mid
      (λ image. settled (dev.sectors first / 4) image
      ≡ file_of (file_pages (overlaid redo (page_at (dev.seen first))) end)) _
      put under_images

  -- the commit sector is cleared
  pub clear_leaves : (kind : CommitKind) (mid new : D) (content : List ℕ)
      → LeavesOnly dev.moment dev.left_since first mid
      (λ image. settled (dev.sectors first / 4) image
      ≡ file_of (file_pages (overlaid redo (page_at (dev.seen first))) end))
      → IsStable (dev.candidate mid) (dev.seen mid)
      → ((m : ℕ) → IsOutsideAll redo m → dev.seen mid m ≡ dev.seen first m)
      → ((n : ℕ) → page_at (dev.seen mid) n ≡ overlaid redo (page_at (dev.seen first)) n)
      → dev.sectors first < 2 ^ 32 → 4 ≤ end → end ≤ dev.sectors first / 4
      → content ≡ spelled kind 0 end 0 0
      → LeavesOnly dev.moment dev.left_since mid new
      (IsImageOf (with_candidate (dev.candidate mid) 0 content))
      → LeavesOnly dev.moment dev.left_since first new
      (λ image. settled (dev.sectors first / 4) image
      ≡ file_of (file_pages (overlaid redo (page_at (dev.seen first))) end))
  clear_leaves kind mid new content run stable others written fits least room spells put =
      let cap : ℕ = dev.sectors first / 4 in
      then_header dev (λ image. settled cap image
      ≡ file_of (file_pages (overlaid redo (page_at (dev.seen first))) end)) first mid new
      content run stable put
      (holds.settles (dev.seen mid) (λ m out _. others m out))
      (settled-clear cap (with_sector (dev.seen mid) 0 content) end
      (ap (header_of cap) (at_same (dev.seen mid) 0 content 0 refl)
      ∙ says_clear kind (dev.sectors first) end content fits least room spells)
      ∙ ap file_of (now_clear cap (dev.seen first) (dev.seen mid) content end redo written))

-- steps 3 and 1 with one sync, and then step 2, from a device that holds pages
module _ {D : Type 0} (dev : Ghosts D) (first mid : D) {old_end old_start held : ℕ}
    {waiting : Pages}
    (holds : HoldsWaiting (dev.sectors first / 4) old_end old_start held waiting (dev.candidate first)
    (dev.seen first)) (start count : ℕ) (old : old_end ≤ start)
    (some : 1 ≤ start) (far : (start + count ≤ old_start) ⊎ (old_start + held ≤ start))
    (put : LeavesOnly dev.moment dev.left_since first mid
    (KeepsWhere (dev.candidate first) (IsOutside (4 * start) (4 * (start + count))))) where
  -- only pages that it holds are changed, and sectors of the new images
  waiting_stay : (image : Image)
      → ((m : ℕ) → IsOutsideAll waiting m → IsOutside (4 * start) (4 * (start + count)) m
      → dev.candidate first m (image m))
      → settled (dev.sectors first / 4) image
      ≡ file_of (file_pages (overlaid waiting (page_at (dev.seen first))) old_end)
  waiting_stay image is = beside_held (dev.sectors first / 4) holds start count old far image
      (λ m out apart. holds.stable m (image m) (is m out apart))

  -- the new images are written
  pub beside_leave : (new : Pages) → LeavesOnly dev.moment dev.left_since first mid
      (λ image. IsEither (file_pages (overlaid waiting (page_at (dev.seen first))) old_end) new
      (settled (dev.sectors first / 4) image))
  beside_leave new =
      weaker dev.moment dev.left_since first mid
      (λ image. IsEither (file_pages (overlaid waiting (page_at (dev.seen first))) old_end) new
      (settled (dev.sectors first / 4) image)) _ put
      (λ image is. inl (waiting_stay image (λ m out apart. is m apart)))

  -- and the pages that wait at their own numbers
  pub both_leave : (home : D) (new : Pages)
      → ((m : ℕ) (c : List ℕ) → IsOutside (4 * start) (4 * (start + count)) m
      → dev.candidate mid m c → dev.candidate first m c)
      → LeavesOnly dev.moment dev.left_since mid home
      (KeepsWhere (dev.candidate mid) (IsOutsideAll waiting))
      → LeavesOnly dev.moment dev.left_since first home
      (λ image. IsEither (file_pages (overlaid waiting (page_at (dev.seen first))) old_end) new
      (settled (dev.sectors first / 4) image))
  both_leave home new fewer homes =
      followed_by dev.moment dev.left_since first mid home
      (λ image. IsEither (file_pages (overlaid waiting (page_at (dev.seen first))) old_end) new
      (settled (dev.sectors first / 4) image)) _ (beside_leave new) homes
      (λ image is. inl (waiting_stay image
      (λ m out apart. fewer m (image m) apart (is m out))))

  -- the commit sector is armed over the new images
  pub next_leaves : (home after : D) (content : List ℕ) (new_end : ℕ) (pages : List Page)
      → length pages ≡ count
      → ((m : ℕ) (c : List ℕ) → IsOutside (4 * start) (4 * (start + count)) m
      → dev.candidate mid m c → dev.candidate first m c)
      → ((m : ℕ) → IsOutside (4 * start) (4 * (start + count)) m
      → dev.seen mid m ≡ dev.seen first m)
      → pages_from (page_at (dev.seen mid)) start count ≡ bytes_of pages
      → LeavesOnly dev.moment dev.left_since mid home
      (KeepsWhere (dev.candidate mid) (IsOutsideAll waiting))
      → ((m : ℕ) → IsOutsideAll waiting m → dev.seen home m ≡ dev.seen mid m)
      → ((n : ℕ) → has_page (bytes_of pages) n ≡ false
      → page_at (dev.seen home) n ≡ overlaid waiting (page_at (dev.seen mid)) n)
      → IsStable (dev.candidate home) (dev.seen home)
      → header_of (dev.sectors first / 4) content ≡ Armed new_end start count
      → new_end ≤ start → are_in_order 1 new_end (bytes_of pages) ≡ true
      → LeavesOnly dev.moment dev.left_since home after
      (IsImageOf (with_candidate (dev.candidate home) 0 content))
      → LeavesOnly dev.moment dev.left_since first after
      (λ image. IsEither (file_pages (overlaid waiting (page_at (dev.seen first))) old_end)
      (file_pages (overlaid (bytes_of pages) (overlaid waiting (page_at (dev.seen first)))) new_end)
      (settled (dev.sectors first / 4) image))
  next_leaves home after content new_end pages long fewer beside written homes others at_home stable
      header above in_order armed =
      let cap : ℕ = dev.sectors first / 4 in
      let before = overlaid waiting (page_at (dev.seen first)) in
      let new = file_pages (overlaid (bytes_of pages) before) new_end in
      let both = now_armed cap (dev.seen home) content new_end start count (bytes_of pages)
      (length-map pages (λ (p : Page). p.bytes) ∙ long) header
      (images_stay (dev.seen mid) (dev.seen home) old_end start count waiting (bytes_of pages)
      holds.in_order old others written) some in
      then_header dev (λ image. IsEither (file_pages before old_end) new (settled cap image)) first
      home after content (both_leave home new fewer homes) stable armed
      (inl (beside_held cap holds start count old far (dev.seen home)
      (λ m out apart. others m out ∙ beside m apart)))
      (inr (armed_over cap (dev.seen home) (with_sector (dev.seen home) 0 content) new_end start
      (bytes_of pages) both.0 both.1 in_order above
      (λ m pos lt. at_other (dev.seen home) 0 content m (omega (arith, pos)))
      ∙ ap file_of (same_file (overlaid (bytes_of pages) (page_at (dev.seen home)))
      (overlaid (bytes_of pages) before) new_end
      (λ n ge lt. overlaid-over (bytes_of pages) before (page_at (dev.seen home)) n
      (λ apart. now_home (dev.seen first) (dev.seen mid) (dev.seen home) start waiting n
      (at_home n (apart-has_page (bytes_of pages) n apart))
      (λ m low. beside m (inl low)) (omega (arith, lt, above)))))))
