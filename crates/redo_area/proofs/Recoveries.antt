-- What a stop may leave while opening ends a commit, call by call.
use Rattle.std.proofs.Common.{◌≡◌, ◌<◌, ◌≤◌, ◌/◌, ◌^◌, ℕ, List, true, refl, sym, ◌∙◌, ap, subst}
use Rattle.sect_dev.specs.Device.{Image, IsImageOf, IsStable, NoNewCandidate, with_candidate, Elapses, LeavesOnly}
use Rattle.sect_dev.specs.Moments.{only_image, fewer_images, started, by_call, followed_by, weaker, goes_on}
use Rattle.sect_dev.specs.Reads.{OnlyReads}
use Rattle.sect_dev.specs.declared.device.SectorDev.{Ghosts}
use Rattle.page_io.specs.Page.{page_at, KeepsWhere}
use Rattle.page_io.specs.Store.{Pages, file_of, pages_from, file_pages, overlaid, are_in_order}
use Rattle.page_io.specs.Counts.{length-pages_from}
use Rattle.redo_area.specs.Header.{header_of, spelled}
use Rattle.redo_area.specs.declared.header.CommitKind.{CommitKind}
use Rattle.redo_area.specs.declared.header.Header.TheVariants.{Armed}
use Rattle.redo_area.specs.File.{settled, redo_images, SettlesAsBefore, IsOutsideAll, HoldsWaiting}
use Rattle.redo_area.proofs.Images.{settled-armed}
use Rattle.redo_area.proofs.CommitRuns.{under_images, homes_leave, clear_leaves}

-- before any call, where all is on the disk
pub untouched : {D : Type 0} (dev : Ghosts D) (first : D)
    → IsStable (dev.candidate first) (dev.seen first)
    → ((image : Image) → dev.left_since first (dev.moment first).at image
    → IsImageOf (dev.candidate first) image)
    → LeavesOnly dev.moment dev.left_since first first
    (λ image. settled (dev.sectors first / 4) image
    ≡ settled (dev.sectors first / 4) (dev.seen first))
untouched dev first stable only_now =
    started dev.moment dev.left_since first
    (λ image. settled (dev.sectors first / 4) image
    ≡ settled (dev.sectors first / 4) (dev.seen first))
    (λ image left. ap (settled (dev.sectors first / 4))
    (only_image (dev.candidate first) (dev.seen first) image stable (only_now image left)))

-- calls that add no candidate
pub as_before : {D : Type 0} (dev : Ghosts D) (first new : D)
    → LeavesOnly dev.moment dev.left_since first new (IsImageOf (dev.candidate first))
    → LeavesOnly dev.moment dev.left_since first new
    (SettlesAsBefore (dev.sectors first / 4) (dev.candidate first))
as_before dev first new run =
    weaker dev.moment dev.left_since first new
    (SettlesAsBefore (dev.sectors first / 4) (dev.candidate first))
    (IsImageOf (dev.candidate first)) run (λ image is. (image, is, refl))

-- and then reads, where all is on the disk
module _ {D : Type 0} (dev : Ghosts D) (first mid new : D)
    (run : LeavesOnly dev.moment dev.left_since first mid (IsImageOf (dev.candidate first)))
    (start : IsImageOf (dev.candidate first) (dev.seen mid))
    (stable : IsStable (dev.candidate mid) (dev.seen mid)) where
  only_mid : (image : Image) → IsImageOf (dev.candidate mid) image
      → IsImageOf (dev.candidate first) image
  only_mid image is = subst (IsImageOf (dev.candidate first))
      (sym (only_image (dev.candidate mid) (dev.seen mid) image stable is)) start

  pub read_behind : OnlyReads dev mid new → LeavesOnly dev.moment dev.left_since first new
      (SettlesAsBefore (dev.sectors first / 4) (dev.candidate first))
  read_behind reads =
      as_before dev first new
      (followed_by dev.moment dev.left_since first mid new (IsImageOf (dev.candidate first))
      (IsImageOf (dev.candidate mid)) run reads.any_moment only_mid)

  -- and what is found there is settled
  pub settled_behind : (after : D) → OnlyReads dev mid new
      → dev.sectors new ≡ dev.sectors mid → dev.sectors mid ≡ dev.sectors first
      → LeavesOnly dev.moment dev.left_since new after
      (λ image. settled (dev.sectors new / 4) image
      ≡ settled (dev.sectors new / 4) (dev.seen new))
      → LeavesOnly dev.moment dev.left_since first after
      (SettlesAsBefore (dev.sectors first / 4) (dev.candidate first))
  settled_behind after reads size size_mid run_after =
      followed_by dev.moment dev.left_since first new after
      (SettlesAsBefore (dev.sectors first / 4) (dev.candidate first)) _ (read_behind reads)
      run_after
      (λ image is. (
        dev.seen new,
        subst (IsImageOf (dev.candidate first)) (sym reads.seen) start,
        subst (λ (s : ℕ). settled (s / 4) image ≡ settled (s / 4) (dev.seen new))
            (size ∙ size_mid) is,
      ))

-- a sync
module _ {D : Type 0} (dev : Ghosts D) (first mid : D)
    (only_now : (image : Image) → dev.left_since first (dev.moment first).at image
    → IsImageOf (dev.candidate first) image)
    (time : Elapses (dev.moment first) (dev.moment mid) (dev.left_since first) (dev.left_since mid)
    (IsImageOf (dev.candidate mid)))
    (fewer : NoNewCandidate (dev.candidate first) (dev.candidate mid)) where
  pub sync_alone : LeavesOnly dev.moment dev.left_since first mid (IsImageOf (dev.candidate first))
  sync_alone =
      by_call dev.moment dev.left_since first mid (IsImageOf (dev.candidate first))
      (IsImageOf (dev.candidate mid)) only_now time
      (λ image is. fewer_images (dev.candidate first) (dev.candidate mid) image fewer is)

  -- and a read behind it
  module _ (new : D) (fewer' : NoNewCandidate (dev.candidate mid) (dev.candidate new)) where
    pub sync_and_read : Elapses (dev.moment mid) (dev.moment new) (dev.left_since mid)
        (dev.left_since new) (IsImageOf (dev.candidate new))
        → LeavesOnly dev.moment dev.left_since first new (IsImageOf (dev.candidate first))
    sync_and_read time' =
        goes_on dev.moment dev.left_since first mid new (IsImageOf (dev.candidate first))
        (IsImageOf (dev.candidate new)) sync_alone time'
        (λ image is m. fewer m (image m) (fewer' m (image m) (is m)))

    pub still_at_start : IsImageOf (dev.candidate new) (dev.seen new)
        → IsImageOf (dev.candidate first) (dev.seen new)
    still_at_start seen m = fewer m (dev.seen new m) (fewer' m (dev.seen new m) (seen m))

-- pages that a device holds come home, and a sync
module _ {D : Type 0} (dev : Ghosts D) (first mid synced : D) {end start held : ℕ} {redo : Pages}
    (holds : HoldsWaiting (dev.sectors first / 4) end start held redo (dev.candidate first)
    (dev.seen first))
    (put : LeavesOnly dev.moment dev.left_since first mid
    (KeepsWhere (dev.candidate first) (IsOutsideAll redo)))
    (candidates : (m : ℕ) (c : List ℕ) → IsOutsideAll redo m → dev.candidate mid m c
    → dev.candidate first m c)
    (time : Elapses (dev.moment mid) (dev.moment synced) (dev.left_since mid)
    (dev.left_since synced) (IsImageOf (dev.candidate synced)))
    (fewer : NoNewCandidate (dev.candidate mid) (dev.candidate synced)) where
  pub sync_leaves : LeavesOnly dev.moment dev.left_since first synced
      (λ image. settled (dev.sectors first / 4) image
      ≡ file_of (file_pages (overlaid redo (page_at (dev.seen first))) end))
  sync_leaves =
      goes_on dev.moment dev.left_since first mid synced
      (λ image. settled (dev.sectors first / 4) image
      ≡ file_of (file_pages (overlaid redo (page_at (dev.seen first))) end))
      (IsImageOf (dev.candidate synced))
      (homes_leave dev first holds mid put) time
      (λ image is. under_images dev first holds image
      (λ m out. candidates m (image m) out (fewer m (image m) (is m))))

  -- and the commit sector is cleared
  pub replay_leaves : (kind : CommitKind) (new : D) (content : List ℕ) → dev.seen synced ≡ dev.seen mid
      → IsStable (dev.candidate synced) (dev.seen synced)
      → ((m : ℕ) → IsOutsideAll redo m → dev.seen mid m ≡ dev.seen first m)
      → ((n : ℕ) → page_at (dev.seen mid) n ≡ overlaid redo (page_at (dev.seen first)) n)
      → dev.sectors first < 2 ^ 32 → 4 ≤ end → end ≤ dev.sectors first / 4
      → content ≡ spelled kind 0 end 0 0
      → LeavesOnly dev.moment dev.left_since synced new
      (IsImageOf (with_candidate (dev.candidate synced) 0 content))
      → LeavesOnly dev.moment dev.left_since first new
      (λ image. settled (dev.sectors first / 4) image
      ≡ file_of (file_pages (overlaid redo (page_at (dev.seen first))) end))
  replay_leaves kind new content same stable others written fits least room spells cleared =
      clear_leaves dev first holds kind synced new content sync_leaves stable
      (λ m out. ap (λ (s : Image). s m) same ∙ others m out)
      (λ n. ap (λ (s : Image). page_at s n) same ∙ written n)
      fits least room spells cleared

-- a device whose commit sector is armed
module _ {D : Type 0} (dev : Ghosts D) (first mid : D)
    (stable : IsStable (dev.candidate first) (dev.seen first)) where
  -- its images are only read
  pub check_leaves : LeavesOnly dev.moment dev.left_since first mid
      (IsImageOf (dev.candidate first))
      → LeavesOnly dev.moment dev.left_since first mid
      (λ image. settled (dev.sectors first / 4) image
      ≡ settled (dev.sectors first / 4) (dev.seen first))
  check_leaves run =
      weaker dev.moment dev.left_since first mid
      (λ image. settled (dev.sectors first / 4) image
      ≡ settled (dev.sectors first / 4) (dev.seen first))
      (IsImageOf (dev.candidate first)) run
      (λ image is. ap (settled (dev.sectors first / 4))
      (only_image (dev.candidate first) (dev.seen first) image stable is))

  -- they are sound
  module _ (end start count : ℕ)
      (header : header_of (dev.sectors first / 4) (dev.seen first 0) ≡ Armed end start count)
      (order : are_in_order 1 end (redo_images (dev.seen first) start count) ≡ true)
      (size : dev.sectors mid ≡ dev.sectors first) (same : dev.seen mid ≡ dev.seen first) where
    -- and copied
    pub copy_leaves : (new : D) → LeavesOnly dev.moment dev.left_since first mid
        (IsImageOf (dev.candidate first))
        → LeavesOnly dev.moment dev.left_since mid new
        (λ image. settled (dev.sectors mid / 4) image
        ≡ file_of (file_pages (overlaid (redo_images (dev.seen mid) start count)
        (page_at (dev.seen mid))) end))
        → LeavesOnly dev.moment dev.left_since first new
        (λ image. settled (dev.sectors first / 4) image
        ≡ settled (dev.sectors first / 4) (dev.seen first))
    copy_leaves new run copied =
        let cap : ℕ = dev.sectors first / 4 in
        let long = length-pages_from (page_at (dev.seen first)) start count in
        let whole = settled-armed cap (dev.seen first) end start
        (redo_images (dev.seen first) start count) (header ∙ ap (Armed end start) (sym long))
        (ap (pages_from (page_at (dev.seen first)) start) long) order in
        followed_by dev.moment dev.left_since first mid new
        (λ image. settled cap image ≡ settled cap (dev.seen first)) _ (check_leaves run) copied
        (λ image is. ap (λ (s : ℕ). settled (s / 4) image) (sym size) ∙ is
        ∙ ap (λ (s : Image). file_of (file_pages
        (overlaid (redo_images s start count) (page_at s)) end)) same ∙ sym whole)
