-- What a stop may leave while a log begins.
use Rattle.std.proofs.Common.{◌≡◌, ◌⊎◌, inl, inr, ◌<◌, ◌≤◌, ◌*◌, ◌+◌, ◌/◌, ◌^◌, ℕ, List, false, refl, ◌∙◌, ap, arith}
use Rattle.sect_dev.specs.Device.{Image, IsImageOf, with_sector, with_candidate, LeavesOnly}
use Rattle.sect_dev.specs.Moments.{weaker}
use Rattle.sect_dev.specs.declared.device.SectorDev.{Ghosts}
use Rattle.page_io.specs.Page.{page_at, IsOutside, KeepsWhere}
use Rattle.page_io.specs.Store.{Pages, file_of, file_pages, overlaid, has_page, IsEither}
use Rattle.page_io.proofs.Overlays.{same_file, overlaid-over, apart-has_page}
use Rattle.page_io.proofs.PageLaws.{at_same, at_other}
use Rattle.commit_log.specs.Log.{IsLogged, IsBesideLog}
use Rattle.commit_log.proofs.Logs.{home_settles}
use Rattle.redo_area.specs.Header.{header_of, spelled}
use Rattle.redo_area.specs.declared.header.CommitKind.TheVariants.{Log}
use Rattle.redo_area.specs.File.{settled, HoldsWaiting}
use Rattle.redo_area.proofs.Headers.{says_logging}
use Rattle.redo_area.proofs.Images.{beside_held, settled-logging}
use Rattle.redo_area.proofs.CommitRuns.{then_header}

outside_log : (place m : ℕ) → IsOutside (4 * place) (4 * (place + 32)) m
    → IsOutside (4 * place) (4 * place + 128) m
outside_log place m (inl below) = inl below
outside_log place m (inr above) = inr (omega (arith, above))

module _ {D : Type 0} (dev : Ghosts D) (first mid : D) {old_end start held place : ℕ}
    {waiting : Pages}
    (holds : HoldsWaiting (dev.sectors first / 4) old_end start held waiting (dev.candidate first)
    (dev.seen first)) (old : old_end ≤ place)
    (far : (place + 32 ≤ start) ⊎ (start + held ≤ place))
    (put : LeavesOnly dev.moment dev.left_since first mid
    (KeepsWhere (dev.candidate first) (IsBesideLog place waiting))) where
  abbrev pub before : Pages
  before = file_pages (overlaid waiting (page_at (dev.seen first))) old_end

  stay : (image : Image) → ((m : ℕ) → IsBesideLog place waiting m → image m ≡ dev.seen first m)
      → settled (dev.sectors first / 4) image ≡ file_of before
  stay image same =
      beside_held (dev.sectors first / 4) holds place 32 old far image
      (λ m out apart. same m (outside_log place m apart, out))

  -- the log is written, and the pages that wait at their own numbers
  pub log_written : (new : Pages) → LeavesOnly dev.moment dev.left_since first mid
      (λ image. IsEither before new (settled (dev.sectors first / 4) image))
  log_written new =
      weaker dev.moment dev.left_since first mid
      (λ image. IsEither before new (settled (dev.sectors first / 4) image)) _ put
      (λ image keeps. inl (stay image (λ m out. holds.stable m (image m) (keeps m out))))

  -- the commit sector names the log
  pub log_named : (after : D) (content : List ℕ) {new_end number at beside : ℕ} {pages : Pages}
      → IsLogged new_end place number at beside pages (dev.candidate mid) (dev.seen mid)
      → ((m : ℕ) → IsBesideLog place waiting m → dev.seen mid m ≡ dev.seen first m)
      → ((n : ℕ) → n < place → has_page pages n ≡ false
      → page_at (dev.seen mid) n ≡ overlaid waiting (page_at (dev.seen first)) n)
      → dev.sectors first < 2 ^ 32 → place + 32 ≤ dev.sectors first / 4
      → content ≡ spelled Log 2 new_end place 0
      → LeavesOnly dev.moment dev.left_since mid after
      (IsImageOf (with_candidate (dev.candidate mid) 0 content))
      → LeavesOnly dev.moment dev.left_since first after
      (λ image. IsEither before
      (file_pages (overlaid pages (overlaid waiting (page_at (dev.seen first)))) new_end)
      (settled (dev.sectors first / 4) image))
  log_named after content {new_end} {number} {at} {beside} {pages} logged others homes fits room
      spells named =
      let cap : ℕ = dev.sectors first / 4 in
      let image : Image = with_sector (dev.seen mid) 0 content in
      let new = file_pages (overlaid pages (overlaid waiting (page_at (dev.seen first)))) new_end in
      then_header dev (λ image. IsEither before new (settled cap image)) first mid after content
      (log_written new) logged.stable named (inl (stay (dev.seen mid) others))
      (inr (settled-logging cap image place
      (ap (header_of cap) (at_same (dev.seen mid) 0 content 0 refl)
      ∙ says_logging (dev.sectors first) new_end place content fits logged.least logged.above room
      spells)
      ∙ home_settles logged image (λ m pos out. at_other (dev.seen mid) 0 content m
      (omega (arith, pos)))
      ∙ ap file_of (same_file (overlaid pages (page_at (dev.seen mid)))
      (overlaid pages (overlaid waiting (page_at (dev.seen first)))) new_end
      (λ n ge lt. overlaid-over pages (overlaid waiting (page_at (dev.seen first)))
      (page_at (dev.seen mid)) n (λ apart. homes n (omega (arith, lt, logged.above))
      (apart-has_page pages n apart))))))
