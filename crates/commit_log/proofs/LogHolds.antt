-- What a logged commit rests on: the sectors of its log, and the pages in front of its end that don't
-- wait.
use Rattle.std.proofs.Common.{◌≡◌, ◌⊎◌, inl, inr, ℕ, false, ◌+◌, ◌*◌, ◌<◌, ◌≤◌, ◌∙◌, ap, arith}
use Rattle.sect_dev.specs.Device.{Image, Candidates}
use Rattle.page_io.specs.Page.{page_at}
use Rattle.page_io.specs.Store.{Pages, file_of, file_pages, overlaid}
use Rattle.page_io.proofs.Overlays.{same_file, overlaid-over}
use Rattle.page_io.proofs.PageLaws.{same_page}
use Rattle.commit_log.specs.Homes.{IsOutsideAll}
use Rattle.commit_log.specs.Log.{slot_of, log_by, is_disordered, settled_at, ArePlaces, IsLogged}
use Rattle.commit_log.proofs.Finds.{same_slots, same_disorder}
use Rattle.commit_log.proofs.Logs.{by_slots, either_place, turned, at_least, number_within}
use Rattle.commit_log.proofs.Outside.{outside-above, outside-apart}

at_most : (start at beside : ℕ) → ArePlaces start at beside → at ≤ 4 * start + 64
at_most start at beside places = elim (either_place start at beside places) [
  | inl p ↦ omega (arith, p.0)
  | inr p ↦ omega (arith, p.0)
]

module _ {candidate : Candidates} {seen : Image} {end start number at beside : ℕ} {waiting : Pages}
    (is : IsLogged end start number at beside waiting candidate seen) (image : Image)
    (same : (m : ℕ) → IsOutsideAll waiting m
    → (m < 4 * end) ⊎ ((4 * start ≤ m) × (m < 4 * start + 128)) → image m ≡ seen m) where
  in_slot : (from k : ℕ) → 4 * start ≤ from → from ≤ 4 * start + 64 → k < 61
      → image (from + k) ≡ seen (from + k)
  in_slot from k low high lt = same (from + k)
      (outside-above 1 end waiting (from + k) is.in_order (omega (arith, low, is.above)))
      (inr (omega (arith, low), omega (arith, high, lt)))

  slot_stays : (from : ℕ) → 4 * start ≤ from → from ≤ 4 * start + 64
      → log_by start (slot_of image from) ≡ log_by start (slot_of seen from)
  slot_stays from low high = same_slots start (slot_of image from) (slot_of seen from)
      (λ k lt. in_slot from k low high lt)

  ordered_stays : is_disordered start (slot_of image beside) ≡ false
  ordered_stays =
      let other = turned start at beside is.places in
      same_disorder start (slot_of image beside) (slot_of seen beside)
      (λ k lt. in_slot beside k (at_least start beside at other) (at_most start beside at other) lt)
      ∙ is.ordered

  pub log_holds : settled_at image start
      ≡ file_of (file_pages (overlaid waiting (page_at seen)) end)
  log_holds =
      let o = log_by start (slot_of seen beside) in
      let other = turned start at beside is.places in
      by_slots image start at beside o (record { number = number; end = end; pages = waiting })
      is.places
      (slot_stays at (at_least start at beside is.places) (at_most start at beside is.places)
      ∙ is.newest)
      (slot_stays beside (at_least start beside at other) (at_most start beside at other))
      ordered_stays (omega (arith, number_within start (slot_of seen beside), is.lower 0 (omega arith))) is.some
      ∙ ap file_of (same_file (overlaid waiting (overlaid o.pages (page_at image)))
      (overlaid waiting (page_at seen)) end
      (λ n ge lt. overlaid-over waiting (overlaid o.pages (page_at seen))
      (overlaid o.pages (page_at image)) n
      (λ apart. overlaid-over o.pages (page_at seen) (page_at image) n
      (λ _. same_page image seen n
      (λ m ge4 lt4. same m (outside-apart waiting n m apart ge4 lt4)
      (inl (omega (arith, lt, lt4)))))) ∙ is.said n))
