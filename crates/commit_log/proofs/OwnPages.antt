-- The pages of a slice, one after another.
use Rattle.std.proofs.Common.{◌≡◌, ◌≢◌, ◌<◌, ◌≤◌, ◌+◌, ◌*◌, ℕ, List, [], length, take, get_or, true, false, ◌∙◌, sym, ap, arith}
use Rattle.std.proofs.lemmas.Bool.{false≢true}
use Rattle.std.proofs.lemmas.List.{length-map}
use Rattle.page_io.specs.Page.{own_number}
use Rattle.page_io.specs.Store.{Pages, overlaid, are_in_order, has_page, bytes_of}
use Rattle.page_io.specs.declared.page.Page.{Page}
use Rattle.page_io.proofs.Overlays.{overlaid-push, with_page-same, with_page-other}
use Rattle.page_io.proofs.PageLists.{bytes_more, bytes_at}
use Rattle.commit_log.proofs.Outside.{below_end}

-- the number of the page at an index
pub own_at : (pages : List Page) (idx : ℕ) (page : Page) (own : ℕ) → idx < length pages
    → page ≡ get_or pages idx page → own ≡ own_number page.bytes
    → own_number (get_or (bytes_of pages) idx []) ≡ own
own_at pages idx page own lt is owns = ap own_number (bytes_at pages idx page lt is) ∙ sym owns

module _ (pages : List Page) (idx : ℕ) (page : Page) (home : ℕ → List ℕ) (n : ℕ)
    (lt : idx < length pages) (is : page ≡ get_or pages idx page) where
  -- a page of another number is passed over
  pub passed_other : own_number page.bytes ≢ n
      → overlaid (bytes_of (take (idx + 1) pages)) home n
      ≡ overlaid (bytes_of (take idx pages)) home n
  passed_other other =
      let so_far = bytes_of (take idx pages) in
      ap (λ (ps : Pages). overlaid ps home n) (bytes_more pages idx page lt is)
      ∙ ap (λ (f : ℕ → List ℕ). f n) (overlaid-push so_far home page.bytes)
      ∙ with_page-other (overlaid so_far home) page.bytes n other

  -- a page of this number stands over those before it
  pub passed_same : own_number page.bytes ≡ n
      → overlaid (bytes_of (take (idx + 1) pages)) home n ≡ page.bytes
  passed_same same =
      let so_far = bytes_of (take idx pages) in
      ap (λ (ps : Pages). overlaid ps home n) (bytes_more pages idx page lt is)
      ∙ ap (λ (f : ℕ → List ℕ). f n) (overlaid-push so_far home page.bytes)
      ∙ with_page-same (overlaid so_far home) page.bytes n same

-- a page that newer ones have is none of those that they don't have
pub replaced : (newer : Pages) (own n : ℕ) → has_page newer own ≡ true
    → has_page newer n ≡ false → own ≢ n
replaced newer own n has none same = false≢true (sym none ∙ ap (has_page newer) (sym same) ∙ has)

-- pages in front of a page are on the device
pub fit : (pages : List Page) (end start sectors : ℕ) → are_in_order 1 end (bytes_of pages) ≡ true
    → end ≤ start → 4 * start ≤ sectors → (k : ℕ) → k < length pages
    → 4 * own_number (get_or (bytes_of pages) k []) + 4 ≤ sectors
fit pages end start sectors order above room k lt =
    let below = below_end 1 end (bytes_of pages) k order
    (omega (arith, lt, length-map pages (λ (p : Page). p.bytes))) in
    omega (arith, below, above, room)
