-- A log stays as it is where the commit sector is written.
use Rattle.std.proofs.Common.{◌≡◌, inl, inr, ℕ, ◌+◌, ◌*◌, ◌<◌, ◌≤◌, List, true, false, sym, ◌∙◌, ap, arith}
use Rattle.std.proofs.lemmas.Bool.{cases_eq}
use Rattle.sect_dev.specs.Device.{Image, Candidates, IsStable}
use Rattle.page_model.specs.Bytes.{u32_at}
use Rattle.page_io.specs.Page.{page_at}
use Rattle.page_io.specs.Store.{Pages, overlaid, are_in_order, has_page}
use Rattle.page_io.proofs.Overlays.{overlaid-over, overlaid-none, has_page-none}
use Rattle.page_io.proofs.PageLaws.{same_page}
use Rattle.page_io.proofs.StagedPages.{in_range}
use Rattle.commit_log.specs.Log.{Log, slot_of, log_by, IsLogged}
use Rattle.commit_log.proofs.Finds.{same_slots, same_disorder}
use Rattle.commit_log.proofs.Logs.{at_least, turned}
use Rattle.commit_log.proofs.Redone.{good_log}

-- no page of a row from 1 on is page 0
none_at_zero : (end : ℕ) (pages : Pages) (n : ℕ) → are_in_order 1 end pages ≡ true → n ≡ 0
    → has_page pages n ≡ false
none_at_zero end pages n order zero =
    has_page-none pages n (λ k lt is. omega (arith, (in_range 1 end pages k order lt).0, is, zero))

module _ {candidate : Candidates} {seen : Image} {end start number at beside : ℕ} {waiting : Pages}
    (is : IsLogged end start number at beside waiting candidate seen) (now : Candidates)
    (image : Image) (stable : IsStable now image)
    (same : (m : ℕ) → 0 < m → image m ≡ seen m) where
  in_slot : (from k : ℕ) → 4 * start ≤ from → image (from + k) ≡ seen (from + k)
  in_slot from k le = same (from + k) (omega (arith, le, is.least, is.above))

  at_low : 4 * start ≤ at
  at_low = at_least start at beside is.places

  beside_low : 4 * start ≤ beside
  beside_low = at_least start beside at (turned start at beside is.places)

  says_still : (from : ℕ) → 4 * start ≤ from
      → log_by start (slot_of image from) ≡ log_by start (slot_of seen from)
  says_still from le = same_slots start (slot_of image from) (slot_of seen from)
      (λ k lt. in_slot from k le)

  said_still : (n : ℕ)
      → overlaid waiting (overlaid (log_by start (slot_of image beside)).pages (page_at image)) n
      ≡ overlaid waiting (page_at image) n
  said_still n =
      let o = log_by start (slot_of seen beside) in
      ap (λ (l : Log). overlaid waiting (overlaid l.pages (page_at image)) n)
      (says_still beside beside_low)
      ∙ elim (cases_eq n 0) [
        | inl zero ↦ overlaid-over waiting (page_at image) (overlaid o.pages (page_at image)) n
            (λ _. overlaid-none o.pages (page_at image) n
            (none_at_zero o.end o.pages n (good_log start (slot_of seen beside)).in_order zero))
        | inr other ↦
            let page : page_at image n ≡ page_at seen n =
            same_page image seen n (λ m ge lt. same m (omega (arith, other, ge))) in
            overlaid-over waiting (overlaid o.pages (page_at seen))
            (overlaid o.pages (page_at image)) n
            (λ _. overlaid-over o.pages (page_at seen) (page_at image) n (λ _. page))
            ∙ is.said n
            ∙ sym (overlaid-over waiting (page_at seen) (page_at image) n (λ _. page))
      ]

  pub still_logged : IsLogged end start number at beside waiting now image
  still_logged = record {
    stable = stable;
    places = is.places;
    newest = says_still at at_low ∙ is.newest;
    some = is.some;
    in_order = is.in_order;
    least = is.least;
    above = is.above;
    highest = λ k lt. omega (
      arith,
      is.highest k lt,
      ap (λ (s : List ℕ). u32_at s 0) (in_slot at k at_low),
    );
    lower = λ k lt. omega (
      arith,
      is.lower k lt,
      ap (λ (s : List ℕ). u32_at s 0) (in_slot beside k beside_low),
    );
    ordered = same_disorder start (slot_of image beside) (slot_of seen beside)
        (λ k lt. in_slot beside k beside_low) ∙ is.ordered;
    said = said_still;
  }
