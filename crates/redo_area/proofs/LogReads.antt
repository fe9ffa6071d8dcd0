-- Pages of logs that are read into memory.
use Rattle.std.proofs.Common.{◌≡◌, inl, inr, ℕ, ◌+◌, ◌*◌, ◌<◌, ◌≤◌, List, ◌∷◌, ◌++◌, [], Bool, true, cond, eqb, sym, ◌∙◌, ap, arith}
use Rattle.std.proofs.lemmas.Bool.{cases_eq, lt-ltb, le-ltb}
use Rattle.sect_dev.specs.Device.{Image}
use Rattle.page_io.specs.Page.{page_at, own_number}
use Rattle.page_io.specs.Store.{Pages, with_page, overlaid, are_in_order, put_page}
use Rattle.page_io.proofs.Overlays.{overlaid-push, with_page-same, with_page-other}
use Rattle.page_io.proofs.StagedPages.{overlaid-put, overlaid-put_other}
use Rattle.commit_log.specs.Log.{Log, slot_of, log_by, settled_newer, settled_logs, settled_at}

-- a page put among others that are read
pub put_one : (least high : ℕ) (items : Pages) (home : ℕ → List ℕ) (page : List ℕ) (n : ℕ)
    → are_in_order least high items ≡ true
    → overlaid (put_page items page) home n ≡ with_page (overlaid items home) page n
put_one least high items home page n order = elim (cases_eq (own_number page) n) [
  | inl same ↦ overlaid-put least high items home page n order same
      ∙ sym (with_page-same (overlaid items home) page n same)
  | inr other ↦ overlaid-put_other items home page n other
      ∙ sym (with_page-other (overlaid items home) page n other)
]

-- one page more of a log, over all before it
pub page_more : (least high : ℕ) (items so_far : Pages) (home old : ℕ → List ℕ) (page : List ℕ)
    (n : ℕ) → are_in_order least high items ≡ true
    → overlaid items home n ≡ overlaid so_far old n
    → overlaid (put_page items page) home n ≡ overlaid (so_far ++ page ∷ []) old n
page_more least high items so_far home old page n order is =
    put_one least high items home page n order
    ∙ ap (λ (c : List ℕ). cond (eqb (own_number page) n) page c) is
    ∙ sym (ap (λ (f : ℕ → List ℕ). f n) (overlaid-push so_far old page))

-- one that is left out, from the end on
pub page_left : (items so_far : Pages) (home old : ℕ → List ℕ) (page : List ℕ) (n end : ℕ)
    → end ≤ own_number page → n < end
    → overlaid items home n ≡ overlaid so_far old n
    → overlaid items home n ≡ overlaid (so_far ++ page ∷ []) old n
page_left items so_far home old page n end above lt is =
    is ∙ sym (with_page-other (overlaid so_far old) page n (λ same. omega (arith, same, above, lt)))
    ∙ sym (ap (λ (f : ℕ → List ℕ). f n) (overlaid-push so_far old page))
