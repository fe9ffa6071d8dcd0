-- Laws of the committed pages of a group.
use Rattle.std.proofs.Common.{◌≡◌, inl, inr, ℕ, ◌+◌, ◌-◌, ◌<◌, ◌≤◌, List, [], length, get_or, true, false, sym, ◌∙◌, ap, arith}
use Rattle.std.proofs.lemmas.Bool.{cases_lt}
use Rattle.page_io.specs.Store.{Pages, pages_from, page_of, overlaid, has_page, are_in_order, committed_with, AllBelow}
use Rattle.page_io.proofs.Overlays.{same_file, page_of-file, overlaid-staged, overlaid-none}
use Rattle.page_io.proofs.StagedPages.{order_below, order_wider, in_range, replaced}
use Rattle.page_group.specs.Changed.{put_all}
use Rattle.page_group.specs.Whole.{IsWhole}
use Rattle.page_group.proofs.Putting.{AreWithin, order-put_all, has_page-put_all, overlaid-put_all}
use Rattle.page_io.proofs.Memory.{listed}

-- with no page changed they are the base's
pub none_changed : (base changed : Pages) (end : ℕ) → changed ≡ [] → length base + 1 ≡ end
    → committed_with base changed end ≡ base
none_changed base changed end none ends =
    let count : end - 1 ≡ length base = omega (arith, ends) in
    ap (λ (ps : Pages). committed_with base ps end) none
    ∙ ap (pages_from (page_of base) 1) count
    ∙ listed base (page_of base) 1 (λ i lt.
    let place : 1 + i - 1 ≡ i = omega arith in
    ap (λ (k : ℕ). get_or base k []) place)

-- a committed page is the changed one, else the base's
pub changed_one : (base changed : Pages) (end n : ℕ) (bytes : List ℕ) (old : ℕ → List ℕ) → 1 ≤ n
    → n < end → has_page changed n ≡ true → bytes ≡ overlaid changed old n
    → bytes ≡ page_of (committed_with base changed end) n
changed_one base changed end n bytes old some within has is =
    is ∙ overlaid-staged changed (page_of base) old n has
    ∙ sym (page_of-file (overlaid changed (page_of base)) end n some within)

pub base_one : (base changed : Pages) (end n : ℕ) (bytes : List ℕ) → 1 ≤ n → n < end
    → has_page changed n ≡ false → bytes ≡ page_of base n
    → bytes ≡ page_of (committed_with base changed end) n
base_one base changed end n bytes some within none is =
    is ∙ sym (overlaid-none changed (page_of base) n none)
    ∙ sym (page_of-file (overlaid changed (page_of base)) end n some within)

-- ---- a commit

module _ (base changed staged : Pages) (high old_end new_end : ℕ)
    (changed_order : are_in_order 1 old_end changed ≡ true)
    (staged_order : are_in_order 1 high staged ≡ true) (below : AllBelow new_end staged)
    (longer : old_end ≤ new_end) where
  within : AreWithin 1 new_end staged
  within k lt = in_range 1 new_end staged k (order_below 1 high new_end staged staged_order below) lt

  pub committed_order : are_in_order 1 new_end (put_all changed staged) ≡ true
  committed_order = order-put_all 1 new_end changed staged
      (order_wider 1 old_end new_end changed longer changed_order) within

  -- what it makes of the committed pages
  pub committed_now : ((n : ℕ) → old_end ≤ n → n < new_end → has_page staged n ≡ true)
      → committed_with base (put_all changed staged) new_end
      ≡ committed_with (committed_with base changed old_end) staged new_end
  committed_now grown = let home = overlaid changed (page_of base) in
      same_file (overlaid (put_all changed staged) (page_of base)) (overlaid staged home) new_end
      (λ n ge lt. overlaid-put_all 1 new_end changed staged (page_of base) n
      (order_wider 1 old_end new_end changed longer changed_order) within)
      ∙ replaced home old_end new_end staged grown

  -- all is held of them that was held before
  pub whole_now : (base_end : ℕ) → IsWhole base_end changed old_end
      → ((n : ℕ) → old_end ≤ n → n < new_end → has_page staged n ≡ true)
      → IsWhole base_end (put_all changed staged) new_end
  whole_now base_end whole grown = record {
    below = committed_order;
    grown = λ n ge lt. has_page-put_all changed staged n (elim (cases_lt n old_end) [
      | inl old ↦ inl (whole.grown n ge old)
      | inr new ↦ inr (grown n new lt)
    ]);
  }
