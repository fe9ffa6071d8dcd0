-- A page is read or taken, and then one page is staged.
use Rattle.std.proofs.Common.{◌≡◌, inl, inr, ℕ, zero, suc, ◌+◌, ◌≤◌, ◌^◌, true, List, length, Result, Ok, Err, OnOk, OnErr, sym, ap, subst, ◌∙◌, arith}
use Rattle.std.proofs.lemmas.Bool.{false≢true}
use Rattle.page_model.specs.Pages.{Body}
use Rattle.page_model.specs.Reading.{body_of}
use Rattle.page_io.specs.Page.{own_number}
use Rattle.page_io.specs.Store.{StoreState, put_page, are_in_order, IsKnown}
use Rattle.page_io.specs.Views.{body_at, StagesOnly, ReadsOnly, MayEnd}
use Rattle.page_io.specs.declared.store.PageStore.{Ghosts}
use Rattle.page_io.proofs.StagedPages.{in_range, has_between}
use Rattle.page_io.proofs.Views.{same_said, staged_said, others_said, known_below}
use Rattle.free_pages.proofs.OneStage.{few_staged, may_still_end}

-- page 0 is not known
pub known_some : (st : StoreState) (n : ℕ) → are_in_order 1 (2 ^ 32) st.staged ≡ true
    → IsKnown st n → 1 ≤ n
known_some st n order (inr within) = within.0
known_some st zero order (inl has) =
    let none = has_between 1 (2 ^ 32) st.staged 0 0 order (λ k lt. absurd (omega arith))
    (λ some. omega (arith, (in_range 1 (2 ^ 32) st.staged 0 order some).0)) (omega arith) in
    absurd (false≢true (sym none ∙ has))
known_some st (suc n) order (inl has) = omega arith

-- at most one more page is staged
pub few_after : {T E : Type 0} (before after : StoreState) (bytes : List ℕ) (result : Result T E)
    → are_in_order 1 (2 ^ 32) before.staged ≡ true
    → OnOk result (after ≡ record before { staged = put_page before.staged bytes })
    → OnErr result (after ≡ before) → length after.staged ≤ length before.staged + 1
few_after before after bytes (Ok x) order put same = few_staged before after bytes order put
few_after before after bytes (Err e) order put same =
    omega (arith, ap (λ (st : StoreState). length st.staged) same)

-- a known page is staged again, and the file may end where it could
pub known_may_end : (before after : StoreState) (end n : ℕ) (bytes : List ℕ) → IsKnown before n
    → own_number bytes ≡ n → after ≡ record before { staged = put_page before.staged bytes }
    → MayEnd before end → MayEnd after end
known_may_end before after end n bytes known own put may =
    may_still_end before after end bytes may
    (omega (arith, own, known_below before end n may known)) put

module _ {S : Type 0} (s : Ghosts S) (old mid new : S) (n : ℕ) (bytes : List ℕ)
    (reads : ReadsOnly s old mid) (stages : StagesOnly s mid new) (honest : s.honest old)
    (order : are_in_order 1 (2 ^ 32) (s.state old).staged ≡ true)
    (put : s.state new ≡ record (s.state mid) { staged = put_page (s.state mid).staged bytes })
    (own : own_number bytes ≡ n) where
  -- the staged page says what it says
  pub then_said : body_at s new n ≡ body_of n bytes
  then_said =
      let ordered = subst (λ (st : StoreState). are_in_order 1 (2 ^ 32) st.staged ≡ true)
      (sym reads.same) order in
      staged_said s mid new n bytes stages (reads.stages_only.honesty.1 honest) ordered put own

  -- and every other what it said
  pub others_stay : (k : ℕ) → (k ≡ n → ⊥) → body_at s new k ≡ body_at s old k
  others_stay k other =
      others_said s mid new n k bytes stages (reads.stages_only.honesty.1 honest) put own other
      ∙ ap (λ (at : ℕ → Body). at k) (same_said s old mid reads honest)
