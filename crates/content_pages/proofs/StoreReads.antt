-- What reads of a store tell their caller.
use Rattle.std.proofs.Common.{◌≡◌, inl, inr, ⊎_elim, ℕ, zero, suc, ◌≤◌, true, false, Ok, refl, sym, ◌∙◌, arith}
use Rattle.std.proofs.lemmas.Bool.{cases_lt, false≢true}
use Rattle.page_io.specs.Store.{Pages, StoreState, has_page, are_in_order, IsKnown}
use Rattle.page_io.specs.Answers.{IsReadAnswer}
use Rattle.page_io.proofs.StagedPages.{in_range, has_between}

-- a page that was read is known
pub read_known : {T : Type 0} (state : StoreState) (n : ℕ) (value : T)
    → IsReadAnswer {T = T} state n (Ok value) → IsKnown state n
read_known state n value answer =
    elim (has_page state.staged n) as (λ b. has_page state.staged n ≡ b → IsKnown state n) [
      | true ↦ λ has. inl has
      | false ↦ λ none. elim (cases_lt 0 n) [
        | inl some ↦ elim (cases_lt n state.end) [
          | inl within ↦ inr (some, within)
          | inr behind ↦ absurd (damaged
              (λ known. ⊎_elim (λ has. false≢true (sym none ∙ has))
              (λ in_file. omega (arith, behind, in_file.1)) known))
        ]
        | inr zeroth ↦ absurd (damaged
            (λ known. ⊎_elim (λ has. false≢true (sym none ∙ has))
            (λ in_file. omega (arith, zeroth, in_file.0)) known))
      ]
    ] refl
  where
    usable : state.usable ≡ true
    usable = elim state.usable as
        (λ b. state.usable ≡ b → state.usable ≡ true) [
          | true ↦ λ e. e
          | false ↦ λ e.
              (let broken = answer.broken.1 e in absurd (cc))
        ] refl

    damaged : (IsKnown state n → ⊥) → ⊥
    damaged unknown = let err = answer.damaged.1 (usable, unknown) in cc

-- no staged page is page 0; `order` is the store's law `in_order`
staged_some : (high : ℕ) (pages : Pages) (n : ℕ) → are_in_order 1 high pages ≡ true
    → has_page pages n ≡ true → 1 ≤ n
staged_some high pages zero order has =
    absurd (false≢true (sym (has_between 1 high pages 0 0 order (λ k lt. absurd (omega arith))
    (λ lt. (in_range 1 high pages 0 order lt).0) (omega arith)) ∙ has))
staged_some high pages (suc n) order has = omega arith

pub known_some : (high : ℕ) (state : StoreState) (n : ℕ) → are_in_order 1 high state.staged ≡ true
    → IsKnown state n → 1 ≤ n
known_some high state n order known =
    ⊎_elim (λ has. staged_some high state.staged n order has) (λ within. within.0) known
