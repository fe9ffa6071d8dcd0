-- Pages that were read to the end are a chain.
use Rattle.std.proofs.Common.{◌≡◌, ℕ, ◌<◌, ◌≤◌, [], ◌∷◌, length, map, flat_map, refl, sym, ap, ◌∙◌, arith}
use Rattle.std.specs.List.{AllByRecursion}
use Rattle.std.proofs.lemmas.List.{length-map}
use Rattle.page_model.specs.Pages.{Body, HeadPage, OverflowPage, NumberedBody}
use Rattle.page_model.specs.Chain.{Chain, numbers, used, entries_in, record_of, IsChain}
use Rattle.page_model.specs.PageBodies.{first_of, leaf_bodies, chain_bodies, overflow_bodies, entry_bodies, AreRead}
use Rattle.page_model.proofs.Chains.{AllByRecursion-append}
use Rattle.bucket_chain.specs.Chains.{chain_read, number_or, AreLinked, BeginsAt}

none_after : (rest : Chain) → number_or (chain_read rest) 0 ≡ first_of (numbers rest)
none_after [] = refl
none_after (leaf ∷ rest) = refl

overflow_read : (at : ℕ → Body) (rest : Chain) → AreLinked at (chain_read rest) 0
    → AreRead at (overflow_bodies rest)
overflow_read at [] linked = tt
overflow_read at (leaf ∷ rest) linked = (
  linked.0 ∙ ap (λ (after : ℕ). OverflowPage after (map record_of leaf.entries)) (none_after rest),
  overflow_read at rest linked.2,
)

overflow_filled : (at : ℕ → Body) (rest : Chain) → AreLinked at (chain_read rest) 0
    → AllByRecursion (λ leaf. 0 < length leaf.entries) rest
overflow_filled at [] linked = tt
overflow_filled at (leaf ∷ rest) linked = (
  omega (arith, linked.1, length-map leaf.entries record_of),
  overflow_filled at rest linked.2,
)

pub record IsReadChain (at : ℕ → Body) (head : ℕ) (chain : Chain) : Type 0 where
  pub are_read : AreRead at (chain_bodies chain)
  pub is_chain : IsChain chain
  pub from : head ≡ first_of (numbers chain)

pub read_chain : (at : ℕ → Body) (head : ℕ) (chain : Chain) → BeginsAt at head (chain_read chain) 0
    → AllByRecursion (λ leaf. used leaf ≤ 2032) chain
    → AreRead at (flat_map entry_bodies (entries_in chain)) → IsReadChain at head chain
read_chain at head [] begins fit contents = absurd begins
read_chain at head (leaf ∷ rest) begins fit contents =
    let leaves : AreRead at (leaf_bodies (leaf ∷ rest)) = (
      ap at begins.0 ∙ begins.1
          ∙ ap (λ (after : ℕ). HeadPage after (map record_of leaf.entries)) (none_after rest),
      overflow_read at rest begins.2,
    ) in
    record {
      are_read = AllByRecursion-append (λ (b : NumberedBody). at b.number ≡ b.body)
          (leaf_bodies (leaf ∷ rest)) (flat_map entry_bodies (entries_in (leaf ∷ rest))) leaves
          contents;
      is_chain = (fit.0, fit.1, overflow_filled at rest begins.2);
      from = sym begins.0;
    }
