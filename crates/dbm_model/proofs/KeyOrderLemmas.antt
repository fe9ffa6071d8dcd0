-- The order in which a pass gives the keys is a strict total order.
use Rattle.std.proofs.Common.{◌≡◌, ◌⊎◌, inl, inr, ◌∷◌, refl, sym, ◌∙◌, ap}
use Rattle.std.specs.Cmp.{IsTotalOrder}
use Rattle.std.specs.Cmp.Lexicographic.{on_texts}
use Rattle.std.specs.FinMap.{slice_cmp-IsAntisymmetric, nat_cmp-IsAntisymmetric}
use Rattle.std.specs.Ordering.{ordering_reverse}
use Rattle.std.specs.declared.cmp.Ordering.{Ordering}
use Rattle.std.specs.declared.cmp.Ordering.TheVariants.{Less, Equal, Greater}
use Rattle.std.proofs.lemmas.Cmp.{tied_itself}
use Rattle.dbm_model.specs.KeyOrder.{hash_of, rank, pass_cmp, ComesBefore}
use Rattle.dbm_model.specs.Pairs.{Key}

pub pass_order : IsTotalOrder pass_cmp
pass_order = on_texts (λ key. rank (hash_of key) ∷ key)

pub tied_are_same : (key other : Key) → pass_cmp key other ≡ Equal → key ≡ other
tied_are_same key other tied =
    let both = slice_cmp-IsAntisymmetric nat_cmp-IsAntisymmetric (rank (hash_of key) ∷ key)
    (rank (hash_of other) ∷ other) tied in cc

pub comes_on : (first second third : Key) → ComesBefore first second → ComesBefore second third
    → ComesBefore first third
comes_on first second third = pass_order.trans first second third

pub never_before_itself : (key : Key) → ComesBefore key key → ⊥
never_before_itself key before =
    absurd (let tied = sym before ∙ tied_itself pass_order key in cc)

pub one_comes_before : (key other : Key)
    → ComesBefore key other ⊎ ((key ≡ other) ⊎ ComesBefore other key)
one_comes_before key other = by_answer (pass_cmp key other) refl
  where
    by_answer : (o : Ordering) → pass_cmp key other ≡ o
        → ComesBefore key other ⊎ ((key ≡ other) ⊎ ComesBefore other key)
    by_answer Less is = inl is
    by_answer Equal is = inr (inl (tied_are_same key other is))
    by_answer Greater is =
        inr (inr (pass_order.antisymm other key ∙ ap ordering_reverse is))

pub never_back : (key other : Key) → ComesBefore key other → ComesBefore other key → ⊥
never_back key other before back =
    never_before_itself key (comes_on key other key before back)
