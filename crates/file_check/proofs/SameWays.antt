-- Two ways along a chain to one page, neither of which passes it, are one.
use Rattle.std.proofs.Common.{◌≡◌, ◌≢◌, ℕ, [], ◌∷◌, refl, sym, ap, ◌∙◌}
use Rattle.std.specs.List.{AllByRecursion}
use Rattle.page_model.specs.Pages.{Body, HeadPage, OverflowPage}
use Rattle.bucket_chain.specs.Chains.{ReadChain, number_or, AreLinked}
use Rattle.bucket_chain.proofs.Walks.{HasPassed}
use Rattle.file_check.specs.BucketChains.{IsWayTo}

abbrev pub AreOthers : ℕ → ReadChain → Type 0
AreOthers n chain = AllByRecursion (λ leaf. leaf.number ≢ n) chain

same_linked : (at : ℕ → Body) (n : ℕ) (rest other : ReadChain) → AreLinked at rest n
    → AreLinked at other n → AreOthers n rest → AreOthers n other
    → number_or rest n ≡ number_or other n → rest ≡ other
same_linked at n [] [] linked linked' not not' e = refl
same_linked at n [] (y ∷ other) linked linked' not not' e = absurd (not'.0 (sym e))
same_linked at n (x ∷ rest) [] linked linked' not not' e = absurd (not.0 e)
same_linked at n (x ∷ rest) (y ∷ other) linked linked' not not' e =
    let says : at x.number ≡ OverflowPage (number_or other n) y.records = ap at e ∙ linked'.0 in
    let here : at x.number ≡ OverflowPage (number_or rest n) x.records = linked.0 in
    let after : number_or rest n ≡ number_or other n = cc in
    let records : x.records ≡ y.records = cc in
    let same : x ≡ y = (λ i. record { number = e i; records = records i }) in
    let tails = same_linked at n rest other linked.2 linked'.2 not.1 not'.1 after in
    (λ i. same i ∷ tails i)

pub same_way : (at : ℕ → Body) (head n : ℕ) (before other : ReadChain) → HasPassed at head before n
    → AreOthers n before → IsWayTo at head n other → before ≡ other
same_way at head n [] [] passed not way = refl
same_way at head n [] (y ∷ other) passed not way = absurd (way.1.0 (way.0.0 ∙ sym passed))
same_way at head n (x ∷ rest) [] passed not way = absurd (not.0 (passed.0.0 ∙ sym way))
same_way at head n (x ∷ rest) (y ∷ other) passed not way =
    let number : x.number ≡ y.number = passed.0.0 ∙ sym way.0.0 in
    let says : at head ≡ HeadPage (number_or other n) y.records = way.0.1 in
    let here : at head ≡ HeadPage (number_or rest n) x.records = passed.0.1 in
    let after : number_or rest n ≡ number_or other n = cc in
    let records : x.records ≡ y.records = cc in
    let same : x ≡ y = (λ i. record { number = number i; records = records i }) in
    let tails = same_linked at n rest other passed.0.2 way.0.2 not.1 way.1.1 after in
    (λ i. same i ∷ tails i)
