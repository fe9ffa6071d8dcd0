-- Pages that stand once at most are fewer than the file has.
use Rattle.std.proofs.Common.{◌≡◌, ℕ, zero, suc, ◌+◌, ◌<◌, ◌≤◌, ◌==◌, true, false, cond, List, [], ◌∷◌, ◌++◌, length, refl, sym, ap, ◌∙◌, subst, arith, inl, inr}
use Rattle.std.proofs.lemmas.Bool.{cases_eq}
use Rattle.std.proofs.lemmas.Bool.Decides.{nat_tests}
use Rattle.std.proofs.lemmas.List.{length-append}
use Rattle.std.proofs.lemmas.List.Sums.{sum_by-append, sum_by-cons}
use Rattle.page_model.specs.Space.{Space, next_page, after_take, is_page, times_of}
use Rattle.page_model.proofs.Spaces.{times_head}
use Rattle.free_pages.specs.FreeList.{IsApart}
use Rattle.content_pages.proofs.PageCounts.{times_both, times_other}
use Rattle.bucket_chain.proofs.PutLemmas.{one_or_none}

without_page : ℕ → List ℕ → List ℕ
without_page m [] = []
without_page m (n ∷ ns) = cond (n == m) (without_page m ns) (n ∷ without_page m ns)

length_without : (m : ℕ) (ns : List ℕ)
    → length ns ≡ length (without_page m ns) + times_of m ns
unfolding without_page
length_without m [] = refl
length_without m (n ∷ ns) =
    let rest = length_without m ns in
    let count = sum_by-cons (λ (k : ℕ). cond {A = ℕ} (k == m) 1 0) n ns in
    elim (n == m) as (λ b. times_of m (n ∷ ns) ≡ cond {A = ℕ} b 1 0 + times_of m ns
    → suc (length ns) ≡ length (cond b (without_page m ns) (n ∷ without_page m ns))
    + times_of m (n ∷ ns)) [
      | true ↦ λ c. omega (arith, c, rest)
      | false ↦ λ c. omega (arith, c, rest)
    ] count

times_without : (k m : ℕ) (ns : List ℕ) → times_of k (without_page m ns) ≤ times_of k ns
unfolding without_page
times_without k m [] = omega arith
times_without k m (n ∷ ns) =
    let rest = times_without k m ns in
    let count = sum_by-cons (λ (j : ℕ). cond {A = ℕ} (j == k) 1 0) n ns in
    elim (n == m) as (λ b. times_of k (cond b (without_page m ns) (n ∷ without_page m ns))
    ≤ times_of k (n ∷ ns)) [
      | true ↦ omega (arith, count, rest)
      | false ↦ omega (
        arith,
        count,
        rest,
        sum_by-cons (λ (j : ℕ). cond {A = ℕ} (j == k) 1 0) n (without_page m ns),
      )
    ]

none_without : (m : ℕ) (ns : List ℕ) → times_of m (without_page m ns) ≡ 0
unfolding without_page
none_without m [] = refl
none_without m (n ∷ ns) =
    let rest = none_without m ns in
    let count = sum_by-cons (λ (j : ℕ). cond {A = ℕ} (j == m) 1 0) n (without_page m ns) in
    elim (n == m) as (λ b. times_of m (n ∷ without_page m ns) ≡ cond {A = ℕ} b 1 0
    + times_of m (without_page m ns)
    → times_of m (cond b (without_page m ns) (n ∷ without_page m ns)) ≡ 0) [
      | true ↦ λ c. rest
      | false ↦ λ c. omega (arith, c, rest)
    ] count

no_page : (n : ℕ) → cond {A = ℕ} (is_page n 1) 1 0 ≡ 0
no_page n = grind (arith, nat_tests)

pub page_some : (n end : ℕ) → 1 ≤ cond {A = ℕ} (is_page n end) 1 0 → 1 ≤ n
page_some n end stands = grind (arith, nat_tests)

-- a further page at the end
one_page_more : (n end : ℕ) → 1 ≤ end
    → cond {A = ℕ} (is_page n (end + 1)) 1 0 ≡ cond {A = ℕ} (is_page n end) 1 0
    + cond {A = ℕ} (end == n) 1 0
one_page_more n end some = grind (arith, nat_tests)

-- the page that is taken, and what is left of the space
module _ (pages : List ℕ) (s : Space) (apart : IsApart pages s) (some : 1 ≤ s.end) where
  pub taken_some : 1 ≤ next_page s
  taken_some = by_free s.free s.end apart some
    where
      by_free : (free : List ℕ) (end : ℕ) → IsApart pages (record { free = free; end = end })
          → 1 ≤ end → 1 ≤ next_page (record { free = free; end = end })
      by_free [] end apart some = some
      by_free (m ∷ rest) end apart some =
          page_some m end (omega (arith, apart m, times_head m rest))

  pub taken_apart : (n : ℕ) → times_of n (pages ++ next_page s ∷ []) + times_of n
      (after_take s).free
      ≤ cond (is_page n (after_take s).end) 1 0
  taken_apart n = by_free s.free s.end apart some
    where
      by_free : (free : List ℕ) (end : ℕ)
          → IsApart pages (record { free = free; end = end }) → 1 ≤ end
          → times_of n (pages ++ next_page (record { free = free; end = end }) ∷ [])
          + times_of n (after_take (record { free = free; end = end })).free
          ≤ cond (is_page n (after_take (record { free = free; end = end })).end) 1 0
      by_free [] end apart some =
          let one : ℕ → ℕ = λ m. cond (m == n) 1 0 in
          omega (
            arith,
            apart n,
            sum_by-append one pages (end ∷ []),
            sum_by-cons one end [],
            one_page_more n end some,
          )
      by_free (m ∷ rest) end apart some =
          let one : ℕ → ℕ = λ k. cond (k == n) 1 0 in
          omega (
            arith,
            apart n,
            sum_by-append one pages (m ∷ []),
            sum_by-cons one m [],
            sum_by-cons one m rest,
          )

pub end_some : (s : Space) → 1 ≤ s.end → 1 ≤ (after_take s).end
end_some s some = by_free s.free s.end some
  where
    by_free : (free : List ℕ) (end : ℕ) → 1 ≤ end
        → 1 ≤ (after_take (record { free = free; end = end })).end
    by_free [] end some = omega (arith, some)
    by_free (m ∷ rest) end some = some

few_pages : (end : ℕ) (ns : List ℕ)
    → ((n : ℕ) → times_of n ns ≤ cond {A = ℕ} (is_page n (end + 1)) 1 0) → length ns ≤ end
few_pages zero [] within = omega arith
few_pages zero (n ∷ ns) within =
    absurd (omega (arith, within n, no_page n, times_head n ns))
few_pages (suc end) ns within =
    let m = suc end in
    let plus : end + 1 ≡ suc end = omega arith in
    let rest = few_pages end (without_page m ns) (λ n.
    elim (cases_eq m n) [
      | inl same ↦
          let none : times_of n (without_page m ns) ≡ 0 =
          subst (λ (k : ℕ). times_of k (without_page m ns) ≡ 0) same (none_without m ns) in
          omega (arith, none)
      | inr other ↦ omega (
        arith,
        one_page_more n m (omega arith),
        ap (λ (k : ℕ). cond {A = ℕ} (is_page n k) 1 0) plus,
        within n,
        times_without n m ns,
        times_other n m (λ e. other (sym e)),
        sum_by-cons (λ (k : ℕ). cond {A = ℕ} (k == n) 1 0) m [],
      )
    ]) in
    omega (
      arith,
      rest,
      length_without m ns,
      one_or_none (is_page m (m + 1)) _ (within m),
    )

pub few_apart : (pages : List ℕ) (s : Space) → IsApart pages s → 1 ≤ s.end
    → length pages + length s.free < s.end
few_apart pages s apart some = by_end s.end refl some
  where
    by_end : (end : ℕ) → s.end ≡ end → 1 ≤ end → length pages + length s.free < s.end
    by_end zero is some = absurd (omega (arith, some))
    by_end (suc end) is some =
        let less = few_pages end (pages ++ s.free) (λ n.
        subst (λ (k : ℕ). times_of n (pages ++ s.free) ≤ cond {A = ℕ} (is_page n k) 1 0)
        (is ∙ omega arith) (omega (arith, apart n, times_both n pages s.free))) in
        omega (arith, is, less, length-append pages s.free)
