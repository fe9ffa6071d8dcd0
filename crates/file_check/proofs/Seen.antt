-- What one more mark says of the pages that were seen.
use Rattle.std.proofs.Common.{◌≡◌, ◌≢◌, ◌⊎◌, ℕ, ◌+◌, ◌<◌, ◌≤◌, ◌==◌, ◌&&◌, Bool, true, false, cond, List, [], ◌∷◌, ◌++◌, length, get_or, set, take, drop, refl, sym, ap, ◌∙◌, subst, arith, eq-eqb, eqb-true}
use Rattle.std.proofs.lemmas.List.{get_or-set_same, get_or-set_other, append_assoc, take_more, take-append-drop}
use Rattle.std.proofs.lemmas.List.Sums.{sum_by-append, sum_by-cons}
use Rattle.std.proofs.lemmas.Bool.Decides.{nat_tests}
use Rattle.page_model.specs.Space.{is_page, times_of}
use Rattle.file_check.specs.Marks.{AreMarked, MayBeSeen, IsEachSeen}

times_last : (n m : ℕ) (seen : List ℕ)
    → times_of n (seen ++ m ∷ []) ≡ times_of n seen + cond (m == n) 1 0
times_last n m seen = omega (
  arith,
  sum_by-append (λ (k : ℕ). cond (k == n) 1 0) seen (m ∷ []),
  sum_by-cons (λ (k : ℕ). cond (k == n) 1 0) m [],
)

times_own : (n : ℕ) (seen : List ℕ) → times_of n (seen ++ n ∷ []) ≡ times_of n seen + 1
times_own n seen = times_last n n seen
    ∙ ap (λ (b : Bool). times_of n seen + cond b 1 0) (eq-eqb n n refl)

page_is : (n end : ℕ) → 1 ≤ n → n < end → is_page n end ≡ true
page_is n end some below = grind (arith, nat_tests)

at_most : (a b : Bool) → cond {A = ℕ} (a && b) 1 0 ≤ cond a 1 0
at_most true true = omega arith
at_most true false = omega arith
at_most false b = omega arith

-- what is marked may have been seen
pub are_seen : (marks : List Bool) (end : ℕ) (seen : List ℕ) → AreMarked marks end seen
    → MayBeSeen end seen
are_seen marks end seen are n = omega (arith, are n, at_most (is_page n end) (get_or marks n false))

-- so may the first of them
pub may_front : (end : ℕ) (xs ys : List ℕ) → MayBeSeen end (xs ++ ys) → MayBeSeen end xs
may_front end xs ys may n =
    omega (arith, may n, sum_by-append (λ (k : ℕ). cond (k == n) 1 0) xs ys)

module _ (marks : List Bool) (end : ℕ) (seen : List ℕ) (n : ℕ) (are : AreMarked marks end seen) where
  -- a page that was not marked
  pub marked_more : 1 ≤ n → n < end → end ≤ length marks → get_or marks n false ≡ false
      → AreMarked (set marks n true) end (seen ++ n ∷ [])
  marked_more some below room free m =
      let page = page_is n end some below in
      let none : times_of n seen ≡ 0 = are n
      ∙ ap (λ (b : Bool). cond (b && get_or marks n false) 1 0) page
      ∙ ap (λ (b : Bool). cond b 1 0) free in
      let one : cond {A = ℕ} (is_page n end && get_or (set marks n true) n false) 1 0 ≡ 1 =
      ap (λ (b : Bool). cond (b && get_or (set marks n true) n false) 1 0) page
      ∙ ap (λ (b : Bool). cond b 1 0) (get_or-set_same marks n true false (omega (arith, below, room))) in
      let here : times_of n (seen ++ n ∷ [])
      ≡ cond (is_page n end && get_or (set marks n true) n false) 1 0 =
      omega (arith, times_own n seen, none, one) in
      elim (n == m) as (λ (b : Bool). (n == m) ≡ b → times_of m (seen ++ n ∷ [])
      ≡ cond (is_page m end && get_or (set marks n true) m false) 1 0) [
        | true ↦ λ e. subst (λ (k : ℕ). times_of k (seen ++ n ∷ [])
            ≡ cond (is_page k end && get_or (set marks n true) k false) 1 0) (eqb-true n m e) here
        | false ↦ λ e.
            let other : m ≢ n = λ same. absurd (let t = eq-eqb n m (sym same) in cc) in
            times_last m n seen ∙ ap (λ (b : Bool). times_of m seen + cond b 1 0) e
            ∙ (let zero : times_of m seen + 0 ≡ times_of m seen = omega arith in zero) ∙ are m
            ∙ ap (λ (b : Bool). cond (is_page m end && b) 1 0)
            (sym (get_or-set_other marks n m true false other))
      ] refl

  -- a page that was
  pub marked_twice : 1 ≤ n → n < end → get_or marks n false ≡ true
      → MayBeSeen end (seen ++ n ∷ []) → ⊥
  marked_twice some below marked may =
      let page = page_is n end some below in
      let once : times_of n seen ≡ 1 = are n
      ∙ ap (λ (b : Bool). cond (b && get_or marks n false) 1 0) page
      ∙ ap (λ (b : Bool). cond b 1 0) marked in
      let most : cond {A = ℕ} (is_page n end) 1 0 ≡ 1 = ap (λ (b : Bool). cond b 1 0) page in
      absurd (omega (arith, times_own n seen, once, may n, most))

-- no page of the file
pub no_page : (end : ℕ) (seen : List ℕ) (n : ℕ) → (n ≡ 0) ⊎ (end ≤ n)
    → MayBeSeen end (seen ++ n ∷ []) → ⊥
no_page end seen n outside may =
    let page : is_page n end ≡ false = grind (arith, nat_tests, outside) in
    let none : cond {A = ℕ} (is_page n end) 1 0 ≡ 0 = ap (λ (b : Bool). cond b 1 0) page in
    absurd (omega (arith, times_own n seen, may n, none))

-- ---- lists of pages

-- the first pages of a list, and one more
pub first_more : (seen pages : List ℕ) (i n : ℕ) → i < length pages → n ≡ get_or pages i 0
    → (seen ++ take i pages) ++ n ∷ [] ≡ seen ++ take (i + 1) pages
first_more seen pages i n within is =
    append_assoc seen (take i pages) (n ∷ [])
    ∙ ap (λ (k : ℕ). seen ++ (take i pages ++ k ∷ [])) is
    ∙ ap (λ (ns : List ℕ). seen ++ ns) (sym (take_more pages i 0 within))

-- the first of them may have been seen where all may
pub may_first : (end : ℕ) (seen pages : List ℕ) (i : ℕ) → MayBeSeen end (seen ++ pages)
    → MayBeSeen end (seen ++ take i pages)
may_first end seen pages i may =
    may_front end (seen ++ take i pages) (drop i pages)
    (subst (MayBeSeen end) (ap (λ (ns : List ℕ). seen ++ ns) (sym (take-append-drop i pages))
    ∙ sym (append_assoc seen (take i pages) (drop i pages))) may)

-- ---- all pages

-- where the first pages are marked, and so to the end
pub each_seen : (marks : List Bool) (end : ℕ) (seen : List ℕ) → AreMarked marks end seen
    → ((n : ℕ) → 1 ≤ n → n < end → get_or marks n false ≡ true) → IsEachSeen end seen
each_seen marks end seen are all n =
    elim (is_page n end) as (λ (b : Bool). is_page n end ≡ b
    → times_of n seen ≡ cond (is_page n end) 1 0) [
      | true ↦ λ e. are n ∙ ap (λ (b : Bool). cond (is_page n end && b) 1 0)
          (all n (some n end e) (below n end e))
          ∙ ap (λ (b : Bool). cond (b && true) 1 0) e ∙ ap (λ (b : Bool). cond b 1 0) (sym e)
      | false ↦ λ e. are n ∙ ap (λ (b : Bool). cond (b && get_or marks n false) 1 0) e
          ∙ ap (λ (b : Bool). cond b 1 0) (sym e)
    ] refl
  where
    some : (n end : ℕ) → is_page n end ≡ true → 1 ≤ n
    some n end e = grind (arith, nat_tests, e)

    below : (n end : ℕ) → is_page n end ≡ true → n < end
    below n end e = grind (arith, nat_tests, e)

-- a page that isn't marked was not seen
pub not_each : (marks : List Bool) (end : ℕ) (seen : List ℕ) (n : ℕ) → AreMarked marks end seen
    → 1 ≤ n → n < end → get_or marks n false ≡ false → IsEachSeen end seen → ⊥
not_each marks end seen n are some below free each =
    let page = page_is n end some below in
    let none : times_of n seen ≡ 0 = are n
    ∙ ap (λ (b : Bool). cond (b && get_or marks n false) 1 0) page
    ∙ ap (λ (b : Bool). cond b 1 0) free in
    let one : cond {A = ℕ} (is_page n end) 1 0 ≡ 1 = ap (λ (b : Bool). cond b 1 0) page in
    absurd (omega (arith, none, one, each n))

-- one more page is marked
pub up_to : (marks : List Bool) (n : ℕ)
    → ((k : ℕ) → 1 ≤ k → k < n → get_or marks k false ≡ true) → get_or marks n false ≡ true
    → (k : ℕ) → 1 ≤ k → k < n + 1 → get_or marks k false ≡ true
up_to marks n all here k some below = elim (k == n) as (λ (b : Bool). (k == n) ≡ b
    → get_or marks k false ≡ true) [
      | true ↦ λ e. subst (λ (j : ℕ). get_or marks j false ≡ true) (sym (eqb-true k n e)) here
      | false ↦ λ e.
          let other : k ≢ n = λ same. absurd (let t = eq-eqb k n same in cc) in
          all k some (omega (arith, below, other))
    ] refl
