-- Pages of a chain, and of its contents, among the pages that were seen.
use Rattle.std.proofs.Common.{◌≡◌, ◌≢◌, ℕ, zero, suc, ◌+◌, ◌-◌, ◌^◌, ◌<◌, ◌≤◌, ◌==◌, ◌&&◌, Bool, true, false, cond, List, [], ◌∷◌, ◌++◌, length, filter, refl, sym, ap, ◌∙◌, subst, arith, eq-eqb, eqb-true, leb, ltb, length-append}
use Rattle.std.specs.Prelude.{IsTrue, ◌↔◌}
use Rattle.std.specs.List.{AllByRecursion, range_with_len}
use Rattle.std.proofs.lemmas.List.{map-append, length-map}
use Rattle.std.proofs.lemmas.List.Concat.{flat_map-append}
use Rattle.std.proofs.lemmas.List.Sums.{sum_by-append, sum_by-cons}
use Rattle.std.proofs.lemmas.Bool.Decides.{nat_tests}
use Rattle.page_model.specs.Space.{is_page, times_of}
use Rattle.page_model.specs.Chain.{Leaf, Chain, Entry, numbers, entries_in, pages_of, pages_in}
use Rattle.page_model.proofs.Flat.{same_sums, times-range_with_len}
use Rattle.page_model.proofs.GoodBodies.{IsPageNumber, from_times}
use Rattle.page_model.proofs.PairLists.{length-sum_by}
use Rattle.file_check.specs.Marks.{AreMarked, MayBeSeen}
use Rattle.bucket_chain.specs.Chains.{chain_read}
use Rattle.file_check.proofs.SameWays.{AreOthers}

pub times_parts : (n : ℕ) (xs ys : List ℕ) → times_of n (xs ++ ys) ≡ times_of n xs + times_of n ys
times_parts n xs ys = sum_by-append (λ (k : ℕ). cond (k == n) 1 0) xs ys

pub times_first : (n x : ℕ) (xs : List ℕ)
    → times_of n (x ∷ xs) ≡ cond (x == n) 1 0 + times_of n xs
times_first n x xs = sum_by-cons (λ (k : ℕ). cond (k == n) 1 0) x xs

pub times_own : (n : ℕ) (xs : List ℕ) → times_of n (n ∷ xs) ≡ 1 + times_of n xs
times_own n xs = times_first n n xs
    ∙ ap (λ (b : Bool). cond b 1 0 + times_of n xs) (eq-eqb n n refl)

at_most_one : (b : Bool) → cond {A = ℕ} b 1 0 ≤ 1
at_most_one true = omega arith
at_most_one false = omega arith

-- the same pages in another order
pub same_marked : (marks : List Bool) (end : ℕ) (xs ys : List ℕ)
    → ((n : ℕ) → times_of n ys ≡ times_of n xs) → AreMarked marks end xs → AreMarked marks end ys
same_marked marks end xs ys same are n = same n ∙ are n

-- one page more is marked; the end of the file is known by two names
pub mark_more : (marks now : List Bool) (end known n : ℕ) (seen : List ℕ) → end ≡ known
    → ((seen : List ℕ) → AreMarked marks end seen → IsTrue true
    → AreMarked now end (seen ++ n ∷ []))
    → AreMarked marks known seen → AreMarked now known (seen ++ n ∷ [])
mark_more marks now end known n seen same marked are =
    subst (λ (e : ℕ). AreMarked now e (seen ++ n ∷ [])) same
    (marked seen (subst (λ (e : ℕ). AreMarked marks e seen) (sym same) are) refl)

-- a page that isn't marked where it may be
pub not_refused : (marks : List Bool) (result : Bool) (end known n : ℕ) (seen : List ℕ)
    → end ≡ known → ((seen : List ℕ) → AreMarked marks end seen
    → IsTrue result ↔ MayBeSeen end (seen ++ n ∷ []))
    → AreMarked marks known seen → MayBeSeen known (seen ++ n ∷ []) → result ≡ false → ⊥
not_refused marks result end known n seen same may_be are may refused =
    let marked = subst (λ (e : ℕ). AreMarked marks e seen) (sym same) are in
    let can = subst (λ (e : ℕ). MayBeSeen e (seen ++ n ∷ [])) (sym same) may in
    let yes = (may_be seen marked).1 can in
    absurd (cc)

-- no more of each
pub fewer_seen : (end : ℕ) (xs ys : List ℕ) → ((n : ℕ) → times_of n ys ≤ times_of n xs)
    → MayBeSeen end xs → MayBeSeen end ys
fewer_seen end xs ys fewer may n = omega (arith, may n, fewer n)

pub may_behind : (end : ℕ) (seen pages : List ℕ) → MayBeSeen end (seen ++ pages)
    → MayBeSeen end pages
may_behind end seen pages = fewer_seen end (seen ++ pages) pages
    (λ n. omega (arith, times_parts n seen pages))

-- a page that may be seen is one of the file's
page_of : (n end : ℕ) → 1 ≤ cond (leb 1 n && ltb n end) 1 0 → (1 ≤ n) × (n < end)
page_of n end h = grind (arith, nat_tests)

pub in_file : (end n : ℕ) (pages : List ℕ) → MayBeSeen end pages → 1 ≤ times_of n pages
    → (1 ≤ n) × (n < end)
in_file end n pages may some = page_of n end (omega (arith, may n, some))

pub page_numbers : (end : ℕ) (pages : List ℕ) → end ≤ 2 ^ 32 → MayBeSeen end pages
    → AllByRecursion IsPageNumber pages
page_numbers end pages small may = from_times IsPageNumber pages (λ n some.
    let is = in_file end n pages may some in (omega (arith, is.0), omega (arith, is.1, small)))

-- ---- how many pages a file has

keep_one : (b e : Bool) (count : ℕ) → (e ≡ true → true ≡ b)
    → cond {A = ℕ} e 1 0 + cond b count 0 ≡ cond b (cond {A = ℕ} e 1 0 + count) 0
keep_one true e count same = refl
keep_one false true count same = (let wrong = same refl in absurd (cc))
keep_one false false count same = omega arith

leave_one : (b e : Bool) (count : ℕ) → (e ≡ true → false ≡ b)
    → cond b count 0 ≡ cond b (cond {A = ℕ} e 1 0 + count) 0
leave_one false e count same = refl
leave_one true true count same = (let wrong = same refl in absurd (cc))
leave_one true false count same = omega arith

none_either : (b : Bool) → 0 ≡ cond {A = ℕ} b 0 0
none_either true = refl
none_either false = refl

times_filter : (p : ℕ → Bool) (n : ℕ) (xs : List ℕ)
    → times_of n (filter p xs) ≡ cond (p n) (times_of n xs) 0
times_filter p n [] = none_either (p n)
times_filter p n (x ∷ xs) =
    let rest = times_filter p n xs in
    let parts = times_first n x xs in
    elim (p x) as (λ (b : Bool). p x ≡ b
    → times_of n (cond b (x ∷ filter p xs) (filter p xs)) ≡ cond (p n) (times_of n (x ∷ xs)) 0) [
      | true ↦ λ t. times_first n x (filter p xs)
          ∙ ap (λ (k : ℕ). cond (x == n) 1 0 + k) rest
          ∙ keep_one (p n) (x == n) (times_of n xs) (λ e. sym t ∙ ap p (eqb-true x n e))
          ∙ ap (λ (k : ℕ). cond (p n) k 0) (sym parts)
      | false ↦ λ t. rest
          ∙ leave_one (p n) (x == n) (times_of n xs) (λ e. sym t ∙ ap p (eqb-true x n e))
          ∙ ap (λ (k : ℕ). cond (p n) k 0) (sym parts)
    ] refl

-- the pages that were not seen make them all
filled_up : (page : Bool) (times : ℕ) → times ≤ cond {A = ℕ} page 1 0
    → times + cond {A = ℕ} (times == 0) (cond {A = ℕ} page 1 0) 0 ≡ cond {A = ℕ} page 1 0
filled_up page times may = elim (times == 0) as (λ (b : Bool). (times == 0) ≡ b
    → times + cond {A = ℕ} b (cond {A = ℕ} page 1 0) 0 ≡ cond {A = ℕ} page 1 0) [
      | true ↦ λ e. omega (arith, eqb-true times 0 e)
      | false ↦ λ e. by_page page (λ none. (let t = eq-eqb times 0 none in cc)) may
    ] refl
  where
    by_page : (page : Bool) → times ≢ 0 → times ≤ cond {A = ℕ} page 1 0
        → times + 0 ≡ cond {A = ℕ} page 1 0
    by_page true some may = omega (arith, some, may)
    by_page false some may = omega (arith, some, may)

-- there are no more pages than the file has
pub few_pages : (end : ℕ) (pages : List ℕ) → MayBeSeen end pages → length pages ≤ end
few_pages end pages may =
    let range = range_with_len 1 (end - 1) in
    let left = filter (λ m. times_of m pages == 0) range in
    let each : (n : ℕ) → times_of n (pages ++ left) ≡ times_of n range =
    λ (n : ℕ). (
    let all : times_of n range ≡ cond {A = ℕ} (is_page n end) 1 0 =
    times-range_with_len n 1 (end - 1) ∙ ap (λ (b : Bool). cond b 1 0) (range_is n end) in
    times_parts n pages left
    ∙ ap (λ (k : ℕ). times_of n pages + k)
    (times_filter (λ m. times_of m pages == 0) n range
    ∙ ap (λ (k : ℕ). cond (times_of n pages == 0) k 0) all)
    ∙ filled_up (is_page n end) (times_of n pages) (may n) ∙ sym all) in
    let sums = same_sums (pages ++ left) range each (λ _. 1) in
    omega (
      arith,
      sums,
      sum_by-append (λ (k : ℕ). 1) pages left,
      length-sum_by pages,
      length-sum_by range,
      length-range 1 (end - 1),
    )
  where
    range_is : (n end : ℕ) → (leb 1 n && ltb n (1 + (end - 1))) ≡ is_page n end
    range_is n end = grind (arith, nat_tests)

    length-range : (start count : ℕ) → length (range_with_len start count) ≡ count
    length-range start zero = refl
    length-range start (suc count) = omega (arith, length-range (start + 1) count)

-- ---- a chain and its contents

pub pages_of-append : (xs ys : List Entry) → pages_of (xs ++ ys) ≡ pages_of xs ++ pages_of ys
pages_of-append xs ys = flat_map-append (λ (e : Entry). e.pages) xs ys

pub entries_in-append : (before later : Chain)
    → entries_in (before ++ later) ≡ entries_in before ++ entries_in later
entries_in-append before later = flat_map-append (λ (leaf : Leaf). leaf.entries) before later

pub times_in_parts : (n : ℕ) (before later : Chain)
    → times_of n (pages_in (before ++ later))
    ≡ times_of n (pages_in before) + times_of n (pages_in later)
times_in_parts n before later = omega (
  arith,
  times_parts n (numbers (before ++ later)) (pages_of (entries_in (before ++ later))),
  times_parts n (numbers before) (pages_of (entries_in before)),
  times_parts n (numbers later) (pages_of (entries_in later)),
  ap (times_of n) (map-append (λ (leaf : Leaf). leaf.number) before later),
  times_parts n (numbers before) (numbers later),
  ap (λ (es : List Entry). times_of n (pages_of es)) (entries_in-append before later),
  ap (times_of n) (pages_of-append (entries_in before) (entries_in later)),
  times_parts n (pages_of (entries_in before)) (pages_of (entries_in later)),
)

-- a page and the pages of its contents
pub times_of_leaf : (n : ℕ) (leaf : Leaf)
    → times_of n (pages_in (leaf ∷ []))
    ≡ times_of n (leaf.number ∷ []) + times_of n (pages_of leaf.entries)
times_of_leaf n leaf = omega (
  arith,
  times_parts n (leaf.number ∷ []) (pages_of (leaf.entries ++ [])),
  ap (times_of n) (pages_of-append leaf.entries []),
  times_parts n (pages_of leaf.entries) [],
)

-- a page that does not come is none of them
others_of : (n : ℕ) (chain : Chain) → times_of n (numbers chain) ≡ 0
    → AreOthers n (chain_read chain)
others_of n [] none = tt
others_of n (leaf ∷ rest) none =
    let parts = times_first n leaf.number (numbers rest) in (
      λ e. absurd (let one : cond {A = ℕ} (leaf.number == n) 1 0 ≡ 1 =
          ap (λ (b : Bool). cond b 1 0) (eq-eqb leaf.number n e) in omega arith),
      others_of n rest (omega (arith, parts, none)),
    )

-- a page that may follow them is none of them
pub new_page : (end n : ℕ) (seen : List ℕ) (chain : Chain)
    → MayBeSeen end ((seen ++ pages_in chain) ++ n ∷ []) → AreOthers n (chain_read chain)
new_page end n seen chain may = others_of n chain (omega (
  arith,
  may n,
  at_most_one (is_page n end),
  times_parts n (seen ++ pages_in chain) (n ∷ []),
  times_own n [],
  times_parts n seen (pages_in chain),
  times_parts n (numbers chain) (pages_of (entries_in chain)),
))

pub few_in : (end : ℕ) (seen : List ℕ) (chain : Chain) → MayBeSeen end (seen ++ pages_in chain)
    → length chain ≤ end
few_in end seen chain may = omega (
  arith,
  few_pages end (pages_in chain) (may_behind end seen (pages_in chain) may),
  length-append (numbers chain) (pages_of (entries_in chain)),
  length-map chain (λ (leaf : Leaf). leaf.number),
)

each_numbered : (chain : Chain) → AllByRecursion (λ n. 1 ≤ n) (numbers chain)
    → AllByRecursion (λ leaf. 1 ≤ leaf.number) chain
each_numbered [] some = tt
each_numbered (leaf ∷ rest) some = (some.0, each_numbered rest some.1)

pub numbered_in : (end : ℕ) (seen : List ℕ) (chain : Chain)
    → MayBeSeen end (seen ++ pages_in chain) → AllByRecursion (λ leaf. 1 ≤ leaf.number) chain
numbered_in end seen chain may = each_numbered chain
    (from_some (numbers chain) (λ n some. (in_file end n (pages_in chain)
    (may_behind end seen (pages_in chain) may)
    (omega (arith, some, times_parts n (numbers chain) (pages_of (entries_in chain))))).0))
  where
    from_some : (ns : List ℕ) → ((n : ℕ) → 1 ≤ times_of n ns → 1 ≤ n)
        → AllByRecursion (λ n. 1 ≤ n) ns
    from_some ns h = from_times (λ n. 1 ≤ n) ns h
