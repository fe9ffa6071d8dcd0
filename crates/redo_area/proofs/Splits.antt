-- Pages in order, of which the first stand below a number and the others from it on.
use Rattle.std.proofs.Common.{◌≡◌, inl, inr, ℕ, zero, suc, ◌+◌, ◌-◌, ◌<◌, ◌≤◌, List, [], ◌∷◌, ◌++◌, length, get_or, take, true, ◌&&◌, leb, ltb, refl, sym, ◌∙◌, ap, subst, arith}
use Rattle.std.proofs.lemmas.Bool.{cases_lt, and_from, and_parts, le-leb, lt-ltb, leb-true, ltb-true}
use Rattle.std.proofs.lemmas.List.{map-append, take-map, length-map, length-append, length-take-le, get_or_append_left, get_or-append_right}
use Rattle.page_io.specs.Page.{own_number}
use Rattle.page_io.specs.Store.{Pages, file_pages, overlaid, are_in_order, bytes_of}
use Rattle.page_io.specs.declared.page.Page.{Page}
use Rattle.page_io.proofs.Overlays.{IsApart, same_file, overlaid-over, overlaid-apart}
use Rattle.page_io.proofs.StagedPages.{in_range, rises}

pub first_in_order : (least mid end : ℕ) (first rest : Pages)
    → are_in_order least end (first ++ rest) ≡ true
    → ((i : ℕ) → i < length first → own_number (get_or first i []) < mid)
    → are_in_order least mid first ≡ true
first_in_order least mid end [] rest order below = refl
first_in_order least mid end (page ∷ first) rest order below =
    let both = and_parts (leb least (own_number page) && ltb (own_number page) end)
    (are_in_order (own_number page + 1) end (first ++ rest)) order in
    let ends = and_parts (leb least (own_number page)) (ltb (own_number page) end) both.0 in
    and_from (leb least (own_number page) && ltb (own_number page) mid)
    (are_in_order (own_number page + 1) mid first)
    (and_from (leb least (own_number page)) (ltb (own_number page) mid) ends.0
    (lt-ltb (own_number page) mid (below 0 (omega arith))))
    (first_in_order (own_number page + 1) mid end first rest both.1
    (λ i lt. below (suc i) (omega (arith, lt))))

pub rest_in_order : (least mid end : ℕ) (first rest : Pages)
    → are_in_order least end (first ++ rest) ≡ true
    → (0 < length rest → mid ≤ own_number (get_or rest 0 []))
    → are_in_order mid end rest ≡ true
rest_in_order least mid end [] [] order low = refl
rest_in_order least mid end [] (page ∷ rest) order low =
    let both = and_parts (leb least (own_number page) && ltb (own_number page) end)
    (are_in_order (own_number page + 1) end rest) order in
    let ends = and_parts (leb least (own_number page)) (ltb (own_number page) end) both.0 in
    and_from (leb mid (own_number page) && ltb (own_number page) end)
    (are_in_order (own_number page + 1) end rest)
    (and_from (leb mid (own_number page)) (ltb (own_number page) end)
    (le-leb mid (own_number page) (low (omega arith))) ends.1) both.1
rest_in_order least mid end (page ∷ first) rest order low =
    let both = and_parts (leb least (own_number page) && ltb (own_number page) end)
    (are_in_order (own_number page + 1) end (first ++ rest)) order in
    rest_in_order (own_number page + 1) mid end first rest both.1 low

-- a number out of the range of pages in order is none of theirs
apart_low : (least end : ℕ) (pages : Pages) (n : ℕ) → are_in_order least end pages ≡ true
    → n < least → IsApart pages n
apart_low least end [] n order lt = tt
apart_low least end (page ∷ pages) n order lt =
    let both = and_parts (leb least (own_number page) && ltb (own_number page) end)
    (are_in_order (own_number page + 1) end pages) order in
    let ends = and_parts (leb least (own_number page)) (ltb (own_number page) end) both.0 in
    let low = leb-true least (own_number page) ends.0 in (
      λ same. omega (arith, same, low, lt),
      apart_low (own_number page + 1) end pages n both.1 (omega (arith, low, lt)),
    )

apart_high : (least end : ℕ) (pages : Pages) (n : ℕ) → are_in_order least end pages ≡ true
    → end ≤ n → IsApart pages n
apart_high least end [] n order le = tt
apart_high least end (page ∷ pages) n order le =
    let both = and_parts (leb least (own_number page) && ltb (own_number page) end)
    (are_in_order (own_number page + 1) end pages) order in
    let ends = and_parts (leb least (own_number page)) (ltb (own_number page) end) both.0 in
    let high = ltb-true (own_number page) end ends.1 in (
      λ same. omega (arith, same, high, le),
      apart_high (own_number page + 1) end pages n both.1 le,
    )

overlaid-append : (first rest : Pages) (home : ℕ → List ℕ)
    → overlaid (first ++ rest) home ≡ overlaid rest (overlaid first home)
overlaid-append [] rest home = refl
overlaid-append (page ∷ first) rest home = overlaid-append first rest _

-- it is one whether the later ones stand under the first ones, or over them
pub either_way : (mid end : ℕ) (first rest : Pages) (home : ℕ → List ℕ)
    → are_in_order 1 mid first ≡ true → are_in_order mid end rest ≡ true
    → file_pages (overlaid first (overlaid rest home)) end
    ≡ file_pages (overlaid (first ++ rest) home) end
either_way mid end first rest home low high =
    same_file (overlaid first (overlaid rest home)) (overlaid (first ++ rest) home) end
    (λ n ge lt. at_page n ∙ sym (ap (λ f. f n) (overlaid-append first rest home)))
  where
    at_page : (n : ℕ)
        → overlaid first (overlaid rest home) n ≡ overlaid rest (overlaid first home) n
    at_page n = elim (cases_lt n mid) [
      | inl below ↦
          let apart = apart_low mid end rest n high below in
          overlaid-over first home (overlaid rest home) n (λ _. overlaid-apart rest home n apart)
          ∙ sym (overlaid-apart rest (overlaid first home) n apart)
      | inr from ↦
          let apart = apart_high 1 mid first n low from in
          overlaid-apart first (overlaid rest home) n apart
          ∙ sym (overlaid-over rest home (overlaid first home) n
          (λ _. overlaid-apart first home n apart))
    ]

-- the first ones of pages in order
firsts_in_order : (least end k : ℕ) (pages : Pages) → are_in_order least end pages ≡ true
    → are_in_order least end (take k pages) ≡ true
firsts_in_order least end zero pages order = refl
firsts_in_order least end (suc k) [] order = refl
firsts_in_order least end (suc k) (page ∷ pages) order =
    let both = and_parts (leb least (own_number page) && ltb (own_number page) end)
    (are_in_order (own_number page + 1) end pages) order in
    and_from (leb least (own_number page) && ltb (own_number page) end)
    (are_in_order (own_number page + 1) end (take k pages)) both.0
    (firsts_in_order (own_number page + 1) end k pages both.1)

pub taken_in_order : (least end k : ℕ) (pages : List Page)
    → are_in_order least end (bytes_of pages) ≡ true
    → are_in_order least end (bytes_of (take k pages)) ≡ true
taken_in_order least end k pages order =
    subst (λ (ps : Pages). are_in_order least end ps ≡ true) (take-map (λ (p : Page). p.bytes) k pages)
    (firsts_in_order least end k (bytes_of pages) order)

pub some_taken : (k : ℕ) (pages : List Page) → 0 < k → k ≤ length pages
    → 0 < length (bytes_of (take k pages))
some_taken k pages some le =
    omega (arith, some, length-map (take k pages) (λ (p : Page). p.bytes), length-take-le k pages le)

-- pages that were split where those from the old end on begin
module _ (pages first rest : List Page) (count old_end new_end : ℕ) (both : pages ≡ first ++ rest)
    (long : length first ≡ count) (some : 0 < count)
    (order : are_in_order 1 new_end (bytes_of pages) ≡ true)
    (below : own_number (get_or (bytes_of pages) (count - 1) []) < old_end)
    (from : (k : ℕ) → count ≤ k → k < length pages
    → old_end ≤ own_number (get_or (bytes_of pages) k [])) where
  pub bytes_are : bytes_of pages ≡ bytes_of first ++ bytes_of rest
  bytes_are = ap bytes_of both ∙ map-append (λ (p : Page). p.bytes) first rest

  counted : length (bytes_of first) ≡ count
  counted = length-map first (λ (p : Page). p.bytes) ∙ long

  in_one : are_in_order 1 new_end (bytes_of first ++ bytes_of rest) ≡ true
  in_one = subst (λ (ps : Pages). are_in_order 1 new_end ps ≡ true) bytes_are order

  all_long : length pages ≡ count + length rest
  all_long = ap length both ∙ length-append first rest ∙ ap (λ (n : ℕ). n + length rest) long

  total : length (bytes_of pages) ≡ length pages
  total = length-map pages (λ (p : Page). p.bytes)

  lower : (i : ℕ) → i < count → own_number (get_or (bytes_of pages) i []) < old_end
  lower i lt = elim (cases_lt i (count - 1)) [
    | inl before ↦ omega (
      arith,
      below,
      rises 1 new_end (bytes_of pages) i (count - 1) order before
          (omega (arith, some, total, all_long)),
    )
    | inr last ↦
        let same : count - 1 ≡ i = omega (arith, last, lt) in
        subst (λ (k : ℕ). own_number (get_or (bytes_of pages) k []) < old_end) same below
  ]

  pub first_is : are_in_order 1 old_end (bytes_of first) ≡ true
  first_is = first_in_order 1 old_end new_end (bytes_of first) (bytes_of rest) in_one
      (λ i lt. subst (λ (page : List ℕ). own_number page < old_end)
      (ap (λ (ps : Pages). get_or ps i []) bytes_are
      ∙ get_or_append_left (bytes_of first) (bytes_of rest) [] i lt)
      (lower i (omega (arith, lt, counted))))

  pub rest_is : are_in_order old_end new_end (bytes_of rest) ≡ true
  rest_is = rest_in_order 1 old_end new_end (bytes_of first) (bytes_of rest) in_one
      (λ more. subst (λ (page : List ℕ). old_end ≤ own_number page)
      (ap (λ (ps : Pages). get_or ps count []) bytes_are
      ∙ get_or-append_right (bytes_of first) (bytes_of rest) count count [] counted (omega arith)
      ∙ ap (λ (k : ℕ). get_or (bytes_of rest) k []) (omega arith))
      (from count (omega arith)
      (omega (arith, more, all_long, length-map rest (λ (p : Page). p.bytes)))))

  -- a page of the rest is below the new end
  pub grows : 0 < length rest → old_end ≤ new_end
  grows more =
      let one = in_range old_end new_end (bytes_of rest) 0 rest_is
      (omega (arith, more, length-map rest (λ (p : Page). p.bytes))) in
      omega (arith, one.0, one.1)
