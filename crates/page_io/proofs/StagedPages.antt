-- Laws of staged pages, for the stores.
use Rattle.std.proofs.Common.{◌≡◌, ◌≢◌, inl, inr, ℕ, zero, suc, ◌+◌, ◌<◌, ◌≤◌, List, [], ◌∷◌, ◌++◌, length, get_or, Bool, true, false, cond, ◌&&◌, eqb, leb, ltb, refl, sym, ◌∙◌, ap, subst, arith}
use Rattle.std.proofs.lemmas.Bool.{cases_order, cases_lt, and_from, and_parts, le-leb, lt-ltb, le-ltb, leb-true, ltb-true, eq-eqb, ne_eqb, false≢true}
use Rattle.page_io.specs.Page.{own_number}
use Rattle.page_io.specs.Store.{Pages, file_pages, page_of, with_page, overlaid, are_in_order, put_page, has_page, committed_with, AllBelow}
use Rattle.page_io.proofs.Overlays.{same_file, page_of-file, overlaid-over, overlaid-none, apart-has_page, has_page-skip, has_page-here, with_page-same, with_page-other}

-- a bound on each number is a bound on the row
pub order_below : (least high end : ℕ) (pages : Pages) → are_in_order least high pages ≡ true
    → AllBelow end pages → are_in_order least end pages ≡ true
order_below least high end [] order below = refl
order_below least high end (page ∷ pages) order below =
    let both = and_parts (leb least (own_number page) && ltb (own_number page) high)
    (are_in_order (own_number page + 1) high pages) order in
    let ends = and_parts (leb least (own_number page)) (ltb (own_number page) high) both.0 in
    and_from (leb least (own_number page) && ltb (own_number page) end)
    (are_in_order (own_number page + 1) end pages)
    (and_from (leb least (own_number page)) (ltb (own_number page) end) ends.0
    (lt-ltb (own_number page) end below.0))
    (order_below (own_number page + 1) high end pages both.1 below.1)

-- what a page put among others makes of the row: the three ways of `put_page`
pub put_page-before : (page : List ℕ) (pages : Pages) (new : List ℕ)
    → own_number new < own_number page → put_page (page ∷ pages) new ≡ new ∷ page ∷ pages
put_page-before page pages new lt =
    ap (λ (b : Bool). cond b (new ∷ page ∷ pages)
    (cond (eqb (own_number new) (own_number page)) (new ∷ pages)
    (page ∷ put_page pages new))) (lt-ltb (own_number new) (own_number page) lt)

pub put_page-over : (page : List ℕ) (pages : Pages) (new : List ℕ)
    → own_number new ≡ own_number page → put_page (page ∷ pages) new ≡ new ∷ pages
put_page-over page pages new same =
    ap (λ (b : Bool). cond b (new ∷ page ∷ pages)
    (cond (eqb (own_number new) (own_number page)) (new ∷ pages)
    (page ∷ put_page pages new)))
    (le-ltb (own_number new) (own_number page) (omega (arith, same)))
    ∙ ap (λ (b : Bool). cond b (new ∷ pages) (page ∷ put_page pages new))
    (eq-eqb (own_number new) (own_number page) same)

pub put_page-behind : (page : List ℕ) (pages : Pages) (new : List ℕ)
    → own_number page < own_number new → put_page (page ∷ pages) new ≡ page ∷ put_page pages new
put_page-behind page pages new lt =
    ap (λ (b : Bool). cond b (new ∷ page ∷ pages)
    (cond (eqb (own_number new) (own_number page)) (new ∷ pages)
    (page ∷ put_page pages new)))
    (le-ltb (own_number new) (own_number page) (omega (arith, lt)))
    ∙ ap (λ (b : Bool). cond b (new ∷ pages) (page ∷ put_page pages new))
    (ne_eqb (own_number new) (own_number page) (λ same. omega (arith, same, lt)))

joins : (least end : ℕ) (page : List ℕ) (pages : Pages) → least ≤ own_number page
    → own_number page < end → are_in_order (own_number page + 1) end pages ≡ true
    → are_in_order least end (page ∷ pages) ≡ true
joins least end page pages low high rest =
    and_from (leb least (own_number page) && ltb (own_number page) end)
    (are_in_order (own_number page + 1) end pages)
    (and_from (leb least (own_number page)) (ltb (own_number page) end)
    (le-leb least (own_number page) low) (lt-ltb (own_number page) end high)) rest

-- a page put in its place keeps the order
pub order_put : (least end : ℕ) (pages : Pages) (new : List ℕ) → are_in_order least end pages ≡ true
    → least ≤ own_number new → own_number new < end
    → are_in_order least end (put_page pages new) ≡ true
order_put least end [] new order low high = joins least end new [] low high refl
order_put least end (page ∷ pages) new order low high =
    let both = and_parts (leb least (own_number page) && ltb (own_number page) end)
    (are_in_order (own_number page + 1) end pages) order in
    let ends = and_parts (leb least (own_number page)) (ltb (own_number page) end) both.0 in
    let page_low = leb-true least (own_number page) ends.0 in
    let page_high = ltb-true (own_number page) end ends.1 in
    let Done = λ (ps : Pages). are_in_order least end ps ≡ true in
    elim (cases_order (own_number new) (own_number page)) [
      | inl same ↦ subst Done (sym (put_page-over page pages new same))
          (joins least end new pages low high
          (subst (λ (k : ℕ). are_in_order (k + 1) end pages ≡ true) (sym same) both.1))
      | inr (inl below) ↦ subst Done (sym (put_page-before page pages new below))
          (joins least end new (page ∷ pages) low high
          (joins (own_number new + 1) end page pages (omega (arith, below))
          page_high both.1))
      | inr (inr above) ↦ subst Done (sym (put_page-behind page pages new above))
          (joins least end page (put_page pages new) page_low page_high
          (order_put (own_number page + 1) end pages new both.1
          (omega (arith, above)) high))
    ]

-- what a device's images settle to after a commit, in terms of the pages before
pub replaced : (home : ℕ → List ℕ) (old_end new_end : ℕ) (staged : Pages)
    → ((n : ℕ) → old_end ≤ n → n < new_end → has_page staged n ≡ true)
    → file_pages (overlaid staged home) new_end
    ≡ committed_with (file_pages home old_end) staged new_end
replaced home old_end new_end staged grown =
    same_file (overlaid staged home) (overlaid staged (page_of (file_pages home old_end))) new_end
    (λ n ge lt. overlaid-over staged (page_of (file_pages home old_end)) home n
    (λ apart. elim (cases_lt n old_end) [
      | inl within ↦ sym (page_of-file home old_end n ge within)
      | inr past ↦ absurd (false≢true (sym (apart-has_page staged n apart) ∙ grown n past lt))
    ]))

-- each number is from `least` on, and below the end
pub in_range : (least end : ℕ) (pages : Pages) (k : ℕ) → are_in_order least end pages ≡ true
    → k < length pages → (least ≤ own_number (get_or pages k []))
    × (own_number (get_or pages k []) < end)
in_range least end [] k order lt = absurd (omega (arith, lt))
in_range least end (page ∷ pages) zero order lt =
    let both = and_parts (leb least (own_number page) && ltb (own_number page) end)
    (are_in_order (own_number page + 1) end pages) order in
    let ends = and_parts (leb least (own_number page)) (ltb (own_number page) end) both.0 in
    (leb-true least (own_number page) ends.0, ltb-true (own_number page) end ends.1)
in_range least end (page ∷ pages) (suc k) order lt =
    let both = and_parts (leb least (own_number page) && ltb (own_number page) end)
    (are_in_order (own_number page + 1) end pages) order in
    let ends = and_parts (leb least (own_number page)) (ltb (own_number page) end) both.0 in
    let low = leb-true least (own_number page) ends.0 in
    let more = in_range (own_number page + 1) end pages k both.1 (omega (arith, lt)) in
    (omega (arith, low, more.0), more.1)

-- a bound on the row may be wider
pub order_wider : (least end high : ℕ) (pages : Pages) → end ≤ high
    → are_in_order least end pages ≡ true → are_in_order least high pages ≡ true
order_wider least end high [] wide order = refl
order_wider least end high (page ∷ pages) wide order =
    let both = and_parts (leb least (own_number page) && ltb (own_number page) end)
    (are_in_order (own_number page + 1) end pages) order in
    let ends = and_parts (leb least (own_number page)) (ltb (own_number page) end) both.0 in
    let lt = ltb-true (own_number page) end ends.1 in
    joins least high page pages (leb-true least (own_number page) ends.0) (omega (arith, lt, wide))
    (order_wider (own_number page + 1) end high pages wide both.1)

-- the numbers rise from one place to a later one
pub rises : (least high : ℕ) (pages : Pages) (i j : ℕ) → are_in_order least high pages ≡ true
    → i < j → j < length pages → own_number (get_or pages i []) < own_number (get_or pages j [])
rises least high [] i j order lt within = absurd (omega (arith, within))
rises least high (page ∷ pages) i zero order lt within = absurd (omega (arith, lt))
rises least high (page ∷ pages) zero (suc j) order lt within =
    let both = and_parts (leb least (own_number page) && ltb (own_number page) high)
    (are_in_order (own_number page + 1) high pages) order in
    let more = in_range (own_number page + 1) high pages j both.1 (omega (arith, within)) in
    omega (arith, more.0)
rises least high (page ∷ pages) (suc i) (suc j) order lt within =
    let both = and_parts (leb least (own_number page) && ltb (own_number page) high)
    (are_in_order (own_number page + 1) high pages) order in
    rises (own_number page + 1) high pages i j both.1 (omega (arith, lt)) (omega (arith, within))

-- none of a row has a number below its least
has_below : (least high : ℕ) (pages : Pages) (n : ℕ) → are_in_order least high pages ≡ true
    → n < least → has_page pages n ≡ false
has_below least high [] n order lt = refl
has_below least high (page ∷ pages) n order lt =
    let both = and_parts (leb least (own_number page) && ltb (own_number page) high)
    (are_in_order (own_number page + 1) high pages) order in
    let low = leb-true least (own_number page)
    (and_parts (leb least (own_number page)) (ltb (own_number page) high) both.0).0 in
    has_page-skip pages page n (λ same. omega (arith, same, low, lt))
    ∙ has_below (own_number page + 1) high pages n both.1 (omega (arith, low, lt))

-- a number between two neighbours is none of theirs
pub has_between : (least high : ℕ) (pages : Pages) (at n : ℕ) → are_in_order least high pages ≡ true
    → ((k : ℕ) → k < at → own_number (get_or pages k []) < n)
    → (at < length pages → n < own_number (get_or pages at [])) → at ≤ length pages
    → has_page pages n ≡ false
has_between least high [] at n order before above le = refl
has_between least high (page ∷ pages) zero n order before above le =
    let both = and_parts (leb least (own_number page) && ltb (own_number page) high)
    (are_in_order (own_number page + 1) high pages) order in
    let lt = above (omega arith) in
    has_page-skip pages page n (λ same. omega (arith, same, lt))
    ∙ has_below (own_number page + 1) high pages n both.1 (omega (arith, lt))
has_between least high (page ∷ pages) (suc at) n order before above le =
    let both = and_parts (leb least (own_number page) && ltb (own_number page) high)
    (are_in_order (own_number page + 1) high pages) order in
    let lt = before 0 (omega arith) in
    has_page-skip pages page n (λ same. omega (arith, same, lt))
    ∙ has_between (own_number page + 1) high pages at n both.1
    (λ k lk. before (suc k) (omega (arith, lk))) (λ more. above (omega (arith, more)))
    (omega (arith, le))

-- the page at a place is what a read gives at its number
pub overlaid-at : (least high : ℕ) (pages : Pages) (home : ℕ → List ℕ) (at n : ℕ)
    → are_in_order least high pages ≡ true → at < length pages
    → own_number (get_or pages at []) ≡ n → overlaid pages home n ≡ get_or pages at []
overlaid-at least high [] home at n order lt is = absurd (omega (arith, lt))
overlaid-at least high (page ∷ pages) home zero n order lt is =
    let both = and_parts (leb least (own_number page) && ltb (own_number page) high)
    (are_in_order (own_number page + 1) high pages) order in
    overlaid-none pages (with_page home page) n
    (has_below (own_number page + 1) high pages n both.1 (omega (arith, is)))
    ∙ with_page-same home page n is
overlaid-at least high (page ∷ pages) home (suc at) n order lt is =
    let both = and_parts (leb least (own_number page) && ltb (own_number page) high)
    (are_in_order (own_number page + 1) high pages) order in
    overlaid-at (own_number page + 1) high pages (with_page home page) at n both.1
    (omega (arith, lt)) is

-- a staged page is among them afterwards
pub has_page-put : (pages : Pages) (new : List ℕ) (n : ℕ) → own_number new ≡ n
    → has_page (put_page pages new) n ≡ true
has_page-put [] new n is = has_page-here [] new n is
has_page-put (page ∷ pages) new n is = elim (cases_order (own_number new) (own_number page)) [
  | inl same ↦ ap (λ (ps : Pages). has_page ps n) (put_page-over page pages new same)
      ∙ has_page-here pages new n is
  | inr (inl below) ↦ ap (λ (ps : Pages). has_page ps n) (put_page-before page pages new below)
      ∙ has_page-here (page ∷ pages) new n is
  | inr (inr above) ↦ ap (λ (ps : Pages). has_page ps n) (put_page-behind page pages new above)
      ∙ has_page-skip (put_page pages new) page n (λ same. omega (arith, same, is, above))
      ∙ has_page-put pages new n is
]

-- and the others as before
pub has_page-put_other : (pages : Pages) (new : List ℕ) (n : ℕ) → own_number new ≢ n
    → has_page (put_page pages new) n ≡ has_page pages n
has_page-put_other [] new n other = has_page-skip [] new n other
has_page-put_other (page ∷ pages) new n other =
    elim (cases_order (own_number new) (own_number page)) [
      | inl same ↦ ap (λ (ps : Pages). has_page ps n) (put_page-over page pages new same)
          ∙ has_page-skip pages new n other
          ∙ sym (has_page-skip pages page n (λ e. other (same ∙ e)))
      | inr (inl below) ↦ ap (λ (ps : Pages). has_page ps n) (put_page-before page pages new below)
          ∙ has_page-skip (page ∷ pages) new n other
      | inr (inr above) ↦ ap (λ (ps : Pages). has_page ps n) (put_page-behind page pages new above)
          ∙ ap (λ (b : Bool). cond (eqb (own_number page) n) true b)
          (has_page-put_other pages new n other)
    ]

-- what a read gives afterwards: the staged page at its number
pub overlaid-put : (least high : ℕ) (pages : Pages) (home : ℕ → List ℕ) (new : List ℕ) (n : ℕ)
    → are_in_order least high pages ≡ true → own_number new ≡ n
    → overlaid (put_page pages new) home n ≡ new
overlaid-put least high [] home new n order is = with_page-same home new n is
overlaid-put least high (page ∷ pages) home new n order is =
    let both = and_parts (leb least (own_number page) && ltb (own_number page) high)
    (are_in_order (own_number page + 1) high pages) order in
    elim (cases_order (own_number new) (own_number page)) [
      | inl same ↦ ap (λ (ps : Pages). overlaid ps home n) (put_page-over page pages new same)
          ∙ overlaid-none pages (with_page home new) n
          (has_below (own_number page + 1) high pages n both.1 (omega (arith, same, is)))
          ∙ with_page-same home new n is
      | inr (inl below) ↦ ap (λ (ps : Pages). overlaid ps home n)
          (put_page-before page pages new below)
          ∙ overlaid-none (page ∷ pages) (with_page home new) n
          (has_page-skip pages page n (λ same. omega (arith, same, is, below))
          ∙ has_below (own_number page + 1) high pages n both.1 (omega (arith, is, below)))
          ∙ with_page-same home new n is
      | inr (inr above) ↦ ap (λ (ps : Pages). overlaid ps home n)
          (put_page-behind page pages new above)
          ∙ overlaid-put (own_number page + 1) high pages (with_page home page) new n both.1 is
    ]

-- and what it gave before at every other
pub overlaid-put_other : (pages : Pages) (home : ℕ → List ℕ) (new : List ℕ) (n : ℕ)
    → own_number new ≢ n → overlaid (put_page pages new) home n ≡ overlaid pages home n
overlaid-put_other [] home new n other = with_page-other home new n other
overlaid-put_other (page ∷ pages) home new n other =
    elim (cases_order (own_number new) (own_number page)) [
      | inl same ↦ ap (λ (ps : Pages). overlaid ps home n) (put_page-over page pages new same)
          ∙ overlaid-over pages (with_page home page) (with_page home new) n
          (λ apart. with_page-other home new n other
          ∙ sym (with_page-other home page n (λ e. other (same ∙ e))))
      | inr (inl below) ↦ ap (λ (ps : Pages). overlaid ps home n) (put_page-before page pages new below)
          ∙ overlaid-over (page ∷ pages) home (with_page home new) n
          (λ apart. with_page-other home new n other)
      | inr (inr above) ↦ ap (λ (ps : Pages). overlaid ps home n) (put_page-behind page pages new above)
          ∙ overlaid-put_other pages (with_page home page) new n other
    ]

-- how many are staged afterwards
pub length-put_new : (pages : Pages) (new : List ℕ) → has_page pages (own_number new) ≡ false
    → length (put_page pages new) ≡ length pages + 1
length-put_new [] new none = refl
length-put_new (page ∷ pages) new none = elim (cases_order (own_number new) (own_number page)) [
  | inl same ↦ absurd (false≢true (sym none ∙ has_page-here pages page (own_number new) (sym same)))
  | inr (inl below) ↦ ap (λ (ps : Pages). length ps)
      (put_page-before page pages new below) ∙ omega arith
  | inr (inr above) ↦
      let rest = length-put_new pages new
      (sym (has_page-skip pages page (own_number new) (λ same. omega (arith, same, above)))
      ∙ none) in
      ap (λ (ps : Pages). length ps) (put_page-behind page pages new above) ∙ omega (arith, rest)
]

pub length-put_again : (least high : ℕ) (pages : Pages) (new : List ℕ)
    → are_in_order least high pages ≡ true → has_page pages (own_number new) ≡ true
    → length (put_page pages new) ≡ length pages
length-put_again least high [] new order has = absurd (false≢true has)
length-put_again least high (page ∷ pages) new order has =
    let both = and_parts (leb least (own_number page) && ltb (own_number page) high)
    (are_in_order (own_number page + 1) high pages) order in
    elim (cases_order (own_number new) (own_number page)) [
      | inl same ↦ ap (λ (ps : Pages). length ps) (put_page-over page pages new same) ∙ omega arith
      | inr (inl below) ↦ absurd (false≢true
          (sym (has_page-skip pages page (own_number new) (λ same. omega (arith, same, below))
          ∙ has_below (own_number page + 1) high pages (own_number new) both.1
          (omega (arith, below))) ∙ has))
      | inr (inr above) ↦
          let rest = length-put_again (own_number page + 1) high pages new both.1
          (sym (has_page-skip pages page (own_number new) (λ same. omega (arith, same, above)))
          ∙ has) in
          ap (λ (ps : Pages). length ps) (put_page-behind page pages new above)
          ∙ omega (arith, rest)
    ]

-- a bound on each number may be wider
pub AllBelow-wider : (end high : ℕ) (pages : Pages) → end ≤ high → AllBelow end pages
    → AllBelow high pages
AllBelow-wider end high [] wide below = tt
AllBelow-wider end high (page ∷ pages) wide below =
    (omega (arith, below.0, wide), AllBelow-wider end high pages wide below.1)

-- one page behind others that are below a lower bound
pub AllBelow-push : (end high : ℕ) (pages : Pages) (page : List ℕ) → AllBelow end pages
    → end ≤ high → own_number page < high → AllBelow high (pages ++ page ∷ [])
AllBelow-push end high [] page below wide lt = (lt, tt)
AllBelow-push end high (first ∷ pages) page below wide lt =
    (omega (arith, below.0, wide), AllBelow-push end high pages page below.1 wide lt)

-- a bound on each staged number holds afterwards
pub AllBelow-put : (end : ℕ) (pages : Pages) (new : List ℕ) → AllBelow end pages
    → own_number new < end → AllBelow end (put_page pages new)
AllBelow-put end [] new below lt = (lt, tt)
AllBelow-put end (page ∷ pages) new below lt =
    elim (cases_order (own_number new) (own_number page)) [
      | inl same ↦ subst (AllBelow end) (sym (put_page-over page pages new same)) (lt, below.1)
      | inr (inl under) ↦ subst (AllBelow end) (sym (put_page-before page pages new under)) (lt, below)
      | inr (inr above) ↦ subst (AllBelow end) (sym (put_page-behind page pages new above))
          (below.0, AllBelow-put end pages new below.1 lt)
    ]
