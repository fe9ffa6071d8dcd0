-- Laws of pages that are put among others, each in the place of its number.
use Rattle.std.proofs.Common.{◌≡◌, ◌⊎◌, inl, inr, ℕ, suc, ◌+◌, ◌<◌, ◌≤◌, List, [], ◌∷◌, ◌++◌, length, get_or, true, ◌&&◌, leb, ltb, refl, sym, ◌∙◌, ap, arith}
use Rattle.std.proofs.lemmas.Bool.{cases_eq, and_parts, leb-true, ltb-true, false≢true}
use Rattle.page_io.specs.Page.{own_number}
use Rattle.page_io.specs.Store.{Pages, with_page, overlaid, put_page, has_page, are_in_order, AllBelow}
use Rattle.page_io.proofs.Overlays.{overlaid-over, has_page-skip, with_page-same, with_page-other}
use Rattle.page_io.proofs.StagedPages.{put_page-behind, order_put, overlaid-put, overlaid-put_other, has_page-put, has_page-put_other}
use Rattle.page_group.specs.Changed.{put_all}

-- ---- the order of pages

-- what it says of the first page, and of the others
pub order_parts : (least high : ℕ) (page : List ℕ) (pages : Pages)
    → are_in_order least high (page ∷ pages) ≡ true
    → (least ≤ own_number page) × (own_number page < high)
    × (are_in_order (own_number page + 1) high pages ≡ true)
order_parts least high page pages order =
    let both = and_parts (leb least (own_number page) && ltb (own_number page) high)
    (are_in_order (own_number page + 1) high pages) order in
    let ends = and_parts (leb least (own_number page)) (ltb (own_number page) high) both.0 in
    (leb-true least (own_number page) ends.0, ltb-true (own_number page) high ends.1, both.1)

-- each of them is below the end
pub order_all_below : (least high : ℕ) (pages : Pages) → are_in_order least high pages ≡ true
    → AllBelow high pages
order_all_below least high [] order = tt
order_all_below least high (page ∷ pages) order =
    let parts = order_parts least high page pages order in
    (parts.1, order_all_below (own_number page + 1) high pages parts.2)

-- a page in the middle is within the bounds
pub order_middle : (least high : ℕ) (before : Pages) (page : List ℕ) (later : Pages)
    → are_in_order least high (before ++ page ∷ later) ≡ true → least ≤ own_number page
order_middle least high [] page later order = (order_parts least high page later order).0
order_middle least high (first ∷ before) page later order =
    let parts = order_parts least high first (before ++ page ∷ later) order in
    omega (
      arith,
      parts.0,
      order_middle (own_number first + 1) high before page later parts.2,
    )

-- put behind those before it, it is the last
pub put_last : (least high : ℕ) (before : Pages) (page : List ℕ) (later : Pages)
    → are_in_order least high (before ++ page ∷ later) ≡ true
    → put_page before page ≡ before ++ page ∷ []
put_last least high [] page later order = refl
put_last least high (first ∷ before) page later order =
    let parts = order_parts least high first (before ++ page ∷ later) order in
    put_page-behind first before page (omega (
      arith,
      order_middle (own_number first + 1) high before page later parts.2,
    ))
    ∙ ap (λ (ps : Pages). first ∷ ps)
    (put_last (own_number first + 1) high before page later parts.2)

-- ---- pages that are put in one after another

-- each of their numbers is from `least` on, and below the end
abbrev pub AreWithin : ℕ → ℕ → Pages → Type 0
AreWithin least high pages = (k : ℕ) → k < length pages
    → (least ≤ own_number (get_or pages k [])) × (own_number (get_or pages k []) < high)

later_within : (least high : ℕ) (page : List ℕ) (pages : Pages) → AreWithin least high (page ∷ pages)
    → AreWithin least high pages
later_within least high page pages within k lt = within (suc k) (omega (arith, lt))

pub put_all-push : (changed pages : Pages) (page : List ℕ)
    → put_all changed (pages ++ page ∷ []) ≡ put_page (put_all changed pages) page
put_all-push changed [] page = refl
put_all-push changed (first ∷ pages) page = put_all-push (put_page changed first) pages page

pub order-put_all : (least high : ℕ) (changed pages : Pages)
    → are_in_order least high changed ≡ true → AreWithin least high pages
    → are_in_order least high (put_all changed pages) ≡ true
order-put_all least high changed [] order within = order
order-put_all least high changed (page ∷ pages) order within =
    let here = within 0 (omega arith) in
    order-put_all least high (put_page changed page) pages
    (order_put least high changed page order here.0 here.1)
    (later_within least high page pages within)

pub has_page-put_all : (changed pages : Pages) (n : ℕ)
    → (has_page changed n ≡ true) ⊎ (has_page pages n ≡ true)
    → has_page (put_all changed pages) n ≡ true
has_page-put_all changed [] n (inl has) = has
has_page-put_all changed [] n (inr has) = absurd (false≢true has)
has_page-put_all changed (page ∷ pages) n either = elim (cases_eq (own_number page) n) [
  | inl same ↦ has_page-put_all (put_page changed page) pages n
      (inl (has_page-put changed page n same))
  | inr other ↦ has_page-put_all (put_page changed page) pages n (elim either [
    | inl has ↦ inl (has_page-put_other changed page n other ∙ has)
    | inr has ↦ inr (sym (has_page-skip pages page n other) ∙ has)
  ])
]

-- what a read gives: those that were put in, over the others
pub overlaid-put_all : (least high : ℕ) (changed pages : Pages) (home : ℕ → List ℕ) (n : ℕ)
    → are_in_order least high changed ≡ true → AreWithin least high pages
    → overlaid (put_all changed pages) home n ≡ overlaid pages (overlaid changed home) n
overlaid-put_all least high changed [] home n order within = refl
overlaid-put_all least high changed (page ∷ pages) home n order within =
    let here = within 0 (omega arith) in
    overlaid-put_all least high (put_page changed page) pages home n
    (order_put least high changed page order here.0 here.1)
    (later_within least high page pages within)
    ∙ overlaid-over pages (with_page (overlaid changed home) page)
    (overlaid (put_page changed page) home) n (λ apart. elim (cases_eq (own_number page) n) [
      | inl same ↦ overlaid-put least high changed home page n order same
          ∙ sym (with_page-same (overlaid changed home) page n same)
      | inr other ↦ overlaid-put_other changed home page n other
          ∙ sym (with_page-other (overlaid changed home) page n other)
    ])
