-- A page put among staged pages, as a list of pages and as their bytes.
use Rattle.std.proofs.Common.{◌≡◌, ℕ, zero, suc, ◌+◌, ◌<◌, ◌≤◌, List, [], ◌∷◌, ◌++◌, length, get_or, set, take, drop, Bool, true, false, IsTrue, IsFalse, ◌≢◌, inl, inr, refl, sym, ◌∙◌, ap, subst, arith}
use Rattle.std.proofs.lemmas.Bool.{cases_lt}
use Rattle.std.proofs.lemmas.List.{map-append, map-set, length-map}
use Rattle.page_io.specs.Page.{own_number}
use Rattle.page_io.specs.Store.{Pages, bytes_of, overlaid, put_page, has_page, are_in_order}
use Rattle.page_io.proofs.StagedPages.{put_page-before, put_page-over, put_page-behind, rises, has_between, overlaid-at}
use Rattle.page_io.proofs.Overlays.{has_page-at}
use Rattle.page_io.proofs.PageLists.{bytes_at}
use Rattle.page_io.specs.declared.page.Page.{Page}

set_same : (pages : Pages) (at : ℕ) (new : List ℕ) → at < length pages
    → ((k : ℕ) → k < at → own_number (get_or pages k []) < own_number new)
    → own_number new ≡ own_number (get_or pages at [])
    → set pages at new ≡ put_page pages new
set_same [] at new lt below same = absurd (omega (arith, lt))
set_same (page ∷ pages) zero new lt below same = sym (put_page-over page pages new same)
set_same (page ∷ pages) (suc at) new lt below same =
    ap (λ (ps : Pages). page ∷ ps)
    (set_same pages at new (omega (arith, lt)) (λ k lk. below (suc k) (omega (arith, lk))) same)
    ∙ sym (put_page-behind page pages new (below 0 (omega arith)))

insert_before : (pages : Pages) (at : ℕ) (new : List ℕ) → at ≤ length pages
    → ((k : ℕ) → k < at → own_number (get_or pages k []) < own_number new)
    → (at < length pages → own_number new < own_number (get_or pages at []))
    → take at pages ++ new ∷ drop at pages ≡ put_page pages new
insert_before [] zero new le below above = refl
insert_before [] (suc at) new le below above = absurd (omega (arith, le))
insert_before (page ∷ pages) zero new le below above =
    sym (put_page-before page pages new (above (omega arith)))
insert_before (page ∷ pages) (suc at) new le below above =
    ap (λ (ps : Pages). page ∷ ps)
    (insert_before pages at new (omega (arith, le)) (λ k lk. below (suc k) (omega (arith, lk)))
    (λ lt. above (omega (arith, lt))))
    ∙ sym (put_page-behind page pages new (below 0 (omega arith)))

bytes-take : (pages : List Page) (i : ℕ) → bytes_of (take i pages) ≡ take i (bytes_of pages)
bytes-take pages zero = refl
bytes-take [] (suc i) = refl
bytes-take (page ∷ pages) (suc i) = ap (λ (ps : Pages). page.bytes ∷ ps) (bytes-take pages i)

bytes-drop : (pages : List Page) (i : ℕ) → bytes_of (drop i pages) ≡ drop i (bytes_of pages)
bytes-drop pages zero = refl
bytes-drop [] (suc i) = refl
bytes-drop (page ∷ pages) (suc i) = bytes-drop pages i

bytes-insert : (pages : List Page) (i : ℕ) (page : Page)
    → bytes_of (take i pages ++ page ∷ drop i pages) ≡ take i (bytes_of pages) ++ page.bytes
    ∷ drop i (bytes_of pages)
bytes-insert pages i page =
    map-append (λ (p : Page). p.bytes) (take i pages) (page ∷ drop i pages)
    ∙ ap (λ (ps : Pages). ps ++ page.bytes ∷ bytes_of (drop i pages)) (bytes-take pages i)
    ∙ ap (λ (ps : Pages). take i (bytes_of pages) ++ page.bytes ∷ ps) (bytes-drop pages i)

-- where a page of number n stands or would be put
abbrev pub IsPlace : List Page → ℕ → ℕ → Type 0
IsPlace items at n = record {
  within : at ≤ length items;
  before : (k : ℕ) → k < at → own_number (get_or (bytes_of items) k []) < n;
  after : at < length items → n ≤ own_number (get_or (bytes_of items) at []);
}

-- whether a page of number n is at that place
abbrev pub IsThere : List Page → ℕ → ℕ → Bool → Type 0
IsThere items at n there = record {
  yes : IsTrue there → (at < length items) × (own_number (get_or (bytes_of items) at []) ≡ n);
  no : IsFalse there → at < length items → own_number (get_or (bytes_of items) at []) ≢ n;
}

long : (pages : List Page) → length (bytes_of pages) ≡ length pages
long pages = length-map pages (λ (p : Page). p.bytes)

-- a number above that of one place is above those of the places before it
pub below_place : (items : List Page) (at n : ℕ)
    → are_in_order 1 4294967296 (bytes_of items) ≡ true → at < length items
    → own_number (get_or (bytes_of items) at []) < n → (k : ℕ) → k < at + 1
    → own_number (get_or (bytes_of items) k []) < n
below_place items at n order lt high k le = elim (cases_lt k at) [
  | inl before ↦
      let less = rises 1 4294967296 (bytes_of items) k at order before
      (omega (arith, lt, long items)) in
      omega (arith, less, high)
  | inr behind ↦
      let same : at ≡ k = omega (arith, le, behind) in
      subst (λ (i : ℕ). own_number (get_or (bytes_of items) i []) < n) same high
]

-- the place at which a page of number n is, if it is among them: whether it is there is whether it
-- is among them
pub found_at : (items : List Page) (at n : ℕ) (there : Bool) → IsPlace items at n
    → IsThere items at n there → are_in_order 1 4294967296 (bytes_of items) ≡ true
    → there ≡ has_page (bytes_of items) n
found_at items at n true place is order =
    let here = is.yes refl in
    sym (has_page-at (bytes_of items) at n (omega (arith, here.0, long items)) here.1)
found_at items at n false place is order =
    sym (has_between 1 4294967296 (bytes_of items) at n order place.before
    (λ lt. let within : at < length items = omega (arith, lt, long items) in
    let low = place.after within in
    let other = is.no refl within in
    omega (arith, low, other)) (omega (arith, place.within, long items)))

-- the page that is there is what a read gives
pub given_at : (items : List Page) (home : ℕ → List ℕ) (at n : ℕ) (page : Page) → at < length items
    → page ≡ get_or items at page → own_number (get_or (bytes_of items) at []) ≡ n
    → are_in_order 1 4294967296 (bytes_of items) ≡ true
    → overlaid (bytes_of items) home n ≡ page.bytes
given_at items home at n page lt is here order =
    overlaid-at 1 4294967296 (bytes_of items) home at n order (omega (arith, lt, long items)) here
    ∙ bytes_at items at page lt is

-- a page that goes to place `at` of staged pages: all before it have lower numbers
module _ (items : List Page) (at : ℕ) (page : Page) (le : at ≤ length items)
    (before : (k : ℕ) → k < at → own_number (get_or (bytes_of items) k [])
    < own_number page.bytes) where
  pub replaced_at : at < length items
      → own_number (get_or (bytes_of items) at []) ≡ own_number page.bytes
      → bytes_of (set items at page) ≡ put_page (bytes_of items) page.bytes
  replaced_at lt same = map-set (λ (p : Page). p.bytes) items at page
      ∙ set_same (bytes_of items) at page.bytes (omega (arith, lt, long items)) before (sym same)

  module _ (after : at < length items
      → own_number page.bytes ≤ own_number (get_or (bytes_of items) at []))
      (other : at < length items → own_number (get_or (bytes_of items) at [])
      ≢ own_number page.bytes) where
    above : at < length (bytes_of items)
        → own_number page.bytes < own_number (get_or (bytes_of items) at [])
    above lt =
        let lt' : at < length items = omega (arith, lt, long items) in
        let low = after lt' in
        let ne = other lt' in
        omega (arith, low, ne)

    pub inserted_at : bytes_of (take at items ++ page ∷ drop at items)
        ≡ put_page (bytes_of items) page.bytes
    inserted_at = bytes-insert items at page
        ∙ insert_before (bytes_of items) at page.bytes (omega (arith, le, long items)) before above

    pub absent_at : (least high : ℕ) → are_in_order least high (bytes_of items) ≡ true
        → has_page (bytes_of items) (own_number page.bytes) ≡ false
    absent_at least high order = has_between least high (bytes_of items) at (own_number page.bytes)
        order before above (omega (arith, le, long items))
