-- A store in memory.
use Rattle.std.proofs.Common.{◌≡◌, ℕ, suc, ◌+◌, ◌-◌, ◌<◌, ◌≤◌, true, List, [], ◌∷◌, ◌++◌, length, get_or, take, refl, sym, ◌∙◌, ap, arith}
use Rattle.std.proofs.lemmas.List.{get_or-take, length-append, length-map, take-map, take_at}
use Rattle.page_io.specs.Store.{Pages, StoreState, bytes_of, pages_from, file_pages, page_of}
use Rattle.page_io.specs.declared.page.Page.{Page}

-- the pages of a list, one by one
pub listed : (pages : Pages) (page : ℕ → List ℕ) (at : ℕ)
    → ((i : ℕ) → i < length pages → page (at + i) ≡ get_or pages i [])
    → pages_from page at (length pages) ≡ pages
listed [] page at is = refl
listed (first ∷ pages) page at is =
    let none : at + 0 ≡ at = omega arith in
    let head : page at ≡ first = ap page (sym none) ∙ is 0 (omega arith) in
    ap (λ (c : List ℕ). c ∷ pages_from page (at + 1) (length pages)) head
    ∙ ap (λ (ps : Pages). first ∷ ps)
    (listed pages page (at + 1) (λ i lt.
    let place : at + 1 + i ≡ at + suc i = omega arith in
    ap page place ∙ is (suc i) (omega (arith, lt))))

-- the pages of a file are those that lie first
in_front : (all pages : Pages) → take (length pages) all ≡ pages
    → file_pages (page_of all) (length pages + 1) ≡ pages
in_front all pages first =
    let count : length pages + 1 - 1 ≡ length pages = omega arith in
    ap (pages_from (page_of all) 1) count
    ∙ listed pages (page_of all) 1 (λ i lt.
    let place : 1 + i - 1 ≡ i = omega arith in
    ap (λ (k : ℕ). get_or all k []) place ∙ sym (get_or-take (length pages) all i [] lt)
    ∙ ap (λ (ps : Pages). get_or ps i []) first)

pub first_pages : (all pages rest : List Page) → all ≡ pages ++ rest
    → file_pages (page_of (bytes_of all)) (length pages + 1) ≡ bytes_of pages
first_pages all pages rest is =
    let first : take (length pages) all ≡ pages =
    ap (take (length pages)) is ∙ take_at pages rest (length pages) refl in
    let size = length-map pages (λ (p : Page). p.bytes) in
    ap (λ (k : ℕ). file_pages (page_of (bytes_of all)) (k + 1)) (sym size)
    ∙ in_front (bytes_of all) (bytes_of pages)
    (ap (λ (k : ℕ). take k (bytes_of all)) size
    ∙ take-map (λ (p : Page). p.bytes) (length pages) all ∙ ap bytes_of first)

-- pages with so many behind them that they fill the capacity
pub fills : (all front pages room : List Page) (count capacity : ℕ) → all ≡ front ++ room
    → front ≡ pages → length room ≡ count → count ≡ capacity - 1 - length pages
    → length pages < capacity → length all + 1 ≡ capacity
fills all front pages room count capacity is same long rest lt =
    let joined = ap (λ (ps : List Page). length ps) is ∙ length-append front room in
    let before = ap (λ (ps : List Page). length ps) same in
    omega (arith, joined, before, long, rest, lt)

-- what such a store shows
abbrev pub state_of : Pages → ℕ → ℕ → StoreState
state_of staged end capacity =
    record {
      staged = staged;
      end = end;
      capacity = capacity;
      usable = true;
      writable = true;
      base = [];
    }

pub state_is : (staged : Pages) (end all capacity : ℕ) → staged ≡ [] → all ≡ capacity
    → state_of staged end all ≡ state_of [] end capacity
state_is staged end all capacity none filled =
    ap (λ (ps : Pages). state_of ps end all) none ∙ ap (state_of [] end) filled

-- bounds of the end
pub least_end : (count : ℕ) → 3 ≤ count → 4 ≤ count + 1
least_end count least = omega (arith, least)

pub end_fits : (count all capacity : ℕ) → count < capacity → all ≡ capacity → count + 1 ≤ all
end_fits count all capacity lt filled = omega (arith, lt, filled)

pub capacity_fits : (all capacity high : ℕ) → capacity < high → all ≡ capacity → all < high
capacity_fits all capacity high lt filled = omega (arith, lt, filled)
