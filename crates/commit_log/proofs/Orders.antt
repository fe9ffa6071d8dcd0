-- The numbers of redo images, one after another.
use Rattle.std.proofs.Common.{◌≡◌, ◌⊎◌, ⊎_elim, ◌<◌, ◌≤◌, ◌+◌, ◌-◌, ℕ, suc, List, [], ◌∷◌, ◌++◌, true, false, ◌&&◌, Bool, leb, ltb, sym, ◌∙◌, ap, arith}
use Rattle.std.proofs.lemmas.Bool.{and_from, and_parts, and_left, and_right, le-leb, lt-leb, lt-ltb, le-ltb}
use Rattle.page_io.specs.Page.{own_number}
use Rattle.page_io.specs.Store.{Pages, pages_from, are_in_order, AllBelow}

next_in_order : (least end : ℕ) (page : List ℕ) (pages : Pages) → least ≤ own_number page
    → own_number page < end → are_in_order least end (page ∷ pages)
    ≡ are_in_order (own_number page + 1) end pages
next_in_order least end page pages low high =
    ap (λ (b : Bool). b && are_in_order (own_number page + 1) end pages)
    (and_from (leb least (own_number page)) (ltb (own_number page) end)
    (le-leb least (own_number page) low) (lt-ltb (own_number page) end high))

too_low : (least end : ℕ) (page : List ℕ) (pages : Pages) → own_number page < least
    → are_in_order least end (page ∷ pages) ≡ false
too_low least end page pages lt =
    ap (λ (b : Bool). b && are_in_order (own_number page + 1) end pages)
    (and_left (leb least (own_number page)) (ltb (own_number page) end)
    (lt-leb least (own_number page) lt))

too_high : (least end : ℕ) (page : List ℕ) (pages : Pages) → end ≤ own_number page
    → are_in_order least end (page ∷ pages) ≡ false
too_high least end page pages le =
    ap (λ (b : Bool). b && are_in_order (own_number page + 1) end pages)
    (and_right (leb least (own_number page)) (ltb (own_number page) end)
    (le-ltb (own_number page) end le))

-- a page behind others, whose number is above theirs
pub order_push : (least end : ℕ) (pages : Pages) (page : List ℕ)
    → are_in_order least end pages ≡ true → AllBelow (own_number page) pages
    → least ≤ own_number page → own_number page < end
    → are_in_order least end (pages ++ page ∷ []) ≡ true
order_push least end [] page order below low high = next_in_order least end page [] low high
order_push least end (first ∷ pages) page order below low high =
    let both = and_parts (leb least (own_number first) && ltb (own_number first) end)
    (are_in_order (own_number first + 1) end pages) order in
    and_from (leb least (own_number first) && ltb (own_number first) end)
    (are_in_order (own_number first + 1) end (pages ++ page ∷ [])) both.0
    (order_push (own_number first + 1) end pages page both.1 below.1 (omega (arith, below.0)) high)

-- all images were read
pub all_read : (count i : ℕ) → count ≤ i → i ≤ count → i ≡ count
all_read count i le most = omega (arith, le, most)

pub none_left : (count i : ℕ) → count ≤ i → count - i ≡ 0
none_left count i le = omega (arith, le)

-- the images that are left begin with this one
split : (at : ℕ → List ℕ) (start count i : ℕ) → i < count
    → pages_from at (start + i) (count - i) ≡ at (start + i)
    ∷ pages_from at (start + i + 1) (count - (i + 1))
split at start count i lt = let left : count - i ≡ suc (count - (i + 1)) = omega arith in
    ap (pages_from at (start + i)) left

-- the image at an index, and its number
module _ (at : ℕ → List ℕ) (start count end i least own : ℕ) (lt : i < count)
    (number : own ≡ own_number (at (start + i))) where
  -- out of range
  pub not_in_order : (own < least) ⊎ (end ≤ own)
      → are_in_order least end (pages_from at (start + i) (count - i)) ≡ false
  not_in_order out =
      let rest = pages_from at (start + i + 1) (count - (i + 1)) in
      ap (are_in_order least end) (split at start count i lt)
      ∙ ⊎_elim (λ low. too_low least end (at (start + i)) rest (omega (arith, number, low)))
      (λ high. too_high least end (at (start + i)) rest (omega (arith, number, high))) out

  -- in range: the numbers behind it are to be above it
  pub one_in_order : least ≤ own → own < end
      → are_in_order least end (pages_from at (start + i) (count - i))
      ≡ are_in_order (own + 1) end (pages_from at (start + (i + 1)) (count - (i + 1)))
  one_in_order low high =
      let rest = pages_from at (start + i + 1) (count - (i + 1)) in
      let more : start + i + 1 ≡ start + (i + 1) = omega arith in
      ap (are_in_order least end) (split at start count i lt)
      ∙ next_in_order least end (at (start + i)) rest (omega (arith, number, low))
      (omega (arith, number, high))
      ∙ ap (λ (k : ℕ). are_in_order (k + 1) end rest) (sym number)
      ∙ ap (λ (k : ℕ). are_in_order (own + 1) end (pages_from at k (count - (i + 1)))) more
