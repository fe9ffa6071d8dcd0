-- Sectors beside pages that come to their own numbers.
use Rattle.std.proofs.Common.{◌≡◌, inl, inr, ℕ, zero, suc, ◌+◌, ◌*◌, ◌<◌, ◌≤◌, List, [], ◌∷◌, length, get_or, Bool, true, ◌&&◌, leb, ltb, arith}
use Rattle.std.proofs.lemmas.Bool.{cases_lt, and_parts, leb-true, ltb-true}
use Rattle.page_io.specs.Page.{own_number, IsOutsidePage}
use Rattle.page_io.specs.Store.{Pages, are_in_order}
use Rattle.page_io.proofs.Overlays.{IsApart}
use Rattle.commit_log.specs.Homes.{IsOutsideAll}

record Parts (least end own : ℕ) (rest : Bool) : Type 0 where
  low : least ≤ own
  high : own < end
  later : rest ≡ true

parts : (least end : ℕ) (page : List ℕ) (pages : Pages)
    → are_in_order least end (page ∷ pages) ≡ true
    → Parts least end (own_number page) (are_in_order (own_number page + 1) end pages)
parts least end page pages is =
    let both = and_parts (leb least (own_number page) && ltb (own_number page) end)
    (are_in_order (own_number page + 1) end pages) is in
    let ends = and_parts (leb least (own_number page)) (ltb (own_number page) end) both.0 in
    record { low = leb-true _ _ ends.0; high = ltb-true _ _ ends.1; later = both.1 }

-- a sector below the least page
pub outside-below : (least end : ℕ) (pages : Pages) (m : ℕ) → are_in_order least end pages ≡ true
    → m < 4 * least → IsOutsideAll pages m
outside-below least end [] m order lt = tt
outside-below least end (page ∷ pages) m order lt =
    let p = parts least end page pages order in (
      inl (omega (arith, lt, p.low)),
      outside-below (own_number page + 1) end pages m p.later (omega (arith, lt, p.low)),
    )

-- a sector from the end on
pub outside-above : (least end : ℕ) (pages : Pages) (m : ℕ) → are_in_order least end pages ≡ true
    → 4 * end ≤ m → IsOutsideAll pages m
outside-above least end [] m order le = tt
outside-above least end (page ∷ pages) m order le =
    let p = parts least end page pages order in
    (inr (omega (arith, le, p.high)), outside-above (own_number page + 1) end pages m p.later le)

-- a sector of a page that has none of their numbers
pub outside-apart : (pages : Pages) (n m : ℕ) → IsApart pages n → 4 * n ≤ m → m < 4 * n + 4
    → IsOutsideAll pages m
outside-apart [] n m apart ge lt = tt
outside-apart (page ∷ pages) n m apart ge lt =
    let other = apart.0 in (
      elim (cases_lt (own_number page) n) [
        | inl below ↦ inr (omega (arith, below, ge))
        | inr above ↦ inl (omega (arith, above, lt, other))
      ],
      outside-apart pages n m apart.1 ge lt,
    )

-- one of the pages
pub outside_at : (pages : Pages) (m k : ℕ) → IsOutsideAll pages m → k < length pages
    → IsOutsidePage (own_number (get_or pages k [])) m
outside_at [] m k out lt = absurd (omega (arith, lt))
outside_at (page ∷ pages) m zero out lt = out.0
outside_at (page ∷ pages) m (suc k) out lt = outside_at pages m k out.1 (omega (arith, lt))

pub below_end : (least end : ℕ) (pages : Pages) (k : ℕ) → are_in_order least end pages ≡ true
    → k < length pages → own_number (get_or pages k []) < end
below_end least end [] k order lt = absurd (omega (arith, lt))
below_end least end (page ∷ pages) zero order lt = (parts least end page pages order).high
below_end least end (page ∷ pages) (suc k) order lt =
    below_end (own_number page + 1) end pages k (parts least end page pages order).later
    (omega (arith, lt))
