-- Laws of the bytes of the pages of a slice, for the layers above.
use Rattle.std.proofs.Common.{◌≡◌, ◌≢◌, inl, inr, ℕ, ◌+◌, ◌*◌, ◌<◌, ◌≤◌, List, [], ◌∷◌, ◌++◌, length, get_or, take, sym, ◌∙◌, ap, arith}
use Rattle.std.proofs.lemmas.List.{take_more, map-append, get_or-map}
use Rattle.std.proofs.lemmas.Bool.{cases_lt}
use Rattle.page_io.specs.Page.{IsOutsidePage}
use Rattle.page_io.specs.Store.{bytes_of}
use Rattle.page_io.specs.declared.page.Page.{Page}

pub bytes_more : (pages : List Page) (i : ℕ) (page : Page) → i < length pages
    → page ≡ get_or pages i page → bytes_of (take (i + 1) pages) ≡ bytes_of (take i pages)
    ++ page.bytes ∷ []
bytes_more pages i page lt is =
    ap bytes_of (take_more pages i page lt)
    ∙ map-append (λ (p : Page). p.bytes) (take i pages) (get_or pages i page ∷ [])
    ∙ ap (λ (p : Page). bytes_of (take i pages) ++ p.bytes ∷ []) (sym is)

pub bytes_at : (pages : List Page) (i : ℕ) (page : Page) → i < length pages
    → page ≡ get_or pages i page → get_or (bytes_of pages) i [] ≡ page.bytes
bytes_at pages i page lt is =
    get_or-map (λ (p : Page). p.bytes) pages i page [] lt ∙ ap (λ (p : Page). p.bytes) (sym is)

-- the sectors of another page
pub other_page : (own n m : ℕ) → own ≢ n → 4 * n ≤ m → m < 4 * n + 4 → IsOutsidePage own m
other_page own n m other ge lt = elim (cases_lt own n) [
  | inl below ↦ inr (omega (arith, below, ge))
  | inr above ↦ inl (omega (arith, above, lt, other))
]
