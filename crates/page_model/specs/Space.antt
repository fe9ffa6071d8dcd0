-- The free pages and the end of the file.
use Rattle.std.specs.Prelude.{◌≡◌, ℕ, zero, suc, ◌+◌, ◌==◌, ◌&&◌, Bool, List, [], ◌∷◌, ◌++◌, length, count_by, reverse, nat_lt, nat_le, if◌then◌else◌}

pub record Space : Type 0 where
  -- the page that was given last comes first
  pub free : List ℕ
  -- the number behind that of the last page
  pub end : ℕ

-- the page that is taken next: the first free one, else the page at the end
abbrev pub next_page : Space → ℕ
next_page s = first_or s.free s.end where
  first_or : List ℕ → ℕ → ℕ
  first_or [] end = end
  first_or (n ∷ rest) end = n

-- what is left then
abbrev pub after_take : Space → Space
after_take s = left s.free s.end where
  left : List ℕ → ℕ → Space
  left [] end = record { free = []; end = end + 1 }
  left (n ∷ rest) end = record { free = rest; end = end }

-- so many pages, one after another
abbrev pub next_pages : ℕ → Space → List ℕ
next_pages zero s = []
next_pages (suc count) s = next_page s ∷ next_pages count (after_take s)

-- what is left then
abbrev pub after_takes : ℕ → Space → Space
after_takes zero s = s
after_takes (suc count) s = after_takes count (after_take s)

-- each given page becomes the first free one, in order
abbrev pub give : List ℕ → Space → Space
give pages s = record s { free = reverse pages ++ s.free }

-- a page of the file other than the commit sector's
abbrev pub is_page : ℕ → ℕ → Bool
is_page n end = nat_le 1 n && nat_lt n end

-- how often the number stands in the list
abbrev pub times_of : ℕ → List ℕ → ℕ
times_of n pages = count_by (λ m. m == n) pages

-- each page from 1 to end - 1 stands in exactly one place, of those in use and the free ones
pub record IsExact (in_use : List ℕ) (s : Space) : Type 0 where
  pub once : (n : ℕ) → times_of n in_use + times_of n s.free ≡ (if is_page n s.end then 1 else 0)
  pub as_many : length in_use + length s.free + 1 ≡ s.end
