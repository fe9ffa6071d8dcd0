-- Which pages of a file were seen.
use Rattle.std.specs.Prelude.{◌≡◌, ◌≤◌, ◌&&◌, ℕ, Bool, false, List, slice_index_or, if◌then◌else◌}
use Rattle.page_model.specs.Space.{is_page, times_of}

-- of the pages of a file that ends before page `end`, those of the list are marked and no other,
-- and each stands there once
abbrev pub AreMarked : List Bool → ℕ → List ℕ → Type 0
AreMarked marks end seen = (n : ℕ)
    → times_of n seen ≡ (if is_page n end && slice_index_or marks n false then 1 else 0)

-- each is a page of the file, and none stands there twice
abbrev pub MayBeSeen : ℕ → List ℕ → Type 0
MayBeSeen end seen = (n : ℕ) → times_of n seen ≤ (if is_page n end then 1 else 0)

-- each page of the file stands there once, and nothing else
abbrev pub IsEachSeen : ℕ → List ℕ → Type 0
IsEachSeen end seen = (n : ℕ) → times_of n seen ≡ (if is_page n end then 1 else 0)
