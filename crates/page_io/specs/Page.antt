-- A page, and the four sectors that it stands in.
use Rattle.std.specs.Prelude.{◌≡◌, ◌⊎◌, ◌<◌, ◌≤◌, ℕ, ◌+◌, ◌*◌, List, ◌++◌, take, drop}
use Rattle.sect_dev.specs.Device.{Image, Candidates}
use Rattle.page_model.specs.Bytes.{u32_at}

-- the number that a page has of itself
unfoldable pub own_number : List ℕ → ℕ
own_number page = u32_at page 0

-- part k of bytes that are cut into parts of one size
unfoldable pub part : ℕ → List ℕ → ℕ → List ℕ
part size bytes k = take size (drop (size * k) bytes)

-- page n of an image is four sectors in a row
unfoldable pub page_at : Image → ℕ → List ℕ
page_at image n = image (4 * n) ++ (image (4 * n + 1) ++ (image (4 * n + 2) ++ image (4 * n + 3)))

-- the sectors before `from`, and from `to` on
abbrev pub IsOutside : ℕ → ℕ → ℕ → Type 0
IsOutside from to m = (m < from) ⊎ (to ≤ m)

-- not a sector of page n
abbrev pub IsOutsidePage : ℕ → ℕ → Type 0
IsOutsidePage n m = IsOutside (4 * n) (4 * n + 4) m

-- each of those sectors has a content that it could have
abbrev pub KeepsWhere : Candidates → (ℕ → Type 0) → Image → Type 0
KeepsWhere candidate Kept image = (m : ℕ) → Kept m → candidate m (image m)

-- each sector of page n has a content that it could have, or its part of the new page
abbrev pub IsPartlyWritten : Candidates → ℕ → List ℕ → Image → Type 0
IsPartlyWritten candidate n page image =
    (k : ℕ) → k < 4 → candidate (4 * n + k) (image (4 * n + k))
    ⊎ (image (4 * n + k) ≡ part 512 page k)
