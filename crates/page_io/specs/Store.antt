-- The pages of a store: those that it has, and those that are staged over them.
use Rattle.std.specs.Prelude.{◌≡◌, ◌⊎◌, ◌==◌, ◌<◌, ◌≤◌, ℕ, zero, suc, ◌+◌, ◌-◌, Bool, true, false, ◌&&◌, nat_le, nat_lt, if◌then◌else◌, List, [], ◌∷◌, Option, Some, None, slice_index_or, map}
use Rattle.page_io.specs.Page.{own_number}
use Rattle.page_io.specs.declared.page.Page.{Page}

-- the bytes of pages, in order
abbrev pub Pages : Type 0
Pages = List (List ℕ)

-- the bytes of each page
abbrev pub bytes_of : List Page → Pages
bytes_of pages = map (λ page. page.bytes) pages

-- so many pages from one on
abbrev pub pages_from : (ℕ → List ℕ) → ℕ → ℕ → Pages
pages_from page at zero = []
pages_from page at (suc count) = page at ∷ pages_from page (at + 1) count

-- the pages of a file that ends before page `end`: page 0 is none of them
abbrev pub file_pages : (ℕ → List ℕ) → ℕ → Pages
file_pages page end = pages_from page 1 (end - 1)

-- page n of the pages of a file
abbrev pub page_of : Pages → ℕ → List ℕ
page_of pages n = slice_index_or pages (n - 1) []

-- this page in the place of the one that it names
abbrev pub with_page : (ℕ → List ℕ) → List ℕ → ℕ → List ℕ
with_page home page = λ n. if own_number page == n then page else home n

-- each of these pages in the place of the one that it names
abbrev pub overlaid : Pages → (ℕ → List ℕ) → ℕ → List ℕ
overlaid [] home = home
overlaid (page ∷ pages) home = overlaid pages (with_page home page)

-- their own numbers rise from `least` on, and are below `end`
abbrev pub are_in_order : ℕ → ℕ → Pages → Bool
are_in_order least end [] = true
are_in_order least end (page ∷ pages) =
    nat_le least (own_number page) && nat_lt (own_number page) end && are_in_order
    (own_number page + 1) end pages

-- the page among those that are in order, in the place of one of its number
abbrev pub put_page : Pages → List ℕ → Pages
put_page [] new = new ∷ []
put_page (page ∷ pages) new =
    if nat_lt (own_number new) (own_number page) then new ∷ page ∷ pages
    else (if own_number new == own_number page then new ∷ pages else page ∷ put_page pages new)

-- is a page of that number among them
abbrev pub has_page : Pages → ℕ → Bool
has_page [] n = false
has_page (page ∷ pages) n = if own_number page == n then true else has_page pages n

-- the first of these pages behind page n
abbrev pub IsNextOf : Pages → ℕ → Option ℕ → Type 0
IsNextOf pages n None = (m : ℕ) → n < m → has_page pages m ≡ false
IsNextOf pages n (Some next) = (n < next) × (has_page pages next ≡ true)
    × ((m : ℕ) → n < m → m < next → has_page pages m ≡ false)

-- each own number is below the end
abbrev pub AllBelow : ℕ → Pages → Type 0
AllBelow end [] = Unit {0}
AllBelow end (page ∷ pages) = (own_number page < end) × AllBelow end pages

-- what a commit makes of the pages
abbrev pub committed_with : Pages → Pages → ℕ → Pages
committed_with pages staged new_end = file_pages (overlaid staged (page_of pages)) new_end

-- what a stop may leave: a blank device, a file of these pages, or what stands for nothing
pub data Settled : Type 0 where
  blank : Settled
  file_of : Pages → Settled
  nothing : Settled

-- the old pages or the new
abbrev pub IsEither : Pages → Pages → Settled → Type 0
IsEither old new settled = (settled ≡ file_of old) ⊎ (settled ≡ file_of new)

-- what a store's calls change, whatever the device does
pub record StoreState : Type 0 where
  -- in rising order of their own numbers
  pub staged : Pages
  -- the committed pages are 1 to end - 1
  pub end : ℕ
  -- how many pages the device has room for, page 0 among them
  pub capacity : ℕ
  pub usable : Bool
  pub writable : Bool
  -- the committed pages of the store that this one was made over, which its calls leave alone; none
  -- where it stands over a device
  pub base : Pages

-- nothing is staged, and a commit may change the store: it is usable and writable
pub record IsReady (state : StoreState) : Type 0 where
  pub idle : state.staged ≡ []
  pub usable : state.usable ≡ true
  pub writable : state.writable ≡ true

-- page n is staged, or one of the committed ones
abbrev pub IsKnown : StoreState → ℕ → Type 0
IsKnown state n = (has_page state.staged n ≡ true) ⊎ ((1 ≤ n) × (n < state.end))
