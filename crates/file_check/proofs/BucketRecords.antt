-- The records of a page, one by one.
use Rattle.std.proofs.Common.{◌≡◌, ℕ, ◌+◌, ◌<◌, ◌≤◌, List, [], None, length, get_or, subst, inl, inr, arith}
use Rattle.std.specs.List.{AllByRecursion, HoldsAt}
use Rattle.std.proofs.lemmas.Bool.{cases_lt}
use Rattle.std.proofs.lemmas.List.Elements.{recursion_from_All, All-from_recursion}
use Rattle.page_model.specs.Pages.{Record}
use Rattle.page_model.specs.Reading.{slot_count}
use Rattle.page_io.specs.BucketPages.{IsBucketPage, page_records}
use Rattle.slot_page.proofs.Pages.{counted}

-- of each of the first records this is true
abbrev pub AreFirst : (Record → Type 0) → List Record → ℕ → Type 0
AreFirst P records count = (k : ℕ) (d : Record) → k < count → P (get_or records k d)

pub none_first : (P : Record → Type 0) (records : List Record) → AreFirst P records 0
none_first P records k d below = absurd (omega (arith, below))

-- of one record more
pub first_more : (P : Record → Type 0) (records : List Record) (i : ℕ) → HoldsAt P records i
    → AreFirst P records i → AreFirst P records (i + 1)
first_more P records i here before k d below = elim (cases_lt k i) [
  | inl less ↦ before k d less
  | inr over ↦
      let same : i ≡ k = omega (arith, below, over) in
      subst (λ (j : ℕ). P (get_or records j d)) same (here d)
]

-- of all records
pub all_of_first : (P : Record → Type 0) (records : List Record) (count : ℕ)
    → length records ≤ count → AreFirst P records count → AllByRecursion P records
all_of_first P records count all first =
    recursion_from_All P records (λ k d within. first k d (omega (arith, all, within)))

-- a record of which it isn't true
pub not_all : (P : Record → Type 0) (records : List Record) (i : ℕ) → i < length records
    → HoldsAt (λ r. P r → ⊥) records i → AllByRecursion P records → ⊥
not_all P records i within other all =
    let blank : Record = record { key = []; bytes = []; far = None } in
    other blank (All-from_recursion P records all i blank within)

-- the slots of a page are its records
pub within_page : (bytes : List ℕ) (slot count : ℕ) → IsBucketPage bytes
    → count ≡ slot_count bytes → slot < count → slot < length (page_records bytes)
within_page bytes slot count page is below = omega (arith, (counted bytes page).count_is, is, below)

pub whole_page : (bytes : List ℕ) (slot count : ℕ) → IsBucketPage bytes
    → count ≡ slot_count bytes → count ≤ slot → length (page_records bytes) ≤ slot
whole_page bytes slot count page is over = omega (arith, (counted bytes page).count_is, is, over)
