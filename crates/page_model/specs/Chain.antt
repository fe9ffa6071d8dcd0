-- A chain: a list of pages, each a list of pairs with the pages of their contents. The first page is
-- the bucket's head, the others are its overflow pages.
use Rattle.std.specs.Prelude.{◌≡◌, ℕ, ◌+◌, ◌/◌, ◌≤◌, ◌<◌, ◌==◌, Bool, List, [], ◌∷◌, ◌++◌, length, map, filter, flat_map, not, nat_le, if◌then◌else◌, Some, None}
use Rattle.std.specs.List.{AllByRecursion, list_any}
use Rattle.dbm_model.specs.Bounds.{Version}
use Rattle.dbm_model.specs.Pairs.{Key, Pair, is_far, IsAllowed}
use Rattle.page_model.specs.Bytes.{u32_bytes}
use Rattle.page_model.specs.Pages.{Record}
use Rattle.page_model.specs.PairLists.{has_key}
use Rattle.page_model.specs.Slots.{size, taken}

-- how many content pages a pair has: 2,032 bytes to each, and none where it is near
abbrev pub pages_long : ℕ → ℕ
pages_long length = (length + 2031) / 2032

abbrev pub content_pages : Pair → ℕ
content_pages pair = if is_far pair then pages_long (length pair.1) else 0

-- a pair with its content pages, none where it is near
pub record Entry : Type 0 where
  pub pair : Pair
  pub pages : List ℕ

-- the record of a pair with such pages
abbrev pub record_with : Pair → List ℕ → Record
record_with pair [] = record { key = pair.0; bytes = pair.1; far = None }
record_with pair (n ∷ rest) =
    record { key = pair.0; bytes = u32_bytes n; far = Some (length pair.1) }

abbrev pub record_of : Entry → Record
record_of e = record_with e.pair e.pages

-- an allowed pair with as many pages as it needs
pub record IsEntry (version : Version) (e : Entry) : Type 0 where
  pub allowed : IsAllowed version e.pair
  pub paged : length e.pages ≡ content_pages e.pair

-- the key of a pair
abbrev pub is_at : Key → Entry → Bool
is_at key e = has_key key e.pair

abbrev pub without : Key → List Entry → List Entry
without key entries = filter (λ e. not (is_at key e)) entries

-- the content pages of all
abbrev pub pages_of : List Entry → List ℕ
pages_of entries = flat_map (λ e. e.pages) entries

-- a page of a chain
pub record Leaf : Type 0 where
  pub number : ℕ
  pub entries : List Entry

abbrev pub Chain : Type 0
Chain = List Leaf

abbrev pub numbers : Chain → List ℕ
numbers chain = map (λ leaf. leaf.number) chain

-- all entries of the chain, page by page and slot by slot
abbrev pub entries_in : Chain → List Entry
entries_in chain = flat_map (λ leaf. leaf.entries) chain

-- their pairs
abbrev pub leaf_pairs : Leaf → List Pair
leaf_pairs leaf = map (λ e. e.pair) leaf.entries

abbrev pub pairs_in : Chain → List Pair
pairs_in chain = flat_map leaf_pairs chain

-- its pages, and those of its contents
abbrev pub pages_in : Chain → List ℕ
pages_in chain = numbers chain ++ pages_of (entries_in chain)

-- of the 2,032 bytes of a page after its header
abbrev pub used : Leaf → ℕ
used leaf = taken (map record_of leaf.entries)

-- a slot and a record
abbrev pub need : Entry → ℕ
need e = 6 + size (record_of e)

abbrev pub fits : Entry → Leaf → Bool
fits e leaf = nat_le (used leaf + need e) 2032

-- the entry in a further slot
abbrev pub push : Entry → Leaf → Leaf
push e leaf = record leaf { entries = leaf.entries ++ e ∷ [] }

-- some page has room for its record
abbrev pub has_room : Entry → Chain → Bool
has_room e chain = list_any (fits e) chain

-- the record goes to the first page that it fits, else to a page of its own at the end, whose number
-- is `new`
abbrev pub add : Entry → ℕ → Chain → Chain
add e new [] = record { number = new; entries = e ∷ [] } ∷ []
add e new (leaf ∷ rest) = if fits e leaf then push e leaf ∷ rest else leaf ∷ add e new rest

abbrev pub take_out : Key → Leaf → Leaf
take_out key leaf = record leaf { entries = without key leaf.entries }

abbrev pub is_bare : Leaf → Bool
is_bare leaf = length leaf.entries == 0

-- the key is taken out of its page, and an overflow page that becomes empty out of the chain
abbrev pub remove : Key → Chain → Chain
remove key [] = []
remove key (head ∷ overflow) =
    take_out key head ∷ filter (λ leaf. not (is_bare leaf)) (map (take_out key) overflow)

-- the pages that leave the chain then
abbrev pub emptied : Key → Chain → List ℕ
emptied key [] = []
emptied key (head ∷ overflow) = numbers (filter is_bare (map (take_out key) overflow))

-- the pages that become free then: those of the content in order, and an emptied one
abbrev pub freed : Key → Chain → List ℕ
freed key chain = pages_of (filter (is_at key) (entries_in chain)) ++ emptied key chain

-- each page fits, and each overflow page has a pair
abbrev pub IsChain : Chain → Type 0
IsChain [] = ⊥
IsChain (head ∷ overflow) = (used head ≤ 2032) × AllByRecursion (λ leaf. used leaf ≤ 2032) overflow
    × AllByRecursion (λ leaf. 0 < length leaf.entries) overflow
