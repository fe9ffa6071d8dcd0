-- What a change of a chain leaves on any file, also where the chain or the free list is damaged.
use Rattle.std.specs.Prelude.{◌≡◌, ◌≢◌, ◌⊎◌, ℕ, Bool, true, false, List, [], ◌∷◌, ◌++◌, length, map, Option, Some, None, if◌then◌else◌, remove as remove_at}
use Rattle.std.specs.List.{AllByRecursion, HoldsAt}
use Rattle.dbm_model.specs.Bounds.{Version}
use Rattle.dbm_model.specs.Pairs.{Key, Pair, is_far}
use Rattle.page_model.specs.Pages.{Body, HeadPage, OverflowPage, Record}
use Rattle.page_model.specs.Chain.{record_with}
use Rattle.free_pages.specs.declared.free_state.FreeState.{FreeState}
use Rattle.free_pages.specs.FreeList.{IsTaken}
use Rattle.free_pages.specs.Giving.{AreGiven}
use Rattle.content_pages.specs.Contents.{IsContentPage, ArePagesOf, IsContentPut}
use Rattle.slot_page.specs.Contents.{HasKeyAt, told_content}
use Rattle.bucket_chain.specs.Links.{link_body, SaysLink}
use Rattle.bucket_chain.specs.Chains.{ReadLeaf, ReadChain, BeginsAt, kind_behind}
use Rattle.bucket_chain.specs.Walks.{IsWalk, IsRoomWalk, LacksKey, HasKey, IsFull, fits_leaf}

-- the numbers of pages that were read
abbrev pub numbers_read : ReadChain → List ℕ
numbers_read chain = map (λ leaf. leaf.number) chain

-- the record fits the page, which now says it behind its own; no other page was changed
pub record IsAddedTo (old new : ℕ → Body) (r : Record) (passed : ReadChain) (leaf : ReadLeaf)
    (next : ℕ) : Type 0 where
  pub has_room : fits_leaf r leaf ≡ true
  pub says : new leaf.number ≡ link_body (kind_behind passed) next (leaf.records ++ r ∷ [])
  pub others : (m : ℕ) → m ≢ leaf.number → new m ≡ old m

-- It fits no page: one was taken, which says the record alone, and the last page names it; no other
-- page was changed. Under `Ends`, that the kept end is the file's, the taken page is none of those
-- that were read.
pub record IsAddedBehind (old new : ℕ → Body) (Ends : Type 0) (before after : FreeState)
    (r : Record) (passed : ReadChain) (leaf : ReadLeaf) (next : ℕ) : Type 0 where
  pub taken : ℕ
  pub is_full : IsFull r leaf × (next ≡ 0)
  pub is_taken : IsTaken old before taken after
  pub apart : Ends → AllByRecursion (λ page. page.number ≢ taken) (passed ++ leaf ∷ [])
  pub says : leaf.number ≢ taken → new taken ≡ OverflowPage 0 (r ∷ [])
  pub named : new leaf.number ≡ link_body (kind_behind passed) taken leaf.records
  pub others : (m : ℕ) → m ≢ leaf.number → m ≢ taken → new m ≡ old m

-- pages were read up to the first that the record fits, else up to one that names no next, and
-- there it was added
pub record IsAdded (old new : ℕ → Body) (Ends : Type 0) (before after : FreeState) (head : ℕ)
    (r : Record) : Type 0 where
  pub walk : IsRoomWalk old head r
  pub added : (IsAddedTo old new r walk.before walk.leaf walk.after × (after ≡ before))
      ⊎ IsAddedBehind old new Ends before after r walk.before walk.leaf walk.after

-- what of a pair stands in pages of its own: a far content, and of a near pair nothing
abbrev pub far_content : Pair → List ℕ
far_content pair = if is_far pair then pair.1 else []

-- a far content was put into pages that were taken for it, and then the pair's record was added
pub record IsPut (old new : ℕ → Body) (Ends : Type 0) (before after : FreeState) (head : ℕ)
    (pair : Pair) : Type 0 where
  pub pages : List ℕ
  pub mid : ℕ → Body
  pub between : FreeState
  pub content : IsContentPut old mid before between pages (far_content pair)
  pub added : IsAdded mid new Ends between after head (record_with pair pages)

-- the page now says its records without one, and has one left where it is an overflow page; no
-- other page was changed
pub record IsTakenFrom (version : Version) (old new : ℕ → Body) (slot : ℕ) (passed : ReadChain)
    (leaf : ReadLeaf) (next : ℕ) : Type 0 where
  pub says :
      SaysLink version new leaf.number (kind_behind passed) next (remove_at leaf.records slot)
  pub others : (m : ℕ) → m ≢ leaf.number → new m ≡ old m

-- the record was alone in an overflow page: the one before it names the next one; no other page was
-- changed
pub record IsTakenWith (old new : ℕ → Body) (passed : ReadChain) (leaf : ReadLeaf)
    (next : ℕ) : Type 0 where
  pub front : ReadChain
  pub prior : ReadLeaf
  pub parts : passed ≡ front ++ prior ∷ []
  pub alone : length leaf.records ≡ 1
  pub named : new prior.number ≡ link_body (kind_behind front) next prior.records
  pub others : (m : ℕ) → m ≢ prior.number → new m ≡ old m

-- the record in the slot was taken out, with its page where that is told
abbrev pub IsUnlinked : Version → (ℕ → Body) → (ℕ → Body) → ℕ → Bool → ReadChain → ReadLeaf → ℕ
    → Type 0
IsUnlinked version old new slot true passed leaf next = IsTakenWith old new passed leaf next
IsUnlinked version old new slot false passed leaf next =
    IsTakenFrom version old new slot passed leaf next

-- the pages of a content of which the first and the length are told, none where it is near
abbrev pub AreToldPages : (ℕ → Body) → Option (ℕ × ℕ) → List ℕ → Type 0
AreToldPages at None pages = pages ≡ []
AreToldPages at (Some (first, long)) pages = ArePagesOf at first long pages

-- a page of no content
abbrev pub IsNoContent : Body → Type 0
IsNoContent body = (next : ℕ) → IsContentPage body next → ⊥

-- a page where it was emptied
abbrev pub emptied_page : Bool → ℕ → List ℕ
emptied_page is_emptied n = if is_emptied then n ∷ [] else []

-- the pages of a told content were given, and then page n where it was emptied
pub record AreGivenBack (old new : ℕ → Body) (before after : FreeState) (told : Option (ℕ × ℕ))
    (is_emptied : Bool) (n : ℕ) : Type 0 where
  pub content : List ℕ
  pub content_is : AreToldPages old told content
  pub given : AreGiven old new before after (content ++ emptied_page is_emptied n)

-- Pages were read up to the first with the key. Its record was taken out there, and then the pages
-- of its content were given, and the page itself where it is an overflow page that became empty.
pub record IsTakenOut (version : Version) (old new : ℕ → Body) (before after : FreeState)
    (head : ℕ) (key : Key) : Type 0 where
  pub walk : IsWalk old head (LacksKey key) (HasKey key)
  pub slot : ℕ
  pub has : HasKeyAt key walk.leaf.records slot
  pub mid : ℕ → Body
  pub is_emptied : Bool
  pub unlinked : IsUnlinked version old mid slot is_emptied walk.before walk.leaf walk.after
  pub given : HoldsAt (λ r. AreGivenBack mid new before after (told_content r) is_emptied
      walk.leaf.number) walk.leaf.records slot

-- the chain was read to its end, its overflow pages are in front of the free list, and its head
-- page has no record; no other page was changed
pub record IsEmptied (old new : ℕ → Body) (before after : FreeState) (head : ℕ) : Type 0 where
  pub leaf : ReadLeaf
  pub overflow : ReadChain
  pub are_read : BeginsAt old head (leaf ∷ overflow) 0
  pub mid : ℕ → Body
  pub given : AreGiven old mid before after (numbers_read overflow)
  pub empty : new head ≡ HeadPage 0 []
  pub others : (m : ℕ) → m ≢ head → new m ≡ mid m

-- one change after another
pub record AreInTurn (First Second : (ℕ → Body) → FreeState → Type 0) : Type 0 where
  pub mid : ℕ → Body
  pub between : FreeState
  pub first : First mid between
  pub second : Second mid between

-- records were added one after the other, each from its head page on
abbrev pub AreAdded : (ℕ → Body) → (ℕ → Body) → Type 0 → FreeState → FreeState → (Record → ℕ)
    → List Record → Type 0
AreAdded old new Ends before after head [] = (new ≡ old) × (after ≡ before)
AreAdded old new Ends before after head (r ∷ records) =
    AreInTurn (λ mid between. IsAdded old mid Ends before between (head r) r)
    (λ mid between. AreAdded mid new Ends between after head records)

-- the chain was emptied, and the records were added to it
abbrev pub AreStored : (ℕ → Body) → (ℕ → Body) → Type 0 → FreeState → FreeState → ℕ
    → List Record → Type 0
AreStored old new Ends before after head records =
    AreInTurn (λ mid between. IsEmptied old mid before between head)
    (λ mid between. AreAdded mid new Ends between after (λ r. head) records)
