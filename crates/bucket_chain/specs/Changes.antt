-- What the calls that change a chain leave: the chain and the free list of the model, and all other
-- pages as they were.
use Rattle.std.specs.Prelude.{◌≡◌, ◌≢◌, ℕ, ◌+◌, ◌<◌, Bool, List, [], ◌++◌, length, fold, drop, AllPairs, ◌↔◌, IsTrue, if◌then◌else◌}
use Rattle.std.specs.List.{AllByRecursion}
use Rattle.dbm_model.specs.Bounds.{Version}
use Rattle.dbm_model.specs.Pairs.{Key, Pair}
use Rattle.page_model.specs.PairLists.{times}
use Rattle.page_model.specs.Pages.{Body}
use Rattle.page_model.specs.Chain as model
use Rattle.page_model.specs.Chain.{Chain, Entry, numbers, entries_in, pairs_in, pages_of, pages_in, content_pages, has_room, add, freed, IsEntry}
use Rattle.page_model.specs.Space.{Space, next_page, next_pages, after_take, after_takes, give}
use Rattle.page_model.specs.PageBodies.{entry_bodies, AreRead}
use Rattle.page_model.specs.Placement.{bared}
use Rattle.page_model.specs.Rewrites.{IsRewritten}
use Rattle.free_pages.specs.declared.free_state.FreeState.{FreeState}
use Rattle.free_pages.specs.FreeList.{state_of, IsFreeList, IsApart}
use Rattle.bucket_chain.specs.Chains.{IsChainAt}
use Rattle.page_io.specs.declared.store.PageStore.{Ghosts}
use Rattle.page_io.specs.Views.{body_at}

-- the pages say this chain and this free list, and each page stands in them once at most
pub record IsPlaced (version : Version) (at : ℕ → Body) (state : FreeState) (head : ℕ)
    (chain : Chain) (s : Space) : Type 0 where
  pub chain_is : IsChainAt version at s.end head chain
  pub free_is : IsFreeList at state s
  pub apart : IsApart (pages_in chain) s
  pub fits : length (pages_in chain) + length s.free < s.end

-- a chain with the free list beside it
abbrev pub Placed : Type 0
Placed = Chain × Space

-- the entry is added, and where its record fits no page one is taken
abbrev pub put_in : Placed → Entry → Placed
put_in placed e = (
  add e (next_page placed.1) placed.0,
  if has_room e placed.0 then placed.1 else after_take placed.1,
)

-- pages are taken for the pair's content, where it is far, and then its entry is added
abbrev pub put_pair : Placed → Pair → Placed
put_pair placed pair =
    put_in (placed.0, after_takes (content_pages pair) placed.1)
    (record { pair = pair; pages = next_pages (content_pages pair) placed.1 })

-- the key is taken out, and what becomes free is given
abbrev pub remove_from : Placed → Key → Placed
remove_from placed key = (model.remove key placed.0, give (freed key placed.0) placed.1)

-- the overflow pages are given in chain order, the head is emptied, and the entries are added in
-- order; the pages of contents stay as they are
abbrev pub store_in : Placed → List Entry → Placed
store_in placed entries = fold put_in
    (bared placed.0, give (drop 1 (numbers placed.0)) placed.1) entries

-- these are entries whose contents stand in pages apart from those of a chain and the free ones
pub record AreHeld (version : Version) (at : ℕ → Body) (pages : List ℕ) (s : Space)
    (entries : List Entry) : Type 0 where
  pub entered : AllByRecursion (IsEntry version) entries
  pub are_read : AllByRecursion (λ e. AreRead at (entry_bodies e)) entries
  pub apart : IsApart (pages_of entries ++ pages) s

-- no two of them have one key
abbrev pub HaveKeysOnce : List Entry → Type 0
HaveKeysOnce entries = AllPairs (λ e f. e.pair.0 ≢ f.pair.0) entries

-- the pages now say this chain and this free list, this is kept of it, and no other page was
-- changed
pub record BecomesPlaced (old new : ℕ → Body) (state : FreeState) (placed : Placed) : Type 0 where
  pub rewritten : IsRewritten old new placed.0 placed.1
  pub kept : state ≡ state_of placed.1

-- whether the key was there, and what it leaves
pub record IsRemoved (old new : ℕ → Body) (state : FreeState) (placed : Placed) (key : Key)
    (was_there : Bool) : Type 0 where
  pub was : IsTrue was_there ↔ (0 < times key (pairs_in placed.0))
  pub left : BecomesPlaced old new state (remove_from placed key)

-- no content of the key is far
abbrev pub LacksFar : Key → Chain → Type 0
LacksFar key chain = AllByRecursion (λ e. e.pair.0 ≡ key → e.pages ≡ []) (entries_in chain)

-- the chain is read as one still, and has no entry
pub record IsCleared (version : Version) (old new : ℕ → Body) (state : FreeState) (head : ℕ)
    (placed : Placed) : Type 0 where
  pub becomes : BecomesPlaced old new state placed
  pub is_placed : IsPlaced version new state head placed.0 placed.1
  pub empty : entries_in placed.0 ≡ []

-- where any entries were put, they were added in order; else nothing was changed
pub record IsPutAll (old new : ℕ → Body) (before after : FreeState) (placed : Placed)
    (entries : List Entry) : Type 0 where
  pub becomes : (at : ℕ → Body) → BecomesPlaced at old before placed
      → BecomesPlaced at new after (fold put_in placed entries)

-- what is said of an honest store whose pages say a chain from this head page on, and free pages
abbrev pub ForEachPlaced : {S : Type 0} → Version → Ghosts S → S → FreeState → ℕ
    → (Chain → Space → Type 0) → Type 0
ForEachPlaced version s store space head Says =
    s.honest store → (chain : Chain) (free : Space)
    → IsPlaced version (body_at s store) space head chain free → Says chain free
