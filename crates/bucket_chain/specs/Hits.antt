-- Where a walk along a chain has found a key, and which page is before that one.
use Rattle.std.specs.Prelude.{◌≡◌, ◌⊎◌, ℕ, ◌≤◌, List, [], ◌∷◌, ◌++◌, Option, Some, None}
use Rattle.std.specs.List.{AllByRecursion, HoldsAt}
use Rattle.dbm_model.specs.Bounds.{Version}
use Rattle.dbm_model.specs.Pairs.{Key}
use Rattle.page_model.specs.Chain.{pages_long}
use Rattle.page_model.specs.Pages.{Body, Record}
use Rattle.page_model.specs.Reading.{own_number}
use Rattle.page_io.specs.Store.{StoreState, IsKnown}
use Rattle.page_io.specs.BucketPages.{IsPageOf, page_records}
use Rattle.slot_page.specs.Contents.{HasKeyAt, told_content}
use Rattle.bucket_chain.specs.Links.{IsLink, SaysLink}
use Rattle.bucket_chain.specs.Chains.{ReadLeaf, ReadChain, kind_behind}
use Rattle.bucket_chain.specs.Walks.{IsWalk, LacksKey, EndsWithout}
use Rattle.bucket_chain.specs.declared.removes.Hit.{Hit}

-- a head page or an overflow page
abbrev pub IsLinkKind : ℕ → Type 0
IsLinkKind kind = (kind ≡ 3) ⊎ (kind ≡ 4)

-- the last of these pages
pub record IsLast (pages : ReadChain) (n kind : ℕ) : Type 0 where
  pub front : ReadChain
  pub leaf : ReadLeaf
  pub parts : pages ≡ front ++ leaf ∷ []
  pub number : n ≡ leaf.number
  pub kind_is : kind ≡ kind_behind front

-- the last of the pages that were passed, or 0 where none was
abbrev pub IsPrior : ReadChain → ℕ → ℕ → Type 0
IsPrior before n kind = ((before ≡ []) × (n ≡ 0)) ⊎ IsLast before n kind

-- a walk that met no page 0
pub record IsNumberedWalk (at : ℕ → Body) (head : ℕ) (Passed : ReadLeaf → Type 0)
    (Last : ReadLeaf → ℕ → Type 0) : Type 0 where
  pub walk : IsWalk at head Passed Last
  pub numbered : AllByRecursion (λ leaf. 1 ≤ leaf.number) (walk.before ++ walk.leaf ∷ [])

-- the key's record stands there in the page, which names the next one
pub record IsHitAt (key : Key) (bytes : List ℕ) (hit : Hit) (leaf : ReadLeaf)
    (after : ℕ) : Type 0 where
  pub number : hit.page ≡ leaf.number
  pub records : page_records bytes ≡ leaf.records
  pub has : HasKeyAt key leaf.records hit.slot
  pub next : hit.next ≡ after

-- the walk ended at the page with the key
pub record IsHit (version : Version) (at : ℕ → Body) (head : ℕ) (key : Key) (bytes : List ℕ)
    (hit : Hit) : Type 0 where
  pub walked : IsNumberedWalk at head (LacksKey key) (IsHitAt key bytes hit)
  pub link :
      IsLink version bytes hit.page (kind_behind walked.walk.before) hit.next (page_records bytes)
  pub prior : IsPrior walked.walk.before hit.prior hit.prior_kind

-- or behind all pages
abbrev pub IsHitOrNone : Version → (ℕ → Body) → ℕ → Key → List ℕ → Option Hit → Type 0
IsHitOrNone version at head key bytes None = IsNumberedWalk at head (LacksKey key) (EndsWithout key)
IsHitOrNone version at head key bytes (Some hit) = IsHit version at head key bytes hit

-- On any device: the bytes are the hit's page, the key's record is in its slot, and it tells this
-- content.
pub record IsHeldHit (version : Version) (state : StoreState) (key : Key) (bytes : List ℕ)
    (hit : Hit) : Type 0 where
  pub some : 1 ≤ hit.page
  pub known : IsKnown state hit.page
  pub own : own_number bytes ≡ hit.page
  pub page : IsPageOf version bytes
  pub has : HasKeyAt key (page_records bytes) hit.slot
  pub content : HoldsAt (λ r. told_content r ≡ hit.content) (page_records bytes) hit.slot
  pub prior_kind : IsLinkKind hit.prior_kind

-- page n was a page of a chain of this kind, and has its records still, with this page behind it
pub record IsRelinked (version : Version) (old new : ℕ → Body) (n kind next : ℕ) : Type 0 where
  pub old_next : ℕ
  pub records : List Record
  pub was : SaysLink version old n kind old_next records
  pub says : SaysLink version new n kind next records

-- how many pages a content has of which the first and the length are told
abbrev pub pages_told : Option (ℕ × ℕ) → ℕ
pages_told None = 0
pages_told (Some (first, long)) = pages_long long
