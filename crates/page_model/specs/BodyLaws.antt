-- Laws of the pages of a placement: what they say, what they stand for, and what a change of one
-- chain leaves.
use Rattle.std.specs.Prelude.{◌≡◌, ◌↔◌, ℕ, List, [], ◌∷◌, ◌++◌, flat_map, if◌then◌else◌}
use Rattle.std.specs.List.{AllByRecursion}
use Rattle.std.specs.FinMap.{insert}
use Rattle.std.specs.FinMap as fin
use Rattle.dbm_model.specs.Bounds.{Bounds, upgraded}
use Rattle.dbm_model.specs.Pairs.{Key, Pair, Contents, contents_of}
use Rattle.page_model.specs.Pages.{Body}
use Rattle.page_model.specs.Valid.{IsValidBody, IsBodyOf}
use Rattle.page_model.specs.Chain.{Entry, entries_in, pages_of, add, remove, has_room, freed}
use Rattle.page_model.specs.Space.{next_page, after_take, give}
use Rattle.page_model.specs.Placement.{Placement, contents, put_entry, put, entry_for, with_content, key_bucket, chain_at, delete, store, extended, raised, IsSoundBeside, IsSound, IsGood, MayStore}
use Rattle.page_model.specs.PageBodies.{IsSpelled, AreRead, meta_body, page_bodies, lower_bodies, entry_bodies}
use Rattle.page_model.specs.Rewrites.{IsRewritten, AreRewritten, extended_bodies}
use Rattle.page_model.specs.Meaning.{flat_pairs, StandsFor, said_by, ArePages, PagesStandFor}

-- each page of a good placement has its spelling
abbrev pub BodiesAreValid : Type 0
BodiesAreValid = (p : Placement) → IsGood p → AllByRecursion IsValidBody (page_bodies p)

-- pages of bytes are those of a good placement exactly where they are read as it
abbrev pub PagesReadExactly : Type 0
PagesReadExactly = (page : ℕ → List ℕ) (p : Placement) → IsGood p
    → ArePages page p ↔ IsSpelled (said_by page) p

-- the map is that of the flat contents of the pages that spell the placement
abbrev pub FlatIsContents : Type 0
FlatIsContents = (p : Placement) (at : ℕ → Body) → IsGood p → IsSpelled at p
    → contents_of (flat_pairs at p.space.end) ≡ contents p

-- pages spell one map
abbrev pub OneMap : Type 0
OneMap = (p q : Placement) (at : ℕ → Body) → IsGood p → IsGood q → IsSpelled at p → IsSpelled at q
    → p.space.end ≡ q.space.end → contents p ≡ contents q

-- pages stand for one map and bounds at most
abbrev pub OneMeaning : Type 0
OneMeaning = (at : ℕ → Body) (end : ℕ) (m n : Contents) (bounds other : Bounds) → StandsFor at end m bounds
    → StandsFor at end n other → (m ≡ n) × (bounds ≡ other)

-- pages of bytes stand for one map and bounds at most
abbrev pub PagesHaveOneMeaning : Type 0
PagesHaveOneMeaning = (page : ℕ → List ℕ) (end : ℕ) (m n : Contents) (bounds other : Bounds)
    → PagesStandFor page end m bounds → PagesStandFor page end n other → (m ≡ n) × (bounds ≡ other)

-- the pages of a good placement stand for its map and its bounds
abbrev pub GoodPagesStand : Type 0
GoodPagesStand = (page : ℕ → List ℕ) (p : Placement) → IsGood p → ArePages page p
    → PagesStandFor page p.space.end (contents p) p.bounds

-- what is read of pages that came to spell the placement after a store stands for the map with the
-- pair
abbrev pub StoredStands : Type 0
StoredStands = (p : Placement) (at : ℕ → Body) (pair : Pair) → IsGood p → MayStore p pair
    → IsSpelled at (store p pair)
    → StandsFor at (store p pair).space.end (insert (contents p) pair.0 pair.1) p.bounds

-- and after a delete for the map without the key
abbrev pub DeletedStands : Type 0
DeletedStands = (p : Placement) (at : ℕ → Body) (key : Key) → IsGood p → IsSpelled at (delete p key)
    → StandsFor at (delete p key).space.end (fin.remove (contents p) key) p.bounds

-- where a pair is put and one chain and the free list are rewritten so, all pages but meta say the
-- placement with the pair
abbrev pub PutRewrites : Type 0
PutRewrites = (p : Placement) (at at' : ℕ → Body) (pair : Pair) → IsSound p → IsSound (put p pair)
    → AreRead at (lower_bodies p) →
    (let chain = chain_at p (key_bucket p.shape pair.0) in
    let e = entry_for p pair in
    let space = (with_content p pair).space in
    IsRewritten at at' (add e (next_page space) chain)
    (if has_room e chain then space else after_take space)) →
    AreRead at' (lower_bodies (put p pair))

-- where a record is put and its chain and the free list are rewritten so, as in a split: all pages
-- but meta say the placement with it, and the contents of the records that are left stay
abbrev pub PutEntryRewrites : Type 0
PutEntryRewrites = (p : Placement) (at at' : ℕ → Body) (e : Entry) (left : List Entry)
    → IsSoundBeside (e.pages ++ pages_of left) p → IsSoundBeside (pages_of left) (put_entry p e)
    → AreRead at (lower_bodies p) → AreRead at (flat_map entry_bodies left) →
    (let chain = chain_at p (key_bucket p.shape e.pair.0) in
    IsRewritten at at' (add e (next_page p.space) chain)
    (if has_room e chain then p.space else after_take p.space)) →
    AreRead at' (lower_bodies (put_entry p e)) × AreRead at' (flat_map entry_bodies left)

-- the same of a delete
abbrev pub DeleteRewrites : Type 0
DeleteRewrites = (p : Placement) (at at' : ℕ → Body) (key : Key) → IsSound p
    → IsSound (delete p key) → AreRead at (lower_bodies p) →
    (let chain = chain_at p (key_bucket p.shape key) in
    IsRewritten at at' (remove key chain) (give (freed key chain) p.space)) →
    AreRead at' (lower_bodies (delete p key))

-- where a bucket is added and its pages are rewritten so, all pages but meta say the placement
-- with one bucket more, and the contents of the emptied bucket stay
abbrev pub ExtendRewrites : Type 0
ExtendRewrites = (p : Placement) (at at' : ℕ → Body) → IsSound p → AreRead at (lower_bodies p)
    → AreRewritten at at' (extended_bodies p) → AreRead at' (lower_bodies (extended p))
    × AreRead at' (flat_map entry_bodies (entries_in (chain_at p p.shape.split)))

-- a placement goes to version 2 where the meta page alone is rewritten
abbrev pub RaisedRewrites : Type 0
RaisedRewrites = (p : Placement) (at at' : ℕ → Body) → IsGood p → IsSpelled at p
    → AreRewritten at at' (meta_body (raised p) ∷ [])
    → StandsFor at' p.space.end (contents p) (upgraded p.bounds)

-- what the pages of a good placement say is of its version
abbrev pub BodiesAreOfVersion : Type 0
BodiesAreOfVersion = (p : Placement) → IsGood p
    → AllByRecursion (λ numbered. IsBodyOf p.bounds.version numbered.body) (page_bodies p)

-- where the meta page is rewritten last, all pages say the placement
abbrev pub MetaRewrites : Type 0
MetaRewrites = (p : Placement) (at at' : ℕ → Body) → IsSound p → AreRead at (lower_bodies p)
    → AreRewritten at at' (meta_body p ∷ []) → IsSpelled at' p
