-- What a call has read that looks for a key, on any file.
use Rattle.std.specs.Prelude.{◌≡◌, ◌≢◌, ◌<◌, length, ℕ, Bool, true, false, List, [], Option, Some, None, IsSome}
use Rattle.std.specs.List.{HoldsAt}
use Rattle.dbm_model.specs.Pairs.{Key}
use Rattle.dbm_model.specs.States.{Pass, NotBegun}
use Rattle.bucket_chain.specs.Chains.{ReadLeaf}
use Rattle.page_model.specs.Pages.{Meta, Body, Record}
use Rattle.page_io.specs.BucketPages.{page_records}
use Rattle.slot_page.specs.Contents.{HasKeyAt, told_content}
use Rattle.content_pages.specs.Contents.{IsContentAt}
use Rattle.page_io.specs.Views.{body_at}
use Rattle.page_io.specs.declared.store.PageStore.{Ghosts}
use Rattle.bucket_chain.specs.Walks.{EndsWithout}
use Rattle.linear_hash.specs.Looking.{IsSearch, CanSearch, SaysPair}
use Rattle.linear_hash.specs.Passing.{IsPassed}
use Rattle.dbm_file.specs.Passing.{pass_of}
use Rattle.dbm_file.specs.Database.{store_of, meta_kept, page_state}
use Rattle.dbm_file.specs.declared.database.Database.{Database}

-- over an honest store: the pages that say where the key's bucket is, and those of its chain, were
-- read up to the one that the search ended at
abbrev pub Searched : {S : Type 0} {s : Ghosts S} → Database S s → Key
    → (ReadLeaf → ℕ → Type 0) → Type 0
Searched {S} {s} db key Last =
    s.honest (store_of db) → IsSearch (body_at s (store_of db)) (meta_kept db) key Last

-- over an honest store: what a search for the key reads can be read, whatever other pages say
abbrev pub CanFind : {S : Type 0} {s : Ghosts S} → Database S s → Key → Type 0
CanFind {S} {s} db key = s.honest (store_of db)
    × CanSearch (body_at s (store_of db)) (meta_kept db) (page_state db).end key

-- the search ended at a page that has the key
abbrev pub EndsWith : Key → ReadLeaf → ℕ → Type 0
EndsWith key leaf after = (slot : ℕ) × HasKeyAt key leaf.records slot

-- it ended as this answer says to whether the key is there
abbrev pub EndsBy : Key → Bool → ReadLeaf → ℕ → Type 0
EndsBy key true leaf after = EndsWith key leaf after
EndsBy key false leaf after = EndsWithout key leaf after

-- at a page that has the key's record, which says this content, or behind all pages
abbrev pub EndsAtContent : (ℕ → Body) → Key → Option (List ℕ) → ReadLeaf → ℕ → Type 0
EndsAtContent at key None leaf after = EndsWithout key leaf after
EndsAtContent at key (Some content) leaf after =
    (slot : ℕ) × (slot < length leaf.records) × HoldsAt (SaysPair at (key, content)) leaf.records slot

-- at the key's record, whose content lies in pages of its own
abbrev pub EndsAtFar : Key → ReadLeaf → ℕ → Type 0
EndsAtFar key leaf after = (slot : ℕ) × HasKeyAt key leaf.records slot
    × HoldsAt (λ r. IsSome (told_content r)) leaf.records slot

-- where a record tells the first page of a content and its length, the pages say one of that length
abbrev pub ContentIsThere : (ℕ → Body) → Record → Type 0
ContentIsThere at r = (first long : ℕ) → told_content r ≡ Some (first, long)
    → (content : List ℕ) × (length content ≡ long) × IsContentAt at first content

-- over an honest store: a search for the key can be made, and where it ends at the key's record the
-- content of that is there
abbrev pub CanFetch : {S : Type 0} {s : Ghosts S} → Database S s → Key → Type 0
CanFetch {S} {s} db key = CanFind db key × ((leaf : ReadLeaf) (slot : ℕ)
    → IsSearch (body_at s (store_of db)) (meta_kept db) key (λ last after. last ≡ leaf)
    → HasKeyAt key leaf.records slot
    → HoldsAt (ContentIsThere (body_at s (store_of db))) leaf.records slot)

-- the key that was answered is that of the pair which the pass reached
abbrev pub IsGiven : (ℕ → Body) → Meta → Pass → Option Key → Type 0
IsGiven at m from None = IsPassed at m from [] None
IsGiven at m from (Some key) =
    (bytes : List ℕ) × (slot : ℕ) × IsPassed at m from bytes (Some slot)
    × HoldsAt (λ r. r.key ≡ key) (page_records bytes) slot

-- over an honest store: the pages that say where the buckets are, and those of their chains, were
-- read from there on
abbrev pub Passed : {S : Type 0} {s : Ghosts S} → Database S s → Pass → Option Key → Type 0
Passed {S} {s} db from found =
    s.honest (store_of db) → IsGiven (body_at s (store_of db)) (meta_kept db) from found

-- a pass was begun, and they were read from where it stood
abbrev pub WentOn : {S : Type 0} {s : Ghosts S} → Database S s → Option Key → Type 0
WentOn db found = (pass_of db ≢ NotBegun) × Passed db (pass_of db) found

-- no pass was begun, and the database isn't broken
abbrev pub LacksPass : {S : Type 0} {s : Ghosts S} → Database S s → Type 0
LacksPass db = ((page_state db).usable ≡ true) × (pass_of db ≡ NotBegun)
