-- The search of a key's bucket, on any file.
use Rattle.std.proofs.Common.{◌≡◌, ℕ, ◌/◌, ◌%◌, List, slice_index, Option, Some, None, Result, Ok, Err, IfOk, subst, sym, ap, ◌∙◌}
use Rattle.page_model.specs.Address.{address, hash_of}
use Rattle.page_model.specs.Pages.{Meta, Body}
use Rattle.dbm_model.specs.Pairs.{Key}
use Rattle.seg_table.specs.Heads.{HasEntry, SaysSegment}
use Rattle.bucket_chain.specs.Chains.{ReadLeaf}
use Rattle.bucket_chain.specs.ContentLookups.{IsContentLook}
use Rattle.bucket_chain.specs.Walks.{IsWalk, LacksKey, IsLookup, CanLook}
use Rattle.bucket_chain.specs.declared.content_lookups.FoundContent.{FoundContent}
use Rattle.bucket_chain.specs.declared.place.Place.{Place}
use Rattle.linear_hash.specs.Looking.{IsSearch, CanSearch, key_segment, key_entry, EndsAt, EndsAtFound}
use Rattle.linear_hash.specs.Tables.{shape_in}

-- a look along the chain, by how it ended
walk_of : (at : ℕ → Body) (head : ℕ) (key : Key) (bytes : List ℕ) (place : Option Place)
    → IsLookup at head key bytes place → IsWalk at head (LacksKey key) (EndsAt key bytes place)
walk_of at head key bytes None looked = looked
walk_of at head key bytes (Some place) looked = looked

content_walk_of : (at : ℕ → Body) (head : ℕ) (key : Key) (near : List ℕ)
    (found : Option FoundContent) → IsContentLook at head key near found
    → IsWalk at head (LacksKey key) (EndsAtFound key near found)
content_walk_of at head key near None looked = looked
content_walk_of at head key near (Some found) looked = looked

-- the head was read from the pages as they were at first, and the chain from pages that say the
-- same
module _ (at at' : ℕ → Body) (m : Meta) (key : Key) (bucket head : ℕ)
    (is : bucket ≡ address (shape_in m) (hash_of key))
    (entry : HasEntry (at (slice_index m.segments (bucket / 508))) (bucket % 508) head)
    (same : at' ≡ at) where
  search_of : (Last : ReadLeaf → ℕ → Type 0) → IsWalk at' head (LacksKey key) Last
      → IsSearch at m key Last
  search_of Last walk = record {
    head = head;
    segment = subst (λ (b : ℕ). HasEntry (at (slice_index m.segments (b / 508))) (b % 508) head) is
        entry;
    walk = subst (λ (f : ℕ → Body). IsWalk f head (LacksKey key) Last) same walk;
  }

  pub searched_from : {E : Type 0} (bytes : List ℕ) (r : Result (Option Place) E)
      → IfOk r (IsLookup at' head key bytes)
      → IfOk r (λ place. IsSearch at m key (EndsAt key bytes place))
  searched_from bytes (Ok place) looked =
      search_of (EndsAt key bytes place) (walk_of at' head key bytes place looked)
  searched_from bytes (Err e) looked = tt

  pub content_from : {E : Type 0} (near : List ℕ) (r : Result (Option FoundContent) E)
      → IfOk r (IsContentLook at' head key near)
      → IfOk r (λ found. IsSearch at m key (EndsAtFound key near found))
  content_from near (Ok found) looked =
      search_of (EndsAtFound key near found) (content_walk_of at' head key near found looked)
  content_from near (Err e) looked = tt

-- what can be read at first: the segment's page, and from the head on that was read of it the chain
pub segment_from : (at : ℕ → Body) (m : Meta) (end : ℕ) (key : Key) (bucket : ℕ)
    → bucket ≡ address (shape_in m) (hash_of key) → CanSearch at m end key
    → SaysSegment at m (bucket / 508)
segment_from at m end key bucket is can =
    subst (λ (b : ℕ). SaysSegment at m (b / 508)) (sym is) can.segment

pub look_from : (at at' : ℕ → Body) (m : Meta) (end end' : ℕ) (key : Key) (bucket head : ℕ)
    → bucket ≡ address (shape_in m) (hash_of key)
    → HasEntry (at (slice_index m.segments (bucket / 508))) (bucket % 508) head → at' ≡ at
    → end' ≡ end → CanSearch at m end key → CanLook m.bounds.version at' end' head key
look_from at at' m end end' key bucket head is entry same ends can =
    let there : HasEntry (at (key_segment m key)) (key_entry m key) head =
    subst (λ (b : ℕ). HasEntry (at (slice_index m.segments (b / 508))) (b % 508) head) is entry in
    let heads : there.heads ≡ can.segment.heads =
    let both = sym there.segment ∙ can.segment.says in cc in
    let head_is : head ≡ slice_index can.segment.heads (key_entry m key) =
    there.entry ∙ ap (λ (hs : List ℕ). slice_index hs (key_entry m key)) heads in
    let v = m.bounds.version in
    let there = slice_index can.segment.heads (key_entry m key) in
    subst (λ (h : ℕ). CanLook v at' end' h key) (sym head_is)
    (subst (λ (f : ℕ → Body). CanLook v f end' there key) (sym same)
    (subst (λ (e : ℕ). CanLook v at e there key) (sym ends) can.look))
