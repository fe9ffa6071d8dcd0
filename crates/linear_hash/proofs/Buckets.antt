-- The bucket of a key in a placement: its head page, and its chain.
use Rattle.std.proofs.Common.{[], ◌≤◌, ◌^◌, ◌≡◌, ℕ, ◌<◌, List, length, get_or, Option, Some, None, refl, sym, ap, subst, ◌∙◌, arith}
use Rattle.std.specs.Prelude.{All}
use Rattle.std.specs.FinMap.{find, get}
use Rattle.std.specs.List.{HoldsAt}
use Rattle.dbm_model.specs.Bounds.{Bounds}
use Rattle.page_model.specs.Address.{Shape, buckets, address, hash_of}
use Rattle.page_model.specs.Numbers.{IsNumber}
use Rattle.page_model.specs.Pages.{Meta, Body, Record}
use Rattle.dbm_model.specs.Pairs.{Key, Pair, key_cmp}
use Rattle.page_model.specs.Chain.{Chain, numbers, pairs_in, record_of}
use Rattle.page_io.specs.BucketPages.{page_records}
use Rattle.slot_page.specs.Contents.{told_content}
use Rattle.page_model.specs.Placement.{Placement, contents, key_bucket, chain_at, IsSound}
use Rattle.page_model.specs.PageBodies.{first_of, heads_of, segment_bodies, lower_bodies, AreRead}
use Rattle.page_model.proofs.AddressLemmas.{address_below}
use Rattle.page_model.proofs.GoodBodies.{end_small}
use Rattle.page_model.proofs.Stores.{looks_in_one_chain}
use Rattle.free_pages.specs.declared.free_state.FreeState.{FreeState}
use Rattle.free_pages.specs.FreeList.{state_of}
use Rattle.lin_addr.specs.Shapes.{shape_of}
use Rattle.seg_table.specs.MetaPages.{model_meta}
use Rattle.seg_table.specs.declared.meta.Meta as code
use Rattle.seg_table.specs.Heads.{AreHeads}
use Rattle.seg_table.specs.Placements.{HasHeads}
use Rattle.seg_table.proofs.PlacementHeads.{heads_read, used_segments}
use Rattle.bucket_chain.specs.Chains.{IsChainAt}
use Rattle.bucket_chain.specs.Changes.{IsPlaced}
use Rattle.bucket_chain.specs.ContentLookups.{TellsContent, IsContentFound}
use Rattle.bucket_chain.specs.Walks.{IsLookedUp}
use Rattle.bucket_chain.specs.declared.content_lookups.FoundContent.{FoundContent}
use Rattle.bucket_chain.specs.declared.content_lookups.FoundContent.TheVariants.{Near, Far}
use Rattle.bucket_chain.specs.declared.place.Place.{Place}
use Rattle.bucket_chain.proofs.PlacedChains.{chains_placed}
use Rattle.linear_hash.specs.Tables.{shape_in, IsTable}
use Rattle.linear_hash.specs.Looking.{IsFound, IsFoundContent, SaysContent, SaysPair}
use Rattle.linear_hash.proofs.FoundPairs.{told_pair}

-- the bucket as the code finds it
pub bucket_of : (meta : code.Meta) (key : Key) (bucket hash : ℕ)
    → bucket ≡ address (shape_of meta.shape) hash → hash ≡ hash_of key
    → bucket ≡ address (shape_in (model_meta meta)) (hash_of key)
bucket_of meta key bucket hash is hashed = is ∙ ap (address (shape_of meta.shape)) hashed

module _ (at : ℕ → Body) (m : Meta) (p : Placement) (sound : IsSound p)
    (small : p.space.end ≤ 2 ^ 32) (read : AreRead at (lower_bodies p))
    (shape : shape_in m ≡ p.shape) (segments : m.segments ≡ p.segments)
    (bounds : m.bounds ≡ p.bounds) where
  used : All (λ n. (0 < n) × IsNumber n) m.segments
  used = subst (All (λ n. (0 < n) × IsNumber n)) (sym segments) (used_segments p sound small)

  of_p : HasHeads at p
  of_p = heads_read at p sound (used_segments p sound small) read

  -- the segment pages say the heads
  pub heads_are : AreHeads at m (heads_of p.chains)
  heads_are =
      record {
        are_read = subst (λ (ss : List ℕ). AreRead at (segment_bodies ss (heads_of p.chains)))
            (sym segments) of_p.heads_are.are_read;
        many = of_p.heads_are.many ∙ ap buckets (sym shape);
        used = used;
      }

  module _ (key : Key) (bucket : ℕ) (is : bucket ≡ address (shape_in m) (hash_of key)) where
    pub bucket_is : bucket ≡ key_bucket p.shape key
    bucket_is = is ∙ ap (λ (s : Shape). key_bucket s key) shape

    pub bucket_below : bucket < length p.chains
    bucket_below = omega (
      arith,
      bucket_is,
      address_below p.shape (hash_of key) sound.split_in,
      sound.all_buckets,
    )

    pub bucket_heads : bucket < length (heads_of p.chains)
    bucket_heads = omega (arith, bucket_below, of_p.heads_are.many, sound.all_buckets)

    -- its head page is that of its chain, which is placed
    pub placed : (state : FreeState) (head : ℕ) → state ≡ state_of p.space
        → head ≡ get_or (heads_of p.chains) bucket 0
        → IsPlaced m.bounds.version at state head (chain_at p (key_bucket p.shape key)) p.space
    placed state head kept head_is =
        let first : head ≡ first_of (numbers (chain_at p bucket)) =
        head_is ∙ of_p.each bucket bucket_below in
        let v = m.bounds.version in
        let there = subst (λ (b : Bounds). IsPlaced b.version at state
        (first_of (numbers (chain_at p bucket))) (chain_at p bucket) p.space) (sym bounds)
        (chains_placed at state [] p bucket sound small
        (record { are_read = read; kept = kept }) bucket_below) in
        subst (λ (b : ℕ). IsPlaced v at state head (chain_at p b) p.space) bucket_is
        (subst (λ (n : ℕ). IsPlaced v at state n (chain_at p bucket) p.space) (sym first) there)

module _ (at : ℕ → Body) (m : Meta) (end : ℕ) (p : Placement) (table : IsTable at m end p) where
  few : p.space.end ≤ 2 ^ 32
  few = end_small p table.good

  pub table_shape : shape_in m ≡ p.shape
  table_shape = ap shape_in table.meta_is

  pub table_segments : m.segments ≡ p.segments
  table_segments = ap (λ (n : Meta). n.segments) table.meta_is

  pub table_bounds : m.bounds ≡ p.bounds
  table_bounds = ap (λ (n : Meta). n.bounds) table.meta_is

  pub table_heads : AreHeads at m (heads_of p.chains)
  table_heads = heads_are at m p table.good.sound few table.are_read table_shape table_segments
      table_bounds

  module _ (key : Key) (bucket : ℕ) (is : bucket ≡ address (shape_in m) (hash_of key)) where
    pub table_below : bucket < length (heads_of p.chains)
    table_below = bucket_heads at m p table.good.sound few table.are_read table_shape
        table_segments table_bounds key bucket is

    pub table_chain : (head : ℕ) → head ≡ get_or (heads_of p.chains) bucket 0
        → IsChainAt m.bounds.version at end head (chain_at p (key_bucket p.shape key))
    table_chain head head_is =
        let there = placed at m p table.good.sound few table.are_read table_shape table_segments
        table_bounds key bucket is (state_of p.space) head refl head_is in
        subst (λ (n : ℕ). IsChainAt m.bounds.version at n head
        (chain_at p (key_bucket p.shape key)))
        table.ends there.chain_is

-- what holds of one record holds of the one in its slot
holds_of : (P : Record → Type 0) (x : Record) (rs : List Record) (k : ℕ)
    → HoldsAt (λ r. r ≡ x) rs k → P x → HoldsAt P rs k
holds_of P x rs k there holds d = subst P (sym (there d)) holds

-- the bucket of a key is one of the table's
below_of : {at : ℕ → Body} {m : Meta} {end : ℕ} (p : Placement) (key : Key) → IsTable at m end p
    → key_bucket p.shape key < length p.chains
below_of p key table = omega (
  arith,
  address_below p.shape (hash_of key) table.good.sound.split_in,
  table.good.sound.all_buckets,
)

-- what is found in the chain of the key's bucket is what the map has at the key
pub found_in : (at : ℕ → Body) (m : Meta) (end : ℕ) (p : Placement) (key : Key) (bytes : List ℕ)
    (place : Option Place) → IsTable at m end p
    → IsLookedUp key (chain_at p (key_bucket p.shape key)) bytes place
    → IsFound at key (get (contents p) key) bytes place
found_in at m end p key bytes place table looked = by_place place looked
  where
    chain : Chain
    chain = chain_at p (key_bucket p.shape key)

    has : get (contents p) key ≡ find key_cmp key (pairs_in chain)
    has = looks_in_one_chain p key table.good.sound

    by_place : (place : Option Place) → IsLookedUp key chain bytes place
        → IsFound at key (get (contents p) key) bytes place
    by_place None none = subst (λ (o : Option (List ℕ)). IsFound at key o bytes None)
        (sym (has ∙ none)) refl
    by_place (Some spot) some =
        let e = some.entry in
        let says = told_pair p.bounds.version at (state_of p.space) _ chain p.space e
        (chains_placed at (state_of p.space) [] p (key_bucket p.shape key) table.good.sound
        (end_small p table.good) (record { are_read = table.are_read; kept = refl })
        (below_of p key table)) (end_small p table.good) some.among in
        let pair_is : e.pair ≡ (key, e.pair.1) = λ i. (some.key_is i, e.pair.1) in
        subst (λ (o : Option (List ℕ)). IsFound at key o bytes (Some spot)) (sym (has ∙ some.found))
        (holds_of (SaysPair at (key, e.pair.1)) (record_of e) (page_records bytes) spot.slot
        some.there (subst (λ (q : Pair). SaysPair at q (record_of e)) pair_is says))

-- so is the content that is found there
pub content_found : (at : ℕ → Body) (m : Meta) (end : ℕ) (p : Placement) (key : Key)
    (near : List ℕ) (found : Option FoundContent) → IsTable at m end p
    → IsContentFound key (chain_at p (key_bucket p.shape key)) near found
    → IsFoundContent at (get (contents p) key) near found
content_found at m end p key near found table looked = by_found found looked
  where
    chain : Chain
    chain = chain_at p (key_bucket p.shape key)

    has : get (contents p) key ≡ find key_cmp key (pairs_in chain)
    has = looks_in_one_chain p key table.good.sound

    told : (r : Record) (content : List ℕ) (f : FoundContent) → TellsContent r near f
        → SaysContent at content r.bytes (told_content r)
        → IsFoundContent at (Some content) near (Some f)
    told r content Near tells says =
        sym tells.1 ∙ subst (SaysContent at content r.bytes) tells.0 says
    told r content (Far first long) tells says = subst (SaysContent at content r.bytes) tells says

    by_found : (found : Option FoundContent) → IsContentFound key chain near found
        → IsFoundContent at (get (contents p) key) near found
    by_found None none = subst (λ (o : Option (List ℕ)). IsFoundContent at o near None)
        (sym (has ∙ none)) refl
    by_found (Some f) some =
        let e = some.entry in
        let says = told_pair p.bounds.version at (state_of p.space) _ chain p.space e
        (chains_placed at (state_of p.space) [] p (key_bucket p.shape key) table.good.sound
        (end_small p table.good) (record { are_read = table.are_read; kept = refl })
        (below_of p key table)) (end_small p table.good) some.among in
        subst (λ (o : Option (List ℕ)). IsFoundContent at o near (Some f)) (sym (has ∙ some.first))
        (told (record_of e) e.pair.1 f some.tells says.content)
