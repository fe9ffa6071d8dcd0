-- A placement midway in a change: one key deleted, one pair put.
use Rattle.std.proofs.Common.{is_eq, zero, suc, Bool, map, flat_map, ◌^◌, ◌≡◌, ℕ, ◌+◌, ◌<◌, ◌≤◌, true, false, List, [], ◌∷◌, cond, length, set, get_or, length-set, get_or-set_same, Option, Some, None, is_some, refl, sym, ap, subst, ◌∙◌, arith}
use Rattle.std.specs.List.{AllByRecursion}
use Rattle.std.specs.FinMap.{get, get-from_entries}
use Rattle.std.specs.Cmp.{tied_itself}
use Rattle.std.proofs.lemmas.Cmp.{nat_list_cmp_total}
use Rattle.std.proofs.lemmas.List.{get_or-map}
use Rattle.std.proofs.lemmas.List.Sums.{sum_by-cons}
use Rattle.dbm_model.specs.Bounds.{Version, Bounds}
use Rattle.page_model.specs.Address.{address, hash_of}
use Rattle.page_model.specs.Pages.{Meta, Body}
use Rattle.dbm_model.specs.Pairs.{Key, Pair, is_far, IsAllowed}
use Rattle.dbm_model.specs.Steps.{holds_far}
use Rattle.page_model.specs.PairLists.{has_key, times}
use Rattle.page_model.specs.Chain.{Entry, Chain, pages_long, numbers, entries_in, pairs_in, remove, IsEntry}
use Rattle.page_model.proofs.Chains.{pairs_of_entries, AllByRecursion-left, AllByRecursion-right}
use Rattle.bucket_chain.specs.Changes.{LacksFar}
use Rattle.page_model.specs.Placement.{Placement, contents, pairs_of, key_bucket, chain_at, put, delete, IsSound}
use Rattle.page_model.specs.PageBodies.{first_of, heads_of}
use Rattle.page_model.proofs.AddressLemmas.{address_below}
use Rattle.page_model.proofs.Absent.{delete_absent}
use Rattle.page_model.proofs.PairLists.{value_in, sum_by-flat_map-set}
use Rattle.page_model.proofs.Places.{times_none, value_at, delete_sound, put_is_sound}
use Rattle.page_io.specs.Store.{StoreState}
use Rattle.page_io.specs.Views.{body_at, ReadsOnly, MayEnd}
use Rattle.page_io.specs.declared.store.PageStore.{Ghosts}
use Rattle.page_io.proofs.Views.{same_said}
use Rattle.free_pages.specs.declared.free_state.FreeState.{FreeState}
use Rattle.seg_table.specs.Heads.{AreHeads}
use Rattle.bucket_chain.specs.Changes.{IsPlaced, BecomesPlaced, remove_from, put_pair}
use Rattle.bucket_chain.specs.Placements.{placed_for}
use Rattle.bucket_chain.proofs.PlacedChains.{puts_placements, removals_placements}
use Rattle.linear_hash.specs.Tables.{shape_in}
use Rattle.linear_hash.specs.Staging.{IsMidway}
use Rattle.linear_hash.proofs.Buckets as buckets

bucket_in : (p : Placement) → IsSound p → (key : Key) → key_bucket p.shape key < length p.chains
bucket_in p sound key = omega
    (arith, address_below p.shape (hash_of key) sound.split_in, sound.all_buckets)

-- a key that is nowhere is not in its chain
pub not_in_chain : (p : Placement) (key : Key) → IsSound p → value_in key (pairs_of p) ≡ None
    → times key (pairs_in (chain_at p (key_bucket p.shape key))) ≡ 0
not_in_chain p key sound none =
    times_none key (pairs_in (chain_at p (key_bucket p.shape key)))
    (sym (value_at p.shape p.chains key sound.split_in sound.all_buckets sound.in_place) ∙ none)

-- one that is not in the map is nowhere
pub nowhere : (p : Placement) (key : Key) → is_some (get (contents p) key) ≡ false
    → value_in key (pairs_of p) ≡ None
nowhere p key gone = sym (get-from_entries nat_list_cmp_total (pairs_of p) key)
    ∙ is_none (get (contents p) key) gone
  where
    is_none : (o : Option (List ℕ)) → is_some o ≡ false → o ≡ None
    is_none None gone = refl
    is_none (Some content) gone = absurd cc

-- and its delete changes nothing
pub delete_none : (p : Placement) (key : Key) → IsSound p → is_some (get (contents p) key) ≡ false
    → delete p key ≡ p
delete_none p key sound gone =
    delete_absent p key sound (get-from_entries nat_list_cmp_total (pairs_of p) key
    ∙ nowhere p key gone)

-- one that is found comes
found_times : (key : Key) (pairs : List Pair) → is_some (value_in key pairs) ≡ true
    → 1 ≤ times key pairs
found_times key [] has = absurd cc
found_times key (pair ∷ pairs) has =
    elim (has_key key pair) as (λ b. is_some (cond b (Some pair.1) (value_in key pairs)) ≡ true
    → cond b 1 0 + times key pairs ≡ times key (pair ∷ pairs) → 1 ≤ times key (pair ∷ pairs)) [
      | true ↦ λ h count. omega (arith, count)
      | false ↦ λ h count. omega (arith, count, found_times key pairs h)
    ] has (sym (sum_by-cons (λ p. cond (has_key key p) 1 0) pair pairs))

-- a chain keeps its head page
head_kept : (key : Key) (chain : Chain)
    → first_of (numbers (remove key chain)) ≡ first_of (numbers chain)
head_kept key [] = refl
head_kept key (leaf ∷ rest) = refl

-- ---- contents that lie in pages of their own

own_times_one : (key : Key) (pair : Pair) → pair.0 ≡ key → cond {A = ℕ} (has_key key pair) 1 0 ≡ 1
own_times_one key pair same =
    ap (λ (b : Bool). cond {A = ℕ} b 1 0)
    (ap (λ (k : Key). has_key k pair) (sym same) ∙ ap is_eq (tied_itself nat_list_cmp_total pair.0))

own_times : (key : Key) (pair : Pair) → pair.0 ≡ key → 1 ≤ cond {A = ℕ} (has_key key pair) 1 0
own_times key pair same = omega (arith, own_times_one key pair same)

near_pages : (version : Version) (e : Entry) → IsEntry version e → is_far e.pair ≡ false
    → e.pages ≡ []
near_pages version e is near = no_pages e.pages
    (is.paged ∙ ap (λ (b : Bool). cond b (pages_long (length e.pair.1)) 0) near)
  where
    no_pages : (pages : List ℕ) → length pages ≡ 0 → pages ≡ []
    no_pages [] none = refl
    no_pages (n ∷ pages) none = absurd (omega (arith, none))

-- a key that is nowhere among them has no such content
none_lacks : (key : Key) (entries : List Entry)
    → times key (map (λ (e : Entry). e.pair) entries) ≡ 0
    → AllByRecursion (λ e. e.pair.0 ≡ key → e.pages ≡ []) entries
none_lacks key [] none = tt
none_lacks key (e ∷ entries) none =
    let more = sum_by-cons (λ pair. cond (has_key key pair) 1 0) e.pair
    (map (λ (e : Entry). e.pair) entries) in (
      λ same. absurd (omega (arith, none, more, own_times key e.pair same)),
      none_lacks key entries (omega (arith, none, more)),
    )

-- of entries with the key once at most, where what the key has is near
lacks_far : (version : Version) (key : Key) (entries : List Entry)
    → AllByRecursion (IsEntry version) entries
    → times key (map (λ (e : Entry). e.pair) entries) ≤ 1
    → holds_far key (value_in key (map (λ (e : Entry). e.pair) entries)) ≡ false
    → AllByRecursion (λ e. e.pair.0 ≡ key → e.pages ≡ []) entries
lacks_far version key [] entered once near = tt
lacks_far version key (e ∷ entries) entered once near =
    by_key (has_key key e.pair) refl (lacks_far version key entries entered.1)
  where
    rest : List Pair
    rest = map (λ (e : Entry). e.pair) entries

    more : times key (e.pair ∷ rest) ≡ cond (has_key key e.pair) 1 0 + times key rest
    more = sum_by-cons (λ pair. cond (has_key key pair) 1 0) e.pair rest

    by_key : (t : Bool) → has_key key e.pair ≡ t
        → (times key rest ≤ 1 → holds_far key (value_in key rest) ≡ false
        → AllByRecursion (λ e. e.pair.0 ≡ key → e.pages ≡ []) entries)
        → AllByRecursion (λ e. e.pair.0 ≡ key → e.pages ≡ []) (e ∷ entries)
    by_key true is others =
        let one = ap (λ (b : Bool). cond {A = ℕ} b 1 0) is in
        let here = ap (λ (b : Bool). holds_far key (cond b (Some e.pair.1) (value_in key rest)))
        (sym is) ∙ near in (
          λ same. near_pages version e entered.0
              (ap (λ (k : Key). is_far (k, e.pair.1)) same ∙ here),
          none_lacks key entries (omega (arith, once, more, one)),
        )
    by_key false is others =
        let none = ap (λ (b : Bool). cond {A = ℕ} b 1 0) is in
        let later = ap (λ (b : Bool). holds_far key (cond b (Some e.pair.1) (value_in key rest)))
        (sym is) ∙ near in (
          λ same. absurd (omega (arith, none, own_times_one key e.pair same)),
          others (omega (arith, once, more, none)) later,
        )

module _ (at : ℕ → Body) (m : Meta) (space : FreeState) (p : Placement)
    (mid : IsMidway at m space p) (below : space.file_end < 2 ^ 32) where
  pub midway_small : p.space.end ≤ 2 ^ 32
  midway_small = omega (arith, below, ap (λ (s : FreeState). s.file_end) mid.below.kept)

  pub midway_heads : AreHeads at m (heads_of p.chains)
  midway_heads = buckets.heads_are at m p mid.sound midway_small mid.below.are_read mid.shape_is
      mid.segments_are mid.bounds_are

  module _ (key : Key) (bucket : ℕ) (is : bucket ≡ address (shape_in m) (hash_of key)) where
    pub midway_below : bucket < length (heads_of p.chains)
    midway_below = buckets.bucket_heads at m p mid.sound midway_small mid.below.are_read
        mid.shape_is
        mid.segments_are mid.bounds_are key bucket is

    pub midway_chain : (head : ℕ) → head ≡ get_or (heads_of p.chains) bucket 0
        → IsPlaced m.bounds.version at space head (chain_at p (key_bucket p.shape key)) p.space
    midway_chain head head_is = buckets.placed at m p mid.sound midway_small mid.below.are_read
        mid.shape_is mid.segments_are mid.bounds_are key bucket is space head mid.below.kept head_is

  pub midway_once : (key : Key) → times key (pairs_in (chain_at p (key_bucket p.shape key))) ≤ 1
  midway_once key =
      let f : Pair → ℕ = λ pair. cond (has_key key pair) 1 0 in
      omega (
        arith,
        mid.sound.no_key_twice key,
        sum_by-flat_map-set f pairs_in p.chains (key_bucket p.shape key) [] []
            (bucket_in p mid.sound key),
      )

  -- one that the map has comes there
  pub midway_one : (key : Key) → is_some (get (contents p) key) ≡ true
      → times key (pairs_in (chain_at p (key_bucket p.shape key))) ≡ 1
  midway_one key has = omega (arith, midway_once key, found_times key chain there)
    where
      chain : List Pair
      chain = pairs_in (chain_at p (key_bucket p.shape key))

      there : is_some (value_in key chain) ≡ true
      there = ap is_some (sym (value_at p.shape p.chains key mid.sound.split_in
          mid.sound.all_buckets mid.sound.in_place)
          ∙ sym (get-from_entries nat_list_cmp_total (pairs_of p) key)) ∙ has

  -- where what the map has at a key is near, its chain has no far content of it
  pub midway_near : (key : Key) → holds_far key (get (contents p) key) ≡ false
      → LacksFar key (chain_at p (key_bucket p.shape key))
  midway_near key near =
      let chain = chain_at p (key_bucket p.shape key) in
      let pairs = pairs_of_entries chain in
      let at_key = get-from_entries nat_list_cmp_total (pairs_of p) key
      ∙ value_at p.shape p.chains key mid.sound.split_in mid.sound.all_buckets mid.sound.in_place in
      lacks_far p.bounds.version key (entries_in chain)
      (all_set_at p.chains (key_bucket p.shape key) (bucket_in p mid.sound key) mid.sound.entered)
      (subst (λ (ps : List Pair). times key ps ≤ 1) pairs (midway_once key))
      (ap (λ (ps : List Pair). holds_far key (value_in key ps)) (sym pairs)
      ∙ ap (holds_far key) (sym at_key) ∙ near)
    where
      all_set_at : (chains : List Chain) (i : ℕ) → i < length chains
          → AllByRecursion (IsEntry p.bounds.version) (flat_map entries_in chains)
          → AllByRecursion (IsEntry p.bounds.version) (entries_in (get_or chains i []))
      all_set_at [] i lt all = absurd (omega (arith, lt))
      all_set_at (c ∷ chains) zero lt all =
          AllByRecursion-left (IsEntry p.bounds.version) (entries_in c) (flat_map entries_in chains)
          all
      all_set_at (c ∷ chains) (suc i) lt all = all_set_at chains i (omega (arith, lt))
          (AllByRecursion-right (IsEntry p.bounds.version) (entries_in c)
          (flat_map entries_in chains) all)

  -- a key taken out of its chain is deleted
  pub midway_deleted : (at' : ℕ → Body) (space' : FreeState) (key : Key)
      → BecomesPlaced at at' space' (remove_from (placed_for p key) key)
      → IsMidway at' m space' (delete p key)
  midway_deleted at' space' key becomes = record {
    sound = delete_sound [] p mid.sound key;
    below = removals_placements at at' space space' p key mid.sound mid.below becomes;
    shape_is = mid.shape_is;
    segments_are = mid.segments_are;
    bounds_are = mid.bounds_are;
  }

  -- a pair whose key is nowhere, put into its chain
  pub midway_put : (at' : ℕ → Body) (space' : FreeState) (pair : Pair)
      → IsAllowed m.bounds.version pair
      → value_in pair.0 (pairs_of p) ≡ None
      → BecomesPlaced at at' space' (put_pair (placed_for p pair.0) pair)
      → IsMidway at' m space' (put p pair)
  midway_put at' space' pair allowed none becomes =
      let sound = put_is_sound [] p mid.sound pair
      (subst (λ (b : Bounds). IsAllowed b.version pair) mid.bounds_are allowed) none in
      record {
        sound = sound;
        below = puts_placements at at' space space' p pair mid.sound sound mid.below becomes;
        shape_is = mid.shape_is;
        segments_are = mid.segments_are;
        bounds_are = mid.bounds_are;
      }

-- a delete keeps the head page of the key's bucket
pub head_still : (p : Placement) (key : Key) (bucket head : ℕ) → IsSound p
    → bucket ≡ key_bucket p.shape key → head ≡ get_or (heads_of p.chains) bucket 0
    → head ≡ get_or (heads_of (delete p key).chains) bucket 0
head_still p key bucket head sound same is =
    let at = key_bucket p.shape key in
    let chain = chain_at p at in
    let below = bucket_in p sound key in
    let first : Chain → ℕ = λ c. first_of (numbers c) in
    let after = set p.chains at (remove key chain) in
    is ∙ ap (λ (b : ℕ). get_or (heads_of p.chains) b 0) same
    ∙ get_or-map first p.chains at [] 0 below ∙ sym (head_kept key chain)
    ∙ ap first (sym (get_or-set_same p.chains at (remove key chain) [] below))
    ∙ sym (get_or-map first after at [] 0
    (omega (arith, below, length-set p.chains at (remove key chain))))
    ∙ ap (λ (b : ℕ). get_or (heads_of after) b 0) (sym same)

-- pages that were read alone are as they were
pub midway_read : {S : Type 0} (s : Ghosts S) (old new : S) (m : Meta) (space : FreeState)
    (p : Placement) → ReadsOnly s old new → s.honest old → IsMidway (body_at s old) m space p
    → IsMidway (body_at s new) m space p
midway_read s old new m space p reads honest mid =
    subst (λ (at : ℕ → Body). IsMidway at m space p) (sym (same_said s old new reads honest)) mid

-- the same of equal stores
pub midway_same : {S : Type 0} (s : Ghosts S) (old new : S) (m : Meta) (space space' : FreeState)
    (p : Placement) → new ≡ old → space' ≡ space → IsMidway (body_at s old) m space p
    → IsMidway (body_at s new) m space' p
midway_same {S} s old new m space space' p store free mid =
    subst (λ (st : S). IsMidway (body_at s st) m space' p) (sym store)
    (subst (λ (f : FreeState). IsMidway (body_at s old) m f p) (sym free) mid)

-- where a commit may end, of equal stores
pub may_end_same : {S : Type 0} (s : Ghosts S) (old new : S) (space space' : FreeState) → new ≡ old
    → space' ≡ space → MayEnd (s.state old) space.file_end → MayEnd (s.state new) space'.file_end
may_end_same {S} s old new space space' store free may =
    subst (λ (st : S). MayEnd (s.state st) space'.file_end) (sym store)
    (subst (λ (f : FreeState). MayEnd (s.state old) f.file_end) (sym free) may)

-- and after a read
pub may_end_read : {S : Type 0} (s : Ghosts S) (old new : S) (end : ℕ) → ReadsOnly s old new
    → MayEnd (s.state old) end → MayEnd (s.state new) end
may_end_read s old new end reads may =
    subst (λ (st : StoreState). MayEnd st end) (sym reads.same) may
