-- The pages that a split reads, and what is left once its records are put again.
use Rattle.std.proofs.Common.{◌≡◌, ℕ, ◌+◌, ◌^◌, ◌<◌, ◌≤◌, List, [], ◌∷◌, length, map, fold, slice_index, refl, sym, ap, ◌∙◌, subst, arith}
use Rattle.std.specs.Prelude.{All}
use Rattle.std.proofs.lemmas.List.{length-map}
use Rattle.page_model.specs.Address.{Shape, grown}
use Rattle.dbm_model.specs.Bounds.{Bounds}
use Rattle.page_model.specs.Pages.{Meta, Body, Record}
use Rattle.page_model.specs.Numbers.{IsNumber}
use Rattle.page_model.specs.Chain.{Entry, Chain, numbers, entries_in, record_of}
use Rattle.page_model.specs.Placement.{Placement, chain_at, put_entry, extended, split}
use Rattle.page_model.specs.PageBodies.{first_of, segment_bodies, heads_of, AreRead}
use Rattle.page_model.proofs.Splits.{split_filled}
use Rattle.page_model.proofs.Stores.{split_keeps}
use Rattle.free_pages.specs.declared.free_state.FreeState.{FreeState}
use Rattle.page_io.specs.Store.{StoreState}
use Rattle.page_io.specs.Views.{body_at, ReadsOnly}
use Rattle.page_io.specs.declared.store.PageStore.{Ghosts}
use Rattle.page_io.proofs.Views.{same_said}
use Rattle.seg_table.specs.Heads.{AreHeads, AddsSegment}
use Rattle.bucket_chain.specs.Chains.{IsChainAt}
use Rattle.bucket_chain.specs.Placements.{IsBelow}
use Rattle.linear_hash.specs.Tables.{shape_in}
use Rattle.linear_hash.specs.Staging.{IsMidway, IsGrown}
use Rattle.linear_hash.specs.Splitting.{entries_split, IsBucketAdded, IsRefilled}
use Rattle.linear_hash.proofs.Extensions.{split_below, split_placed, midway_heads, next_bucket}

-- ---- what is read

module _ (at : ℕ → Body) (m : Meta) (space : FreeState) (p : Placement)
    (midway : IsMidway at m space p) (small : space.file_end < 2 ^ 32) where
  -- the segment pages of the meta page say the heads
  pub heads_read : AreHeads at m (heads_of p.chains)
  heads_read =
      let has = (midway_heads at m space p midway small).heads_are in
      let heads = heads_of p.chains in
      let same = sym midway.segments_are in
      record {
        are_read = subst (λ (ns : List ℕ). AreRead at (segment_bodies ns heads)) same has.are_read;
        many = length-map p.chains (λ (chain : Chain). first_of (numbers chain))
            ∙ sym (next_bucket at m space p midway);
        used = subst (λ (ns : List ℕ). All (λ k. (0 < k) × IsNumber k) ns) same has.used;
      }

  -- and that of the bucket that is split
  pub split_head : (head : ℕ) → (AreHeads at m (heads_of p.chains)
      → m.split < length (heads_of p.chains) → head ≡ slice_index (heads_of p.chains) m.split)
      → head ≡ first_of (numbers (chain_at p p.shape.split))
  split_head head is =
      let bucket : m.split ≡ p.shape.split = ap (λ (s : Shape). s.split) midway.shape_is in
      let below = split_below p midway.sound in
      is heads_read (omega (
        arith,
        bucket,
        below,
        length-map p.chains (λ (chain : Chain). first_of (numbers chain)),
      ))
      ∙ ap (slice_index (heads_of p.chains)) bucket
      ∙ (midway_heads at m space p midway small).each p.shape.split below

-- reads change nothing
midway_then : {S : Type 0} (s : Ghosts S) (old new : S) (m : Meta) (space : FreeState)
    (p : Placement) → ReadsOnly s old new → s.honest old → IsMidway (body_at s old) m space p
    → IsMidway (body_at s new) m space p
midway_then s old new m space p reads honest midway =
    subst (λ (at : ℕ → Body). IsMidway at m space p) (sym (same_said s old new reads honest)) midway

-- the chain of the bucket that is split is no longer than the committed file
chain_here : (at : ℕ → Body) (m : Meta) (space : FreeState) (p : Placement) (end head : ℕ)
    → IsMidway at m space p → space.file_end < 2 ^ 32 → length (chain_at p p.shape.split) ≤ end
    → head ≡ first_of (numbers (chain_at p p.shape.split))
    → IsChainAt m.bounds.version at end head (chain_at p p.shape.split)
chain_here at m space p end head midway small near from =
    let placed = split_placed at m space p head midway small from in
    let chain = placed.chain_is in
    record {
      are_read = chain.are_read;
      is_chain = chain.is_chain;
      from = chain.from;
      few = near;
      numbered = chain.numbered;
      entered = chain.entered;
      sound = chain.sound;
    }

-- ---- what is put again

refilled : (at0 at : ℕ → Body) (m m' : Meta) (space0 space : FreeState) (p : Placement)
    (b head n : ℕ) (records : List Record) → IsMidway at0 m space0 p
    → head ≡ first_of (numbers (chain_at p p.shape.split)) → AddsSegment m m' b
    → IsBucketAdded at m' space p n
    → records ≡ map record_of (entries_split p)
    → IsRefilled m'.bounds.version at space (shape_in m') head n records p
refilled at0 at m m' space0 space p b head n records midway from added now are = record {
  version_is = ap (λ (x : Meta). x.bounds.version) added.rest
      ∙ ap (λ (bs : Bounds). bs.version) midway.bounds_are;
  sound = midway.sound;
  below = now.below;
  contents = now.contents;
  shape_is = ap shape_in added.rest ∙ midway.shape_is;
  old_head = from;
  new_head_is = now.head;
  records_are = are;
}

-- ---- two calls that read, the second of which gives the records, and one that adds a bucket

module _ {S : Type 0} (s : Ghosts S) (first second : S) (m : Meta) (space : FreeState)
    (p : Placement) (head : ℕ) (from : head ≡ first_of (numbers (chain_at p p.shape.split)))
    (one : ReadsOnly s first second) (honest : s.honest first) (small : space.file_end < 2 ^ 32)
    (midway : IsMidway (body_at s first) m space p) where
  pub chain_then : length (chain_at p p.shape.split) ≤ (s.state first).end
      → IsChainAt m.bounds.version (body_at s second) (s.state second).end head
      (chain_at p p.shape.split)
  chain_then near = chain_here (body_at s second) m space p (s.state second).end head
      (midway_then s first second m space p one honest midway) small
      (omega (arith, near, ap (λ (st : StoreState). st.end) one.same)) from

  module _ (third : S) (two : ReadsOnly s second third) where
    pub honest_later : s.honest third
    honest_later = two.stages_only.honesty.1 (one.stages_only.honesty.1 honest)

    pub midway_later : IsMidway (body_at s third) m space p
    midway_later = midway_then s second third m space p two (one.stages_only.honesty.1 honest)
        (midway_then s first second m space p one honest midway)

    -- what the pairs are put into
    pub refilled_later : (at : ℕ → Body) (m' : Meta) (space' : FreeState) (b n : ℕ)
        (records again : List Record) → length (chain_at p p.shape.split) ≤ (s.state first).end
        → (s.honest second → (chain : Chain)
        → IsChainAt m.bounds.version (body_at s second) (s.state second).end head chain
        → records ≡ map record_of (entries_in chain))
        → (s.honest third → (q : Placement) → IsMidway (body_at s third) m space q
        → head ≡ first_of (numbers (chain_at q q.shape.split))
        → IsBucketAdded at m' space' q n)
        → AddsSegment m m' b → again ≡ records
        → IsRefilled m'.bounds.version at space' (shape_in m') head n again p
    refilled_later at m' space' b n records again near are extends added same =
        refilled (body_at s third) at m m' space space' p b head n again midway_later from added
        (extends honest_later p midway_later from)
        (same ∙ are (one.stages_only.honesty.1 honest) (chain_at p p.shape.split)
        (chain_then near))

-- ---- what is left

-- records that are put change neither the shape nor the segments
kept_shape : (entries : List Entry) (q : Placement) → (fold put_entry q entries).shape ≡ q.shape
kept_shape [] q = refl
kept_shape (e ∷ entries) q = kept_shape entries (put_entry q e)

kept_segments : (entries : List Entry) (q : Placement)
    → (fold put_entry q entries).segments ≡ q.segments
kept_segments [] q = refl
kept_segments (e ∷ entries) q = kept_segments entries (put_entry q e)

pub midway_split : (at0 at1 at : ℕ → Body) (m m1 m' : Meta) (space0 space1 space : FreeState)
    (p : Placement) (b n : ℕ) → IsMidway at0 m space0 p → AddsSegment m m1 b
    → IsBucketAdded at1 m1 space1 p n → IsBelow at space (split p)
    → shape_in m' ≡ grown (shape_in m1) → m'.segments ≡ m1.segments → m'.bounds ≡ m1.bounds
    → IsMidway at m' space (split p)
midway_split at0 at1 at m m1 m' space0 space1 space p b n midway added now below shape
    segments bounds =
    let entries = entries_split p in
    record {
      sound = (split_keeps p midway.sound).0;
      below = below;
      shape_is = shape ∙ ap grown (ap shape_in added.rest ∙ midway.shape_is)
          ∙ sym (kept_shape entries (extended p));
      segments_are = segments ∙ now.segments_are ∙ sym (kept_segments entries (extended p));
      bounds_are = bounds ∙ ap (λ (x : Meta). x.bounds) added.rest ∙ midway.bounds_are
          ∙ sym (split_filled p midway.sound).bounds_are;
    }

-- one bucket more, where at most a segment was added and then the shape grew
pub is_grown : (m m1 m' : Meta) → AddsSegment m m1 (2 ^ m.level + m.split)
    → shape_in m' ≡ grown (shape_in m1) → m'.segments ≡ m1.segments
    → m' ≡ record m1 { level = m'.level; split = m'.split } → IsGrown m m'
is_grown m m1 m' added shape segments rest = record {
  shape = shape ∙ ap (λ (x : Meta). grown (shape_in x)) added.rest;
  segments = subst (λ (ns : List ℕ).
      AddsSegment m (record m { segments = ns }) (2 ^ m.level + m.split)) (sym segments)
      (subst (λ (x : Meta). AddsSegment m x (2 ^ m.level + m.split)) added.rest added);
  rest = rest ∙ ap (λ (x : Meta). record x { level = m'.level; split = m'.split }) added.rest
      ∙ ap (λ (ns : List ℕ). record m { level = m'.level; split = m'.split; segments = ns })
      (sym segments);
}
