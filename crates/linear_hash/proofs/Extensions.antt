-- The pages that are changed where a bucket is added.
use Rattle.std.proofs.Common.{◌≡◌, inl, ℕ, ◌+◌, ◌-◌, ◌*◌, ◌/◌, ◌^◌, ◌<◌, ◌≤◌, ◌==◌, Bool, true, false, cond, List, [], ◌∷◌, ◌++◌, length, take, drop, get_or, flat_map, set, sum_by, refl, sym, ap, ◌∙◌, subst, arith, length-append, length-set}
use Rattle.std.specs.Prelude.{All}
use Rattle.std.specs.List.{AllByRecursion}
use Rattle.std.proofs.lemmas.List.{length-map}
use Rattle.std.proofs.lemmas.List.Concat.{flat_map-append}
use Rattle.std.proofs.lemmas.List.Sums.{sum_by-append, sum_by-cons}
use Rattle.dbm_model.specs.Bounds.{Version, V1, Bounds}
use Rattle.page_model.specs.Pages.{Meta, Body, HeadPage, NumberedBody, Bucket, bucket}
use Rattle.page_model.specs.Reading.{body_of, bucket_of}
use Rattle.page_model.specs.Address.{Shape}
use Rattle.page_model.specs.Numbers.{IsNumber}
use Rattle.page_model.specs.Chain.{Chain, numbers, entries_in, pages_of, pages_in}
use Rattle.page_model.specs.Space.{Space, next_page, after_take, give, is_page, times_of}
use Rattle.page_model.specs.Placement.{Placement, chain_at, bared, extended, IsSound}
use Rattle.page_model.specs.Placement as placement
use Rattle.page_model.specs.PageBodies.{first_of, chain_bodies, free_bodies, segment_bodies, heads_of, meta_of, AreRead}
use Rattle.page_model.specs.Rewrites.{AreRewritten, last_segment, new_head, extended_bodies}
use Rattle.page_model.specs.Valid.{meta_buckets, IsOf}
use Rattle.page_model.proofs.PairLists.{sum_by-flat_map-set}
use Rattle.page_model.proofs.Chains.{AllByRecursion-append, AllByRecursion-right}
use Rattle.page_model.proofs.Flat.{numbers-chain_bodies, numbers-segments, numbers-free}
use Rattle.page_model.proofs.Frames.{kept, at_most_one}
use Rattle.page_model.proofs.Extensions.{segments_split, taken_dropped, touched, places, heads_extended, extend_rewrites}
use Rattle.page_model.proofs.Spaces.{times_head, times_tail}
use Rattle.page_model.proofs.Splits.{headed_pages, extended_sound}
use Rattle.page_io.specs.BucketPages.{IsBucketPage, page_records}
use Rattle.free_pages.specs.declared.free_state.FreeState.{FreeState}
use Rattle.free_pages.specs.FreeList.{state_of, IsFreeList, IsApart}
use Rattle.seg_table.specs.Heads.{CanSet, IsHeadSet, needs_segment, with_head}
use Rattle.seg_table.specs.Placements.{HasHeads}
use Rattle.seg_table.proofs.PlacementHeads.{placements_heads}
use Rattle.content_pages.proofs.PageCounts.{times_both}
use Rattle.bucket_chain.specs.Placements.{IsBelow}
use Rattle.bucket_chain.specs.Changes.{IsPlaced, AreHeld, HaveKeysOnce, BecomesPlaced, store_in}
use Rattle.bucket_chain.proofs.LinkBodies.{says_link}
use Rattle.bucket_chain.proofs.PlacedChains.{chains_placed}
use Rattle.bucket_chain.proofs.Rewriting.{not_here}
use Rattle.linear_hash.specs.Tables.{shape_in}
use Rattle.linear_hash.specs.Staging.{IsMidway}
use Rattle.linear_hash.specs.Splitting.{IsBucketAdded}
use Rattle.linear_hash.proofs.ExtendedNumbers.{free_split, free_rest, end_some, last_there, last_behind, extends_same, one_more, head_behind}
use Rattle.content_pages.proofs.ContentGivings.{times_given}

-- ---- where a bucket is added

abbrev AreUsed : List ℕ → Type 0
AreUsed ns = All (λ k. (0 < k) × IsNumber k) ns

-- its overflow pages are given
abbrev pub given_space : Placement → Space
given_space p = give (drop 1 (numbers (chain_at p p.shape.split))) p.space

-- and a page is taken for the head of the new bucket
abbrev pub headed_space : Placement → Space
headed_space p = after_take (given_space p)

module _ (p : Placement) (sound : IsSound p) where
  pub split_below : p.shape.split < length p.chains
  split_below = let e = sound.all_buckets in let l = sound.split_in in omega arith

  -- how often a page comes once the new bucket has its head
  headed_places : (m : ℕ) → times_of m p.segments
      + times_of m (pages_in (bared (chain_at p p.shape.split)))
      + times_of m ((new_head p).number ∷ []) + times_of m (headed_space p).free
      ≤ cond (is_page m (headed_space p).end) 1 0
  headed_places m =
      let f : ℕ → ℕ = λ k. cond (k == m) 1 0 in
      let chain = chain_at p p.shape.split in
      let cs = set p.chains p.shape.split (bared chain) in
      let a = (headed_pages p sound).once m in
      let b = sum_by-append f (1 ∷ p.segments) (flat_map pages_in (extended p).chains) in
      let c = sum_by-cons f 1 p.segments in
      let d = sum_by-flat_map-set f pages_in p.chains p.shape.split (bared chain) [] split_below in
      let e = sum_by-flat_map-set f pages_in p.chains p.shape.split [] [] split_below in
      let g = ap (sum_by f) (flat_map-append pages_in cs ((new_head p ∷ []) ∷ []))
      ∙ sum_by-append f (flat_map pages_in cs) ((new_head p).number ∷ []) in
      let h = sum_by-append f (pages_of (entries_in chain))
      (1 ∷ p.segments ++ flat_map pages_in (extended p).chains) in
      omega arith

  headed_once : (m : ℕ) → times_of m p.segments
      + times_of m (pages_in (bared (chain_at p p.shape.split)))
      + times_of m ((new_head p).number ∷ []) + times_of m (headed_space p).free ≤ 1
  headed_once m = omega (arith, headed_places m, at_most_one (is_page m (headed_space p).end))

  -- the pages that are given were apart from the free ones
  pub given_apart : (version : Version) (at : ℕ → Body) (space : FreeState) (head : ℕ)
      → IsPlaced version at space head (chain_at p p.shape.split) p.space
      → IsApart [] (given_space p)
  given_apart version at space head placed m =
      let chain = chain_at p p.shape.split in
      omega (
        arith,
        placed.apart m,
        times_given m (drop 1 (numbers chain)) p.space,
        dropped m (numbers chain),
        times_both m (numbers chain) (pages_of (entries_in chain)),
      )
    where
      dropped : (m : ℕ) (ns : List ℕ) → times_of m (drop 1 ns) ≤ times_of m ns
      dropped m [] = omega arith
      dropped m (n ∷ ns) = times_tail m n ns

  -- the last segment page is the one of the new bucket
  many_segments : length (extended p).segments ≡ length p.chains / 508 + 1
  many_segments =
      let many : length (extended p).chains ≡ length p.chains + 1 =
      length-append (set p.chains p.shape.split (bared (chain_at p p.shape.split))) _
      ∙ ap (λ n. n + 1) (length-set p.chains p.shape.split
      (bared (chain_at p p.shape.split))) in
      let after = (extended_sound p sound).all_segments in
      omega arith

  -- the free pages of before are those of after and the page of a new segment
  free_extended : (m : ℕ) → times_of m (headed_space p).free
      ≤ times_of m (drop (length (extended p).segments - 1) (extended p).segments)
      + times_of m (extended p).space.free
  free_extended m =
      let s = headed_space p in
      let new = next_page s in
      elim (placement.begins_segment p) as
      (λ t. times_of m s.free ≤ times_of m
      (drop (length (p.segments ++ cond t (new ∷ []) []) - 1)
      (p.segments ++ cond t (new ∷ []) []))
      + times_of m (cond {A = Space} t (after_take s) s).free) [
        | true ↦
            let last : length (p.segments ++ new ∷ []) - 1 ≡ length p.segments =
            omega (arith, length-append p.segments (new ∷ [])) in
            let behind = subst (λ k. times_of m (new ∷ [])
            ≤ times_of m (drop k (p.segments ++ new ∷ []))) (sym last)
            (last_behind m new p.segments) in
            omega (arith, free_split m s, behind)
        | false ↦ omega arith
      ]

  free_read_then : (at : ℕ → Body) → AreRead at (free_bodies (headed_space p).free)
      → AreRead at (free_bodies (extended p).space.free)
  free_read_then at read =
      let s = headed_space p in
      elim (placement.begins_segment p) as
      (λ t. AreRead at (free_bodies (cond {A = Space} t (after_take s) s).free)) [
        | true ↦
            free_rest at s read
        | false ↦ read
      ]

-- the chain of the bucket that is split
pub split_placed : (at : ℕ → Body) (m : Meta) (space : FreeState) (p : Placement) (head : ℕ)
    → IsMidway at m space p → space.file_end < 2 ^ 32
    → head ≡ first_of (numbers (chain_at p p.shape.split))
    → IsPlaced m.bounds.version at space head (chain_at p p.shape.split) p.space
split_placed at m space p head midway small from =
    subst (λ (b : Bounds). IsPlaced b.version at space head (chain_at p p.shape.split) p.space)
    (sym midway.bounds_are)
    (subst (λ (k : ℕ). IsPlaced p.bounds.version at space k (chain_at p p.shape.split) p.space)
    (sym from)
    (chains_placed at space [] p p.shape.split midway.sound
    (omega (arith, small, ap (λ (s : FreeState). s.file_end) midway.below.kept)) midway.below
    (split_below p midway.sound)))

-- a list of no entries has no key twice, and none of their pages meets the chain's
pub no_keys : HaveKeysOnce []
no_keys i j d lt le = absurd (omega (arith, le))

pub none_held : (version : Version) (at : ℕ → Body) (space : FreeState) (head : ℕ) (chain : Chain)
    (s : Space) → IsPlaced version at space head chain s → AreHeld version at (numbers chain) s []
none_held version at space head chain s placed = record {
  entered = tt;
  are_read = tt;
  apart = λ m. omega
      (arith, placed.apart m, times_both m (numbers chain) (pages_of (entries_in chain)));
}

-- the segment pages say the heads
pub midway_heads : (at : ℕ → Body) (m : Meta) (space : FreeState) (p : Placement)
    → IsMidway at m space p → space.file_end < 2 ^ 32 → HasHeads at p
midway_heads at m space p midway small =
    placements_heads at p midway.sound
    (omega (arith, small, ap (λ (s : FreeState). s.file_end) midway.below.kept))
    midway.below.are_read

-- the next bucket
pub next_bucket : (at : ℕ → Body) (m : Meta) (space : FreeState) (p : Placement)
    → IsMidway at m space p → meta_buckets m ≡ length p.chains
next_bucket at m space p midway =
    ap (λ (s : Shape). 2 ^ s.level + s.split) midway.shape_is ∙ sym midway.sound.all_buckets

-- a head page with no pair was staged
pub says_head : (at : ℕ → Body) (bytes : List ℕ) (n : ℕ) → at n ≡ body_of n bytes
    → IsBucketPage bytes → bucket_of bytes ≡ bucket n 3 0 [] → at n ≡ HeadPage 0 []
says_head at bytes n read page says =
    let none : AllByRecursion (IsOf V1) (page_records bytes) =
    subst (λ (b : Bucket). AllByRecursion (IsOf V1) b.held) (sym says) tt in
    (says_link V1 at bytes n 3 0 [] read (inl refl)
    (record {
      page = record { page = page; of_version = none };
      says = says;
      filled = λ four. absurd (omega arith);
    })).says

-- the free list once the bucket's overflow pages are given
pub given_free : (p : Placement) (at0 at1 : ℕ → Body) (space1 : FreeState)
    → BecomesPlaced at0 at1 space1 (store_in (chain_at p p.shape.split, p.space) [])
    → 1 ≤ p.space.end → IsFreeList at1 space1 (given_space p)
given_free p at0 at1 space1 emptied some =
    record { kept = emptied.kept; are_read = emptied.rewritten.free_read; some = some }

module _ (p : Placement) (sound : IsSound p) (at0 at1 at2 : ℕ → Body)
    (space0 space1 space2 : FreeState) (n : ℕ) (below : IsBelow at0 space0 p)
    (emptied : BecomesPlaced at0 at1 space1 (store_in (chain_at p p.shape.split, p.space) []))
    (some : 1 ≤ p.space.end) where
  module _ (taken : (n ≡ next_page (given_space p)) × (space2 ≡ state_of (headed_space p)))
      (here : at2 n ≡ HeadPage 0 []) (others : (m : ℕ) → (m ≡ n → ⊥) → at2 m ≡ at1 m) where
    is_head : times_of n ((new_head p).number ∷ []) ≡ 1
    is_head = ap (λ k. times_of n (k ∷ [])) (sym taken.0) ∙ times_head n []

    -- a page other than the new head
    other_head : (m : ℕ) → times_of m ((new_head p).number ∷ []) ≡ 0 → m ≡ n → ⊥
    other_head m none = not_here n m ((new_head p).number ∷ []) (omega (arith, is_head)) none

    untouched : (m : ℕ) → times_of m (pages_in (bared (chain_at p p.shape.split)))
        + times_of m ((new_head p).number ∷ []) + times_of m (headed_space p).free ≡ 0
        → at2 m ≡ at0 m
    untouched m none = others m (other_head m (omega arith))
        ∙ emptied.rewritten.others m (omega (arith, none, free_split m (given_space p)))

    -- the new head can be set
    pub can_set : (m : Meta) (b : ℕ) → b ≡ length p.chains → shape_in m ≡ p.shape
        → m.segments ≡ p.segments → 1 ≤ n → HasHeads at0 p
        → CanSet at2 m space2 (heads_of p.chains) b n (headed_space p)
    can_set m b b_is shape segments positive has =
        let heads = heads_of p.chains in
        let same : meta_buckets m ≡ meta_buckets (meta_of p) =
        ap (λ (s : Shape). 2 ^ s.level + s.split) shape in
        let read : AreRead at2 (segment_bodies p.segments heads) =
        kept at0 at2 (segment_bodies p.segments heads)
        (λ k l. untouched k (let a = headed_once p sound k in let b =
        subst (λ ns. 1 ≤ times_of k ns) (numbers-segments p.segments heads) l in
        omega arith)) has.heads_are.are_read in
        record {
          heads_are = record {
            are_read = subst (λ ns. AreRead at2 (segment_bodies ns heads)) (sym segments) read;
            many = has.heads_are.many ∙ sym same;
            used = subst (λ ns. AreUsed ns) (sym segments) has.heads_are.used;
          };
          free_is = record {
            kept = taken.1;
            are_read = kept at1 at2 (free_bodies (headed_space p).free)
                (λ k l. others k (other_head k
                (let a = headed_once p sound k in let b =
                subst (λ ns. 1 ≤ times_of k ns) (numbers-free (headed_space p).free)
                l in omega arith)))
                (free_rest at1 (given_space p) emptied.rewritten.free_read);
            some = end_some (given_space p) some;
          };
          apart = λ k. subst (λ ns. times_of k ns + times_of k (headed_space p).free
              ≤ cond (is_page k (headed_space p).end) 1 0) (sym segments)
              (omega (arith, headed_places p sound k));
          room = subst (λ ns. length heads ≤ 508 * length ns) (sym segments) has.room;
          bucket = omega (
            arith,
            b_is,
            length-map p.chains
                (λ (chain : Chain). first_of (numbers chain)),
          );
          some = positive;
        }

    module _ (at3 : ℕ → Body) (space3 : FreeState) (m m' : Meta) (b : ℕ)
        (b_is : b ≡ length p.chains) (segments : m.segments ≡ p.segments)
        (head_set : IsHeadSet at2 at3 m m' space3 (heads_of p.chains) b n (headed_space p)) where
      extends : needs_segment m b ≡ placement.begins_segment p
      extends = ap (λ (ns : List ℕ). (b / 508) == length ns) segments
          ∙ ap (λ (k : ℕ). (k / 508) == length p.segments) b_is
          ∙ extends_same (length p.chains) (length p.segments) sound.all_segments

      segments_now : m'.segments ≡ (extended p).segments
      segments_now =
          let new = next_page (headed_space p) in
          ap (λ (x : Meta). x.segments) head_set.segments_are
          ∙ one_more (needs_segment m b) m.segments new
          ∙ ap (λ (t : Bool). m.segments ++ cond t (new ∷ []) []) extends
          ∙ ap (λ (ns : List ℕ). ns ++ cond (placement.begins_segment p) (new ∷ []) []) segments

      space_now : space3 ≡ state_of (extended p).space
      space_now = head_set.free_is ∙ ap
          (λ (t : Bool). state_of (cond t (after_take (headed_space p)) (headed_space p))) extends

      heads_now : with_head (heads_of p.chains) b n ≡ heads_of (extended p).chains
      heads_now =
          let heads = heads_of p.chains in
          head_behind heads b n (b_is ∙ sym
          (length-map p.chains (λ (chain : Chain). first_of (numbers chain))))
          ∙ ap (λ (k : ℕ). heads ++ k ∷ []) taken.0 ∙ sym (heads_extended p sound at0 at2)

      segments_read : AreRead at3 (segment_bodies (extended p).segments (heads_of (extended p).chains))
      segments_read = subst (λ (hs : List ℕ). AreRead at3 (segment_bodies (extended p).segments hs))
          heads_now
          (subst (λ (ns : List ℕ). AreRead at3
          (segment_bodies ns (with_head (heads_of p.chains) b n))) segments_now
          head_set.are_read)

      -- pages other than the last segment page stay
      segment_alone : (k : ℕ) → times_of k
          (drop (length (extended p).segments - 1) (extended p).segments) ≡ 0 → at3 k ≡ at2 k
      segment_alone k none =
          let ns = (extended p).segments in
          let last = length ns - 1 in
          let many = many_segments p sound in
          let index : b / 508 ≡ last = ap (λ (k : ℕ). k / 508) b_is ∙ omega arith in
          let there = last_there last ns (omega arith) in
          head_set.others k (λ same. not_here (get_or ns last 0) k (drop last ns) there none
          (same ∙ ap (λ (xs : List ℕ). get_or xs (b / 508) 0) segments_now
          ∙ ap (λ (i : ℕ). get_or ns i 0) index))

      rewritten : AreRewritten at0 at3 (extended_bodies p)
      rewritten =
          let Q : NumberedBody → Type 0 = λ numbered. at3 numbered.number ≡ numbered.body in
          let q = extended p in
          let last = length q.segments - 1 in
          let chain = bared (chain_at p p.shape.split) in
          let number = sym taken.0 in
          let a = chain_bodies chain in
          let h = chain_bodies (new_head p ∷ []) in
          let c = last_segment q in
          let d = free_bodies q.space.free in
          let later : (k : ℕ) → times_of k (q.segments) ≡ 0
          → times_of k ((new_head p).number ∷ []) ≡ 0 → at3 k ≡ at1 k
          = λ (k : ℕ) (one : times_of k (q.segments) ≡ 0)
          (two : times_of k ((new_head p).number ∷ []) ≡ 0).
          segment_alone k (omega (arith, one, taken_dropped k last q.segments))
          ∙ others k (other_head k two) in
          let a_read : AllByRecursion Q a =
          kept at1 at3 a (λ k l. let x = places p sound at0 at3 k in let y =
          subst (λ ns. 1 ≤ times_of k ns) (numbers-chain_bodies chain) l in
          later k (omega arith) (omega arith)) emptied.rewritten.chain_read in
          let h_read : AllByRecursion Q h = (
            segment_alone _ (let x = places p sound at0 at3 (new_head p).number in let y =
                times_head (new_head p).number [] in let z =
                taken_dropped (new_head p).number last q.segments in omega arith)
                ∙ ap at2 number ∙ here,
            tt,
          ) in
          let c_read : AllByRecursion Q c =
          AllByRecursion-right Q (segment_bodies (take last q.segments) (heads_of q.chains)) c
          (subst (AllByRecursion Q) (segments_split last q.segments (heads_of q.chains))
          segments_read) in
          let d_read : AllByRecursion Q d =
          kept at1 at3 d (λ k l. let x = places p sound at0 at3 k in let y =
          subst (λ ns. 1 ≤ times_of k ns) (numbers-free q.space.free) l in
          later k (omega arith) (omega arith))
          (free_read_then p sound at1 (free_rest at1 (given_space p)
          emptied.rewritten.free_read)) in
          record {
            are_read = AllByRecursion-append Q (a ++ h ++ c) d
                (AllByRecursion-append Q (a ++ h) c (AllByRecursion-append Q a h a_read h_read)
                c_read) d_read;
            others = λ k none.
                let x = touched p sound at0 at3 k in
                segment_alone k (omega arith)
                ∙ untouched k (omega (arith, x, none, free_extended p sound k));
          }

      pub extended_now : IsBucketAdded at3 m' space3 p n
      extended_now = record {
        below = record {
          are_read = (extend_rewrites p at0 at3 sound below.are_read rewritten).0;
          kept = space_now;
        };
        contents = (extend_rewrites p at0 at3 sound below.are_read rewritten).1;
        segments_are = segments_now;
        head = taken.0;
      }
