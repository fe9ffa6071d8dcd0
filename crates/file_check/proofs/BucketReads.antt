-- The segments, as far as they were read.
use Rattle.std.proofs.Common.{◌≡◌, ℕ, ◌+◌, ◌-◌, ◌*◌, ◌^◌, ◌<◌, ◌≤◌, min, Bool, List, [], ◌∷◌, ◌++◌, length, flat_map, get_or, take, drop, sym, ap, ◌∙◌, subst, arith, append_assoc, length-append}
use Rattle.std.proofs.Math.Seq.{take-add}
use Rattle.std.proofs.lemmas.List.{take_all, take_more, take-map, drop-map, map-append, get_or-take, get_or-drop, length-take, length-drop, take-append-le, drop-append-le}
use Rattle.std.proofs.lemmas.List.Concat.{flat_map-append}
use Rattle.page_model.specs.Chain.{Chain, numbers, pages_in}
use Rattle.page_model.specs.PageBodies.{first_of, heads_of, segment_bodies, AreRead}
use Rattle.page_model.specs.Pages as model
use Rattle.page_model.specs.Pages.{Body, SegmentPage}
use Rattle.dbm_model.specs.Sizes.{segments_for}
use Rattle.page_model.specs.Valid.{IsMeta, meta_buckets}
use Rattle.file_check.specs.Marks.{AreMarked, MayBeSeen}
use Rattle.seg_table.proofs.Tables.{part_read}
use Rattle.file_check.specs.BucketChains.{IsBucketChain}
use Rattle.file_check.specs.Segments.{shape_in, AreChains, AreCounted, AreInSegment, IsSegmentChecked, AreBuckets, AreChecked}
use Rattle.file_check.proofs.ChainReads.{length-heads, chains_behind, no_chains, counted_behind, none_counted}
use Rattle.file_check.proofs.HeadReads.{may_chains}

-- ---- how many buckets

-- each segment but the last is full
pub full_before : (b s n : ℕ) → n ≡ segments_for b → s < n → 508 * s < b
full_before b s n e lt = omega (arith, e, lt)

all_there : (b n : ℕ) → n ≡ segments_for b → b ≤ 508 * n
all_there b n e = omega (arith, e)

-- ---- chains that are found

-- the first s segments were read
pub record AreSegmentsChecked (at : ℕ → Body) (end : ℕ) (m : model.Meta) (s pairs : ℕ)
    (marks : List Bool) (seen : List ℕ) : Type 0 where
  pub chains : List Chain
  pub many : length chains ≡ min (508 * s) (meta_buckets m)
  pub are_read : AreRead at (segment_bodies (take s m.segments) (heads_of chains))
  pub are : AreChains at m 0 chains
  pub counted : AreCounted chains end pairs marks seen

pub no_segments : (at : ℕ → Body) (end : ℕ) (m : model.Meta) (marks : List Bool) (seen : List ℕ)
    → AreMarked marks end seen → AreSegmentsChecked at end m 0 0 marks seen
no_segments at end m marks seen are = record {
  chains = [];
  many = omega arith;
  are_read = tt;
  are = no_chains at m 0;
  counted = none_counted end marks seen are;
}

-- a page behind full ones
bodies_more : (at : ℕ → Body) (xs : List ℕ) (n : ℕ) (heads more : List ℕ)
    → length heads ≡ 508 * length xs → length more ≤ 508
    → AreRead at (segment_bodies xs heads) → at n ≡ SegmentPage more
    → AreRead at (segment_bodies (xs ++ n ∷ []) (heads ++ more))
bodies_more at [] n [] more full few read says =
    (says ∙ ap SegmentPage (sym (take_all 508 more few)), tt)
bodies_more at [] n (h ∷ heads) more full few read says = absurd (omega (arith, full))
bodies_more at (x ∷ xs) n heads more full few read says =
    let room : 508 ≤ length heads = omega (arith, full) in
    let others = bodies_more at xs n (drop 508 heads) more
    (omega (arith, full, length-drop 508 heads)) few read.1 says in (
      read.0 ∙ ap SegmentPage (sym (take-append-le 508 heads more room)),
      subst (λ (hs : List ℕ). AreRead at (segment_bodies (xs ++ n ∷ []) hs))
          (sym (drop-append-le 508 heads more room)) others,
    )

pub more_segments : (at : ℕ → Body) (end : ℕ) (m : model.Meta) (s pairs more sum : ℕ)
    (marks marks' : List Bool) (seen : List ℕ) → IsMeta m → s < length m.segments
    → AreSegmentsChecked at end m s pairs marks seen
    → ((seen : List ℕ) → AreMarked marks end seen → IsSegmentChecked at end m s more marks' seen)
    → sum ≡ min (pairs + more) (2 ^ 32 - 1) → AreSegmentsChecked at end m (s + 1) sum marks' seen
more_segments at end m s pairs more sum marks marks' seen valid lt before check total =
    let chains = before.chains in
    let next = check (seen ++ flat_map pages_in chains) before.counted.marked in
    let full : 508 * s < meta_buckets m =
    full_before (meta_buckets m) s (length m.segments) valid.all_segments lt in
    let many : length chains ≡ 508 * s = omega (arith, before.many, full) in
    let n = get_or m.segments s 0 in
    let first : length (take s m.segments) ≡ s = omega (arith, length-take s m.segments, lt) in
    let pages : take
    (s + 1) m.segments ≡ take s m.segments ++ n ∷ [] = take_more m.segments s 0 lt in
    let heads : heads_of (chains ++ next.chains) ≡ heads_of chains ++ heads_of next.chains =
    map-append (λ (c : Chain). first_of (numbers c)) chains next.chains in
    let full_heads : length (heads_of chains) ≡ 508 * length (take s m.segments) =
    omega (arith, many, first, length-heads chains) in
    let few : length (heads_of next.chains) ≤ 508 =
    omega (arith, next.are.many, length-heads next.chains) in
    let read = bodies_more at (take s m.segments) n (heads_of chains) (heads_of next.chains)
    full_heads few before.are_read next.are.said in
    record {
      chains = chains ++ next.chains;
      many = omega (arith, many, full, next.are.many, length-append chains next.chains);
      are_read = subst (λ (ns : List ℕ). AreRead at (segment_bodies ns
          (heads_of (chains ++ next.chains)))) (sym pages)
          (subst (λ (hs : List ℕ). AreRead at (segment_bodies (take s m.segments ++ n ∷ []) hs))
          (sym heads) read);
      are = chains_behind at m 0 (508 * s) chains next.chains before.are next.are.are
          (omega (arith, many));
      counted = counted_behind chains next.chains end pairs more sum marks marks' seen
          before.counted
          next.counted total;
    }

pub all_segments : (at : ℕ → Body) (end : ℕ) (m : model.Meta) (s pairs : ℕ) (marks : List Bool)
    (seen : List ℕ) → IsMeta m → s ≡ length m.segments
    → AreSegmentsChecked at end m s pairs marks seen → AreChecked at end m pairs marks seen
all_segments at end m s pairs marks seen valid all is =
    let room : meta_buckets m ≤ 508 * length m.segments =
    all_there (meta_buckets m) (length m.segments) valid.all_segments in
    record {
      chains = is.chains;
      are = record {
        are_read = subst (λ (ns : List ℕ). AreRead at (segment_bodies ns (heads_of is.chains)))
            (take_all s m.segments (omega (arith, all))) is.are_read;
        many = omega (arith, is.many, all, room);
        are = is.are;
      };
      counted = is.counted.counted;
      marked = is.counted.marked;
    }

-- ---- chains that are given

abbrev pub part : ℕ → List Chain → List Chain
part s chains = take 508 (drop (508 * s) chains)

-- the chains of segment s
pub in_segment : (at : ℕ → Body) (m : model.Meta) (s : ℕ) (chains : List Chain)
    → AreBuckets at m chains → s < length m.segments → AreInSegment at m s (part s chains)
in_segment at m s chains is lt =
    let head = λ (c : Chain). first_of (numbers c) in
    let heads : take 508 (drop (508 * s) (heads_of chains)) ≡ heads_of (part s chains) =
    ap (take 508) (drop-map head (508 * s) chains) ∙ take-map head 508 (drop (508 * s) chains) in
    let long = length-take 508 (drop (508 * s) chains) in
    let left = length-drop (508 * s) chains in
    record {
      said = part_read at m.segments (heads_of chains) s is.are_read lt ∙ ap SegmentPage heads;
      many = omega (arith, long, left, is.many);
      are = λ i within.
          let few : i < 508 = omega (arith, within, long) in
          let there : get_or (part s chains) i [] ≡ get_or chains (508 * s + i) [] =
          get_or-take 508 (drop (508 * s) chains) i [] few
          ∙ get_or-drop (508 * s) chains i [] in
          subst (λ (c : Chain). IsBucketChain m.bounds.version at (shape_in m) (508 * s + i)
          (first_of (numbers c)) c)
          (sym there) (subst (λ (b : ℕ). IsBucketChain m.bounds.version at (shape_in m) b
          (first_of (numbers (get_or chains (508 * s + i) []))) (get_or chains (508 * s + i) []))
          (let place : 0 + (508 * s + i) ≡ 508 * s + i = omega arith in place)
          (is.are (508 * s + i) (omega (arith, within, long, left))));
    }

front_more : (s : ℕ) (chains : List Chain)
    → take (508 * (s + 1)) chains ≡ take (508 * s) chains ++ part s chains
front_more s chains =
    ap (λ (k : ℕ). take k chains) (let k : 508 * (s + 1) ≡ 508 * s + 508 = omega arith in k)
    ∙ take-add (508 * s) 508 chains

pub may_segment : (end : ℕ) (seen : List ℕ) (chains : List Chain) (s : ℕ)
    → MayBeSeen end (seen ++ flat_map pages_in chains)
    → MayBeSeen end ((seen ++ flat_map pages_in (take (508 * s) chains))
    ++ flat_map pages_in (part s chains))
may_segment end seen chains s may =
    let front = take (508 * s) chains in
    subst (MayBeSeen end)
    (ap (λ (cs : List Chain). seen ++ flat_map pages_in cs) (front_more s chains)
    ∙ ap (λ (ns : List ℕ). seen ++ ns) (flat_map-append pages_in front (part s chains))
    ∙ sym (append_assoc seen (flat_map pages_in front) (flat_map pages_in (part s chains))))
    (may_chains end seen chains (508 * (s + 1)) may)

pub segment_counted : (end : ℕ) (chains : List Chain) (s pairs more sum : ℕ)
    (marks marks' : List Bool) (seen : List ℕ)
    → AreCounted (take (508 * s) chains) end pairs marks seen
    → AreCounted (part s chains) end more marks' (seen ++ flat_map pages_in (take (508 * s) chains))
    → sum ≡ min (pairs + more) (2 ^ 32 - 1)
    → AreCounted (take (508 * (s + 1)) chains) end sum marks' seen
segment_counted end chains s pairs more sum marks marks' seen front behind total =
    subst (λ (cs : List Chain). AreCounted cs end sum marks' seen) (sym (front_more s chains))
    (counted_behind (take (508 * s) chains) (part s chains) end pairs more sum marks marks' seen
    front behind total)

pub buckets_counted : (at : ℕ → Body) (end : ℕ) (m : model.Meta) (chains : List Chain)
    (s pairs : ℕ) (marks : List Bool) (seen : List ℕ) → IsMeta m → s ≡ length m.segments
    → AreBuckets at m chains → AreCounted (take (508 * s) chains) end pairs marks seen
    → AreCounted chains end pairs marks seen
buckets_counted at end m chains s pairs marks seen valid all is counted =
    let room : meta_buckets m ≤ 508 * length m.segments =
    all_there (meta_buckets m) (length m.segments) valid.all_segments in
    subst (λ (cs : List Chain). AreCounted cs end pairs marks seen)
    (take_all (508 * s) chains (omega (arith, room, all, is.many))) counted
