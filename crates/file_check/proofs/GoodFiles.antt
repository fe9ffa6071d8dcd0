-- A good file, from its parts and into them.
use Rattle.std.proofs.Common.{◌≡◌, ℕ, ◌+◌, ◌-◌, ◌≤◌, ◌==◌, ◌&&◌, leb, ltb, cond, List, ◌∷◌, ◌++◌, length, flat_map, refl, sym, ap, ◌∙◌, subst, arith, length-append, min, ◌^◌}
use Rattle.std.specs.List.{range_with_len}
use Rattle.std.proofs.lemmas.List.FromFn.{length-range_with_len}
use Rattle.std.proofs.lemmas.List.Sums.{sum_by-append}
use Rattle.page_model.specs.Chain.{Chain, pages_in}
use Rattle.page_model.specs.PageBodies.{heads_of, segment_bodies, chain_bodies, free_bodies, meta_of, lower_bodies, AreRead}
use Rattle.page_model.specs.Pages as model
use Rattle.page_model.specs.Pages.{Body, MetaPage}
use Rattle.page_model.specs.Placement.{Placement, IsGood}
use Rattle.dbm_model.specs.Sizes.{segments_for, home}
use Rattle.page_model.specs.Space.{is_page, IsExact}
use Rattle.page_model.specs.Valid.{IsMeta}
use Rattle.page_model.proofs.Chains.{AllByRecursion-append, AllByRecursion-left, AllByRecursion-right}
use Rattle.page_model.proofs.Flat.{same_sums, times-range_with_len}
use Rattle.page_model.proofs.GoodBodies.{bodies_valid}
use Rattle.page_model.proofs.PairLists.{length-sum_by}
use Rattle.file_check.specs.Marks.{MayBeSeen, IsEachSeen}
use Rattle.file_check.proofs.Seen.{may_front}
use Rattle.file_check.specs.Good.{IsGoodFile, IsFilled}
use Rattle.file_check.specs.Segments.{shape_in}
use Rattle.file_check.proofs.AllChains.{chains_read, all_bytes, all_entered, all_in_place, no_key_twice, each_chain}

-- ---- from the parts

-- the pages that were seen are all
exact_pages : (pages free : List ℕ) (end : ℕ) → 1 ≤ end → IsEachSeen end (pages ++ free)
    → IsExact pages (record { free = free; end = end })
exact_pages pages free end some each =
    let range = range_with_len 1 (end - 1) in
    let end-is : 1 + (end - 1) ≡ end = omega (arith, some) in
    let same = same_sums (pages ++ free) range (λ n. each n
    ∙ ap (λ (k : ℕ). cond (leb 1 n && ltb n k) 1 0) (sym end-is)
    ∙ sym (times-range_with_len n 1 (end - 1))) (λ _. 1) in
    let many : length (pages ++ free) ≡ length range =
    length-sum_by (pages ++ free) ∙ same ∙ sym (length-sum_by range) in
    record {
      once = λ n. sym (sum_by-append (λ (m : ℕ). cond (m == n) 1 0) pages free) ∙ each n;
      as_many = omega (
        arith,
        many,
        length-append pages free,
        length-range_with_len 1 (end - 1),
        some,
      );
    }

placement_of : (end : ℕ) (m : model.Meta) (chains : List Chain) (free : List ℕ) → Placement
placement_of end m chains free = record {
  bounds = m.bounds;
  shape = shape_in m;
  segments = m.segments;
  chains = chains;
  space = record { free = free; end = end };
}

is_good : (at : ℕ → Body) (end : ℕ) (m : model.Meta) → 1 ≤ end → IsMeta m
    → (is : IsFilled at end m) → IsGood (placement_of end m is.chains is.free)
unfolding placement_of
is_good at end m some valid is =
    let many = is.buckets.many in
    record {
      sound = record {
        split_in = valid.split_in;
        all_buckets = many;
        all_segments = valid.all_segments ∙ ap segments_for (sym many);
        pages = exact_pages
            ((1 ∷ m.segments) ++ flat_map pages_in is.chains) is.free end some is.each;
        in_place = all_in_place at m is.chains is.buckets.are;
        no_key_twice = no_key_twice at m is.chains is.buckets.are valid.split_in many;
        entered = all_entered at m is.chains is.buckets.are;
      };
      limited = valid.limited;
      few_buckets = omega (arith, many, valid.few_buckets);
      few_pairs = omega (arith, is.counted, valid.few_pairs.0);
      light = omega (arith, is.counted, many, valid.few_pairs.1);
      bounded = is.bounded;
      bytes = all_bytes at m is.chains is.buckets.are;
    }

pub good_file : (at : ℕ → Body) (end : ℕ) (m : model.Meta) → 1 ≤ end → IsMeta m
    → at 1 ≡ MetaPage m → IsFilled at end m → IsGoodFile at end m.pairs
unfolding placement_of
good_file at end m some valid first is =
    let p = placement_of end m is.chains is.free in
    let same : m ≡ meta_of p = λ i. record {
      bounds = m.bounds;
      pairs = sym is.counted i;
      level = m.level;
      split = m.split;
      free_head = is.list.from i;
      free_count = is.list.many i;
      segments = m.segments;
    } in
    let reads = λ (numbered : model.NumberedBody). at numbered.number ≡ numbered.body in
    let upper = segment_bodies m.segments (heads_of is.chains) in
    let middle = flat_map chain_bodies is.chains in
    let lower : AreRead at (lower_bodies p) =
    AllByRecursion-append reads (upper ++ middle) (free_bodies is.free)
    (AllByRecursion-append reads upper middle is.buckets.are_read
    (chains_read at m is.chains is.buckets.are)) is.list.are_read in
    record {
      placement = p;
      good = is_good at end m some valid is;
      spelled = (first ∙ ap MetaPage same, lower);
      ends = refl;
      counted = is.counted;
    }

-- ---- into the parts

pub meta_valid : (at : ℕ → Body) (end pairs : ℕ) (file : IsGoodFile at end pairs)
    → IsMeta (meta_of file.placement)
meta_valid at end pairs file = (bodies_valid file.placement file.good).0.1

pub meta_said : (at : ℕ → Body) (end pairs : ℕ) (file : IsGoodFile at end pairs)
    → at 1 ≡ MetaPage (meta_of file.placement)
meta_said at end pairs file = file.spelled.0

pub filled : (at : ℕ → Body) (end pairs : ℕ) (file : IsGoodFile at end pairs)
    → IsFilled at end (meta_of file.placement)
filled at end pairs file =
    let p = file.placement in
    let sound = file.good.sound in
    let reads = λ (numbered : model.NumberedBody). at numbered.number ≡ numbered.body in
    let upper = segment_bodies p.segments (heads_of p.chains) in
    let middle = flat_map chain_bodies p.chains in
    let tables = AllByRecursion-left reads (upper ++ middle) (free_bodies p.space.free)
    file.spelled.1 in
    record {
      chains = p.chains;
      free = p.space.free;
      buckets = record {
        are_read = AllByRecursion-left reads upper middle tables;
        many = sound.all_buckets;
        are = each_chain at (meta_of p) p.chains (AllByRecursion-right reads upper middle tables)
            sound.in_place sound.no_key_twice file.good.bytes sound.entered;
      };
      list = record {
        are_read = AllByRecursion-right reads (upper ++ middle) (free_bodies p.space.free)
            file.spelled.1;
        from = refl;
        many = refl;
      };
      each = λ n. sum_by-append (λ (m : ℕ). cond (m == n) 1 0)
          ((1 ∷ p.segments) ++ flat_map pages_in p.chains) p.space.free
          ∙ sound.pages.once n ∙ ap (λ (k : ℕ). cond (is_page n k) 1 0) file.ends;
      counted = refl;
      bounded = subst (λ (k : ℕ). k ≤ home p.bounds) file.ends file.good.bounded;
    }

-- ---- the parts as they are marked

pub may_free : (at : ℕ → Body) (end : ℕ) (m : model.Meta) (is : IsFilled at end m)
    → MayBeSeen end (((1 ∷ m.segments) ++ flat_map pages_in is.chains) ++ is.free)
may_free at end m is n = omega (arith, is.each n)

pub may_buckets : (at : ℕ → Body) (end : ℕ) (m : model.Meta) (is : IsFilled at end m)
    → MayBeSeen end ((1 ∷ m.segments) ++ flat_map pages_in is.chains)
may_buckets at end m is =
    may_front end ((1 ∷ m.segments) ++ flat_map pages_in is.chains) is.free (may_free at end m is)

pub may_tables : (at : ℕ → Body) (end : ℕ) (m : model.Meta) → IsFilled at end m
    → MayBeSeen end (1 ∷ m.segments)
may_tables at end m is =
    may_front end (1 ∷ m.segments) (flat_map pages_in is.chains) (may_buckets at end m is)

-- a count that is no more than a limit is the whole one
pub whole_count : (m : model.Meta) (n pairs : ℕ) → IsMeta m → pairs ≡ min n (2 ^ 32 - 1)
    → pairs ≡ m.pairs → n ≡ m.pairs
whole_count m n pairs valid count same =
    omega (arith, count, same, valid.few_pairs.0, valid.limited.1)

pub right_count : (m : model.Meta) (n pairs : ℕ) → IsMeta m → pairs ≡ min n (2 ^ 32 - 1)
    → n ≡ m.pairs → pairs ≡ m.pairs
right_count m n pairs valid count same =
    omega (arith, count, same, valid.few_pairs.0, valid.limited.1)

-- a meta page says one thing
pub one_meta : (m n : model.Meta) → MetaPage m ≡ MetaPage n → m ≡ n
one_meta m n e = cc
