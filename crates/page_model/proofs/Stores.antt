-- A store and a delete keep a placement good.
use Rattle.std.proofs.Common.{◌≡◌, ℕ, zero, suc, ◌+◌, ◌*◌, ◌≤◌, true, false, cond, ltb, List, [], ◌∷◌, ◌++◌, length, filter, set, sum_by, Option, None, is_some, is_eq, refl, sym, ap, ◌∙◌, subst, ⊎_elim, arith, length-set, length-append}
use Rattle.std.specs.List.{AllByRecursion}
use Rattle.std.specs.FinMap.{get, insert, len, get-from_entries, len-insert, len-empty}
use Rattle.std.specs.Cmp.{tied_itself}
use Rattle.std.proofs.lemmas.Cmp.{nat_list_cmp_total}
use Rattle.std.proofs.lemmas.Bool.{ltb-true, ltb-false, cases_eq}
use Rattle.std.proofs.lemmas.Bool.Decides.{nat_tests}
use Rattle.std.proofs.lemmas.List.Sums.{sum_by-cons, length-filter}
use Rattle.std.specs.Prelude.{nat_le, ◌&&◌, ◌||◌, flat_map}
use Rattle.dbm_model.specs.Bounds.{Version, V1, V2, Bounds, in_v2}
use Rattle.dbm_model.specs.Pairs.{Key, Pair, key_cmp, contents_of, IsAllowed}
use Rattle.page_model.specs.PairLists.{has_key, times, HasBytes}
use Rattle.page_model.specs.Chain.{Entry, IsEntry, content_pages, entries_in, pairs_in, pages_of}
use Rattle.page_model.specs.Space.{next_pages, IsExact}
use Rattle.dbm_model.specs.Sizes.{buckets_for, home}
use Rattle.page_model.specs.Placement.{Placement, pairs_of, contents, in_use, key_bucket, chain_at, put, entry_for, with_content, delete, replace, split, store, fresh_placement, IsInPlace, IsSound, IsGood, MayStore}
use Rattle.page_model.specs.PlacementLaws.{SplitKeeps, LooksInOneChain, CountsKeys, StoreStaysGood, DeleteStaysGood, FreshIsGood, RaisedIsGood}
use Rattle.page_model.proofs.PairLists.{times_some, length-sum_by}
use Rattle.page_model.proofs.Places.{value_at, taken_sound, is_entry_for, sum_by-put, sum_by-delete, delete_sound, replace_sound, contents-replace, contents-delete}
use Rattle.page_model.proofs.Splits.{split_filled, contents-split, sum_by-extended}
use Rattle.page_model.proofs.Chains.{pairs_of_entries}
use Rattle.page_model.proofs.Members.{AllByRecursion-fewer}
use Rattle.page_model.proofs.Bounds.{in_use_below, in_use_beside, end_after_put, end_after_takes, end_split}
use Rattle.page_model.proofs.Spaces.{length-next_pages}

-- the length of a list in which no key comes twice is that of its map
len_flat : (xs : List Pair) → ((key : Key) → times key xs ≤ 1) → len (contents_of xs) ≡ length xs
len_flat [] h = len-empty key_cmp (List ℕ)
len_flat (x ∷ xs) h =
    let count : (key : Key) → times key (x ∷ xs) ≡ cond (has_key key x) 1 0 + times key xs =
    λ (key : Key). sum_by-cons (λ pair. cond (has_key key pair) 1 0) x xs in
    let here : times x.0 (x ∷ xs) ≡ 1 + times x.0 xs =
    count x.0 ∙ ap (λ b. cond b 1 0 + times x.0 xs)
    (ap is_eq (tied_itself nat_list_cmp_total x.0)) in
    let none : get (contents_of xs) x.0 ≡ None =
    get-from_entries nat_list_cmp_total xs x.0
    ∙ times_some x.0 xs (let once = h x.0 in omega arith) in
    let rest = len_flat xs (λ key. let a = count key in let b = h key in omega arith) in
    len-insert nat_list_cmp_total (contents_of xs) x.0 x.1
    ∙ ap (λ (o : Option (List ℕ)).
    cond (is_some o) (len (contents_of xs)) (len (contents_of xs) + 1)) none ∙ omega arith

pub counts_keys : CountsKeys
counts_keys p h = len_flat (pairs_of p) h.no_key_twice

pub looks_in_one_chain : LooksInOneChain
looks_in_one_chain p key h = get-from_entries nat_list_cmp_total (pairs_of p) key
    ∙ value_at p.shape p.chains key h.split_in h.all_buckets h.in_place

length-split : (p : Placement) → IsSound p → length (pairs_of (split p)) ≡ length (pairs_of p)
length-split p h =
    let a = (split_filled p h).sums (λ _. 1) in let b = sum_by-extended p h (λ _. 1) in
    let c = length-sum_by (pairs_of (split p)) in let d = length-sum_by (pairs_of p) in
    let e = ap (sum_by (λ _. 1)) (pairs_of_entries (chain_at p p.shape.split)) in omega arith

chains-split : (p : Placement) → IsSound p → length (split p).chains ≡ length p.chains + 1
chains-split p h = (split_filled p h).chains ∙ length-append (set p.chains p.shape.split _) _
    ∙ ap (λ n. n + 1) (length-set p.chains p.shape.split _)

pub split_keeps : SplitKeeps
split_keeps p h = ((split_filled p h).sound, contents-split p h, length-split p h, chains-split p h)

length-delete : (p : Placement) → IsSound p → (key : Key)
    → length (pairs_of (delete p key)) + times key (pairs_in (chain_at p (key_bucket p.shape key)))
    ≡ length (pairs_of p)
length-delete p h key =
    let chain = pairs_in (chain_at p (key_bucket p.shape key)) in
    let a = sum_by-delete [] p h key (λ _. 1) in
    let b = length-sum_by (pairs_of (delete p key)) in let c = length-sum_by (pairs_of p) in let d =
    length-sum_by (filter (has_key key) chain) in
    let e = length-filter (has_key key) chain in
    omega arith

-- a pair that is put
pub sum_by-put_pair : (p : Placement) → IsSound p → (pair : Pair) → (f : Pair → ℕ)
    → sum_by f (pairs_of (put p pair)) ≡ sum_by f (pairs_of p) + f pair
sum_by-put_pair p h pair f =
    sum_by-put (next_pages (content_pages pair) p.space ++ []) (with_content p pair)
    (taken_sound [] p h (content_pages pair)) (entry_for p pair) f

pub length-put-pair : (p : Placement) → IsSound p → (pair : Pair)
    → length (pairs_of (put p pair)) ≡ length (pairs_of p) + 1
length-put-pair p h pair = length-sum_by (pairs_of (put p pair)) ∙ sum_by-put_pair p h pair (λ _. 1)
    ∙ ap (λ n. n + 1) (sym (length-sum_by (pairs_of p)))

-- a replaced pair does not count twice
few_replaced : (p : Placement) → IsGood p → (pair : Pair) → MayStore p pair
    → (length (pairs_of (replace p pair)) ≤ p.bounds.limit)
    × (length (pairs_of (replace p pair)) ≤ 8 * length p.chains + 1)
few_replaced p g pair may =
    let h = g.sound in
    let chain = pairs_in (chain_at p (key_bucket p.shape pair.0)) in
    let a = length-delete p h pair.0 in
    let b = length-put-pair (delete p pair.0) (delete_sound [] p h pair.0) pair in
    let c = g.few_pairs in
    let d = g.light in
    let e = counts_keys p h in (
      ⊎_elim
          (λ (z : times pair.0 chain ≡ 0). let new =
          may.room (looks_in_one_chain p pair.0 h ∙ times_some pair.0 chain z) in
          let all : length (pairs_of (replace p pair)) ≤ p.bounds.limit = omega arith in all)
          (λ (n : times pair.0 chain ≡ 0 → ⊥).
          let all : length (pairs_of (replace p pair)) ≤ p.bounds.limit = omega arith in all)
          (cases_eq (times pair.0 chain) 0),
      omega arith,
    )

chains-replace : (p : Placement) (pair : Pair) → length (replace p pair).chains ≡ length p.chains
chains-replace p pair = length-set (with_content (delete p pair.0) pair).chains _ _ ∙ length-set p.chains _ _

end_replaced : (p : Placement) → IsGood p → (pair : Pair) → IsAllowed p.bounds.version pair
    → length (pairs_of (replace p pair)) ≤ p.bounds.limit → (replace p pair).space.end ≤ home p.bounds
end_replaced p g pair small few =
    let q = delete p pair.0 in
    let left = delete_sound [] p g.sound pair.0 in
    let e = entry_for q pair in
    let is = is_entry_for q pair small in
    let sound = replace_sound p g.sound pair small in
    let same = chains-replace p pair in
    let was : length q.chains ≡ length p.chains = length-set p.chains _ _ in
    let b = g.few_buckets in
    let many = length-put-pair q left pair in
    let room = in_use_beside [] q left (e ∷ []) (is, tt) p.bounds.limit (omega arith) (omega arith) in
    let a = length-append (pages_of (e ∷ [])) (in_use q) in
    let c = length-append e.pages [] in
    let d = length-next_pages (content_pages pair) q.space in
    end_after_put (with_content q pair) e [] (home p.bounds) sound
    (end_after_takes (content_pages pair) (in_use q) q.space (home p.bounds) left.pages g.bounded
    (omega arith))
    (in_use_below (replace p pair) sound p.bounds.limit (omega arith) few)

-- a store adds one pair at most
sum_by-store : (p : Placement) → IsSound p → (pair : Pair) → IsAllowed p.bounds.version pair → (f : Pair → ℕ)
    → sum_by f (pairs_of (store p pair)) ≤ sum_by f (pair ∷ pairs_of p)
sum_by-store p h pair small f =
    let q = replace p pair in
    let k = replace_sound p h pair small in
    let a = sum_by-put_pair (delete p pair.0) (delete_sound [] p h pair.0) pair f in
    let b = sum_by-delete [] p h pair.0 f in
    let c = sum_by-cons f pair (pairs_of p) in
    elim (ltb (8 * length p.chains) (length (pairs_of q))) as
    (λ t. sum_by f (pairs_of (cond t (split q) q)) ≤ sum_by f (pair ∷ pairs_of p)) [
      | true ↦ (let d = (split_filled q k).sums f in let e = sum_by-extended q k f in
          let g = ap (sum_by f) (pairs_of_entries (chain_at q q.shape.split)) in omega arith)
      | false ↦ omega arith
    ]

bounds-store : (p : Placement) → IsSound p → (pair : Pair) → IsAllowed p.bounds.version pair
    → (store p pair).bounds ≡ p.bounds
bounds-store p h pair small =
    elim (ltb (8 * length p.chains) (length (pairs_of (replace p pair)))) as
    (λ t. (cond {A = Placement} t (split (replace p pair)) (replace p pair)).bounds ≡ p.bounds) [
      | true ↦ (split_filled (replace p pair) (replace_sound p h pair small)).bounds_are
      | false ↦ refl
    ]

pub store_stays_good : StoreStaysGood
store_stays_good p pair g may =
    let small = may.allowed in
    let all = AllByRecursion-fewer HasBytes (pair ∷ pairs_of p) (pairs_of (store p pair))
    (sum_by-store p g.sound pair small) (may.bytes, g.bytes) in
    let kept = bounds-store p g.sound pair small in
    let q = replace p pair in
    let h = replace_sound p g.sound pair small in
    let few = few_replaced p g pair may in
    let same = chains-replace p pair in
    let end = end_replaced p g pair small few.0 in
    let map = contents-replace p g.sound pair small in
    let b = g.few_buckets in
    elim (ltb (8 * length p.chains) (length (pairs_of q))) as
    (λ t. ltb (8 * length p.chains) (length (pairs_of q)) ≡ t
    → AllByRecursion HasBytes (pairs_of (cond t (split q) q))
    → (cond {A = Placement} t (split q) q).bounds ≡ p.bounds →
    IsGood (cond t (split q) q) × (contents (cond t (split q) q)
    ≡ insert (contents p) pair.0 pair.1)
    × ((cond {A = Placement} t (split q) q).bounds ≡ p.bounds)) [
      | true ↦ λ t bytes bounds.
          let many = ltb-true _ _ t in
          let s = split_keeps q h in
          let room' : length q.chains + 1 ≤ buckets_for p.bounds.limit =
          (let f = few.0 in omega arith) in (
            record {
              sound = s.0;
              limited = subst (λ (l : Bounds). (1 ≤ l.limit) × (l.limit ≤ 1000000)) (sym bounds)
                  g.limited;
              few_buckets = subst (λ (l : Bounds). length (split q).chains ≤ buckets_for l.limit)
                  (sym bounds) (let c = s.3 in omega arith);
              few_pairs = subst (λ (l : Bounds). length (pairs_of (split q)) ≤ l.limit) (sym bounds)
                  (let c = s.2 in let f = few.0 in omega arith);
              light = (let c = s.3 in let d = s.2 in let f = few.1 in omega arith);
              bounded = subst (λ (l : Bounds). (split q).space.end ≤ home l) (sym bounds)
                  (end_split q h p.bounds.limit room' few.0 end);
              bytes = bytes;
            },
            s.1 ∙ map,
            bounds,
          )
      | false ↦ λ t bytes bounds. (
        record {
          sound = h;
          limited = g.limited;
          few_buckets = omega arith;
          few_pairs = few.0;
          light = (let l = ltb-false _ _ t in omega arith);
          bounded = end;
          bytes = bytes;
        },
        map,
        bounds,
      )
    ] refl all kept

pub delete_stays_good : DeleteStaysGood
delete_stays_good p key g =
    let a = length-delete p g.sound key in
    let same : length (delete p key).chains ≡ length p.chains = length-set p.chains _ _ in (
      record {
        sound = delete_sound [] p g.sound key;
        limited = g.limited;
        few_buckets = (let b = g.few_buckets in omega arith);
        few_pairs = (let b = g.few_pairs in omega arith);
        light = (let b = g.light in omega arith);
        bounded = g.bounded;
        bytes = AllByRecursion-fewer HasBytes (pairs_of p) (pairs_of (delete p key))
            (λ f. let b = sum_by-delete [] p g.sound key f in omega arith) g.bytes;
      },
      contents-delete [] p g.sound key,
      refl,
    )

fresh_pages : (bounds : Bounds) → IsExact (in_use (fresh_placement bounds)) (fresh_placement bounds).space
fresh_pages bounds = record { once = λ n. grind (arith, nat_tests); as_many = refl }

fresh_in_place : (bounds : Bounds) → IsInPlace (fresh_placement bounds).shape
    (fresh_placement bounds).chains
fresh_in_place bounds zero below = ((omega arith, tt, tt), tt)
fresh_in_place bounds (suc bucket) below = absurd (omega arith)

fresh_end : (limit : ℕ) (version : Version) → 1 ≤ limit
    → 4 ≤ home (record { limit = limit; version = version })
fresh_end limit V1 least = omega arith
fresh_end limit V2 least = omega arith

pub fresh_is_good : FreshIsGood
fresh_is_good bounds least most = (
  record {
    sound = record {
      split_in = omega arith;
      all_buckets = refl;
      all_segments = refl;
      pages = fresh_pages bounds;
      in_place = fresh_in_place bounds;
      no_key_twice = λ key. omega arith;
      entered = tt;
    };
    limited = (least, most);
    few_buckets = omega arith;
    few_pairs = omega arith;
    light = omega arith;
    bounded = fresh_end bounds.limit bounds.version least;
    bytes = tt;
  },
  refl,
)

-- ---- to version 2

grown_home : (limit : ℕ) (version : Version)
    → home (record { limit = limit; version = version }) ≤ home (in_v2 limit)
grown_home limit V1 = omega arith
grown_home limit V2 = omega arith

raised_entries : (version : Version) (entries : List Entry)
    → AllByRecursion (IsEntry version) entries → AllByRecursion (IsEntry V2) entries
raised_entries V2 entries h = h
raised_entries V1 [] h = tt
raised_entries V1 (e ∷ entries) h = (
  record {
    allowed = ap (λ b. b || (nat_le (length e.pair.0) 1023 && nat_le (length e.pair.1) 65535))
        h.0.allowed;
    paged = h.0.paged;
  },
  raised_entries V1 entries h.1,
)

pub raised_is_good : RaisedIsGood
raised_is_good p g = (
  record {
    sound = record {
      split_in = g.sound.split_in;
      all_buckets = g.sound.all_buckets;
      all_segments = g.sound.all_segments;
      pages = g.sound.pages;
      in_place = g.sound.in_place;
      no_key_twice = g.sound.no_key_twice;
      entered = raised_entries p.bounds.version (flat_map entries_in p.chains) g.sound.entered;
    };
    limited = g.limited;
    few_buckets = g.few_buckets;
    few_pairs = g.few_pairs;
    light = g.light;
    bounded = let more = grown_home p.bounds.limit p.bounds.version in
        let was = g.bounded in omega arith;
    bytes = g.bytes;
  },
  refl,
)
