-- The keys that a pass has before it, in a placement.
use Rattle.std.proofs.Common.{◌≡◌, ◌⊎◌, inl, inr, ℕ, zero, suc, ◌+◌, ◌<◌, ◌≤◌, true, false, cond, List, [], ◌∷◌, ◌++◌, length, get_or, flat_map, refl, sym, ap, subst, arith}
use Rattle.std.specs.List.{AllByRecursion}
use Rattle.std.proofs.lemmas.List.Sums.{sum_by-append, sum_by-cons}
use Rattle.dbm_model.specs.KeyOrder.{hash_of, rank, ComesBefore}
use Rattle.dbm_model.specs.Pairs.{Key, Pair}
use Rattle.dbm_model.specs.States.{Pass, NotBegun, Begun, Behind}
use Rattle.dbm_model.specs.Steps.{IsAhead}
use Rattle.page_model.specs.Address.{Shape, buckets}
use Rattle.page_model.specs.Chain.{Chain, pairs_in}
use Rattle.page_model.specs.PairLists.{has_key, times}
use Rattle.page_model.specs.Pages.{Meta, Body}
use Rattle.page_model.specs.Placement.{Placement, pairs_of, key_bucket, chain_at, IsSound}
use Rattle.page_model.specs.Valid.{meta_buckets}
use Rattle.page_model.proofs.AddressLemmas.{address_below}
use Rattle.page_model.proofs.Places.{same_key}
use Rattle.lin_addr.specs.Intervals.{Precedes, IsFollowing, PrecedesNone}
use Rattle.lin_addr.proofs.Intervals.{from_zero}
use Rattle.lin_addr.proofs.KeyRanks.{hash_below, not_by_rank}
use Rattle.lin_addr.proofs.Precedence.{compared}
use Rattle.bucket_chain.specs.Leasts.{IsLeastAt}
use Rattle.linear_hash.specs.Passing.{bucket_of_pass}
use Rattle.linear_hash.specs.Tables.{shape_in, IsTable}
use Rattle.linear_hash.proofs.Buckets.{table_shape}
use Rattle.linear_hash.proofs.TableChains.{table_buckets}

-- ---- lists of pairs
all_weaker : (P Q : Pair → Type 0) (xs : List Pair) → ((x : Pair) → P x → Q x)
    → AllByRecursion P xs → AllByRecursion Q xs
all_weaker P Q [] f all = tt
all_weaker P Q (x ∷ xs) f all = (f x all.0, all_weaker P Q xs f all.1)

all_both : (P : Pair → Type 0) (xs ys : List Pair) → AllByRecursion P xs → AllByRecursion P ys
    → AllByRecursion P (xs ++ ys)
all_both P [] ys all more = more
all_both P (x ∷ xs) ys all more = (all.0, all_both P xs ys all.1 more)

all_chains : (P : Pair → Type 0) (chains : List Chain)
    → ((i : ℕ) → i < length chains → AllByRecursion P (pairs_in (get_or chains i [])))
    → AllByRecursion P (flat_map pairs_in chains)
all_chains P [] each = tt
all_chains P (chain ∷ chains) each =
    all_both P (pairs_in chain) (flat_map pairs_in chains) (each 0 (omega arith))
    (all_chains P chains (λ i below. each (suc i) (omega arith)))

times_in : (key : Key) (chains : List Chain) (i : ℕ)
    → times key (pairs_in (get_or chains i [])) ≤ times key (flat_map pairs_in chains)
times_in key [] zero = omega arith
times_in key [] (suc i) = omega arith
times_in key (chain ∷ chains) zero =
    omega (
      arith,
      sum_by-append (λ (pair : Pair). cond (has_key key pair) 1 0) (pairs_in chain)
          (flat_map pairs_in chains),
    )
times_in key (chain ∷ chains) (suc i) =
    omega (
      arith,
      times_in key chains i,
      sum_by-append (λ (pair : Pair). cond (has_key key pair) 1 0) (pairs_in chain)
          (flat_map pairs_in chains),
    )

-- what holds of all keys holds of each
one_of : (key : Key) (P : Key → Type 0) (xs : List Pair) → 0 < times key xs
    → AllByRecursion (λ pair. P pair.0) xs → P key
one_of key P [] some all = absurd (omega arith)
one_of key P (x ∷ xs) some all =
    elim (has_key key x) as (λ b. has_key key x ≡ b → cond b 1 0 + times key xs ≡ times key (x ∷ xs)
    → P key) [
      | true ↦ λ has count. subst P (sym (same_key key x has)) all.0
      | false ↦ λ has count. one_of key P xs (omega (arith, some, count)) all.1
    ] refl (sym (sum_by-cons (λ (pair : Pair). cond (has_key key pair) 1 0) x xs))

-- ---- the buckets that are left
abbrev HasNone : List Pair → Pass → Type 0
HasNone pairs from = AllByRecursion (λ pair. IsAhead from pair.0 → ⊥) pairs

-- a bucket that has a key for the pass is this one, or one that it precedes
abbrev pub IsLeft : Placement → Pass → ℕ → Type 0
IsLeft p from bucket = (other : ℕ) → other < length p.chains
    → HasNone (pairs_in (chain_at p other)) from
    ⊎ ((other ≡ bucket) ⊎ Precedes p.shape bucket other)

module _ (p : Placement) (sound : IsSound p) (low_level : p.shape.level ≤ 17) where
  -- a key in a bucket that precedes another one has the lower rank
  ranks : (b c : ℕ) (key other : Key) → Precedes p.shape b c → key_bucket p.shape key ≡ b
      → key_bucket p.shape other ≡ c → rank (hash_of key) < rank (hash_of other)
  ranks b c key other before = before (hash_of key) (hash_of other) (hash_below key)
      (hash_below other)

  in_place : (i : ℕ) → i < length p.chains
      → AllByRecursion (λ pair. key_bucket p.shape pair.0 ≡ i) (pairs_in (chain_at p i))
  in_place i below = (sound.in_place i below).1

  within : (i : ℕ) → i < length p.chains → i < buckets p.shape
  within i below = omega (arith, below, sound.all_buckets)

  -- a pass begins with bucket 0
  pub left_at_first : (from : Pass) → IsLeft p from 0
  left_at_first from other below =
      inr (from_zero p.shape sound.split_in low_level other (within other below))

  -- and goes on in the bucket of the last key
  pub left_behind : (last : Key) → key_bucket p.shape last < length p.chains
      → IsLeft p (Behind last) (key_bucket p.shape last)
  left_behind last here other below =
      elim (compared p.shape sound.split_in low_level other (key_bucket p.shape last)
      (within other below) (within _ here)) [
        | inl same ↦ inr (inl same)
        | inr (inl less) ↦ inl (all_weaker _ _ (pairs_in (chain_at p other))
            (λ pair is. not_by_rank last pair.0 (ranks other (key_bucket p.shape last) pair.0 last
            less is refl)) (in_place other below))
        | inr (inr more) ↦ inr (inr more)
      ]

  module _ (from : Pass) (bucket : ℕ) (left : IsLeft p from bucket) where
    pub left_next : (next : ℕ) → HasNone (pairs_in (chain_at p bucket)) from
        → IsFollowing p.shape bucket next → IsLeft p from next
    left_next next none following other below = elim (left other below) [
      | inl nothing ↦ inl nothing
      | inr (inl same) ↦ inl (subst (λ (b : ℕ). HasNone (pairs_in (chain_at p b)) from) (sym same)
          none)
      | inr (inr behind) ↦ inr (following.first other (within other below) behind)
    ]

    pub none_left : HasNone (pairs_in (chain_at p bucket)) from → PrecedesNone p.shape bucket
        → HasNone (pairs_of p) from
    none_left none last = all_chains _ p.chains (λ other below. elim (left other below) [
      | inl nothing ↦ nothing
      | inr (inl same) ↦ subst (λ (b : ℕ). HasNone (pairs_in (chain_at p b)) from) (sym same) none
      | inr (inr behind) ↦ absurd (last other (within other below) behind)
    ])

    pub least_of_all : (bytes : List ℕ) (slot : ℕ) → bucket < length p.chains
        → IsLeastAt (pairs_in (chain_at p bucket)) from bytes slot
        → IsLeastAt (pairs_of p) from bytes slot
    least_of_all bytes slot here found = record {
      key = found.key;
      page = found.page;
      has = found.has;
      least = record {
        among = omega (arith, found.least.among, times_in found.key p.chains bucket);
        ahead = found.least.ahead;
        least = all_chains _ p.chains (λ other below. elim (left other below) [
          | inl nothing ↦ all_weaker _ _ (pairs_in (chain_at p other))
              (λ pair never ahead before. never ahead) nothing
          | inr (inl same) ↦ subst (λ (b : ℕ). AllByRecursion
              (λ pair. IsAhead from pair.0 → ComesBefore pair.0 found.key → ⊥)
              (pairs_in (chain_at p b))) (sym same) found.least.least
          | inr (inr behind) ↦ all_weaker _ _ (pairs_in (chain_at p other))
              (λ pair is ahead. not_by_rank pair.0 found.key
              (ranks bucket other found.key pair.0 behind own_bucket is)) (in_place other below)
        ]);
      };
    }
      where
        own_bucket : key_bucket p.shape found.key ≡ bucket
        own_bucket = one_of found.key (λ key. key_bucket p.shape key ≡ bucket)
            (pairs_in (chain_at p bucket)) found.least.among (in_place bucket here)

-- ---- the same by the buckets of a table
module _ (at : ℕ → Body) (m : Meta) (end : ℕ) (p : Placement) (table : IsTable at m end p)
    (low_level : m.level ≤ 16) (from : Pass) where
  low : p.shape.level ≤ 17
  low = omega (arith, low_level, ap (λ (s : Shape). s.level) (table_shape at m end p table))

  many : length p.chains ≡ meta_buckets m
  many = table_buckets at m end p table

  pub first_left : IsLeft p from (bucket_of_pass m from)
  first_left = by_pass from
    where
      by_pass : (from : Pass) → IsLeft p from (bucket_of_pass m from)
      by_pass NotBegun = left_at_first p table.good.sound low NotBegun
      by_pass Begun = left_at_first p table.good.sound low Begun
      by_pass (Behind last) = subst (λ (s : Shape). IsLeft p (Behind last) (key_bucket s last))
          (sym (table_shape at m end p table)) (left_behind p table.good.sound low last
          (omega (
            arith,
            address_below p.shape (hash_of last) table.good.sound.split_in,
            table.good.sound.all_buckets,
          )))

  module _ (bucket : ℕ) (left : IsLeft p from bucket) where
    pub still_left : (next : ℕ) → HasNone (pairs_in (chain_at p bucket)) from
        → IsFollowing (shape_in m) bucket next → IsLeft p from next
    still_left next none following =
        left_next p table.good.sound low from bucket left next none
        (subst (λ (s : Shape). IsFollowing s bucket next) (table_shape at m end p table) following)

    pub nothing_left : HasNone (pairs_in (chain_at p bucket)) from → PrecedesNone (shape_in m)
        bucket
        → HasNone (pairs_of p) from
    nothing_left none last =
        none_left p table.good.sound low from bucket left none
        (subst (λ (s : Shape). PrecedesNone s bucket) (table_shape at m end p table) last)

    pub least_left : (bytes : List ℕ) (slot : ℕ) → bucket < meta_buckets m
        → IsLeastAt (pairs_in (chain_at p bucket)) from bytes slot
        → IsLeastAt (pairs_of p) from bytes slot
    least_left bytes slot within =
        least_of_all p table.good.sound low from bucket left bytes slot
        (omega (arith, many, within))
