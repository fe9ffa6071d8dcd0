-- What holds of each bucket's chain, and what of all.
use Rattle.std.proofs.Common.{◌≡◌, ℕ, zero, suc, ◌+◌, ◌^◌, ◌<◌, ◌≤◌, cond, List, [], ◌∷◌, length, flat_map, get_or, sum_by, refl, sym, ap, ◌∙◌, subst, arith}
use Rattle.std.specs.List.{AllByRecursion}
use Rattle.std.proofs.lemmas.List.{get_or_default}
use Rattle.std.proofs.lemmas.List.Sums.{sum_by-append}
use Rattle.dbm_model.specs.Pairs.{Key, Pair}
use Rattle.page_model.specs.Address.{buckets, hash_of}
use Rattle.page_model.specs.Chain.{Chain, entries_in, pairs_in, IsEntry}
use Rattle.page_model.specs.PageBodies.{chain_bodies, AreRead}
use Rattle.page_model.specs.PairLists.{has_key, times, HasBytes}
use Rattle.page_model.specs.Pages as model
use Rattle.page_model.specs.Pages.{Body}
use Rattle.page_model.specs.Placement.{key_bucket, IsInPlace}
use Rattle.page_model.proofs.AddressLemmas.{address_below}
use Rattle.page_model.proofs.Chains.{AllByRecursion-append, AllByRecursion-left, AllByRecursion-right}
use Rattle.page_model.proofs.PairLists.{sum_by-flat_map, sum_by-one}
use Rattle.page_model.proofs.Places.{times_none, elsewhere}
use Rattle.file_check.specs.Segments.{shape_in, AreChains}

-- ---- lists of lists

all_flat : {X Y : Type 0} (P : Y → Type 0) (f : X → List Y) (d : X) (xs : List X)
    → ((i : ℕ) → i < length xs → AllByRecursion P (f (get_or xs i d)))
    → AllByRecursion P (flat_map f xs)
all_flat P f d [] each = tt
all_flat P f d (x ∷ xs) each =
    AllByRecursion-append P (f x) (flat_map f xs) (each 0 (omega arith))
    (all_flat P f d xs (λ i lt. each (suc i) (omega arith)))

flat_part : {X Y : Type 0} (P : Y → Type 0) (f : X → List Y) (d : X) (xs : List X) (i : ℕ)
    → i < length xs → AllByRecursion P (flat_map f xs) → AllByRecursion P (f (get_or xs i d))
flat_part P f d [] i lt all = absurd (omega arith)
flat_part P f d (x ∷ xs) zero lt all = AllByRecursion-left P (f x) (flat_map f xs) all
flat_part P f d (x ∷ xs) (suc i) lt all =
    flat_part P f d xs i (omega arith) (AllByRecursion-right P (f x) (flat_map f xs) all)

sum_part : {X Y : Type 0} (h : Y → ℕ) (f : X → List Y) (d : X) (xs : List X) (i : ℕ)
    → i < length xs → sum_by h (f (get_or xs i d)) ≤ sum_by h (flat_map f xs)
sum_part h f d [] i lt = absurd (omega arith)
sum_part h f d (x ∷ xs) zero lt = omega (arith, sum_by-append h (f x) (flat_map f xs))
sum_part h f d (x ∷ xs) (suc i) lt =
    omega (arith, sum_part h f d xs i (omega arith), sum_by-append h (f x) (flat_map f xs))

-- ---- from each chain

module _ (at : ℕ → Body) (m : model.Meta) (chains : List Chain)
    (are : AreChains at m 0 chains) where
  pub chains_read : AreRead at (flat_map chain_bodies chains)
  chains_read = all_flat (λ numbered. at numbered.number ≡ numbered.body) chain_bodies [] chains
      (λ i lt. (are i lt).are_read)

  pub all_bytes : AllByRecursion HasBytes (flat_map pairs_in chains)
  all_bytes = all_flat HasBytes pairs_in [] chains (λ i lt. (are i lt).bytes)

  pub all_entered : AllByRecursion (IsEntry m.bounds.version) (flat_map entries_in chains)
  all_entered = all_flat (IsEntry m.bounds.version) entries_in [] chains
      (λ i lt. (are i lt).entered)

  pub all_in_place : IsInPlace (shape_in m) chains
  all_in_place i lt =
      let is = are i lt in (
        is.is_chain,
        subst (λ (b : ℕ). AllByRecursion (λ (pair : Pair). key_bucket (shape_in m) pair.0 ≡ b)
            (pairs_in (get_or chains i [])))
            (let same : 0 + i ≡ i = omega arith in same) is.in_bucket,
      )

  -- a key stands in its bucket's chain alone
  pub no_key_twice : m.split < 2 ^ m.level → length chains ≡ buckets (shape_in m) → (key : Key)
      → times key (flat_map pairs_in chains) ≤ 1
  no_key_twice split many key =
      let count = λ (pair : Pair). cond {A = ℕ} (has_key key pair) 1 0 in
      let shape = shape_in m in
      let b = key_bucket shape key in
      let below : b < length chains = omega (
        arith,
        address_below shape
            (hash_of key) split,
        many,
      ) in
      let one : sum_by (λ (c : Chain). times key (pairs_in c)) chains
      ≡ times key (pairs_in (get_or chains b [])) =
      sum_by-one (λ (c : Chain). times key (pairs_in c)) chains b [] below (λ j e l ne.
      ap (λ (c : Chain). times key (pairs_in c)) (get_or_default chains j e [] l)
      ∙ times_none key (pairs_in (get_or chains j []))
      (elsewhere shape key j (pairs_in (get_or chains j [])) (all_in_place j l).1
      (λ same. ne (sym same)))) in
      omega (arith, sum_by-flat_map count pairs_in chains, one, (are b below).no_key_twice key)

-- ---- for each chain

pub each_chain : (at : ℕ → Body) (m : model.Meta) (chains : List Chain)
    → AreRead at (flat_map chain_bodies chains) → IsInPlace (shape_in m) chains
    → ((key : Key) → times key (flat_map pairs_in chains) ≤ 1)
    → AllByRecursion HasBytes (flat_map pairs_in chains)
    → AllByRecursion (IsEntry m.bounds.version) (flat_map entries_in chains)
    → AreChains at m 0 chains
each_chain at m chains read place once bytes entered i lt = record {
  are_read = flat_part (λ numbered. at numbered.number ≡ numbered.body) chain_bodies [] chains i lt
      read;
  is_chain = (place i lt).0;
  from = refl;
  in_bucket = subst (λ (b : ℕ). AllByRecursion (λ (pair : Pair). key_bucket (shape_in m) pair.0 ≡ b)
      (pairs_in (get_or chains i [])))
      (let same : i ≡ 0 + i = omega arith in same) (place i lt).1;
  no_key_twice = λ key. omega (
    arith,
    once key,
    sum_part (λ (pair : Pair). cond {A = ℕ} (has_key key pair) 1 0) pairs_in [] chains i lt,
  );
  bytes = flat_part HasBytes pairs_in [] chains i lt bytes;
  entered = flat_part (IsEntry m.bounds.version) entries_in [] chains i lt entered;
}
