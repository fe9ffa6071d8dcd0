-- How long the chain is of the bucket that a store splits.
use Rattle.std.proofs.Common.{◌≡◌, ℕ, ◌+◌, ◌<◌, ◌≤◌, Bool, true, false, cond, not, List, [], ◌∷◌, ◌++◌, length, map, filter, refl, ap, ⊎_elim, arith, get_or-set_same, get_or-set_other, length-append, length-set}
use Rattle.std.proofs.lemmas.Bool.{cases_eq}
use Rattle.std.proofs.lemmas.List.{length-map}
use Rattle.dbm_model.specs.Pairs.{Key, Pair}
use Rattle.page_model.specs.Address.{hash_of}
use Rattle.page_model.specs.Chain.{Entry, Leaf, Chain, numbers, entries_in, pages_of, fits, add, remove, take_out, is_bare}
use Rattle.page_model.specs.Pages.{Meta, Body}
use Rattle.page_model.specs.Placement.{Placement, chain_at, key_bucket, entry_for, with_content, delete, replace}
use Rattle.page_model.specs.Space.{next_page}
use Rattle.page_model.proofs.AddressLemmas.{address_below}
use Rattle.page_model.proofs.GoodBodies.{end_small}
use Rattle.free_pages.specs.FreeList.{state_of}
use Rattle.bucket_chain.proofs.PlacedChains.{chains_placed}
use Rattle.linear_hash.specs.Tables.{IsTable}

few_left : {X : Type 0} (keeps : X → Bool) (xs : List X) → length (filter keeps xs) ≤ length xs
few_left keeps [] = omega arith
few_left keeps (x ∷ xs) =
    elim (keeps x) as
    (λ t. length (cond t (x ∷ filter keeps xs) (filter keeps xs)) ≤ length (x ∷ xs)) [
      | true ↦ omega (arith, few_left keeps xs)
      | false ↦ omega (arith, few_left keeps xs)
    ]

-- a removal adds no page to a chain
removed_few : (key : Key) (chain : Chain) → length (remove key chain) ≤ length chain
removed_few key [] = omega arith
removed_few key (head ∷ overflow) = omega (
  arith,
  few_left (λ (leaf : Leaf). not (is_bare leaf)) (map (take_out key) overflow),
  length-map overflow (take_out key),
)

-- and an addition one at the most
added_few : (e : Entry) (new : ℕ) (chain : Chain) → length (add e new chain) ≤ length chain + 1
added_few e new [] = omega arith
added_few e new (leaf ∷ rest) =
    elim (fits e leaf) as
    (λ t. length (cond t (record leaf { entries = leaf.entries ++ e ∷ [] } ∷ rest)
    (leaf ∷ add e new rest)) ≤ length (leaf ∷ rest) + 1) [
      | true ↦ omega arith
      | false ↦ omega (arith, added_few e new rest)
    ]

-- so a pair that is put in the place of its key's adds a page to one chain at the most
replaced_few : (p : Placement) (pair : Pair) (j : ℕ) → key_bucket p.shape pair.0 < length p.chains
    → length (chain_at (replace p pair) j) ≤ length (chain_at p j) + 1
replaced_few p pair j lt =
    let b = key_bucket p.shape pair.0 in
    let out = remove pair.0 (chain_at p b) in
    let q = delete p pair.0 in
    let e = entry_for q pair in
    let here : chain_at q b ≡ out = get_or-set_same p.chains b out [] lt in
    let new = add e (next_page (with_content q pair).space) (chain_at q b) in
    let below : b < length q.chains = omega (arith, lt, length-set p.chains b out) in
    ⊎_elim
    (λ (same : j ≡ b).
    let now : chain_at (replace p pair) b ≡ new = get_or-set_same q.chains b new [] below in
    let few = added_few e (next_page (with_content q pair).space) (chain_at q b) in
    omega (
      arith,
      ap (λ (i : ℕ). length (chain_at (replace p pair) i)) same,
      ap (λ (c : Chain). length c) now,
      few,
      ap (λ (c : Chain). length c) here,
      removed_few pair.0 (chain_at p b),
      ap (λ (i : ℕ). length (chain_at p i)) same,
    ))
    (λ (other : j ≡ b → ⊥).
    omega (
      arith,
      ap (λ (c : Chain). length c) (get_or-set_other q.chains b j new [] other),
      ap (λ (c : Chain). length c) (get_or-set_other p.chains b j out [] other),
    ))
    (cases_eq j b)

-- the chain of the bucket that may be split is no longer than the file
pub split_few : (at : ℕ → Body) (m : Meta) (end : ℕ) (p : Placement) (pair : Pair)
    → IsTable at m end p
    → length (chain_at (replace p pair) (replace p pair).shape.split) ≤ end
split_few at m end p pair table =
    let j = p.shape.split in
    let sound = table.good.sound in
    let below : j < length p.chains = omega (arith, sound.all_buckets, sound.split_in) in
    let own : key_bucket p.shape pair.0 < length p.chains =
    omega (arith, address_below p.shape (hash_of pair.0) sound.split_in, sound.all_buckets) in
    let placed = chains_placed at (state_of p.space) [] p j sound (end_small p table.good)
    (record { are_read = table.are_read; kept = refl }) below in
    let chain = chain_at p j in
    omega (
      arith,
      replaced_few p pair j own,
      placed.fits,
      length-append (numbers chain) (pages_of (entries_in chain)),
      length-map chain (λ (leaf : Leaf). leaf.number),
      table.ends,
    )
