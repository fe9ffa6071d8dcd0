-- How many pages a store takes, and that it gives none back.
use Rattle.std.proofs.Common.{◌≡◌, ℕ, zero, suc, Bool, refl, ap, ◌∙◌, ◌+◌, ◌*◌, ◌≤◌, true, false, cond, ltb, List, [], ◌∷◌, length, drop, fold, arith}
use Rattle.std.proofs.lemmas.Bool.{leb-true, ltb-true}
use Rattle.std.proofs.lemmas.List.{length-map}
use Rattle.dbm_model.specs.Bounds.{Version, V1, V2}
use Rattle.dbm_model.specs.Pairs.{Pair, is_far, IsAllowed}
use Rattle.dbm_model.specs.Sizes.{most_taken}
use Rattle.page_model.specs.Chain.{Entry, pages_long, content_pages, numbers, entries_in, pairs_in, has_room}
use Rattle.page_model.specs.Space.{Space, after_take, after_takes, give}
use Rattle.page_model.specs.Placement.{Placement, pairs_of, key_bucket, chain_at, put_entry, entry_for, with_content, put, delete, replace, split, store, extended, begins_segment}
use Rattle.page_model.specs.PlacementLaws.{StoreTakesFew}
use Rattle.page_model.proofs.PairLists.{length-sum_by}
use Rattle.page_model.proofs.Places.{sum_by-delete, delete_sound, replace_sound}
use Rattle.page_model.proofs.Splits.{sum_by-extended}
use Rattle.page_model.proofs.Chains.{near_if, pairs_of_entries}
use Rattle.page_model.proofs.Stores.{length-put-pair}

pub end_taken : (s : Space) → (after_take s).end ≤ s.end + 1
end_taken s = by_free s.free s.end where
  by_free : (free : List ℕ) (end : ℕ)
      → (after_take (record { free = free; end = end })).end ≤ end + 1
  by_free [] end = omega arith
  by_free (n ∷ rest) end = omega arith

pub end_takes : (k : ℕ) (s : Space) → (after_takes k s).end ≤ s.end + k
end_takes zero s = omega arith
end_takes (suc k) s = let a = end_taken s in let b = end_takes k (after_take s) in omega arith

pub end_put_entry : (p : Placement) (e : Entry) → (put_entry p e).space.end ≤ p.space.end + 1
end_put_entry p e =
    elim (has_room e (chain_at p (key_bucket p.shape e.pair.0))) as
    (λ b. (cond {A = Space} b p.space (after_take p.space)).end ≤ p.space.end + 1) [
      | true ↦ omega arith
      | false ↦ end_taken p.space
    ]

pub end_put : (p : Placement) (pair : Pair)
    → (put p pair).space.end ≤ p.space.end + content_pages pair + 1
end_put p pair =
    let a = end_put_entry (with_content p pair) (entry_for p pair) in
    let b = end_takes (content_pages pair) p.space in omega arith

pub end_fold : (entries : List Entry) (p : Placement)
    → (fold put_entry p entries).space.end ≤ p.space.end + length entries
end_fold [] p = omega arith
end_fold (x ∷ entries) p =
    let a = end_put_entry p x in let b = end_fold entries (put_entry p x) in omega arith

-- the pages of a content
content_taken : (version : Version) (pair : Pair) → IsAllowed version pair
    → content_pages pair + 4 ≤ most_taken version
content_taken version pair allowed = by_far (is_far pair) refl
  where
    some : (v : Version) → 4 ≤ most_taken v
    some V1 = omega arith
    some V2 = omega arith

    long : (v : Version) → IsAllowed v pair → is_far pair ≡ true
        → pages_long (length pair.1) + 4 ≤ most_taken v
    long V1 small far = absurd (let less = leb-true _ 2026 small in
        let more = ltb-true 2026 _ far in omega arith)
    long V2 small far = let few = near_if V2 pair small far in omega arith

    by_far : (b : Bool) → is_far pair ≡ b → content_pages pair + 4 ≤ most_taken version
    by_far false near = let a = ap (λ b. cond b (pages_long (length pair.1)) 0) near in
        let few = some version in omega arith
    by_far true far = let a = ap (λ b. cond b (pages_long (length pair.1)) 0) far in
        let few = long version allowed far in omega arith

pub end_extended : (p : Placement) → (extended p).space.end ≤ p.space.end + 2
end_extended p =
    let given = give (drop 1 (numbers (chain_at p p.shape.split))) p.space in
    let headed = after_take given in
    let a = end_taken given in
    elim (begins_segment p) as (λ b.
    (cond {A = Space} b (after_take headed) headed).end ≤ p.space.end + 2) [
      | true ↦ (let b = end_taken headed in omega arith)
      | false ↦ omega arith
    ]

pub store_takes_few : StoreTakesFew
store_takes_few p pair h small =
    let q = replace p pair in
    let k = replace_sound p h pair small in
    let few = content_taken p.bounds.version pair small in
    let a = end_put (delete p pair.0) pair in
    let b = length-put-pair (delete p pair.0) (delete_sound [] p h pair.0) pair in
    let c = sum_by-delete [] p h pair.0 (λ _. 1) in let d =
    length-sum_by (pairs_of (delete p pair.0)) in let e = length-sum_by (pairs_of p) in
    elim (ltb (8 * length p.chains) (length (pairs_of q))) as
    (λ t. (cond {A = Placement} t (split q) q).space.end ≤ p.space.end
    + length (pairs_of p) + most_taken p.bounds.version) [
      | true ↦
          let chain = chain_at q q.shape.split in
          let f = end_fold (entries_in chain) (extended q) in let g = end_extended q in
          let i = sum_by-extended q k (λ _. 1) in let j = length-sum_by (pairs_in chain) in let l =
          length-sum_by (pairs_of q) in
          let m = ap length (pairs_of_entries chain) ∙ length-map (entries_in chain) (λ e. e.pair) in
          omega arith
      | false ↦ omega arith
    ]

-- no page of the file is given back to the device
pub kept_taken : (s : Space) → s.end ≤ (after_take s).end
kept_taken s = by_free s.free s.end where
  by_free : (free : List ℕ) (end : ℕ)
      → end ≤ (after_take (record { free = free; end = end })).end
  by_free [] end = omega arith
  by_free (n ∷ rest) end = omega arith

pub kept_takes : (k : ℕ) (s : Space) → s.end ≤ (after_takes k s).end
kept_takes zero s = omega arith
kept_takes (suc k) s = let a = kept_taken s in let b = kept_takes k (after_take s) in omega arith

pub kept_put_entry : (p : Placement) (e : Entry) → p.space.end ≤ (put_entry p e).space.end
kept_put_entry p e =
    elim (has_room e (chain_at p (key_bucket p.shape e.pair.0))) as
    (λ b. p.space.end ≤ (cond {A = Space} b p.space (after_take p.space)).end) [
      | true ↦ omega arith
      | false ↦ kept_taken p.space
    ]

pub kept_put : (p : Placement) (pair : Pair) → p.space.end ≤ (put p pair).space.end
kept_put p pair =
    let a = kept_put_entry (with_content p pair) (entry_for p pair) in
    let b = kept_takes (content_pages pair) p.space in omega arith

pub kept_fold : (entries : List Entry) (p : Placement)
    → p.space.end ≤ (fold put_entry p entries).space.end
kept_fold [] p = omega arith
kept_fold (x ∷ entries) p =
    let a = kept_put_entry p x in let b = kept_fold entries (put_entry p x) in omega arith

-- the page of the new head is taken first, and then that of its segment
pub kept_extended : (p : Placement) →
    (after_take (give (drop 1 (numbers (chain_at p p.shape.split))) p.space)).end
    ≤ (extended p).space.end
kept_extended p =
    let headed = after_take (give (drop 1 (numbers (chain_at p p.shape.split))) p.space) in
    elim (begins_segment p) as (λ b.
    headed.end ≤ (cond {A = Space} b (after_take headed) headed).end) [
      | true ↦ kept_taken headed
      | false ↦ omega arith
    ]

pub kept_split : (p : Placement) → (extended p).space.end ≤ (split p).space.end
kept_split p = kept_fold (entries_in (chain_at p p.shape.split)) (extended p)

pub kept_store : (p : Placement) (pair : Pair) → p.space.end ≤ (store p pair).space.end
kept_store p pair =
    let q = replace p pair in
    let a = kept_put (delete p pair.0) pair in
    elim (ltb (8 * length p.chains) (length (pairs_of q))) as
    (λ t. p.space.end ≤ (cond {A = Placement} t (split q) q).space.end) [
      | true ↦
          let b = kept_taken (give (drop 1 (numbers (chain_at q q.shape.split))) q.space) in
          let c = kept_extended q in let d = kept_split q in
          omega arith
      | false ↦ omega arith
    ]
