-- What a store makes of a placement, step by step.
use Rattle.std.proofs.Common.{◌≡◌, ◌∙◌, ◌+◌, ◌*◌, ◌≤◌, ℕ, Bool, true, false, cond, ltb, length, length-set, refl, sym, ap, is_some, arith}
use Rattle.std.specs.FinMap.{get, len, len-insert}
use Rattle.std.proofs.lemmas.Cmp.{nat_list_cmp_total}
use Rattle.dbm_model.specs.Pairs.{Pair, Contents, IsAllowed}
use Rattle.page_model.specs.Chain.{content_pages}
use Rattle.page_model.specs.Placement.{Placement, contents, pairs_of, delete, replace, split, store, IsSound}
use Rattle.page_model.proofs.Ends.{end_put}
use Rattle.page_model.proofs.Places.{replace_sound, contents-replace}
use Rattle.page_model.proofs.Stores.{counts_keys, split_keeps}
use Rattle.linear_hash.specs.Tables.{split_where_full}

-- one page is taken at most beside those of the content
pub replaced_end : (p : Placement) (pair : Pair)
    → (replace p pair).space.end ≤ p.space.end + content_pages pair + 1
replaced_end p pair = end_put (delete p pair.0) pair

-- a pair comes to the others, or takes the place of one
pub replaced_count : (p : Placement) (pair : Pair) → IsSound p → IsAllowed p.bounds.version pair
    → length (pairs_of (replace p pair))
    ≡ cond (is_some (get (contents p) pair.0)) (length (pairs_of p)) (length (pairs_of p) + 1)
replaced_count p pair sound small =
    let count = counts_keys p sound in
    sym (counts_keys (replace p pair) (replace_sound p sound pair small))
    ∙ ap (λ (c : Contents). len c) (contents-replace p sound pair small)
    ∙ len-insert nat_list_cmp_total (contents p) pair.0 pair.1
    ∙ (λ i. cond (is_some (get (contents p) pair.0)) (count i) (count i + 1))

-- a bucket is split where the store's own placement splits one
pub where_full : (p : Placement) (pair : Pair) → split_where_full (replace p pair) ≡ store p pair
where_full p pair =
    let q = replace p pair in
    ap (λ (n : ℕ). cond (ltb (8 * n) (length (pairs_of q))) (split q) q)
    (length-set (delete p pair.0).chains _ _ ∙ length-set p.chains _ _)

-- and the pairs are as many
pub full_count : (p : Placement) → IsSound p
    → length (pairs_of (split_where_full p)) ≡ length (pairs_of p)
full_count p sound = elim (ltb (8 * length p.chains) (length (pairs_of p))) as
    (λ t. length (pairs_of (cond {A = Placement} t (split p) p)) ≡ length (pairs_of p)) [
      | true ↦ (split_keeps p sound).2
      | false ↦ refl
    ]

-- as the code counts them
pub counted_more : (p : Placement) (pair : Pair) (was : Bool) (pairs more : ℕ) → IsSound p
    → IsAllowed p.bounds.version pair → was ≡ is_some (get (contents p) pair.0) → pairs ≡ length
    (pairs_of p)
    → more ≡ cond was 0 1 → pairs + more ≡ length (pairs_of (replace p pair))
counted_more p pair was pairs more sound small is all added = by_case was is added
  where
    by_case : (was : Bool) → was ≡ is_some (get (contents p) pair.0) → more ≡ cond was 0 1
        → pairs + more ≡ length (pairs_of (replace p pair))
    by_case true is none = omega (
      arith,
      all,
      none,
      replaced_count p pair sound small
          ∙ ap (λ (b : Bool). cond b (length (pairs_of p)) (length (pairs_of p) + 1)) (sym is),
    )
    by_case false is one = omega (
      arith,
      all,
      one,
      replaced_count p pair sound small
          ∙ ap (λ (b : Bool). cond b (length (pairs_of p)) (length (pairs_of p) + 1)) (sym is),
    )
