-- Where there are too many pairs for the buckets, and one more is added.
use Rattle.std.proofs.Common.{◌≡◌, ◌∙◌, ℕ, ◌+◌, ◌*◌, ◌/◌, ◌^◌, ◌<◌, ◌≤◌, max, Bool, true, false, cond, eqb, ltb, length, refl, sym, ap, subst, arith, pow-add}
use Rattle.std.proofs.lemmas.Bool.{lt-ltb, le-ltb, eqb-true, eqb-false}
use Rattle.page_model.specs.Address.{Shape, buckets, grown}
use Rattle.page_model.specs.Pages.{Meta, Body}
use Rattle.page_model.specs.Placement.{Placement, pairs_of, split}
use Rattle.page_model.specs.Valid.{IsMeta, meta_buckets}
use Rattle.free_pages.specs.declared.free_state.FreeState.{FreeState}
use Rattle.linear_hash.specs.Tables.{shape_in, shape_for, split_where_full}
use Rattle.linear_hash.specs.Staging.{IsMidway, IsGrown}
use Rattle.linear_hash.proofs.Extensions.{next_bucket}

-- the split pointer stays within its level, and there is one bucket more
grown_by_one : (s : Shape) → s.split < 2 ^ s.level
    → ((grown s).split < 2 ^ (grown s).level) × (buckets (grown s) ≡ buckets s + 1)
grown_by_one s within = by_test (eqb (s.split + 1) (2 ^ s.level)) refl
  where
    by_test : (t : Bool) → eqb (s.split + 1) (2 ^ s.level) ≡ t → let n : Shape =
        cond t (record { level = s.level + 1; split = 0 })
        (record { level = s.level; split = s.split + 1 }) in
        (n.split < 2 ^ n.level) × (buckets n ≡ buckets s + 1)
    by_test true is = let last = eqb-true _ _ is in let twice = pow-add 2 s.level 1 in
        (omega arith, omega arith)
    by_test false is = let more : s.split + 1 ≡ 2 ^ s.level → ⊥ = eqb-false _ _ is in
        (omega arith, omega arith)

-- what is valid but for the numbers of pairs and free pages
abbrev IsSpared : Meta → Type 0
IsSpared m = IsMeta (record m { pairs = 0; free_head = 0; free_count = 0 })

-- as many pairs as the buckets take
pub counted_valid : (m : Meta) → IsSpared m → m.pairs ≤ m.bounds.limit
    → m.pairs ≤ 8 * meta_buckets m → IsMeta (record m { free_head = 0; free_count = 0 })
counted_valid m valid limited few = record {
  limited = valid.limited;
  split_in = valid.split_in;
  few_buckets = valid.few_buckets;
  few_pairs = (limited, few);
  all_segments = valid.all_segments;
  used = valid.used;
  numbers = valid.numbers;
  ends = valid.ends;
}

module _ (m : Meta) (valid : IsSpared m) (limited : m.pairs ≤ m.bounds.limit)
    (full : 8 * meta_buckets m < m.pairs) where
  pub few_where_full : 8 * meta_buckets m < 1000000
  few_where_full = omega (arith, full, limited, valid.limited.1)

  -- one more bucket takes them
  pub grown_valid : (n : Meta) → m.pairs ≤ 8 * meta_buckets m + 1 → IsGrown m n
      → IsMeta (record n { free_head = 0; free_count = 0 })
  grown_valid n few grows =
      let shape = grows.shape in
      let more = grown_by_one (shape_in m) valid.split_in in
      let one : meta_buckets n ≡ meta_buckets m + 1 = ap buckets shape ∙ more.1 in
      let limit : n.bounds.limit ≡ m.bounds.limit =
      ap (λ (k : Meta). k.bounds.limit) grows.rest in
      let pairs : n.pairs ≡ m.pairs = ap (λ (k : Meta). k.pairs) grows.rest in
      record {
        limited = subst (λ (l : ℕ). (1 ≤ l) × (l ≤ 1000000)) (sym limit) valid.limited;
        split_in = subst (λ (s : Shape). s.split < 2 ^ s.level) (sym shape) more.0;
        few_buckets = enough (meta_buckets m) (meta_buckets n) m.pairs n.bounds.limit one full
            (omega (arith, limited, limit));
        few_pairs = (omega (arith, limited, limit, pairs), omega (arith, few, one, pairs));
        all_segments = segments (meta_buckets m) (meta_buckets n) (length m.segments)
            (length n.segments) one valid.all_segments grows.segments.count;
        used = grows.segments.used valid.used;
        numbers = valid.numbers;
        ends = valid.ends;
      }
    where
      enough : (b n pairs limit : ℕ) → n ≡ b + 1 → 8 * b < pairs → pairs ≤ limit
          → n ≤ (limit + 7) / 8
      enough b n pairs limit one full limited = omega (arith, one, full, limited)

      segments : (b n old new : ℕ) → n ≡ b + 1 → old ≡ (b + 507) / 508 → new ≡ max old (b / 508 + 1)
          → new ≡ (n + 507) / 508
      segments b n old new one all count = omega (arith, one, all, count)

-- the shape that so many pairs ask for
pub grown_shape : (pairs : ℕ) (s n : Shape) → 8 * buckets s < pairs → n ≡ grown s
    → n ≡ shape_for pairs s
grown_shape pairs s n full is =
    is ∙ sym (ap (λ (t : Bool). cond t (grown s) s) (lt-ltb (8 * buckets s) pairs full))

pub same_shape : (pairs : ℕ) (s : Shape) → pairs ≤ 8 * buckets s → s ≡ shape_for pairs s
same_shape pairs s few = sym (ap (λ (t : Bool). cond t (grown s) s)
    (le-ltb (8 * buckets s) pairs few))

-- and the placement that comes of them
module _ (at : ℕ → Body) (m : Meta) (space : FreeState) (p : Placement)
    (mid : IsMidway at m space p) (counted : m.pairs ≡ length (pairs_of p)) where
  chosen : (t : Bool) → ltb (8 * meta_buckets m) m.pairs ≡ t
      → split_where_full p ≡ cond t (split p) p
  chosen t is =
      ap (λ (b : Bool). cond b (split p) p)
      (sym (λ i. ltb (8 * next_bucket at m space p mid i) (counted i)) ∙ is)

  pub full_is_split : 8 * meta_buckets m < m.pairs → split_where_full p ≡ split p
  full_is_split full = chosen true (lt-ltb _ _ full)

  pub few_is_same : m.pairs ≤ 8 * meta_buckets m → split_where_full p ≡ p
  few_is_same few = chosen false (le-ltb _ _ few)
