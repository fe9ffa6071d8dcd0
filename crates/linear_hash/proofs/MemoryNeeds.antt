-- What a change takes memory for: the pages that it stages, beyond the five that are reserved.
use Rattle.std.proofs.Common.{◌≡◌, ◌⊎◌, inl, inr, ℕ, ◌+◌, ◌*◌, ◌<◌, ◌≤◌, Bool, true, false, cond, length, refl, ap, arith}
use Rattle.std.proofs.lemmas.Bool.{leb-true, ltb-true}
use Rattle.dbm_model.specs.Bounds.{Version, V1, V2, Bounds}
use Rattle.dbm_model.specs.Pairs.{Pair, is_far, IsAllowed}
use Rattle.dbm_model.specs.Sizes.{home, most_taken}
use Rattle.page_model.specs.Chain.{pages_long, content_pages}
use Rattle.page_model.proofs.Chains.{near_if}
use Rattle.linear_hash.specs.Staging.{removal_pages}

-- a near pair has no content pages
pub no_content : (pair : Pair) → is_far pair ≡ false → content_pages pair ≡ 0
no_content pair near = ap (λ (b : Bool). cond b (pages_long (length pair.1)) 0) near

-- they are as many as a store may take, and four pages more
pub content_taken : (version : Version) (pair : Pair) → IsAllowed version pair
    → content_pages pair + 4 ≤ most_taken version
content_taken version pair allowed = by_far (is_far pair) refl
  where
    some : (v : Version) → 4 ≤ most_taken v
    some V1 = omega arith
    some V2 = omega arith

    long : (v : Version) → IsAllowed v pair → is_far pair ≡ true
        → pages_long (length pair.1) + 4 ≤ most_taken v
    long V1 small far =
        absurd (omega (arith, leb-true _ 2026 small, ltb-true 2026 _ far))
    long V2 small far = omega (arith, near_if V2 pair small far)

    by_far : (b : Bool) → is_far pair ≡ b → content_pages pair + 4 ≤ most_taken version
    by_far false near = omega (arith, no_content pair near, some version)
    by_far true far = omega (
      arith,
      ap (λ (b : Bool). cond b (pages_long (length pair.1)) 0) far,
      long version allowed far,
    )

-- a device that lacks room for them is short of what a database of the bounds needs
pub short_early : (bounds : Bounds) (capacity end content old pairs : ℕ) → 1 ≤ bounds.limit
    → content + 4 ≤ most_taken bounds.version → capacity ≤ end + content → 1 ≤ end
    → end ≤ home bounds → end ≤ old + pairs + most_taken bounds.version
    → (capacity < 2 * home bounds) × (capacity < 2 * (old + pairs + most_taken bounds.version))
short_early bounds capacity end content old pairs some taken full positive bounded few =
    by_version bounds.version taken bounded few
  where
    by_version : (version : Version) → content + 4 ≤ most_taken version
        → end ≤ home (record { limit = bounds.limit; version = version })
        → end ≤ old + pairs + most_taken version
        → (capacity < 2 * home (record { limit = bounds.limit; version = version }))
        × (capacity < 2 * (old + pairs + most_taken version))
    by_version V1 taken bounded few = (
      omega (arith, taken, full, bounded, positive),
      omega (arith, taken, full, few, positive),
    )
    by_version V2 taken bounded few = (
      omega (arith, taken, full, bounded, some),
      omega (arith, taken, full, few),
    )

-- of a pair that is far, or that replaces another in version 2
pub may_need : (version : Version) (was_there : Bool) (pair : Pair) (reserved : ℕ) → 5 ≤ reserved
    → reserved ≤ 2 + content_pages pair + removal_pages version was_there
    → (is_far pair ≡ true) ⊎ ((was_there ≡ true) × (version ≡ V2))
may_need version was_there pair reserved five few = by_far (is_far pair) refl
  where
    by_version : (version : Version) (was_there : Bool) → content_pages pair ≡ 0
        → reserved ≤ 2 + content_pages pair + removal_pages version was_there
        → (is_far pair ≡ true) ⊎ ((was_there ≡ true) × (version ≡ V2))
    by_version V2 true none few = inr (refl, refl)
    by_version V1 true none few = absurd (omega (arith, none, few, five))
    by_version V2 false none few = absurd (omega (arith, none, few, five))
    by_version V1 false none few = absurd (omega (arith, none, few, five))

    by_far : (far : Bool) → is_far pair ≡ far
        → (is_far pair ≡ true) ⊎ ((was_there ≡ true) × (version ≡ V2))
    by_far true far = inl far
    by_far false near = by_version version was_there (no_content pair near) few

-- of two contents one of which is far
pub needs : {Split : Type 0} (pair : Pair) (held : Bool)
    → (is_far pair ≡ false → held ≡ false → Split)
    → Split ⊎ ((is_far pair ≡ true) ⊎ (held ≡ true))
needs {Split} pair held else = by_far (is_far pair) refl held refl
  where
    by_far : (far : Bool) → is_far pair ≡ far → (kept : Bool) → held ≡ kept
        → Split ⊎ ((is_far pair ≡ true) ⊎ (held ≡ true))
    by_far true far kept is = inr (inl far)
    by_far false near true is = inr (inr is)
    by_far false near false is = inl (else near is)
