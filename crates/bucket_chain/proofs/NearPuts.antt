-- A near pair is put with no page for its content.
use Rattle.std.proofs.Common.{◌≡◌, ℕ, ◌+◌, ◌≤◌, Bool, true, false, cond, [], length, refl, sym, ap, subst, arith}
use Rattle.std.proofs.lemmas.Bool.{ltb-true}
use Rattle.dbm_model.specs.Pairs.{Pair, is_far}
use Rattle.page_model.specs.Pages.{Body}
use Rattle.page_model.specs.Chain.{record_with, pages_long, content_pages}
use Rattle.free_pages.specs.declared.free_state.FreeState.{FreeState}
use Rattle.content_pages.specs.Contents.{IsContentPut}
use Rattle.bucket_chain.specs.AnyFile.{IsAdded, IsPut}

pub not_far : (pair : Pair) → length pair.0 + length pair.1 ≤ 2026 → is_far pair ≡ false
not_far pair few = by_far (is_far pair) refl
  where
    by_far : (b : Bool) → is_far pair ≡ b → is_far pair ≡ false
    by_far true far = absurd (omega (
      arith,
      few,
      ltb-true 2026
          (length pair.0 + length pair.1) far,
    ))
    by_far false near = near

-- its content has no page
pub near_count : (pair : Pair) → is_far pair ≡ false → content_pages pair ≡ 0
near_count pair near = ap (λ (b : Bool). cond b (pages_long (length pair.1)) 0) near

pub near_put : (old new : ℕ → Body) (Ends : Type 0) (before after : FreeState) (head : ℕ)
    (pair : Pair) → is_far pair ≡ false
    → IsAdded old new Ends before after head (record_with pair [])
    → IsPut old new Ends before after head pair
near_put old new Ends before after head pair near added = record {
  pages = [];
  mid = old;
  between = before;
  content = subst (IsContentPut old old before before [])
      (sym (ap (λ (b : Bool). cond b pair.1 []) near)) record {
        taken = refl;
        distinct = λ i j d lt le. absurd (omega (arith, lt, le));
        numbered = tt;
        paged = omega arith;
        written = record { are_read = tt; others = λ n none. refl };
      };
  added = added;
}
