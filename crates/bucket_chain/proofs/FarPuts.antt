-- A far pair is put with pages for its content.
use Rattle.std.proofs.Common.{◌≡◌, ℕ, ◌+◌, ◌<◌, ◌≤◌, Bool, true, false, cond, Some, List, [], ◌∷◌, length, refl, sym, ap, subst, arith}
use Rattle.std.proofs.lemmas.Bool.{ltb-true, ltb-false}
use Rattle.dbm_model.specs.Bounds.{Version}
use Rattle.dbm_model.specs.Pairs.{Pair, is_far, IsAllowed}
use Rattle.page_model.specs.Bytes.{u32_bytes}
use Rattle.page_model.specs.Pages.{Body, Record}
use Rattle.page_model.specs.Chain.{record_with, pages_long, content_pages}
use Rattle.page_model.specs.PageBodies.{first_of}
use Rattle.page_model.proofs.Chains.{near_if}
use Rattle.free_pages.specs.declared.free_state.FreeState.{FreeState}
use Rattle.content_pages.specs.Contents.{IsContentPut}
use Rattle.bucket_chain.specs.AnyFile.{IsAdded, IsPut}
use Rattle.bucket_chain.proofs.Added.{added_under}

pub is_long : (pair : Pair) → 2026 < length pair.0 + length pair.1 → is_far pair ≡ true
is_long pair more = by_far (is_far pair) refl
  where
    by_far : (b : Bool) → is_far pair ≡ b → is_far pair ≡ true
    by_far true far = far
    by_far false near =
        absurd (omega (arith, more, ltb-false 2026 (length pair.0 + length pair.1) near))

-- its content has so many pages, and one at least
pub far_count : (pair : Pair) → is_far pair ≡ true → content_pages pair
    ≡ pages_long (length pair.1)
far_count pair far = ap (λ (b : Bool). cond b (pages_long (length pair.1)) 0) far

pub far_some : (version : Version) (pair : Pair) → IsAllowed version pair → is_far pair ≡ true
    → 1 ≤ length pair.1
far_some version pair allowed far = omega (
  arith,
  (near_if version pair allowed far).0,
  ltb-true 2026 (length pair.0 + length pair.1) far,
)

-- the record of a content that begins in this page
abbrev pub far_record : Pair → ℕ → Record
far_record pair first =
    record { key = pair.0; bytes = u32_bytes first; far = Some (length pair.1) }

pub record_is : (pair : Pair) (pages : List ℕ) (first : ℕ) → 1 ≤ length pages
    → first ≡ first_of pages → record_with pair pages ≡ far_record pair first
record_is pair [] first some begins = absurd (omega (arith, some))
record_is pair (n ∷ rest) first some begins = ap (far_record pair) (sym begins)

pub far_put : (old mid new : ℕ → Body) (Ends Then : Type 0) (before between after : FreeState)
    (head : ℕ) (pair : Pair) (r : Record) (pages : List ℕ) → is_far pair ≡ true
    → IsContentPut old mid before between pages pair.1
    → (1 ≤ length pages → record_with pair pages ≡ r) → 1 ≤ length pair.1 → (Ends → Then)
    → IsAdded mid new Then between after head r → IsPut old new Ends before after head pair
far_put old mid new Ends Then before between after head pair r pages far put is some then added =
    record {
      pages = pages;
      mid = mid;
      between = between;
      content = subst (IsContentPut old mid before between pages)
          (sym (ap (λ (b : Bool). cond b pair.1 []) far)) put;
      added = subst (IsAdded mid new Ends between after head)
          (sym (is (omega (arith, put.paged, some))))
          (added_under Then Ends then mid new between after head r added);
    }
