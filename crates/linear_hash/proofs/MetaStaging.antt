-- The meta page is staged last.
use Rattle.std.proofs.Common.{◌≡◌, ℕ, ◌<◌, ◌≤◌, Bool, true, false, cond, eqb, ltb, List, [], ◌∷◌, length, ap, arith}
use Rattle.page_io.specs.Page.{own_number}
use Rattle.page_io.specs.Store.{Pages, StoreState, put_page}
use Rattle.page_io.specs.Views.{MayEnd}
use Rattle.free_pages.proofs.OneStage.{may_still_end}
use Rattle.page_io.specs.Committing.{MayCommit}

put_some : (pages : Pages) (new : List ℕ) → 0 < length (put_page pages new)
put_some [] new = omega arith
put_some (page ∷ pages) new =
    by_tests (ltb (own_number new) (own_number page)) (eqb (own_number new) (own_number page))
  where
    by_tests : (less same : Bool)
        → 0 < length (cond less (new ∷ page ∷ pages)
        (cond same (new ∷ pages) (page ∷ put_page pages new)))
    by_tests true same = omega arith
    by_tests false true = omega arith
    by_tests false false = omega arith

-- where the file could end without it, it can be committed with it
pub can_commit : (old new : StoreState) (end : ℕ) (bytes : List ℕ) → 4 ≤ old.end
    → own_number bytes ≡ 1 → new ≡ record old { staged = put_page old.staged bytes }
    → MayEnd old end → MayCommit new end
can_commit old new end bytes least own put may =
    let then = may_still_end old new end bytes may (omega (arith, own, least, may.least))
    put in record {
      below = then.below;
      grown = then.grown;
      some = omega (
        arith,
        put_some old.staged bytes,
        ap (λ (st : StoreState). length st.staged) put,
      );
      least = omega (arith, least, may.least);
    }
