-- What a stage leaves, for the tests.
use Rattle.std.proofs.Common.{◌≡◌, ℕ, ◌<◌, List, [], ◌∷◌, length, true, Result, Ok, Err, OnOk, OnErr, refl, sym, subst, arith}
use Rattle.std.proofs.lemmas.Bool.{false≢true}
use Rattle.page_io.specs.Page.{own_number}
use Rattle.page_io.specs.Store.{Pages, StoreState, put_page, has_page, AllBelow}
use Rattle.page_io.proofs.StagedPages.{AllBelow-put, has_page-put}

-- a bound on the staged numbers stays
pub staged_below : {T E : Type 0} (r : Result T E) (old new : StoreState) (bytes : List ℕ) (end : ℕ)
    → OnOk r (new ≡ record old { staged = put_page old.staged bytes }) → OnErr r (new ≡ old)
    → own_number bytes < end → AllBelow end old.staged → AllBelow end new.staged
staged_below (Ok x) old new bytes end put same lt below =
    subst (λ (st : StoreState). AllBelow end st.staged) (sym put)
    (AllBelow-put end old.staged bytes below lt)
staged_below (Err e) old new bytes end put same lt below =
    subst (λ (st : StoreState). AllBelow end st.staged) (sym same) below

-- a page is staged then
pub some_staged : {T E : Type 0} (r : Result T E) (old new : StoreState) (bytes : List ℕ)
    → OnOk r (new ≡ record old { staged = put_page old.staged bytes })
    → OnOk r (0 < length new.staged)
some_staged (Ok x) old new bytes put =
    subst (λ (st : StoreState). 0 < length st.staged) (sym put)
    (not_empty (put_page old.staged bytes) (has_page-put old.staged bytes (own_number bytes) refl))
  where
    not_empty : (pages : Pages) → has_page pages (own_number bytes) ≡ true → 0 < length pages
    not_empty [] has = absurd (false≢true has)
    not_empty (page ∷ pages) has = omega arith
some_staged (Err e) old new bytes put = tt
