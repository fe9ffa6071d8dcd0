-- What one staged page changes of a store's state.
use Rattle.std.proofs.Common.{◌≡◌, ℕ, ◌+◌, ◌<◌, ◌≤◌, ◌^◌, true, List, length, sym, ap, subst, arith}
use Rattle.page_io.specs.Page.{own_number}
use Rattle.page_io.specs.Store.{StoreState, put_page, are_in_order}
use Rattle.page_io.specs.Views.{MayEnd}
use Rattle.page_io.proofs.Views.{length-put, end_stays}

-- at most one more page is staged
pub few_staged : (before after : StoreState) (bytes : List ℕ)
    → are_in_order 1 (2 ^ 32) before.staged ≡ true
    → after ≡ record before { staged = put_page before.staged bytes }
    → length after.staged ≤ length before.staged + 1
few_staged before after bytes order put =
    omega (
      arith,
      ap (λ (st : StoreState). length st.staged) put,
      length-put before.staged bytes order,
    )

-- the file may still end there
pub may_still_end : (before after : StoreState) (end : ℕ) (bytes : List ℕ) → MayEnd before end
    → own_number bytes < end → after ≡ record before { staged = put_page before.staged bytes }
    → MayEnd after end
may_still_end before after end bytes may lt put =
    subst (λ (st : StoreState). MayEnd st end) (sym put) (end_stays before end bytes may lt)
