use Rattle.std.proofs.Common.{◌≡◌, ◌≤◌, ◌-◌, ◌^◌, ℕ, false, Contains}
use Rattle.std.specs.Global.{Box}
use Rattle.page_io.specs.Store.{has_page}
use Rattle.page_cache.specs.Stores.{kept_copies}
use Rattle.page_cache.specs.declared.page_copy.PageCopy.{PageCopy}
use Rattle.page_cache.proofs.cached_pages.CachedPages.forget_staged.Given as goal

abbrev pub invariant-loop-n : goal.invariant-loop-n
invariant-loop-n g l = record {
  store : l.self.store ≡ l.fn.self.store;
  none : (n : ℕ) (copy : Box PageCopy) → Contains (kept_copies l.self) (n, copy) → 1 ≤ n
      → n ≤ l.from → has_page (g.S.PageStore.state l.fn.self.store).staged n ≡ false;
}

-- the numbers of the staged pages rise
abbrev pub decreases-loop-n : goal.decreases-loop-n
decreases-loop-n g l = 2 ^ 32 - l.from
