use Rattle.std.proofs.Common.{◌∙◌, ap}
use Rattle.page_io.specs.Store.{has_page}
use Rattle.page_cache.proofs.CurrentCopies.{all_unstaged}
use Rattle.page_cache.specs.Stores.{kept_copies}
use Rattle.page_cache.proofs.cached_pages.CachedPagesPageStore.unstage.Goals as goal

pub invariant_of-self : goal.invariant_of-self
invariant_of-self g c =
    let mid = c.forget_staged.new.self in
    let done = c.unstage.ensures in
    record {
      are_current = all_unstaged g.S.PageStore mid.store c.unstage.new.self done.honesty.0
          (kept_copies mid) mid.are_current
          (λ k copy has ge. ap (λ store. has_page (g.S.PageStore.state store).staged k)
          c.forget_staged.ensures.store ∙ c.forget_staged.ensures.unstaged k copy has ge)
          done.state done.kept;
    }
