-- How many pages are staged after one page more.
use Rattle.std.proofs.Common.{◌≡◌, ℕ, ◌+◌, ◌≤◌, length, ap, arith}
use Rattle.page_io.specs.Store.{StoreState}

pub few_next : (old mid : StoreState) (step new : ℕ)
    → length mid.staged ≤ length old.staged + step → new ≤ length mid.staged + 1
    → new ≤ length old.staged + (step + 1)
few_next old mid step new few more = omega (arith, few, more)

-- with a read between
pub few_more : (old mid read : StoreState) (step new : ℕ)
    → length mid.staged ≤ length old.staged + step → read ≡ mid → new ≤ length read.staged + 1
    → new ≤ length old.staged + (step + 1)
few_more old mid read step new few same more =
    omega (arith, few, more, ap (λ (s : StoreState). length s.staged) same)
