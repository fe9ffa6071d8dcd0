use Rattle.std.proofs.Common.{refl}
use Rattle.page_io.proofs.Slices.{none_between, clear_more}
use Rattle.page_io.proofs.page.Page.is_clear.Goals as goal

pub loop-k-init : goal.loop-k-init
loop-k-init c = (λ _ k ge lt. absurd (none_between c.args.from k ge lt), λ _. refl)

pub loop-k-preserved : goal.loop-k-preserved
loop-k-preserved c =
    clear_more c.args.self.now.bytes c.args.from c.loop-k.k c.loop-k.any c.loop-k.auto.k
    c.loop-k.invariant
