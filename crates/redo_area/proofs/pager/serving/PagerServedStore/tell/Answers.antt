use Rattle.std.proofs.Common.{◌/◌, ℕ, sym, subst}
use Rattle.redo_area.specs.Arming.{IsPlaced}
use Rattle.redo_area.proofs.StillSettles.{reads_still}
use Rattle.redo_area.proofs.pager.serving.PagerServedStore.tell.Goals as goal

pub invariant_of-self-clause-placed : goal.invariant_of-self-clause-placed
invariant_of-self-clause-placed g c =
    subst (λ (s : ℕ). IsPlaced (s / 4) c.args.self.now.end c.args.self.now.area)
    (sym c.tell.ensures.size) c.args.self.now.placed

pub invariant_of-self-clause-settles : goal.invariant_of-self-clause-settles
invariant_of-self-clause-settles g c =
    reads_still c.args.self.now.settles c.tell.ensures.honesty.0 c.tell.ensures.size
    (λ honest. (c.tell.ensures.reads honest).seen) (λ honest. (c.tell.ensures.reads honest).no_new)
