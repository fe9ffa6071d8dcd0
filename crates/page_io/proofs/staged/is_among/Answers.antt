use Rattle.page_io.proofs.Places.{found_at}
use Rattle.page_io.proofs.staged.is_among.Goals as goal

pub returns : goal.returns
returns c = found_at c.args.staged.now c.place_of.result c.args.n c.is_at.result
    c.place_of.ensures c.is_at.ensures c.requires.order
