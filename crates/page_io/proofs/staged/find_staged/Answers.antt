use Rattle.std.proofs.Common.{sym, ◌∙◌}
use Rattle.page_io.proofs.Places.{found_at, given_at}
use Rattle.page_io.proofs.Overlays.{overlaid-none}
use Rattle.page_io.proofs.staged.find_staged.Goals as goal

pub returns-then-found-clause-found : goal.returns-then-found-clause-found
returns-then-found-clause-found c =
    found_at c.args.staged.now c.place_of-at.result c.args.n c.is_at-found.result
    c.place_of-at.ensures c.is_at-found.ensures c.requires.order

pub returns-then-found-clause-page : goal.returns-then-found-clause-page
returns-then-found-clause-page c =
    let here = c.is_at-found.ensures.yes c.if-found.true in
    sym (given_at c.args.staged.now (λ _. c.args.page.now.bytes) c.place_of-at.result c.args.n
    c.index-staged-at.result here.0 c.index-staged-at.is here.1 c.requires.order)

pub returns-else-found-clause-found : goal.returns-else-found-clause-found
returns-else-found-clause-found c =
    found_at c.args.staged.now c.place_of-at.result c.args.n c.is_at-found.result
    c.place_of-at.ensures c.is_at-found.ensures c.requires.order

pub returns-else-found-clause-page : goal.returns-else-found-clause-page
returns-else-found-clause-page c =
    sym (overlaid-none _ (λ _. c.args.page.now.bytes) c.args.n
    (sym (returns-else-found-clause-found c) ∙ c.if-found.false))
