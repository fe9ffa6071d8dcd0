use Rattle.std.proofs.Common.{ℕ, IfOk, subst}
use Rattle.page_model.specs.Pages.{Body}
use Rattle.page_io.proofs.Views.{same_said}
use Rattle.bucket_chain.specs.Bests.{pass_from}
use Rattle.bucket_chain.specs.Leasts.{IsLeastRead}
use Rattle.bucket_chain.proofs.ReadPages.{still_honest, head_after, chain_after}
use Rattle.bucket_chain.proofs.LeastWalks.{head_is_read, head_is_least}
use Rattle.bucket_chain.proofs.leasts.least_behind.Goals as goal

pub returns-then-next-eq0-clause-walked : goal.returns-then-next-eq0-clause-walked
returns-then-next-eq0-clause-walked g c honest =
    rw (c.slot_in.ensures, ← c.ranked_last-last.ensures)
    (head_is_read _ _ _ _ _ _ _ _ c.least_in-best.ensures.least c.in_ok-next.ensures.known.0
    (c.in_ok-next.ensures.says honest) c.if-next-eq0.true)

pub returns-then-next-eq0-clause-exact : goal.returns-then-next-eq0-clause-exact
returns-then-next-eq0-clause-exact g c honest chain is =
    rw (c.slot_in.ensures, ← c.ranked_last-last.ensures)
    (head_is_least _ _ _ _ _ _ _ _ c.least_in-best.ensures.least c.in_ok-next.ensures.known.0
    (c.in_ok-next.ensures.says honest) c.if-next-eq0.true _ chain is)

pub returns-clause-ahead : goal.returns-clause-ahead
returns-clause-ahead g c =
    rw (← c.ranked_last-last.ensures)
    (c.least_with_overflow.ensures.ahead _ c.least_in-best.ensures.least)

pub returns-clause-walked : goal.returns-clause-walked
returns-clause-walked g c honest =
    let reads = c.in_ok-next.ensures.reads.only in
    let read = head_after _ g.S.PageStore _ _ reads honest _ _ _ (c.in_ok-next.ensures.says honest)
    c.in_ok-next.ensures.known.0 c.if-next-eq0.false in
    rw (← c.ranked_last-last.ensures)
    (subst (λ (at : ℕ → Body). IfOk c.least_with_overflow.result (λ found.
    IsLeastRead at c.args.head (pass_from c.ranked_last-last.result)
    c.least_with_overflow.new.ranked found)) (same_said g.S.PageStore _ _ reads honest)
    (c.least_with_overflow.ensures.walked _ _ (still_honest g.S.PageStore _ _ reads honest) read
    c.least_in-best.ensures.least))

pub returns-clause-exact : goal.returns-clause-exact
returns-clause-exact g c honest chain is =
    let reads = c.in_ok-next.ensures.reads.only in
    let read = head_after _ g.S.PageStore _ _ reads honest _ _ _ (c.in_ok-next.ensures.says honest)
    c.in_ok-next.ensures.known.0 c.if-next-eq0.false in
    rw (← c.ranked_last-last.ensures)
    (c.least_with_overflow.ensures.exact _ _ read c.least_in-best.ensures.least
    (still_honest g.S.PageStore _ _ reads honest) chain
    (chain_after _ g.S.PageStore _ _ reads honest _ chain is))

pub returns-clause-whole : goal.returns-clause-whole
returns-clause-whole g c honest chain is =
    let reads = c.in_ok-next.ensures.reads.only in
    let read = head_after _ g.S.PageStore _ _ reads honest _ _ _ (c.in_ok-next.ensures.says honest)
    c.in_ok-next.ensures.known.0 c.if-next-eq0.false in
    c.least_with_overflow.ensures.whole _ _ read c.least_in-best.ensures.least
    (still_honest g.S.PageStore _ _ reads honest) chain
    (chain_after _ g.S.PageStore _ _ reads honest _ chain is)
