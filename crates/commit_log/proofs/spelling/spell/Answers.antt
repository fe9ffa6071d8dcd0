use Rattle.std.proofs.Common.{arith, ◌∙◌}
use Rattle.commit_log.proofs.Spellings.{spells}
use Rattle.commit_log.proofs.spelling.spell.Goals as goal

pub returns-clause-spelled : goal.returns-clause-spelled
returns-clause-spelled c =
    let inv = c.loop-k.invariant in
    let first = c.first_of-first.ensures in
    let done = c.loop-k-test.false in
    spells c.args.start c.args.number c.args.end c.args.pages.now c.loop-k.bytes
    c.first_of-first.result.bytes c.requires.some c.requires.few c.requires.first (omega arith)
    c.requires.least c.requires.above c.requires.in_order inv.long
    (inv.first_is ∙ c.put_sector.ensures.put ∙ c.sector_of.ensures) c.first_of-first.result.whole first.number first.count first.end first.words
    (λ k lt. inv.written k (omega (arith, lt, done)))
