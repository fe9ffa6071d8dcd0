use Rattle.std.proofs.Common.{◌∙◌, sym, arith, rules}
use Rattle.linear_hash.proofs.staging.take_out.Goals as goal

-- the key was there
pub returns-then-branch-clause-taken_out : goal.returns-then-branch-clause-taken_out
returns-then-branch-clause-taken_out g c honest =
    c.in_ok-remove.ensures.taken_out honest c.if-branch.true

pub returns-else-branch-clause-taken_out : goal.returns-else-branch-clause-taken_out
returns-else-branch-clause-taken_out g c = search rules

-- it was not, which a chain with the key is not told of
pub returns-else-branch-clause-whole : goal.returns-else-branch-clause-whole
returns-else-branch-clause-whole g c honest chain free placed once damaged =
    let gone = c.in_ok-remove.ensures.exact honest chain free placed (omega (arith, once)) in
    let there = gone.was.1 (omega (arith, once)) in
    let both = sym there ∙ c.if-branch.false in
    cc
