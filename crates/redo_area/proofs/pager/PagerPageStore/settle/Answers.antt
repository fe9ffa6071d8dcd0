use Rattle.std.proofs.Common.{rules}
use Rattle.redo_area.proofs.pager.PagerPageStore.settle.Goals as goal

pub returns-then-not-self-clause-answer : goal.returns-then-not-self-clause-answer
returns-then-not-self-clause-answer g c = search rules

pub returns-then-not-self-clause-home : goal.returns-then-not-self-clause-home
returns-then-not-self-clause-home g c = search rules

pub returns-then-not-self-2-clause-committed : goal.returns-then-not-self-2-clause-committed
returns-then-not-self-2-clause-committed g c = search rules

pub returns-then-not-self-2-clause-untouched : goal.returns-then-not-self-2-clause-untouched
returns-then-not-self-2-clause-untouched g c = search rules

pub invariant_of-self : goal.invariant_of-self
invariant_of-self g c = search rules
