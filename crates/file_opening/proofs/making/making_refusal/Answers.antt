use Rattle.std.proofs.Common.{rules}
use Rattle.file_opening.proofs.making.making_refusal.Goals as goal

pub returns-then-not-how : goal.returns-then-not-how
returns-then-not-how c = search rules

pub returns-then-not-is_writable : goal.returns-then-not-is_writable
returns-then-not-is_writable c = search rules

pub returns : goal.returns
returns c = search rules
