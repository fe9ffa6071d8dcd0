use Rattle.std.proofs.Common.{rules}
use Rattle.file_opening.proofs.open_how.Access.is_writable.Goals as goal

pub returns-in-ReadOnly : goal.returns-in-ReadOnly
returns-in-ReadOnly c = search rules
