use Rattle.std.proofs.Common.{rules}
use Rattle.file_check.proofs.sizes.most_pages.Goals as goal

pub returns : goal.returns
returns c = search rules
