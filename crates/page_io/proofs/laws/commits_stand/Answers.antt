use Rattle.page_io.proofs.Meanings.{commits}
use Rattle.page_io.proofs.laws.commits_stand.Goals as goal

pub returns : goal.returns
returns _ = commits
