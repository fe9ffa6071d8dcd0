use Rattle.bucket_chain.proofs.PlacedChains.{entries_placements}
use Rattle.bucket_chain.proofs.laws.entries_are_placements.Goals as goal

pub returns : goal.returns
returns _ = entries_placements
