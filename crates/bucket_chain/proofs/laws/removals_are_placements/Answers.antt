use Rattle.bucket_chain.proofs.PlacedChains.{removals_placements}
use Rattle.bucket_chain.proofs.laws.removals_are_placements.Goals as goal

pub returns : goal.returns
returns _ = removals_placements
