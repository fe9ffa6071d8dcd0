use Rattle.bucket_chain.proofs.PlacedChains.{puts_placements}
use Rattle.bucket_chain.proofs.laws.puts_are_placements.Goals as goal

pub returns : goal.returns
returns _ = puts_placements
