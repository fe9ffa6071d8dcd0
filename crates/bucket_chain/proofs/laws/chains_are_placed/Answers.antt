use Rattle.bucket_chain.proofs.PlacedChains.{chains_placed}
use Rattle.bucket_chain.proofs.laws.chains_are_placed.Goals as goal

pub returns : goal.returns
returns _ = chains_placed
