use Rattle.std.proofs.Common.{◌≡◌, take}
use Rattle.bucket_chain.specs.KeyRanks.{key_ranks}
use Rattle.bucket_chain.proofs.ranked_page.take_ranks.Given as goal

abbrev pub invariant-loop-slot : goal.invariant-loop-slot
invariant-loop-slot l = l.ranks.items ≡ take l.slot (key_ranks l.page.bytes)
