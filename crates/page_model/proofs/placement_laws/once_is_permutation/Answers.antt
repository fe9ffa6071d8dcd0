use Rattle.page_model.proofs.Permutations.{once_permutation}
use Rattle.page_model.proofs.placement_laws.once_is_permutation.Goals as goal

pub returns : goal.returns
returns _ = once_permutation
