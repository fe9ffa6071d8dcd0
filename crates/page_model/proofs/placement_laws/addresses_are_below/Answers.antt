use Rattle.page_model.proofs.AddressLemmas.{address_below}
use Rattle.page_model.proofs.placement_laws.addresses_are_below.Goals as goal

pub returns : goal.returns
returns _ = address_below
