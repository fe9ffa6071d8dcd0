-- A pair of the program as one of the definitions.
use Rattle.dbm_model.specs.Pairs as model
use Rattle.dbm_file.specs.declared.pair.Pair.{Pair}

abbrev pub pair_of : Pair → model.Pair
pair_of pair = (pair.key.items, pair.content.items)
