use Rattle.std.proofs.Common.{refl}
use Rattle.std.specs.Int.{reverse_bits_onto}
use Rattle.dbm_model.specs.KeyOrder.{hash_of}
use Rattle.dbm_model.proofs.call_laws.keys_of_one_hash_are_ordered.Goals as goal

pub returns : goal.returns
unfolding hash_of reverse_bits_onto
returns c = record {
  one_hash = refl;
  by_bytes = refl;
  not_back = λ back. absurd (let x = back in cc);
}
