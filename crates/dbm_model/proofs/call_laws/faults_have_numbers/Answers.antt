use Rattle.std.proofs.Common.{refl}
use Rattle.dbm_model.proofs.NumberLemmas.{numbers_differ, no_fault_is_zero}
use Rattle.dbm_model.proofs.call_laws.faults_have_numbers.Goals as goal

pub returns : goal.returns
returns c = record { in_order = refl; differ = numbers_differ; not_zero = no_fault_is_zero }
