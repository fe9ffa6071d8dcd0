use Rattle.std.proofs.Common.{arith}
use Rattle.dbm_model.proofs.call_laws.fault_counts_rise.Goals as goal

pub returns : goal.returns
returns c = record {
  first = omega arith;
  several = omega arith;
  stayed = λ more. omega (arith, more);
  fell = λ more. omega (arith, more);
  last = omega arith;
  greatest = omega arith;
  below = λ more. omega (arith, more);
}
