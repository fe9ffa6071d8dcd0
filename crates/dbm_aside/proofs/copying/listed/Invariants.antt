use Rattle.std.proofs.Common.{◌≡◌, map}
use Rattle.dbm_engines.specs.Storing.{pair_of}
use Rattle.dbm_aside.proofs.copying.listed.Given as goal

abbrev pub invariant-loop-key : goal.invariant-loop-key
invariant-loop-key l = map pair_of l.listed.items ≡ map (λ pair. (pair.0.items, pair.1.items)) l.yielded
