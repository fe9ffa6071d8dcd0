use Rattle.std.proofs.Common.{◌≤◌, length, map, take}
use Rattle.dbm_file.specs.Answers.{IsSameDatabase}
use Rattle.dbm_engines.specs.Storing.{StoresAll, pair_of}
use Rattle.dbm_engines.proofs.storing.store_pairs.Given as goal

abbrev pub invariant-loop-round : goal.invariant-loop-round
invariant-loop-round g l = record {
  stores : StoresAll l.initial.db l.db (take l.done (map pair_of l.pairs));
  goes : IsSameDatabase l.initial.db l.db;
  within : l.done ≤ length l.pairs;
  rounds : l._round ≤ l.done;
}
