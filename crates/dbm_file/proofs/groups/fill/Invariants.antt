use Rattle.std.proofs.Common.{map, take}
use Rattle.dbm_file.specs.Answers.{IsSameDatabase}
use Rattle.dbm_file.specs.GroupsInMemory.{StoresMany}
use Rattle.dbm_file.specs.Pairs.{pair_of}
use Rattle.dbm_file.proofs.groups.fill.Given as goal

abbrev pub invariant-loop-count : goal.invariant-loop-count
invariant-loop-count g l = record {
  goes : IsSameDatabase l.initial.group l.group;
  stored : StoresMany l.initial.group l.group (map pair_of (take l.count l.pairs));
}
