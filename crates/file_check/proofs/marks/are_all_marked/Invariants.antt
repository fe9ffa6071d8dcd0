use Rattle.std.proofs.Common.{◌≡◌, ◌<◌, ◌≤◌, ℕ, true, false, slice_index_or}
use Rattle.file_check.proofs.marks.are_all_marked.Given as goal

abbrev pub invariant-loop-n : goal.invariant-loop-n
invariant-loop-n l = record {
  marked : (k : ℕ) → 1 ≤ k → k < l.n → slice_index_or l.marks k false ≡ true;
}
