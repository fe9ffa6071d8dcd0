use Rattle.std.proofs.Common.{◌≡◌, ◌++◌, ℕ, List, length, take}
use Rattle.file_check.specs.Marks.{AreMarked}
use Rattle.file_check.proofs.ToldFlaws.{Keeps}
use Rattle.file_check.proofs.marking.mark_all.Given as goal

abbrev pub invariant-loop-n : goal.invariant-loop-n
invariant-loop-n g l = record {
  many : length l.marks ≡ length l.fn.marks;
  told : Keeps (g.W.Watch.has_told l.fn.watch) (g.W.Watch.has_told l.watch);
  marked : (seen : List ℕ) → AreMarked l.fn.marks l.fn.end seen
      → AreMarked l.marks l.fn.end (seen ++ take l.n-index l.fn.pages);
}
