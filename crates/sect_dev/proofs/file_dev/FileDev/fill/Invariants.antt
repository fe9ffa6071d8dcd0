use Rattle.std.proofs.Common.{◌≡◌, ℕ, ◌+◌, ◌<◌, ◌≤◌, length, slice_index}
use Rattle.sect_dev.specs.FileHistory.{IsHonest, byte_of}
use Rattle.sect_dev.specs.File.{file_history}
use Rattle.sect_dev.proofs.file_dev.FileDev.fill.Given as goal

-- what is filled is the file's
abbrev pub invariant-loop : goal.invariant-loop
invariant-loop l = record {
  long : length l.out ≡ length l.fn.out;
  within : l.filled ≤ length l.fn.out;
  same : IsHonest l.fn.self.file → (j : ℕ) → j < l.filled
      → byte_of ((file_history l.fn.self).seen l.fn.self.changes) (l.fn.at + j)
      ≡ slice_index l.out j;
}
