use Rattle.std.proofs.Common.{◌≡◌, ◌<◌, ◌+◌, ◌*◌, ℕ, length, take, drop}
use Rattle.page_model.specs.Bytes.{u32_at}
use Rattle.page_io.specs.Store.{bytes_of}
use Rattle.commit_log.specs.Pieces.{sector_at}
use Rattle.commit_log.proofs.spelling.first_of.Given as goal

abbrev pub invariant-loop-k : goal.invariant-loop-k
invariant-loop-k l = record {
  number : u32_at l.first.bytes 0 ≡ l.number;
  count : u32_at l.first.bytes 4 ≡ length l.pages;
  end : u32_at l.first.bytes 8 ≡ l.end;
  words : (j : ℕ) → j < l.k
      → take 4 (drop (16 + 4 * j) l.first.bytes) ≡ take 4 (sector_at (bytes_of l.pages) j);
}
