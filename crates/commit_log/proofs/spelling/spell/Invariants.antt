use Rattle.std.proofs.Common.{◌≡◌, ◌<◌, ◌≤◌, ◌+◌, ◌*◌, ℕ, length}
use Rattle.sect_dev.specs.Device.{part_of}
use Rattle.page_model.specs.Bytes.{u32_bytes, overwrite}
use Rattle.page_io.specs.Store.{bytes_of}
use Rattle.commit_log.specs.Pieces.{sector_at}
use Rattle.commit_log.proofs.spelling.spell.Given as goal

abbrev pub invariant-loop-k : goal.invariant-loop-k
invariant-loop-k l = record {
  long : length l.bytes ≡ 31232;
  first_is : part_of l.bytes 0 ≡ part_of l.initial.bytes 0;
  written : (j : ℕ) → j < l.k → part_of l.bytes (1 + j)
      ≡ overwrite (sector_at (bytes_of l.pages) j) 0 (u32_bytes l.number);
  behind : (j : ℕ) → j < 61 → 1 + 4 * length l.pages ≤ j
      → part_of l.bytes j ≡ part_of l.initial.bytes j;
}
