-- A mark of a key, from 0 to 255.
use Rattle.std.specs.Prelude.{ℕ, ◌+◌, ◌-◌, ◌*◌, ◌/◌, ◌%◌, List, length}
use Rattle.page_model.specs.Bytes.{u32_at}

-- taken from its first four bytes, four a quarter of the way on, and its last four
unfoldable pub mark_of : List ℕ → ℕ
mark_of key = let last = length key - 4 in
    (u32_at key 0 * 625341585 + u32_at key (last / 4) * 461845907 + u32_at key last * 1013904223)
    / 16777216 % 256
