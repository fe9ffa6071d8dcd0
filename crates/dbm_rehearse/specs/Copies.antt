-- A file's bytes by sectors.
use Rattle.std.specs.Prelude.{ℕ, ◌*◌, ◌-◌, List, ◌++◌, take, drop, length, replicate}

-- the 512 bytes from byte 512 n on, with zeros in the place of those that there are none of
abbrev pub sector_in : List ℕ → ℕ → List ℕ
sector_in bytes n =
    take 512 (drop (n * 512) bytes) ++ replicate (512 - length (drop (n * 512) bytes)) 0
