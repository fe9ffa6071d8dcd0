-- What a file is bound by: how many pairs there may be, and the version of its format.
use Rattle.std.specs.Prelude.{ℕ}

pub data Version : Type 0 where
  V1 : Version
  -- contents of up to 65,535 bytes
  V2 : Version

-- the number by which a version is told
abbrev pub version_number : Version → ℕ
version_number V1 = 1
version_number V2 = 2

pub record Bounds : Type 0 where
  -- how many pairs there may be
  pub limit : ℕ
  pub version : Version

abbrev pub in_v1 : ℕ → Bounds
in_v1 limit = record { limit = limit; version = V1 }

abbrev pub in_v2 : ℕ → Bounds
in_v2 limit = record { limit = limit; version = V2 }

-- the same limit in version 2
abbrev pub upgraded : Bounds → Bounds
upgraded bounds = record bounds { version = V2 }
