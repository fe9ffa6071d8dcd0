-- Which calls of a device fail on purpose. The next call is call 0.
use Rattle.std.specs.Prelude.{◌==◌, ℕ, Bool, false, Option, Some, None}

-- the one call that fails, if it is still to come
abbrev pub fails_once : Option ℕ → ℕ → Bool
fails_once None i = false
fails_once (Some k) i = i == k
