-- A store in memory.
use Rattle.std.specs.Prelude.{◌≡◌}
use Rattle.page_io.specs.Store.{Pages, Settled, file_of}

-- the one outcome
abbrev pub OnlySettled : Pages → Settled → Type 0
OnlySettled pages settled = settled ≡ file_of pages
