-- The sectors of pages in a row.
use Rattle.std.specs.Prelude.{ℕ, ◌/◌, ◌%◌, List, [], slice_index_or}
use Rattle.sect_dev.specs.Device.{part_of}
use Rattle.page_io.specs.Store.{Pages}

-- sector k of these pages, four a page
abbrev pub sector_at : Pages → ℕ → List ℕ
sector_at pages k = part_of (slice_index_or pages (k / 4) []) (k % 4)
