-- A file that the next commit may follow.
use Rattle.std.specs.Prelude.{◌≡◌, ◌≤◌, ℕ, true}
use Rattle.page_io.specs.Store.{are_in_order, bytes_of}
use Rattle.redo_area.specs.declared.resuming.ReadyFile.{ReadyFile}
use Rattle.redo_area.specs.Arming.{IsPlaced}

-- it fits a device of so many pages, and so do the pages that wait and the area that holds them
pub record IsReady (capacity : ℕ) (file : ReadyFile) : Type 0 where
  pub least : 4 ≤ file.end
  pub fits : file.end ≤ capacity
  pub placed : IsPlaced capacity file.end file.area
  pub rising : are_in_order 1 file.end (bytes_of file.waiting.items) ≡ true
