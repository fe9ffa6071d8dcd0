-- What a commit starts from.
use Rattle.std.specs.Prelude.{◌≡◌, ◌⊎◌, ◌<◌, ◌≤◌, ◌+◌, ◌/◌, ℕ, List, length, true, Some}
use Rattle.sect_dev.specs.declared.device.SectorDev.{Ghosts}
use Rattle.page_io.specs.Store.{Pages, are_in_order, bytes_of}
use Rattle.page_io.specs.declared.page.Page.{Page}
use Rattle.redo_area.specs.declared.area.LogPlace.{LogPlace}
use Rattle.redo_area.specs.declared.area.RedoArea.{RedoArea}
use Rattle.redo_area.specs.Settling.{MayWait, HasLogRoom}

-- A commit has some pages, in order and below its end, which is at least 4.
pub record IsCommit (end : ℕ) (pages : List Page) : Type 0 where
  pub some : 0 < length pages
  pub least : 4 ≤ end
  pub in_order : are_in_order 1 end (bytes_of pages) ≡ true

-- The redo area is behind the end of the file, and a log in it fits the device.
pub record IsPlaced (capacity end : ℕ) (area : RedoArea) : Type 0 where
  pub behind : end ≤ area.start
  pub within : area.start ≤ capacity
  pub log : (log : LogPlace) → area.log ≡ Some log → HasLogRoom capacity area.start log

-- Pages of the last commit, of a file with this end, may wait on a device: they are in order, and
-- the redo area holds them.
pub record IsWaiting {D : Type 0} (dev : Ghosts D) (now : D) (end : ℕ) (area : RedoArea)
    (waiting : Pages) : Type 0 where
  pub waits : dev.honest now
      → MayWait (dev.sectors now / 4) end area waiting (dev.candidate now) (dev.seen now)
  pub least : 4 ≤ end
  pub placed : IsPlaced (dev.sectors now / 4) end area
  pub rising : are_in_order 1 end waiting ≡ true

-- From page `place`, which is `least` or behind it, `count` pages fit, and they meet none of the
-- `held` pages from page `start` on.
pub record HasRoomAt (least count start held capacity place : ℕ) : Type 0 where
  pub behind : least ≤ place
  pub room : place + count ≤ capacity
  pub apart : (place + count ≤ start) ⊎ (start + held ≤ place)

-- Some page waits, and there is room beside those that hold it.
pub record IsBeside (least count start held capacity place : ℕ) : Type 0 where
  pub some : 0 < held
  pub fits : HasRoomAt least count start held capacity place
