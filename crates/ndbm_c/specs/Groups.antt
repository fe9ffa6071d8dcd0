-- Pairs that C stores in one commit, and what it has brought to its place.
use Rattle.std.specs.Prelude.{◌≡◌, ◌/◌, ℕ, ℤ, pos, true, []}
use Rattle.dbm_model.specs.Pairs.{Pair}
use Rattle.dbm_file.specs.Database.{page_state, AtEachHandle}
use Rattle.dbm_file.specs.Passing.{pass_of}
use Rattle.dbm_file.specs.Syncing.{StandsStill}
use Rattle.redo_area.specs.File.{IsAtRest}
use Rattle.dbm_file.specs.Opened.{device_below}
use Rattle.listed_dev.specs.contracts.listed_dev.ListedDevSectorDev.TheImpl.{ghosts as served}
use Rattle.ndbm_calls.specs.Groups.{pairs_in, IsAdded, IsGroupTold}
use Rattle.ndbm_calls.specs.Statuses.{IsDone}
use Rattle.ndbm_c.specs.declared.handle.Opened.{Opened}

-- the pair is kept behind the others, or there was no memory for it
pub record Adds (pair : Pair) (status : ℤ) (old new : Opened) : Type 0 where
  pub added : IsAdded (pairs_in old.group) (pairs_in new.group) pair status
  pub same : new.db ≡ old.db

-- so many of the pairs that were kept are stored, and none is kept any more
pub record StoresAdded (status : ℤ) (stored : ℕ) (old new : Opened) : Type 0 where
  pub step : AtEachHandle old.db
      (λ h. IsGroupTold old.db new.db h (pairs_in old.group) status stored)
  pub ends : IsDone old.db new.db status
  pub pass : pass_of new.db ≡ pass_of old.db
  pub forgotten : pairs_in new.group ≡ []

-- the pairs stay, and their pages are in their places
pub record Syncs (status : ℤ) (old new : Opened) : Type 0 where
  pub home : status ≡ pos 0 → (page_state old.db).writable ≡ true
      → IsAtRest (served.sectors (device_below new.db) / 4) (page_state new.db).end
      (served.candidate (device_below new.db)) (served.seen (device_below new.db))
  pub stays : AtEachHandle old.db (StandsStill old.db new.db)
  pub ends : IsDone old.db new.db status
  pub pass : pass_of new.db ≡ pass_of old.db
  pub group : new.group ≡ old.group
