-- What is said of a file that was read through.
use Rattle.std.specs.Prelude.{◌≡◌, ℕ, true}
use Rattle.std.specs.FinMap.{len}
use Rattle.dbm_model.specs.Bounds.{Bounds}
use Rattle.dbm_model.specs.Pairs.{Contents}
use Rattle.dbm_model.specs.States.{Handle}
use Rattle.page_io.specs.Store.{Pages, Settled}
use Rattle.page_io.specs.Meaning.{FileStandsFor, ImageStandsFor}
use Rattle.page_io.specs.Views.{ReadsOnly}
use Rattle.page_io.specs.declared.store.PageStore.{Ghosts}
use Rattle.dbm_file.specs.Held.{held_by}
use Rattle.dbm_file.specs.Answers.{Survives}
use Rattle.dbm_file.specs.Passing.{pass_of}
use Rattle.dbm_file.specs.Database.{store_of, meta_kept, page_state, error_of, IsAt}
use Rattle.dbm_file.specs.declared.database.Database.{Database}

-- the pages are a good file of so many pairs: they stand for a map that has them
pub record IsFileOf (pages : Pages) (pairs : ℕ) : Type 0 where
  pub map : Contents
  pub bounds : Bounds
  pub stands : FileStandsFor pages map bounds
  pub many : len map ≡ pairs

-- every image that a stop may leave now stands for one map, with so many pairs
pub record StandsWith {S : Type 0} {s : Ghosts S} (db : Database S s) (pairs : ℕ) : Type 0 where
  pub map : Contents
  pub bounds : Bounds
  pub many : len map ≡ pairs
  pub stands : (settled : Settled) → s.settles_to (store_of db) settled
      → ImageStandsFor settled map bounds

-- pages may have been read, and nothing else has changed: neither what is kept of the meta page,
-- nor the first fault, nor the pass
pub record IsReadThrough {S : Type 0} {s : Ghosts S} (old new : Database S s) : Type 0 where
  pub reads : ReadsOnly s (store_of old) (store_of new)
  pub meta : meta_kept new ≡ meta_kept old
  pub error : error_of new ≡ error_of old
  pub pass : pass_of new ≡ pass_of old

-- a database at this handle is at the same one, but that the device may have failed more often, and
-- every image of every moment stands for its map
pub record StaysAt {S : Type 0} {s : Ghosts S} (old new : Database S s) (h : Handle) : Type 0 where
  pub is_at : IsAt new (record h { faults = s.faults (store_of new) })
  pub survives : (page_state old).usable ≡ true → Survives old new (λ left. left ≡ held_by h.state)
