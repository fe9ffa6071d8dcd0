-- What C is told of a database, which stays as it is.
use Rattle.std.specs.Prelude.{◌≡◌, ℕ, ℤ, pos}
use Rattle.dbm_model.specs.Bounds.{version_number}
use Rattle.dbm_model.specs.Calls.{Error, Clear, Number, Damaged}
use Rattle.dbm_model.specs.States.{error_number}
use Rattle.page_model.specs.Valid.{meta_buckets}
use Rattle.dbm_file.specs.Answers.{IsStep}
use Rattle.dbm_file.specs.Database.{store_of, meta_kept, page_state, error_of, AtEachHandle}
use Rattle.dbm_file.specs.Passing.{pass_of}
use Rattle.dbm_file.specs.Verifying.{IsFileOf, IsReadThrough, StaysAt}
use Rattle.dbm_file.specs.declared.database.Database.{Database}
use Rattle.page_io.specs.declared.store.PageStore.{Ghosts}
use Rattle.ndbm_calls.specs.Statuses.{refusal_of}
use Rattle.ndbm_calls.specs.Verdicts.{IsVerdict}
use Rattle.ndbm_c.specs.declared.handle.Opened.{Opened}
use Rattle.ndbm_c.specs.declared.numbers.Numbers.{Numbers}

-- the number of the first fault
pub record TellsError (status : ℤ) (old new : Opened) : Type 0 where
  pub number : status ≡ pos (error_number (error_of old.db))
  pub step : AtEachHandle old.db
      (λ h. IsStep old.db old.db h Error (Number (error_number (error_of old.db))))
  pub same : new ≡ old

-- the first fault is forgotten
pub record Clears (status : ℤ) (old new : Opened) : Type 0 where
  pub zero : status ≡ pos 0
  pub step : AtEachHandle old.db (λ h. IsStep old.db new.db h Clear (Number 0))
  pub still : (store_of new.db ≡ store_of old.db) × (meta_kept new.db ≡ meta_kept old.db)
      × (pass_of new.db ≡ pass_of old.db)
  pub group : new.group ≡ old.group

-- the numbers of the meta page, and of the file
pub record HasNumbers (opened : Opened) (numbers : Numbers) : Type 0 where
  pub pairs : numbers.pairs ≡ (meta_kept opened.db).pairs
  pub limit : numbers.limit ≡ (meta_kept opened.db).bounds.limit
  pub buckets : numbers.buckets ≡ meta_buckets (meta_kept opened.db)
  pub level : numbers.level ≡ (meta_kept opened.db).level
  pub split : numbers.split ≡ (meta_kept opened.db).split
  pub pages : numbers.pages ≡ (page_state opened.db).end
  pub free : numbers.free ≡ (meta_kept opened.db).free_count

pub record TellsNumbers (status : ℤ) (numbers : Numbers) (old new : Opened) : Type 0 where
  pub zero : status ≡ pos 0
  pub told : HasNumbers old numbers
  pub same : new ≡ old

-- the number of the version of its format
pub record TellsVersion (status : ℤ) (old new : Opened) : Type 0 where
  pub number : status ≡ pos (version_number (meta_kept old.db).bounds.version)
  pub same : new ≡ old

-- the committed pages are a good file
abbrev pub IsGood : {S : Type 0} {s : Ghosts S} → Database S s → Type 0
IsGood {S} {s} db = (pairs : ℕ) × IsFileOf (s.committed (store_of db)) pairs

-- whether the file is a good one
pub record Verifies (status : ℤ) (old new : Opened) : Type 0 where
  pub verdict : IsVerdict old.db new.db status
  pub good : status ≡ pos 0 → IsGood old.db
  pub damaged : status ≡ refusal_of Damaged → IsGood old.db → ⊥
  pub stays : AtEachHandle old.db (StaysAt old.db new.db)
  pub read : IsReadThrough old.db new.db
  pub group : new.group ≡ old.group
