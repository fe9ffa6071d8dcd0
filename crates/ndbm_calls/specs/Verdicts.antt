-- What is told of a file that was read through.
use Rattle.std.specs.Prelude.{◌≡◌, ◌⊎◌, ℤ, pos, true, false}
use Rattle.sect_dev.specs.Device.{MoreFaults}
use Rattle.dbm_model.specs.Calls.{Memory, Device, Broken, Damaged}
use Rattle.page_io.specs.declared.store.PageStore.{Ghosts}
use Rattle.dbm_file.specs.Database.{store_of, page_state, AtEachHandle}
use Rattle.dbm_file.specs.declared.database.Database.{Database}
use Rattle.ndbm_calls.specs.Statuses.{refusal_of}

-- 0 or one of these faults, each told for its cause alone but that of memory
pub record IsVerdict {S : Type 0} {s : Ghosts S} (old new : Database S s) (status : ℤ) : Type 0 where
  pub among : (status ≡ pos 0) ⊎ ((status ≡ refusal_of Memory) ⊎ ((status ≡ refusal_of Broken)
      ⊎ ((status ≡ refusal_of Device) ⊎ (status ≡ refusal_of Damaged))))
  pub broken : status ≡ refusal_of Broken → (page_state old).usable ≡ false
  pub device : status ≡ refusal_of Device
      → MoreFaults (s.faults (store_of old)) (s.faults (store_of new))
  -- a file that these calls have made is never called damaged
  pub whole : AtEachHandle old (λ h. h.state.usable ≡ true → status ≡ refusal_of Damaged → ⊥)
