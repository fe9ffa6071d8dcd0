-- A call of a database before its error is looked at.
use Rattle.std.specs.Prelude.{◌≡◌, ◌↔◌, ◌+◌, ◌≤◌, ℕ, true, false, List, is_some, if◌then◌else◌, Option, Some, None, Result, Ok, Err, OnOk}
use Rattle.dbm_model.specs.Bounds.{V1, V2}
use Rattle.dbm_model.specs.Calls as model
use Rattle.dbm_model.specs.Changes.{bounds_after}
use Rattle.dbm_model.specs.Pairs.{is_allowed}
use Rattle.page_io.specs.Views.{ReadsOnly}
use Rattle.page_io.specs.declared.store.PageStore.{Ghosts}
use Rattle.dbm_file.specs.Passing.{key_in}
use Rattle.dbm_fault.specs.Faults.{fault_of}
use Rattle.dbm_fault.specs.Among.{IsErrAmong}
use Rattle.dbm_fault.specs.declared.fault.Fault.{Fault}
use Rattle.dbm_fault.specs.declared.fault.Fault.TheVariants.{Memory, ReadOnly, TooLong, TooSmall, NoRoom}
use Rattle.linear_hash.specs.Tables.{shape_in, shape_for}
use Rattle.bucket_chain.specs.Walks.{EndsWithout}
use Rattle.dbm_file.specs.Answers.{IsCallEnded, IsCallEndedWith}
use Rattle.dbm_file.specs.Calls.{upgrade_reply}
use Rattle.dbm_file.specs.Changing.{WasDeleted, WasStored, WasUpgraded, MayNeedMemory, MayUpgrade, IsTooSmall}
use Rattle.dbm_file.specs.Database.{store_of, meta_kept, page_state}
use Rattle.dbm_file.specs.Replies.{store_faults, delete_faults, upgrade_faults}
use Rattle.dbm_file.specs.Searches.{Searched, EndsWith}
use Rattle.dbm_file.specs.declared.calls.StoreMode.{StoreMode}
use Rattle.dbm_file.specs.declared.calls.StoreMode.TheVariants.{Insert}
use Rattle.dbm_file.specs.declared.calls.StoreReply.{StoreReply}
use Rattle.dbm_file.specs.declared.calls.StoreReply.TheVariants.{Kept, Stored}
use Rattle.dbm_file.specs.declared.calls.DeleteReply.{DeleteReply}
use Rattle.dbm_file.specs.declared.calls.DeleteReply.TheVariants.{Absent, Deleted}
use Rattle.dbm_file.specs.declared.database.Database.{Database}

-- with this fault, unless there is an earlier one
abbrev pub with_fault : {S : Type 0} {s : Ghosts S} → Database S s → Fault → Database S s
with_fault db fault = record db { error = if is_some db.error then db.error else Some fault }

-- with the fault of a refusal
abbrev pub with_error_of : {S T : Type 0} {s : Ghosts S} → Database S s
    → Result T Fault → Database S s
with_error_of db (Ok value) = db
with_error_of db (Err fault) = with_fault db fault

-- pages may have been read, and nothing else has changed
pub record IsRead {S : Type 0} {s : Ghosts S} (old new : Database S s) : Type 0 where
  pub reads : ReadsOnly s (store_of old) (store_of new)
  pub meta_is : new.meta ≡ old.meta
  pub error_is : new.error ≡ old.error
  pub pass_is : new.pass ≡ old.pass

-- what a pass replies, where the key of its next pair stands in a slot of the page
abbrev pub slot_reply : List ℕ → Result (Option ℕ) Fault → model.Reply
slot_reply bytes (Ok None) = model.End
slot_reply bytes (Ok (Some slot)) = model.Bytes (key_in bytes slot)
slot_reply bytes (Err fault) = model.Refused (fault_of fault)

-- what a store says on any device beside its step, and a delete; the first fault is kept in the
-- database that is told
pub record IsStoreEnd {S : Type 0} {s : Ghosts S} (old new told : Database S s)
    (key content : List ℕ) (mode : StoreMode) (result : Result StoreReply Fault) : Type 0 where
  pub shape : shape_in (meta_kept new) ≡ shape_for (meta_kept new).pairs (shape_in (meta_kept old))
  pub read_only : (result ≡ Err ReadOnly)
      ↔ (((page_state old).usable ≡ true) × ((page_state old).writable ≡ false))
  pub kept : result ≡ Ok Kept → (mode ≡ Insert) × Searched old key (EndsWith key)
  pub stored : result ≡ Ok Stored → WasStored old new (key, content)
  pub too_long : (result ≡ Err TooLong)
      ↔ (((page_state old).usable ≡ true) × ((page_state old).writable ≡ true)
      × (is_allowed (meta_kept old).bounds.version (key, content) ≡ false))
  pub memory : result ≡ Err Memory → MayNeedMemory (meta_kept old) (key, content) mode
  pub keeps : IsCallEnded old told result
  pub only : IsErrAmong result store_faults

pub record IsDeleteEnd {S : Type 0} {s : Ghosts S} (old new told : Database S s) (key : List ℕ)
    (result : Result DeleteReply Fault) : Type 0 where
  pub shape : shape_in (meta_kept new) ≡ shape_in (meta_kept old)
  pub read_only : (result ≡ Err ReadOnly)
      ↔ (((page_state old).usable ≡ true) × ((page_state old).writable ≡ false))
  pub absent : result ≡ Ok Absent → Searched old key (EndsWithout key)
  pub counted : result ≡ Ok Deleted → (meta_kept new).pairs + 1 ≡ (meta_kept old).pairs
  pub deleted : result ≡ Ok Deleted → WasDeleted old new key
  pub memory : result ≡ Err Memory → (meta_kept old).bounds.version ≡ V2
  pub keeps : IsCallEnded old told result
  pub only : IsErrAmong result delete_faults

pub record IsUpgradeEnd {S : Type 0} {s : Ghosts S} (old new told : Database S s)
    (result : Result Unit Fault) : Type 0 where
  pub read_only : (result ≡ Err ReadOnly)
      ↔ (((page_state old).usable ≡ true) × ((page_state old).writable ≡ false))
  pub too_small : (result ≡ Err TooSmall) ↔ IsTooSmall old
  pub room : result ≡ Err NoRoom → (page_state old).capacity ≤ (page_state old).end
  pub second : MayUpgrade old → (meta_kept old).bounds.version ≡ V2 → OnOk result (new ≡ old)
  pub upgraded : OnOk result ((meta_kept old).bounds.version ≡ V1 → WasUpgraded old new)
  pub keeps : IsCallEndedWith (bounds_after (meta_kept old).bounds model.Upgrade (upgrade_reply result))
      old told result
  pub only : IsErrAmong result upgrade_faults
