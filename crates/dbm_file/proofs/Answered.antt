-- Calls that were answered on any device.
use Rattle.std.proofs.Common.{◌≡◌, ℕ, List, [], ◌∷◌, ◌++◌, None, Some, Result, Ok, Err, IfOk, OnOk, refl, sym, ap, subst, arith}
use Rattle.dbm_fault.specs.Among.{IsErrAmong}
use Rattle.dbm_fault.specs.declared.fault.Fault.{Fault}
use Rattle.page_io.specs.Views.{body_at}
use Rattle.page_io.specs.declared.store.PageStore.{Ghosts}
use Rattle.bucket_chain.specs.Walks.{EndsWithout}
use Rattle.dbm_file.specs.Answers.{IsSameDatabase, IsCallEnded, IsCallEndedWith}
use Rattle.dbm_file.specs.Changing.{WasDeleted, WasStored, WasUpgraded}
use Rattle.dbm_file.specs.Calls.{reply_of, store_reply, delete_reply, upgrade_reply, Lent, lent_reply, seen}
use Rattle.dbm_file.specs.Database.{store_of, meta_kept}
use Rattle.dbm_file.specs.Replies.{IsCallAnswered, IsAnswered, AreAnswered, store_faults, delete_faults, upgrade_faults, fetch_faults, read_faults, next_faults, told_of_store, told_of_delete, told_of_upgrade, told_of_bytes}
use Rattle.dbm_model.specs.Bounds.{V1}
use Rattle.dbm_model.specs.Calls as model
use Rattle.dbm_model.specs.Changes.{bounds_after}
use Rattle.dbm_model.specs.States.{Begun}
use Rattle.dbm_file.specs.Searches.{Searched, EndsWith, EndsAtContent, Passed, WentOn}
use Rattle.dbm_file.specs.declared.calls.Call.{Call}
use Rattle.dbm_file.specs.declared.calls.Call.TheVariants.{Store, Fetch, Delete, First, Next, Upgrade}
use Rattle.dbm_file.specs.declared.calls.Reply.{Reply}
use Rattle.dbm_file.specs.declared.calls.Reply.TheVariants.{NoRecord, End}
use Rattle.dbm_file.specs.declared.calls.StoreMode.{StoreMode}
use Rattle.dbm_file.specs.declared.calls.StoreMode.TheVariants.{Insert}
use Rattle.dbm_file.specs.declared.calls.StoreReply.{StoreReply}
use Rattle.dbm_file.specs.declared.calls.StoreReply.TheVariants as stored
use Rattle.dbm_file.specs.declared.calls.DeleteReply.{DeleteReply}
use Rattle.dbm_file.specs.declared.calls.DeleteReply.TheVariants as deleted
use Rattle.dbm_file.specs.declared.database.Database.{Database}
use Rattle.dbm_file.proofs.PassSteps.{keeps_as, keeps_err}

-- one call more
pub answered_next : {S : Type 0} {s : Ghosts S} (old mid new : Database S s) (calls : List Call)
    (replies : List Reply) (call : Call) (reply : Reply)
    → AreAnswered old mid calls replies → IsAnswered mid new call reply
    → AreAnswered old new (calls ++ call ∷ []) (replies ++ reply ∷ [])
answered_next {S} {s} old mid new [] [] call reply same next =
    (new, subst (λ (db : Database S s). IsAnswered db new call reply) same next, refl)
answered_next old mid new [] (r ∷ replies) call reply before next = absurd before
answered_next old mid new (c ∷ calls) [] call reply before next = absurd before
answered_next old mid new (c ∷ calls) (r ∷ replies) call reply (one, first, before) next =
    (one, first, answered_next one mid new calls replies call reply before next)

-- the same call under another name
pub answered_to : {S : Type 0} {s : Ghosts S} (old new : Database S s) (call call' : Call)
    (reply : Reply) → call ≡ call' → IsAnswered old new call' reply → IsAnswered old new call reply
answered_to old new call call' reply is told =
    subst (λ (c : Call). IsAnswered old new c reply) (sym is) told

-- a store
pub store_is_told : (ended : Result StoreReply Fault) (reply : Reply) → reply ≡ told_of_store ended
    → reply_of reply ≡ store_reply ended
store_is_told (Ok stored.Stored) reply is = ap reply_of is
store_is_told (Ok stored.Kept) reply is = ap reply_of is
store_is_told (Err fault) reply is = ap reply_of is

-- a delete
pub delete_is_told : (ended : Result DeleteReply Fault) (reply : Reply)
    → reply ≡ told_of_delete ended → reply_of reply ≡ delete_reply ended
delete_is_told (Ok deleted.Deleted) reply is = ap reply_of is
delete_is_told (Ok deleted.Absent) reply is = ap reply_of is
delete_is_told (Err fault) reply is = ap reply_of is

-- an upgrade
pub upgrade_is_told : (ended : Result (Unit {0}) Fault) (reply : Reply)
    → reply ≡ told_of_upgrade ended → reply_of reply ≡ upgrade_reply ended
upgrade_is_told (Ok done) reply is = ap reply_of is
upgrade_is_told (Err fault) reply is = ap reply_of is

-- a call that lends bytes
pub bytes_are_told : (none : Reply) (found : Lent) (reply : Reply)
    → reply ≡ told_of_bytes none found → lent_reply (reply_of none) found ≡ reply_of reply
bytes_are_told none (Ok None) reply is = ap reply_of (sym is)
bytes_are_told none (Ok (Some bytes)) reply is = ap reply_of (sym is)
bytes_are_told none (Err fault) reply is = ap reply_of (sym is)

module _ {S : Type 0} {s : Ghosts S} {old new : Database S s} where
  stored_well : (ended : Result StoreReply Fault) (key content : List ℕ) (mode : StoreMode)
      → (ended ≡ Ok stored.Kept → (mode ≡ Insert) × Searched old key (EndsWith key))
      → (ended ≡ Ok stored.Stored → WasStored old new (key, content))
      → IsErrAmong ended store_faults → IsCallEnded old new ended
      → IsCallAnswered old new (Store key content mode) (told_of_store ended)
  stored_well (Ok stored.Stored) key content mode kept put only keeps =
      record {
        replied = tt;
        read = tt;
        done = put refl;
        keeps = keeps_as stored.Stored tt keeps;
      }
  stored_well (Ok stored.Kept) key content mode kept put only keeps =
      record {
        replied = (kept refl).0;
        read = (kept refl).1;
        done = tt;
        keeps = keeps_as stored.Kept tt keeps;
      }
  stored_well (Err fault) key content mode kept put only keeps =
      record { replied = only; read = tt; done = tt; keeps = keeps_err fault keeps }

  deleted_well : (ended : Result DeleteReply Fault) (key : List ℕ)
      → (ended ≡ Ok deleted.Absent → Searched old key (EndsWithout key))
      → (ended ≡ Ok deleted.Deleted → WasDeleted old new key)
      → IsErrAmong ended delete_faults → IsCallEnded old new ended
      → IsCallAnswered old new (Delete key) (told_of_delete ended)
  deleted_well (Ok deleted.Deleted) key absent gone only keeps =
      record {
        replied = tt;
        read = tt;
        done = gone refl;
        keeps = keeps_as deleted.Deleted tt keeps;
      }
  deleted_well (Ok deleted.Absent) key absent gone only keeps =
      record {
        replied = tt;
        read = absent refl;
        done = tt;
        keeps = keeps_as deleted.Absent tt keeps;
      }
  deleted_well (Err fault) key absent gone only keeps =
      record { replied = only; read = tt; done = tt; keeps = keeps_err fault keeps }

  fetched_well : (found : Lent) (key : List ℕ)
      → IfOk found (λ content. Searched old key
      (EndsAtContent (body_at s (store_of old)) key (seen content)))
      → IsErrAmong found fetch_faults → IsCallEnded old new found
      → IsCallAnswered old new (Fetch key) (told_of_bytes NoRecord found)
  fetched_well (Ok None) key searched only keeps =
      record { replied = refl; read = searched; done = tt; keeps = keeps_as None tt keeps }
  fetched_well (Ok (Some content)) key searched only keeps =
      record { replied = tt; read = searched; done = tt; keeps = keeps_as (Some content) tt keeps }
  fetched_well (Err fault) key searched only keeps =
      record { replied = only; read = tt; done = tt; keeps = keeps_err fault keeps }

  begun_well : (found : Lent) → IfOk found (λ key. Passed old Begun (seen key))
      → IsErrAmong found read_faults → IsCallEnded old new found
      → IsCallAnswered old new First (told_of_bytes End found)
  begun_well (Ok None) passed only keeps =
      record { replied = refl; read = passed; done = tt; keeps = keeps_as None tt keeps }
  begun_well (Ok (Some key)) passed only keeps =
      record { replied = tt; read = passed; done = tt; keeps = keeps_as (Some key) tt keeps }
  begun_well (Err fault) passed only keeps =
      record { replied = only; read = tt; done = tt; keeps = keeps_err fault keeps }

  passed_well : (found : Lent) → IfOk found (λ key. WentOn old (seen key))
      → IsErrAmong found next_faults → IsCallEnded old new found
      → IsCallAnswered old new Next (told_of_bytes End found)
  passed_well (Ok None) passed only keeps =
      record { replied = refl; read = passed; done = tt; keeps = keeps_as None tt keeps }
  passed_well (Ok (Some key)) passed only keeps =
      record { replied = tt; read = passed; done = tt; keeps = keeps_as (Some key) tt keeps }
  passed_well (Err fault) passed only keeps =
      record { replied = only; read = tt; done = tt; keeps = keeps_err fault keeps }

  upgraded_well : (ended : Result (Unit {0}) Fault)
      → OnOk ended ((meta_kept old).bounds.version ≡ V1 → WasUpgraded old new)
      → IsErrAmong ended upgrade_faults
      → IsCallEndedWith (bounds_after (meta_kept old).bounds model.Upgrade (upgrade_reply ended))
      old new ended
      → IsCallAnswered old new Upgrade (told_of_upgrade ended)
  upgraded_well (Ok done) raised only keeps =
      record { replied = tt; read = tt; done = raised; keeps = keeps_as done tt keeps }
  upgraded_well (Err fault) raised only keeps =
      record { replied = only; read = tt; done = tt; keeps = keeps_err fault keeps }

  -- under the reply that was given, and the key that stands in the call
  pub store_answered : (ended : Result StoreReply Fault) (reply : Reply)
      (given key value content : List ℕ) (mode : StoreMode) → reply ≡ told_of_store ended
      → given ≡ key → value ≡ content
      → (ended ≡ Ok stored.Kept → (mode ≡ Insert) × Searched old given (EndsWith given))
      → (ended ≡ Ok stored.Stored → WasStored old new (given, value))
      → IsErrAmong ended store_faults → IsCallEnded old new ended
      → IsCallAnswered old new (Store key content mode) reply
  store_answered ended reply given key value content mode is same alike kept put only keeps =
      subst (λ (r : Reply). IsCallAnswered old new (Store key content mode) r) (sym is)
      (subst (λ (v : List ℕ). IsCallAnswered old new (Store key v mode) (told_of_store ended))
      alike
      (subst (λ (k : List ℕ). IsCallAnswered old new (Store k value mode) (told_of_store ended))
      same (stored_well ended given value mode kept put only keeps)))

  pub delete_answered : (ended : Result DeleteReply Fault) (reply : Reply) (given key : List ℕ)
      → reply ≡ told_of_delete ended → given ≡ key
      → (ended ≡ Ok deleted.Absent → Searched old given (EndsWithout given))
      → (ended ≡ Ok deleted.Deleted → WasDeleted old new given)
      → IsErrAmong ended delete_faults → IsCallEnded old new ended
      → IsCallAnswered old new (Delete key) reply
  delete_answered ended reply given key is same absent gone only keeps =
      subst (λ (r : Reply). IsCallAnswered old new (Delete key) r) (sym is)
      (subst (λ (k : List ℕ). IsCallAnswered old new (Delete k) (told_of_delete ended)) same
      (deleted_well ended given absent gone only keeps))

  pub fetch_answered : (found : Lent) (reply : Reply) (given key : List ℕ)
      → reply ≡ told_of_bytes NoRecord found → given ≡ key
      → IfOk found (λ content. Searched old given
      (EndsAtContent (body_at s (store_of old)) given (seen content)))
      → IsErrAmong found fetch_faults → IsCallEnded old new found
      → IsCallAnswered old new (Fetch key) reply
  fetch_answered found reply given key is same searched only keeps =
      subst (λ (r : Reply). IsCallAnswered old new (Fetch key) r) (sym is)
      (subst (λ (k : List ℕ). IsCallAnswered old new (Fetch k) (told_of_bytes NoRecord found)) same
      (fetched_well found given searched only keeps))

  pub first_answered : (found : Lent) (reply : Reply) → reply ≡ told_of_bytes End found
      → IfOk found (λ key. Passed old Begun (seen key)) → IsErrAmong found read_faults
      → IsCallEnded old new found
      → IsCallAnswered old new First reply
  first_answered found reply is passed only keeps =
      subst (λ (r : Reply). IsCallAnswered old new First r) (sym is)
      (begun_well found passed only keeps)

  pub next_answered : (found : Lent) (reply : Reply) → reply ≡ told_of_bytes End found
      → IfOk found (λ key. WentOn old (seen key)) → IsErrAmong found next_faults
      → IsCallEnded old new found → IsCallAnswered old new Next reply
  next_answered found reply is passed only keeps =
      subst (λ (r : Reply). IsCallAnswered old new Next r) (sym is)
      (passed_well found passed only keeps)

  pub upgrade_answered : (ended : Result (Unit {0}) Fault) (reply : Reply)
      → reply ≡ told_of_upgrade ended
      → OnOk ended ((meta_kept old).bounds.version ≡ V1 → WasUpgraded old new)
      → IsErrAmong ended upgrade_faults
      → IsCallEndedWith (bounds_after (meta_kept old).bounds model.Upgrade (upgrade_reply ended))
      old new ended
      → IsCallAnswered old new Upgrade reply
  upgrade_answered ended reply is raised only keeps =
      subst (λ (r : Reply). IsCallAnswered old new Upgrade r) (sym is)
      (upgraded_well ended raised only keeps)

-- the database with the same store and meta page
pub same_goes : {S : Type 0} {s : Ghosts S} (old new : Database S s) → store_of new ≡ store_of old
    → meta_kept new ≡ meta_kept old → IsSameDatabase old new
same_goes {S} {s} old new store meta = record {
  honesty = (λ h. subst s.honest store h, λ h. subst s.honest (sym store) h);
  later = omega (arith, ap s.faults store);
  bounds = ap (λ m. m.bounds) meta;
  capacity = ap (λ (x : S). (s.state x).capacity) store;
  writable = ap (λ (x : S). (s.state x).writable) store;
  base = ap (λ (x : S). (s.state x).base) store;
  still = λ broken. store;
  reading = λ honest access. ap (λ (x : S). (s.moment x).at) store;
}
