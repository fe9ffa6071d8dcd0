-- Stores and deletes that change the file, and their refusals by the pages below.
use Rattle.std.proofs.Common.{◌≡◌, ℕ, ◌<◌, List, [], Bool, true, false, cond, is_some, Option, Some, Result, Ok, Err, refl, sym, ◌∙◌, ap, subst, arith}
use denote.Enum.Bare.{sameb}
use Rattle.std.specs.Prelude.{IsErrAnd}
use Rattle.std.specs.FinMap.{get, insert, remove, empty_of_len, get-empty}
use Rattle.dbm_model.specs.Calls as model
use Rattle.dbm_model.specs.Pairs.{Contents, key_cmp, is_allowed}
use Rattle.page_model.specs.Valid.{IsMeta}
use Rattle.page_io.specs.Store.{Settled}
use Rattle.page_io.specs.Meaning.{ImageStandsFor}
use Rattle.page_io.specs.declared.store.PageStore.{Ghosts}
use Rattle.page_io.specs.declared.store.PageFault.{PageFault}
use Rattle.seg_table.specs.declared.meta.Meta as code
use Rattle.dbm_fault.specs.Faults.{fault_of, fault_from}
use Rattle.page_io.specs.Committing.{Holds}
use Rattle.dbm_file.specs.Calls.{mode_of, store_reply, delete_reply}
use Rattle.dbm_model.specs.States.{Handle}
use Rattle.dbm_file.specs.Database.{store_of, meta_kept, page_state, handle_of}
use Rattle.dbm_file.specs.Answers.{IsStep}
use Rattle.dbm_file.specs.Trying.{with_fault, with_error_of, IsRead}
use Rattle.dbm_fault.specs.declared.fault.Fault.{Fault}
use Rattle.dbm_file.specs.declared.calls.StoreMode.{StoreMode}
use Rattle.dbm_file.specs.contracts.calls.StoreMode.{the_type}
use Rattle.dbm_file.specs.declared.calls.StoreMode.TheVariants.{Insert, Replace}
use Rattle.dbm_file.specs.declared.calls.StoreReply.{StoreReply}
use Rattle.dbm_file.specs.declared.calls.DeleteReply.{DeleteReply}
use Rattle.dbm_file.specs.declared.database.Database.{Database}
use Rattle.dbm_file.proofs.Cases.{store_rule, delete_rule, changes, removes}
use Rattle.dbm_file.proofs.ChangeSteps.{IsAsked}
use Rattle.dbm_file.proofs.Lends.{kept_error, flagged_step}
use Rattle.linear_hash.proofs.Tables.{counted}

-- the mode that a test found
pub inserts_so : (mode : StoreMode) → true ≡ sameb the_type mode Insert → mode ≡ Insert
inserts_so Insert is = refl
inserts_so Replace is = absurd (let x = is in cc)

pub replaces_so : (mode : StoreMode) → false ≡ sameb the_type mode Insert → mode ≡ Replace
replaces_so Insert is = absurd (let x = is in cc)
replaces_so Replace is = refl

module _ {S : Type 0} (s : Ghosts S) (old mid : Database S s) (map : Contents)
    (key : List ℕ) (read : IsRead old mid) (usable : (page_state old).usable ≡ true)
    (writable : (page_state old).writable ≡ true) (honest : s.honest (store_of old))
    (h : Holds s (store_of old) (meta_kept old) map)
    (rests : (x : Settled) → s.settles_to (store_of old) x
    → ImageStandsFor x map (meta_kept old).bounds) where
  -- a store of an allowed pair, whose key was there or not
  pub store_asked : (content : List ℕ) (mode : StoreMode) (there : Bool)
      → is_allowed (meta_kept old).bounds.version (key, content) ≡ true → there ≡ is_some (get map key)
      → (there ≡ true → mode ≡ Replace) → (there ≡ false → mid.meta.pairs < mid.meta.limit)
      → IsAsked s old mid map (insert map key content) (meta_kept old).bounds
      (model.Store key content (mode_of mode)) model.Stored
  store_asked content mode there short is replaces few = record {
    read = read;
    usable = usable;
    honest = honest;
    holds = h;
    rests = rests;
    falls = store_rule (handle_of old map) key content (mode_of mode)
        usable writable short
        ∙ changes (handle_of old map).state key content (get map key) (mode_of mode)
        (λ has. ap mode_of (replaces (is ∙ has)))
        (λ absent. omega (
          arith,
          few (is ∙ absent),
          counted s old.store (meta_kept old) map h,
          ap (λ (m : code.Meta). m.limit) read.meta_is,
          ap (λ (m : code.Meta). m.pairs) read.meta_is,
        ));
  }

  -- a delete of a key that is there
  pub delete_asked : is_some (get map key) ≡ true
      → IsAsked s old mid map (remove map key) (meta_kept old).bounds (model.Delete key)
      model.Deleted
  delete_asked is = record {
    read = read;
    usable = usable;
    honest = honest;
    holds = h;
    rests = rests;
    falls = delete_rule (handle_of old map) key usable writable
        ∙ removes (handle_of old map).state key (get map key) is;
  }

-- a file that counts no pair has no key
pub no_key : {S : Type 0} (s : Ghosts S) (old : Database S s) (map : Contents) (key : List ℕ)
    → Holds s (store_of old) (meta_kept old) map → old.meta.pairs ≡ 0
    → is_some (get map key) ≡ true → ⊥
no_key s old map key h none there =
    let nothing = empty_of_len map (omega (arith, counted s old.store (meta_kept old) map h)) in
    let absent = ap (λ (m : Contents). is_some (get m key)) nothing
    ∙ ap is_some (get-empty key_cmp key) in
    absurd (let e = sym there ∙ absent in cc)

module _ {S : Type 0} {s : Ghosts S} {old : Database S s} (new : Database S s) {h : Handle}
    {call : model.Call} (e : PageFault)
    (step : IsStep old (with_fault new (fault_from e)) h call
    (model.Refused (fault_of (fault_from e)))) where
  -- what a `?` answers of a fault of the pages
  pub reply_to_store : (r : Result StoreReply Fault) → IsErrAnd r (λ fault. fault ≡ fault_from e)
      → IsStep old (with_error_of new r) h call (store_reply r)
  reply_to_store (Ok value) is = absurd is
  reply_to_store (Err fault) is = subst
      (λ (f : Fault). IsStep old (with_fault new f) h call (model.Refused (fault_of f))) (sym is)
      step

  pub reply_to_delete : (r : Result DeleteReply Fault) → IsErrAnd r (λ fault. fault ≡ fault_from e)
      → IsStep old (with_error_of new r) h call (delete_reply r)
  reply_to_delete (Ok value) is = absurd is
  reply_to_delete (Err fault) is = subst
      (λ (f : Fault). IsStep old (with_fault new f) h call (model.Refused (fault_of f))) (sym is)
      step

-- the step of a call whose fault was then kept as the first one
module _ {S : Type 0} (s : Ghosts S) (old db : Database S s) (h : Handle)
    (idle : (page_state db).staged ≡ []) (access : (page_state db).writable ≡ db.writable)
    (valid : IsMeta (meta_kept db)) (call : model.Call) (error : Option Fault) (fault : Fault)
    (flag : error ≡ cond (is_some db.error) db.error (Some fault)) where
  pub store_flagged : (r : Result StoreReply Fault) → r ≡ Err fault
      → IsStep old (with_fault db fault) h call (model.Refused (fault_of fault))
      → IsStep old (kept_error s db idle access valid error) h call (store_reply r)
  store_flagged r is step = subst
      (λ (x : Result StoreReply Fault).
      IsStep old (kept_error s db idle access valid error) h call (store_reply x)) (sym is)
      (flagged_step s old db h idle access valid call error fault flag
      (model.Refused (fault_of fault)) step)

  pub delete_flagged : (r : Result DeleteReply Fault) → r ≡ Err fault
      → IsStep old (with_fault db fault) h call (model.Refused (fault_of fault))
      → IsStep old (kept_error s db idle access valid error) h call (delete_reply r)
  delete_flagged r is step = subst
      (λ (x : Result DeleteReply Fault).
      IsStep old (kept_error s db idle access valid error) h call (delete_reply x)) (sym is)
      (flagged_step s old db h idle access valid call error fault flag
      (model.Refused (fault_of fault)) step)
