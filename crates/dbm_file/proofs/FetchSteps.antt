-- A fetch, as a step.
use Rattle.std.proofs.Common.{◌≡◌, ◌⊎◌, inl, inr, IfErr, ℕ, List, [], true, cond, is_some, Option, Some, None, Ok, Err, IsErrOf, refl, sym, ◌∙◌, ap, subst}
use Rattle.std.specs.Borrow.{Bor}
use Rattle.std.specs.Option.{option_map}
use Rattle.std.specs.FinMap.{get, len}
use Rattle.dbm_model.specs.Calls as model
use Rattle.dbm_model.specs.Pairs.{Key, Contents}
use Rattle.dbm_model.specs.Steps.{Case, Finds, Suffers, buckets_added, fetched, holds_far}
use Rattle.dbm_model.specs.States.{Handle}
use Rattle.page_model.specs.Valid.{IsMeta}
use Rattle.page_io.specs.Answers.{HasDeviceCause}
use Rattle.page_io.specs.declared.store.PageStore.{Ghosts}
use Rattle.page_io.specs.declared.store.PageFault.{PageFault}
use Rattle.page_io.specs.declared.store.PageFault.TheVariants as page
use Rattle.bucket_chain.specs.WalkAnswers.{IsLoadAnswer}
use Rattle.dbm_file.specs.Calls.{Lent, lent_reply}
use Rattle.dbm_fault.specs.Faults.{fault_from}
use Rattle.page_io.specs.Committing.{Holds}
use Rattle.dbm_file.specs.Lending.{Lends}
use Rattle.dbm_file.specs.Passing.{model_pass}
use Rattle.dbm_file.specs.Database.{store_of, meta_kept, page_state, handle_of}
use Rattle.dbm_file.specs.Trying.{with_fault, IsRead}
use Rattle.dbm_fault.specs.declared.fault.Fault.{Fault}
use Rattle.dbm_fault.specs.declared.fault.Fault.TheVariants.{Memory, Device, Broken, Damaged}
use Rattle.dbm_file.specs.declared.database.Database.{Database}
use Rattle.dbm_file.specs.declared.database.Found.{Found}
use Rattle.dbm_file.proofs.Cases.{fetch_rule, fetch_fails, fetch_lacks}
use Rattle.dbm_file.proofs.Refused.{told_memory}
use Rattle.dbm_file.proofs.Lends.{kept_error, flagged_lends}
use Rattle.dbm_file.proofs.ReadSteps.{from_own, found_step, load_failed_step, load_more, load_sound, read_keeps, refused_keeps}

finds : (found : Option (Bor (List ℕ)))
    → fetched (option_map (λ s. s.now) found) ≡ Finds (lent_reply model.NoRecord (Ok found))
finds None = refl
finds (Some slice) = refl

-- a fetch leaves this
abbrev IsFetched : {S : Type 0} {s : Ghosts S} → Database S s → Key → Lent → Database S s → Type 0
IsFetched old key r new = Lends (model.Fetch key) (lent_reply model.NoRecord) old r new

fetch_opens_none : (before : Handle) (pairs : ℕ) (found : Option (Bor (List ℕ)))
    → buckets_added before (lent_reply model.NoRecord (Ok found)) pairs ≡ 0
fetch_opens_none before pairs None = refl
fetch_opens_none before pairs (Some content) = refl

-- a fetch that was answered
pub fetched_well : {S : Type 0} (s : Ghosts S) (old new : Database S s) (key : Key)
    (found : Option (Bor (List ℕ))) → IsRead old new → (page_state old).usable ≡ true
    → (s.honest (store_of old) → (map : Contents) → Holds s (store_of old) (meta_kept old) map
    → option_map (λ (b : Bor (List ℕ)). b.now) found ≡ get map key)
    → IsFetched old key (Ok found) new
fetched_well s old new key found read usable is = record {
  step = λ honest h at.
      let map = h.state.map in
      from_own at (found_step s old new map (model.Fetch key) read honest (at.map usable)
      (at.rests usable) (lent_reply model.NoRecord (Ok found))
      (fetch_opens_none (handle_of old map) (len map) found)
      (fetch_rule (handle_of old map) key (option_map (λ b. b.now) found) usable
      (sym (is honest map (at.map usable))) ∙ finds found));
  keeps = read_keeps s old new read usable found;
  stands = ap model_pass read.pass_is;
}

-- a fetch that failed, and whose fault was then kept as the first one
module _ {S : Type 0} (s : Ghosts S) (db : Database S s) (key : Key)
    (idle : (page_state db).staged ≡ []) (access : (page_state db).writable ≡ db.writable)
    (valid : IsMeta (meta_kept db))
    (error : Option Fault) (fault : Fault)
    (flag : error ≡ cond (is_some db.error) db.error (Some fault)) (r : Lent)
    (is : r ≡ Err fault) (old : Database S s) (e : PageFault) (read : IsRead old db)
    (told_so : fault ≡ fault_from e)
    (usable : (page_state old).usable ≡ true)
    (answer : IsLoadAnswer {T = Option Found} (page_state old) (Err e))
    (cause : HasDeviceCause {T = Option Found} (s.faults (store_of old))
    (s.faults (store_of db)) (Err e)) where
  pub fetch_failed : (s.honest (store_of old) → (map : Contents)
      → Holds s (store_of old) (meta_kept old) map
      → IsErrOf {T = Option Found} (Err e) page.Damaged → ⊥)
      → (s.honest (store_of old) → (map : Contents)
      → Holds s (store_of old) (meta_kept old) map
      → IsErrOf {T = Option Found} (Err e) page.Memory → holds_far key (get map key) ≡ true)
      → IsFetched old key r (kept_error s db idle access valid error)
  fetch_failed whole sparing = flagged_lends s db (model.Fetch key) model.NoRecord idle access valid error
      fault flag r is old
      (subst (λ (f : Fault). IsFetched old key (Err f) (with_fault db f)) (sym told_so) record {
        step = λ honest h at.
            let map = h.state.map in
            let falls = fetch_rule (handle_of old map) key (get map key) usable refl in
            from_own at (load_failed_step s old db map (model.Fetch key) read honest
            (at.map usable) (at.rests usable) (Option Found) e usable
            answer cause (whole honest map (at.map usable)) (sparing honest map (at.map usable))
            (λ reply after fails. subst (λ (rule : Case).
            Suffers (handle_of old map) (model.Fetch key) rule reply after) (sym falls)
            (fetch_fails (handle_of old map) (model.Fetch key) reply after fails (get map key)))
            (λ reply after lacks. subst (λ (rule : Case).
            Suffers (handle_of old map) (model.Fetch key) rule reply after) (sym falls)
            (fetch_lacks (handle_of old map) (model.Fetch key) reply after lacks (get map key))));
        keeps = refused_keeps s old db read usable (Option (Bor (List ℕ))) (fault_from e)
            (load_more s old db e answer cause) (load_sound s old e usable answer);
        stands = tt;
      })

-- what a refused fetch answers
pub only_these : (r : Lent) (fault : Fault) → r ≡ Err fault
    → (fault ≡ Broken) ⊎ ((fault ≡ Memory) ⊎ ((fault ≡ Device) ⊎ (fault ≡ Damaged)))
    → IfErr r (λ e. (e ≡ Broken) ⊎ ((e ≡ Memory) ⊎ ((e ≡ Device) ⊎ (e ≡ Damaged))))
only_these r fault is one = subst
    (λ (x : Lent). IfErr x (λ e.
    (e ≡ Broken) ⊎ ((e ≡ Memory) ⊎ ((e ≡ Device) ⊎ (e ≡ Damaged))))) (sym is) one

-- a fetch told as damaged met a damaged page
pub met_damage : (r : Lent) (e : PageFault) (fault : Fault) → r ≡ Err fault → fault ≡ fault_from e
    → IsErrOf r Damaged → e ≡ page.Damaged
met_damage r e fault is told_so damaged =
    let told : fault_from e ≡ Damaged = cc in
    of_page e told
  where
    of_page : (e : PageFault) → fault_from e ≡ Damaged → e ≡ page.Damaged
    of_page page.Memory same = cc
    of_page page.Device same = cc
    of_page page.Broken same = cc
    of_page page.ReadOnly same = cc
    of_page page.NoRoom same = cc
    of_page page.Damaged same = refl

pub load_faults : (e : PageFault) (fault : Fault) → fault ≡ fault_from e
    → (e ≡ page.Memory) ⊎ ((e ≡ page.Broken) ⊎ ((e ≡ page.Damaged) ⊎ (e ≡ page.Device)))
    → (fault ≡ Broken) ⊎ ((fault ≡ Memory) ⊎ ((fault ≡ Device) ⊎ (fault ≡ Damaged)))
load_faults e fault told_so (inl is) = inr (inl (told_so ∙ ap fault_from is))
load_faults e fault told_so (inr (inl is)) = inl (told_so ∙ ap fault_from is)
load_faults e fault told_so (inr (inr (inl is))) = inr (inr (inr (told_so ∙ ap fault_from is)))
load_faults e fault told_so (inr (inr (inr is))) = inr (inr (inl (told_so ∙ ap fault_from is)))

-- and one told as want of memory lacked it
pub met_want : (r : Lent) (e : PageFault) (fault : Fault) → r ≡ Err fault → fault ≡ fault_from e
    → IsErrOf r Memory → e ≡ page.Memory
met_want r e fault is told_so lacks =
    let told : fault_from e ≡ Memory = cc in told_memory e told
