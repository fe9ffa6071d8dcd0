-- An upgrade, as a step, and what holds at each of its exits on any device.
use Rattle.std.proofs.Common.{◌≡◌, ◌⊎◌, inl, inr, ◌*◌, ◌≤◌, [], true, false, cond, is_some, Option, Some, Result, Ok, Err, OnOk, refl, sym, ◌∙◌, ap, subst, arith}
use denote.Enum.Bare.{sameb}
use Rattle.std.specs.Prelude.{IsErrAnd}
use Rattle.dbm_model.specs.Bounds as bounds
use Rattle.dbm_model.specs.Calls as model
use Rattle.dbm_model.specs.Changes.{bounds_after}
use Rattle.dbm_model.specs.Pairs.{Contents}
use Rattle.dbm_model.specs.Sizes.{home}
use Rattle.dbm_model.specs.States.{Handle}
use Rattle.page_model.specs.Valid.{IsMeta}
use Rattle.page_io.specs.Store.{Settled}
use Rattle.page_io.specs.Meaning.{ImageStandsFor}
use Rattle.page_io.specs.Versions.{model_version}
use Rattle.page_io.specs.declared.store.PageStore.{Ghosts}
use Rattle.page_io.specs.declared.store.PageFault.{PageFault}
use Rattle.page_io.specs.declared.store.PageFault.TheVariants as page
use Rattle.page_io.specs.declared.version.Version.{Version}
use Rattle.page_io.specs.declared.version.Version.TheVariants.{V1, V2}
use Rattle.page_io.specs.contracts.version.Version.{the_type}
use Rattle.page_io.specs.Committing.{Holds}
use Rattle.dbm_fault.specs.Among.{IsAmong}
use Rattle.dbm_fault.specs.Faults.{fault_of, fault_from}
use Rattle.dbm_fault.specs.declared.fault.Fault.{Fault}
use Rattle.dbm_fault.specs.declared.fault.Fault.TheVariants.{ReadOnly, TooSmall, NoRoom}
use Rattle.dbm_file.specs.Answers.{IsStep, IsCallEnded, IsCallEndedWith}
use Rattle.dbm_file.specs.Calls.{upgrade_reply}
use Rattle.dbm_file.specs.Database.{store_of, meta_kept, page_state, handle_of}
use Rattle.dbm_file.specs.Replies.{upgrade_faults}
use Rattle.dbm_file.specs.Trying.{with_fault, with_error_of, IsRead, IsUpgradeEnd}
use Rattle.dbm_file.specs.declared.database.Database.{Database}
use Rattle.dbm_file.proofs.Cases.{raises}
use Rattle.dbm_file.proofs.ChangeSteps.{IsAsked}
use Rattle.dbm_file.proofs.Lends.{kept_error, flagged_step}
use Rattle.dbm_file.proofs.Refused.{IsOfChange, told_other, told_by, not_read_only}

-- what a test of the version found
pub is_second : (version : Version) → true ≡ sameb the_type version V2
    → model_version version ≡ bounds.V2
is_second V1 is = absurd (let x = is in cc)
is_second V2 is = refl

pub is_first : (version : Version) → false ≡ sameb the_type version V2
    → model_version version ≡ bounds.V1
is_first V1 is = refl
is_first V2 is = absurd (let x = is in cc)

-- an upgrade of a file of version 1 that is due
pub upgrade_asked : {S : Type 0} (s : Ghosts S) (db : Database S s) (map : Contents) → IsRead db db
    → (page_state db).usable ≡ true → (page_state db).writable ≡ true → s.honest (store_of db)
    → Holds s (store_of db) (meta_kept db) map
    → ((x : Settled) → s.settles_to (store_of db) x → ImageStandsFor x map (meta_kept db).bounds)
    → (meta_kept db).bounds.version ≡ bounds.V1
    → 2 * home (bounds.upgraded (meta_kept db).bounds) ≤ (page_state db).capacity
    → IsAsked s db db map map (bounds.upgraded (meta_kept db).bounds) model.Upgrade model.Upgraded
upgrade_asked s db map read usable writable honest holds rests first room = record {
  read = read;
  usable = usable;
  honest = honest;
  holds = holds;
  rests = rests;
  falls = raises (handle_of db map) usable writable first room;
}

-- what a `?` answers of a fault of the pages
pub reply_to_upgrade : {S : Type 0} {s : Ghosts S} {old : Database S s} (new : Database S s) {h : Handle}
    (e : PageFault) → IsStep old (with_fault new (fault_from e)) h model.Upgrade
    (model.Refused (fault_of (fault_from e)))
    → (r : Result (Unit {0}) Fault) → IsErrAnd r (λ fault. fault ≡ fault_from e)
    → IsStep old (with_error_of new r) h model.Upgrade (upgrade_reply r)
reply_to_upgrade new e step (Ok done) is = absurd is
reply_to_upgrade {S} {s} {old} new {h} e step (Err fault) is = subst
    (λ (f : Fault). IsStep old (with_fault new f) h model.Upgrade (model.Refused (fault_of f)))
    (sym is) step

-- a refusal keeps the bounds
refusal_keeps : {S : Type 0} {s : Ghosts S} (old new : Database S s) (e : PageFault)
    (r : Result (Unit {0}) Fault) → IsErrAnd r (λ fault. fault ≡ fault_from e)
    → IsCallEnded old new r
    → IsCallEndedWith (bounds_after (meta_kept old).bounds model.Upgrade (upgrade_reply r)) old new r
refusal_keeps old new e (Ok done) is keeps = absurd is
refusal_keeps old new e (Err fault) is keeps = keeps

refused_no_value : (P : Type 0) (e : PageFault) (r : Result (Unit {0}) Fault)
    → IsErrAnd r (λ fault. fault ≡ fault_from e) → OnOk r P
refused_no_value P e (Ok done) is = absurd is
refused_no_value P e (Err fault) is = tt

never_too_small : (e : PageFault) → fault_from e ≡ TooSmall → ⊥
never_too_small page.Memory is = absurd (let x = is in cc)
never_too_small page.Device is = absurd (let x = is in cc)
never_too_small page.Broken is = absurd (let x = is in cc)
never_too_small page.ReadOnly is = absurd (let x = is in cc)
never_too_small page.NoRoom is = absurd (let x = is in cc)
never_too_small page.Damaged is = absurd (let x = is in cc)

among_upgrade : (e : PageFault) → IsOfChange e → ((e ≡ page.Memory) ⊎ (e ≡ page.Damaged) → ⊥)
    → IsAmong (fault_from e) upgrade_faults
among_upgrade e (inl is) never = inl (ap fault_from is)
among_upgrade e (inr (inl is)) never = absurd (never (inl is))
among_upgrade e (inr (inr (inl is))) never = inr (inr (inr (inr (ap fault_from is))))
among_upgrade e (inr (inr (inr (inl is)))) never = absurd (never (inr is))
among_upgrade e (inr (inr (inr (inr is)))) never = inr (inr (inr (inl (ap fault_from is))))

no_room_below : (e : PageFault) → fault_from e ≡ NoRoom → e ≡ page.NoRoom
no_room_below page.Memory is = absurd (let x = is in cc)
no_room_below page.Device is = absurd (let x = is in cc)
no_room_below page.Broken is = absurd (let x = is in cc)
no_room_below page.ReadOnly is = absurd (let x = is in cc)
no_room_below page.NoRoom is = refl
no_room_below page.Damaged is = absurd (let x = is in cc)

-- what room lacks below
lacked : (P : Type 0) (e : PageFault) (r : Result (Unit {0}) Fault)
    → IsErrAnd r (λ fault. fault ≡ fault_from e) → (e ≡ page.NoRoom → P) → r ≡ Err NoRoom → P
lacked P e r told room is = room (no_room_below e
    (sym (subst (λ (x : Result (Unit {0}) Fault). IsErrAnd x (λ fault. fault ≡ fault_from e)) is told)))

-- one that the pages below refuse
pub told_upgrade : {S : Type 0} {s : Ghosts S} (old new : Database S s)
    (r : Result (Unit {0}) Fault) (e : PageFault)
    → (page_state old).usable ≡ true → (page_state old).writable ≡ true
    → (meta_kept old).bounds.version ≡ bounds.V1
    → 2 * home (bounds.upgraded (meta_kept old).bounds) ≤ (page_state old).capacity
    → IsErrAnd r (λ fault. fault ≡ fault_from e) → IsOfChange e
    → ((e ≡ page.Memory) ⊎ (e ≡ page.Damaged) → ⊥)
    → (e ≡ page.NoRoom → (page_state old).capacity ≤ (page_state old).end)
    → IsCallEnded old (with_error_of new r) r
    → IsUpgradeEnd old new (with_error_of new r) r
told_upgrade old new r e usable writable first room told one never lacks keeps = record {
  read_only = (
    λ is. absurd (told_other r e ReadOnly told (not_read_only e one) is),
    λ all. absurd (let x = sym writable ∙ all.1 in cc),
  );
  too_small = (
    λ is. absurd (told_other r e TooSmall told (never_too_small e) is),
    λ all. absurd (omega (arith, all.2, room)),
  );
  room = lacked _ e r told lacks;
  second = λ may second. absurd (let x = sym first ∙ second in cc);
  upgraded = refused_no_value _ e r told;
  keeps = refusal_keeps old (with_error_of new r) e r told keeps;
  only = told_by (λ fault. IsAmong fault upgrade_faults) r e told (among_upgrade e one never);
}

-- the step of one whose fault was then kept as the first
pub upgrade_flagged : {S : Type 0} (s : Ghosts S) (old db : Database S s) (h : Handle)
    (idle : (page_state db).staged ≡ []) (access : (page_state db).writable ≡ db.writable)
    (valid : IsMeta (meta_kept db)) (error : Option Fault) (fault : Fault)
    (flag : error ≡ cond (is_some db.error) db.error (Some fault)) (r : Result (Unit {0}) Fault)
    → r ≡ Err fault
    → IsStep old (with_fault db fault) h model.Upgrade (model.Refused (fault_of fault))
    → IsStep old (kept_error s db idle access valid error) h model.Upgrade (upgrade_reply r)
upgrade_flagged s old db h idle access valid error fault flag r is step = subst
    (λ (x : Result (Unit {0}) Fault).
    IsStep old (kept_error s db idle access valid error) h model.Upgrade (upgrade_reply x)) (sym is)
    (flagged_step s old db h idle access valid model.Upgrade error fault flag
    (model.Refused (fault_of fault)) step)
