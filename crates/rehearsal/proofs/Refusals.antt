-- What an opening leaves that was refused.
use Rattle.std.proofs.Common.{◌≡◌, ◌≢◌, ◌⊎◌, inl, inr, ⊎_elim, ℕ, ◌/◌, ◌++◌, map, Option, Some, None, Result, Ok, Err, refl, sym, ap, subst}
use Rattle.std.specs.Prelude.{IfSome}
use Rattle.sect_dev.specs.Device.{Candidates, MoreFaults}
use Rattle.dbm_model.specs.Calls as calls
use Rattle.dbm_fault.specs.Faults.{fault_of}
use Rattle.dbm_fault.specs.declared.fault.Fault.{Fault}
use Rattle.dbm_fault.specs.declared.fault.Fault.TheVariants.{Device, NoRoom}
use Rattle.dbm_model.specs.Members.{Members, AllHaveRoom, opened}
use Rattle.dbm_model.specs.Sessions as model
use Rattle.dbm_model.specs.Sessions.{Disk, Plan}
use Rattle.file_opening.specs.Opening.{early_fault, IsRefusedOpening}
use Rattle.file_opening.specs.declared.open_how.OpenHow.{OpenHow}
use Rattle.rehearsal.specs.Members.{AllStandFor}
use Rattle.rehearsal.specs.Sessions.{for_writing, Leaves}
use Rattle.rehearsal.specs.declared.sessions.Opening.{Opening}
use Rattle.rehearsal.proofs.Openings.{stays_refused}
use Rattle.rehearsal.proofs.Rooms.{not_short}

device_or_not : (fault : Fault) → (fault ≡ Device) ⊎ (fault ≢ Device)
device_or_not Device = inl refl
device_or_not fault = inr (λ is. absurd (let x = is in cc))

-- only that fault is told as one of the device
told_as_device : (fault : Fault) → fault_of fault ≡ calls.Device → fault ≡ Device
told_as_device Device is = refl
told_as_device fault is = absurd (let x = is in cc)

pub refused_leaves : (disk : Disk) (before : Members) (plan : Plan) (fault : Fault) (pages : ℕ)
    (candidate : Candidates) → (fault ≡ Device → MoreFaults disk.at_start disk.at_end)
    → (AllHaveRoom disk.pages before → fault ≢ NoRoom)
    → AllStandFor (before ++ map (opened plan.how) before) pages candidate
    → (fault ≢ Device → AllStandFor before pages candidate)
    → Leaves disk before plan (model.NotOpened (fault_of fault)) pages candidate
refused_leaves disk before plan fault pages candidate more room cut stays =
    elim (device_or_not fault) [
      | inl device ↦ record {
        after = before ++ map (opened plan.how) before;
        step = inl (ap fault_of device, more device, refl);
        stand = cut;
      }
      | inr other ↦ record {
        after = before;
        step = inr (
          λ is. other (told_as_device fault is),
          λ all. not_short fault (room all),
          refl,
        );
        stand = stays other;
      }
    ]

-- ---- but by a fault of the device, it leaves what there was

device_in : {T D : Type 0} → D → Result T (D × Fault) → D
device_in other (Ok x) = other
device_in other (Err e) = e.0

-- at once
pub early_stays : (T : Type 0) {D : Type 0} (before : Members) (pages : ℕ)
    (early : Option Fault) (fault : Fault) (first left : D) (candidate : D → Candidates)
    → IfSome early (λ told. ◌≡◌ {A = Result T (D × Fault)} (Err (left, fault)) (Err (first, told)))
    → AllStandFor before pages (candidate first)
    → (early ≡ None) ⊎ AllStandFor before pages (candidate left)
unfolding device_in
early_stays T before pages None fault first left candidate told stand = inl refl
early_stays T before pages (Some e) fault first left candidate told stand =
    inr (subst (λ d. AllStandFor before pages (candidate d)) (sym (ap (device_in first) told)) stand)

-- or by an image that the device had
pub refused_stays : (before : Members) (how : Opening) (sectors : ℕ) (start now : Candidates)
    (fault : Fault) (asked : OpenHow) → asked ≡ for_writing how
    → AllStandFor before (sectors / 4) start
    → (early_fault asked sectors ≡ None → IsRefusedOpening asked sectors start now fault)
    → (early_fault asked sectors ≡ None) ⊎ AllStandFor before (sectors / 4) now
    → AllStandFor before (sectors / 4) now
refused_stays before how sectors start now fault asked is stand refused either =
    ⊎_elim
    (λ none. stays_refused before how sectors start stand now fault
    (subst (λ (h : OpenHow). IsRefusedOpening h sectors start now fault) is (refused none)))
    (λ stays. stays) either
