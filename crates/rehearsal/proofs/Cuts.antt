-- What refused nothing where no call of the device failed.
use Rattle.std.proofs.Common.{◌≡◌, ℕ, Ok, Err, refl, sym, subst, arith}
use Rattle.std.specs.Prelude.{IfErr}
use Rattle.sect_dev.specs.Device.{Candidates, MoreFaults}
use Rattle.dbm_fault.specs.Faults.{fault_of}
use Rattle.dbm_fault.specs.declared.fault.Fault.{Fault}
use Rattle.dbm_fault.specs.declared.fault.Fault.TheVariants.{Device}
use Rattle.dbm_model.specs.Members.{Members}
use Rattle.dbm_model.specs.SessionChanges as changes
use Rattle.dbm_model.specs.Sessions.{Disk, Plan}
use Rattle.dbm_model.proofs.Failures.{device_is_the_cause}
use Rattle.rehearsal.specs.Rehearsals.{IsNeverFailed}
use Rattle.rehearsal.specs.Sessions.{ending_of, IfUnsettled, IfGrouped, Leaves}
use Rattle.rehearsal.specs.declared.sessions.Ending.{Ending}
use Rattle.rehearsal.specs.declared.sessions.Ending.TheVariants.{NotOpened, NoMemory, Rested, Unsettled, Broke, BrokeGroup}

module _ (start end : ℕ) (sound : MoreFaults start end → ⊥) where
  spared : (ending : Ending) (count : ℕ) → changes.IsNeverFailed (ending_of ending count)
      → IfUnsettled ending (MoreFaults start end)
      → IfGrouped ending (λ stored. IfErr stored (λ fault.
      (fault ≡ Device) × MoreFaults start end)) → IsNeverFailed ending
  spared (NotOpened fault) count never failed refused = λ is. never (ap_fault fault is)
    where
      ap_fault : (fault : Fault) → fault ≡ Device → fault_of fault ≡ fault_of Device
      ap_fault fault is = subst (λ (f : Fault). fault_of f ≡ fault_of Device) (sym is) refl
  spared NoMemory count never failed refused = tt
  spared (Rested replies (Ok stored)) count never failed refused = (never, refl)
  spared (Rested replies (Err fault)) count never failed refused = absurd (sound refused.1)
  spared (Unsettled replies stored) count never failed refused = absurd (sound failed)
  spared (Broke replies) count never failed refused = absurd never
  spared (BrokeGroup replies) count never failed refused = absurd never

  pub never_failed : (disk : Disk) (before : Members) (plan : Plan) (ending : Ending) (count : ℕ)
      (pages : ℕ) (candidate : Candidates) → disk.at_start ≡ start → disk.at_end ≡ end
      → Leaves disk before plan (ending_of ending count) pages candidate
      → IfUnsettled ending (MoreFaults start end)
      → IfGrouped ending (λ stored. IfErr stored (λ fault.
      (fault ≡ Device) × MoreFaults start end)) → IsNeverFailed ending
  never_failed disk before plan ending count pages candidate first last leaves failed refused =
      spared ending count
      (device_is_the_cause disk before leaves.after plan (ending_of ending count) leaves.step
      (λ more. sound (omega (arith, more, first, last))))
      failed refused
