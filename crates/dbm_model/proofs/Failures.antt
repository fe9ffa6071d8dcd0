-- Sessions on a device that didn't fail.
use Rattle.std.proofs.Common.{◌≡◌, inl, inr, ℕ, ◌≤◌, ◌||◌, false, List, [], ◌∷◌, ap, ap₂, refl, arith}
use Rattle.dbm_model.specs.Calls.{Call, Reply, Refused, Device}
use Rattle.dbm_model.specs.FaultCount.{MoreFaults}
use Rattle.dbm_model.specs.States.{Handle}
use Rattle.dbm_model.specs.Steps.{Step, Run}
use Rattle.dbm_model.proofs.RefusalLemmas.{refuses_where_due}
use Rattle.dbm_model.specs.Members.{Members}
use Rattle.dbm_model.specs.Sessions.{NotOpened, StoppedOpening, Rested, StoppedCall, Broke, Grouped, StoppedGroup, BrokeGroup, Goes, Breaks}
use Rattle.dbm_model.specs.SessionChanges.{is_device, has_device, DeviceIsTheCause}

-- the count of faults never falls
pub counts_up : (first last : Handle) (calls : List Call) (replies : List Reply)
    → Run first calls replies last → first.faults ≤ last.faults
counts_up first last [] [] run = omega (arith, ap (λ (h : Handle). h.faults) run)
counts_up first last (call ∷ calls) (reply ∷ replies) (mid, step, run) =
    omega (arith, step.counts, counts_up mid last calls replies run)
counts_up first last [] (reply ∷ replies) run = absurd run
counts_up first last (call ∷ calls) [] run = absurd run

module _ (at_start at_end : ℕ) (sound : MoreFaults at_start at_end → ⊥) where
  -- a reply of a device that failed no more often is no refusal by it
  no_device : (before after : Handle) (call : Call) (reply : Reply) → Step before call reply after
      → at_start ≤ before.faults → after.faults ≤ at_end → is_device reply ≡ false
  no_device before after call reply step le most = by_reply reply step
    where
      by_reply : (reply : Reply) → Step before call reply after → is_device reply ≡ false
      by_reply (Refused Device) step =
          let more = (refuses_where_due before after call Device step).1 in
          let rises : MoreFaults at_start at_end = omega (arith, more, le, most) in
          absurd (sound rises)
      by_reply reply step = refl

  none_failed : (first last : Handle) (calls : List Call) (replies : List Reply)
      → Run first calls replies last → at_start ≤ first.faults → last.faults ≤ at_end
      → has_device replies ≡ false
  none_failed first last [] [] run le most = refl
  none_failed first last (call ∷ calls) (reply ∷ replies) (mid, step, run) le most =
      let now = counts_up mid last calls replies run in
      ap₂ (λ a b. a || b)
      (no_device first mid call reply step le (omega (arith, now, most)))
      (none_failed mid last calls replies run (omega (arith, le, step.counts)) most)
  none_failed first last [] (reply ∷ replies) run le most = absurd run
  none_failed first last (call ∷ calls) [] run le most = absurd run

  gone : (first : Handle) (calls : List Call) (replies : List Reply) → at_start ≤ first.faults
      → Goes at_end first calls replies → has_device replies ≡ false
  gone first calls replies le goes =
      none_failed first goes.last goes.made replies goes.run le goes.counts

  none_broke : (first : Handle) (calls : List Call) (replies : List Reply) (after : Members)
      → at_start ≤ first.faults → Breaks at_end first calls replies after → ⊥
  none_broke first calls replies after le b =
      let before = counts_up first b.cut.goes.last b.cut.goes.made b.answered b.cut.goes.run in
      let later = counts_up b.broken b.last b.then_made b.refused b.run in
      let more = (refuses_where_due b.cut.goes.last b.broken b.cut.call Device b.step).1 in
      let rises : MoreFaults at_start at_end = omega (arith, more, le, before, later, b.counts) in
      sound rises

pub device_is_the_cause : DeviceIsTheCause
device_is_the_cause disk before after plan (NotOpened fault) (inl (is, more, left)) sound =
    absurd (sound more)
device_is_the_cause disk before after plan (NotOpened fault) (inr (other, room, left)) sound = other
device_is_the_cause disk before after plan StoppedOpening step sound = tt
device_is_the_cause disk before after plan (Rested replies) (first, begins, rests) sound =
    gone disk.at_start disk.at_end sound first plan.calls replies begins.is_on.counts rests.goes
device_is_the_cause disk before after plan (StoppedCall replies) (first, begins, cut) sound =
    gone disk.at_start disk.at_end sound first plan.calls replies begins.is_on.counts cut.goes
device_is_the_cause disk before after plan (Broke replies) (first, begins, breaks) sound =
    none_broke disk.at_start disk.at_end sound first plan.calls replies after begins.is_on.counts
    breaks
device_is_the_cause disk before after plan (Grouped replies count) (first, begins, group) sound =
    gone disk.at_start disk.at_end sound first plan.calls replies begins.is_on.counts group.goes
device_is_the_cause disk before after plan (StoppedGroup replies count) (first, begins, cut) sound =
    gone disk.at_start disk.at_end sound first plan.calls replies begins.is_on.counts cut.goes
device_is_the_cause disk before after plan (BrokeGroup replies count) (first, begins, cut, more)
    sound = absurd (sound more)
