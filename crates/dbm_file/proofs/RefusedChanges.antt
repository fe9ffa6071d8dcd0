-- What a refused change leaves on any device.
use Rattle.std.proofs.Common.{◌≡◌, ◌⊎◌, inl, inr, ⊎_elim, true, false, cond, Option, Some, is_some, Result, Ok, Err, refl, sym, ◌∙◌, ap, subst, arith}
use Rattle.std.specs.Prelude.{IsErrAnd}
use Rattle.std.specs.Option.{option_map}
use Rattle.page_model.specs.Pages.{Meta}
use Rattle.page_io.specs.Store as store
use Rattle.page_io.specs.declared.store.PageStore.{Ghosts}
use Rattle.page_io.specs.declared.store.PageFault.{PageFault}
use Rattle.page_io.specs.declared.store.PageFault.TheVariants as page
use Rattle.page_io.proofs.Exits.{more_later, both_ways}
use Rattle.dbm_fault.specs.Faults.{fault_of, fault_from}
use Rattle.dbm_fault.specs.declared.fault.Fault.{Fault}
use Rattle.dbm_fault.specs.declared.fault.Fault.TheVariants.{Device, Broken}
use Rattle.page_io.specs.Committing.{IsForgotten}
use Rattle.dbm_file.specs.Passing.{model_pass}
use Rattle.dbm_file.specs.Database.{page_state}
use Rattle.dbm_file.specs.Answers.{IsCallEnded}
use Rattle.dbm_file.specs.Trying.{with_fault, with_error_of, IsRead}
use Rattle.dbm_file.specs.declared.database.Database.{Database}
use Rattle.dbm_file.proofs.ChangeSteps.{IsDone, forgotten_writable, forgotten_room, forgotten_base}
use Rattle.dbm_file.proofs.ReadSteps.{kept_first, still_meta, still_bounds, still_writable, still_usable, still_capacity, still_end}

-- a fault of the device is told as one, and so on
pub told_device : (e : PageFault) → fault_from e ≡ Device → e ≡ page.Device
told_device page.Memory is = absurd (let x = is in cc)
told_device page.Device is = refl
told_device page.Broken is = absurd (let x = is in cc)
told_device page.ReadOnly is = absurd (let x = is in cc)
told_device page.NoRoom is = absurd (let x = is in cc)
told_device page.Damaged is = absurd (let x = is in cc)

pub told_broken : (e : PageFault) → fault_from e ≡ Broken → e ≡ page.Broken
told_broken page.Memory is = absurd (let x = is in cc)
told_broken page.Device is = absurd (let x = is in cc)
told_broken page.Broken is = refl
told_broken page.ReadOnly is = absurd (let x = is in cc)
told_broken page.NoRoom is = absurd (let x = is in cc)
told_broken page.Damaged is = absurd (let x = is in cc)

-- what a refused change leaves on any device
module _ {S : Type 0} (s : Ghosts S) (old mid new : Database S s) (read : IsRead old mid)
    (usable : (page_state old).usable ≡ true) (writable : (page_state old).writable ≡ true)
    (e : PageFault) (ended : IsDone s mid new (Err e)) where
  sound : e ≡ page.Broken → ⊥
  sound is = let broken = ended.ends.answer.broken (ap Err is) in let was =
      still_usable s old mid read ∙ usable in absurd (cc)

  -- the store is as before, but for what was forgotten
  record IsAsBefore : Type 0 where
    capacity : (page_state new).capacity ≡ (page_state old).capacity
    end : (page_state new).end ≡ (page_state old).end
    breaks : ((page_state new).usable ≡ (page_state old).usable)
        ⊎ ((e ≡ page.Device) × ((page_state new).usable ≡ false))

  as_before : IsForgotten (page_state mid) (page_state new) e → IsAsBefore
  as_before forgotten =
      let room = forgotten_room (page_state mid) (page_state new) e forgotten in
      record {
        capacity = room.0 ∙ still_capacity s old mid read;
        end = room.1 ∙ still_end s old mid read;
        breaks = ⊎_elim
            (λ same. inl (ap (λ (st : store.StoreState). st.usable) same
            ∙ still_usable s old mid read))
            (λ broke. inr (broke.0, ap (λ (st : store.StoreState). st.usable) broke.1))
            forgotten;
      }

  refused_keeps : (T : Type 0) → IsCallEnded {T = T} old (with_fault new (fault_from e))
      (Err (fault_from e))
  refused_keeps T =
      let was = as_before ended.ends.err.0 in
      record {
        goes = record {
          honesty = both_ways ended.ends.honesty read.reads.stages_only.honesty;
          later = omega (arith, read.reads.stages_only.later, ended.ends.cause.later);
          bounds = ap (λ (m : Meta). m.bounds) ended.ends.err.1 ∙ still_bounds s old mid read;
          capacity = was.capacity;
          writable = forgotten_writable (page_state mid) (page_state new) e ended.ends.err.0
              ∙ still_writable s old mid read;
          base = forgotten_base (page_state mid) (page_state new) e ended.ends.err.0
              ∙ ap (λ (st : store.StoreState). st.base) read.reads.same;
          still = λ broken. absurd (let x = broken in cc);
          reading = λ honest access. absurd (let x = sym writable ∙ access in cc);
        };
        fault = λ is. more_later _ _ _ read.reads.stages_only.later
            (ended.ends.cause.fault (ap Err (told_device e (let x = is in cc))));
        no_error = tt;
        error = ap (λ (o : Option Fault).
            option_map fault_of (cond (is_some o) o (Some (fault_from e))))
            (ended.error_is ∙ read.error_is) ∙ kept_first old.error (fault_from e);
        refused = (
          ended.ends.err.1 ∙ still_meta s old mid read,
          was.end,
          ap model_pass (ended.pass_is ∙ read.pass_is),
        );
        kept = λ honest usable_now.
            let read_on = read.reads.stages_only in
            let left = ended.ends.kept (read_on.honesty.1 honest) usable_now in
            record {
              committed = left.committed ∙ (read_on.kept honest).committed;
              still = left.still ∙ (read_on.kept honest).still;
            };
        breaks = ⊎_elim (λ same. inl same)
            (λ broke. inr (ap Err (ap fault_from broke.0), broke.1)) was.breaks;
        broken = (
          λ is. absurd (sound (told_broken e (let x = is in cc))),
          λ broken.
              absurd (let x = broken in cc),
        );
      }

  -- as a `?` answers it
  pub told_keeps : {T : Type 0} (r : Result T Fault) → IsErrAnd r (λ fault. fault ≡ fault_from e)
      → IsCallEnded old (with_error_of new r) r
  told_keeps {T} (Ok value) is = absurd is
  told_keeps {T} (Err fault) is =
      subst (λ (f : Fault). IsCallEnded {T = T} old (with_fault new f) (Err f)) (sym is)
      (refused_keeps T)
