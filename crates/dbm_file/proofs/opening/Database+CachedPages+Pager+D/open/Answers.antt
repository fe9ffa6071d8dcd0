use Rattle.std.proofs.Common.{◌≡◌, ◌/◌, ⊎_elim, Some, refl, sym, subst, ap, ◌∙◌}
use Rattle.file_opening.specs.Opening.{writes, early_fault, IsRefusedOpening}
use Rattle.dbm_file.proofs.OpenedFiles.{opened_over, early_again, early_or}
use Rattle.dbm_fault.specs.declared.fault.Fault.TheVariants.{Device, NoRoom}
use Rattle.dbm_file.proofs.EnoughRoom.{not_early, never_short, opened_room, opened_has_room}
use Rattle.dbm_file.proofs.opening.Database+CachedPages+Pager+D.open.Goals as goal

pub returns-in-Ok-clause-early : goal.returns-in-Ok-clause-early
returns-in-Ok-clause-early g c =
    early_again c.args.dev
    (early_fault c.args.how (g.D.SectorDev.sectors c.args.dev)) c.in-Ok.file _
    c.in-Ok.ensures.early

pub returns-in-Ok-clause-stands : goal.returns-in-Ok-clause-stands
returns-in-Ok-clause-stands g c honest one stand =
    let all = c.in-Ok.ensures in
    let found = all.stands honest one stand in (
      found.0,
      found.1,
      opened_over _ (writes c.args.how.access) _ _ c.in-Ok.file.store found.0 found.1
          (λ cached. record { committed = refl; state = refl; settles = λ y left. left })
          c.keeping.ensures.store found.2.holds found.2.rests found.2.bounds_are all.fresh.usable
          all.fresh.writable all.fresh.capacity refl refl,
      found.3,
    )

pub returns-in-Ok-clause-room : goal.returns-in-Ok-clause-room
returns-in-Ok-clause-room g c honest enough =
    let dev = g.D.SectorDev in
    let old = c.args.dev in
    let all = c.in-Ok.ensures in (
      tt,
      opened_has_room _ _ c.in-Ok.file.store (dev.sectors old / 4)
          (λ cached. record { committed = refl; state = refl; settles = λ y left. left })
          c.keeping.ensures.store all.fresh.capacity
          (opened_room c.args.how (dev.sectors old) (dev.candidate old) _ enough (all.opened honest)),
    )

pub returns-in-Err-clause-room : goal.returns-in-Err-clause-room
returns-in-Err-clause-room g c honest enough =
    let dev = g.D.SectorDev in
    let old = c.args.dev in
    let how = c.args.how in
    let e = c.in-Err.refused in
    let all = c.in-Err.ensures in
    let due = early_fault how (dev.sectors old) in (
      λ is.
          let other : e.1 ≡ Device → ⊥ = λ device. absurd
          (let both : NoRoom ≡ Device = sym is ∙ device in cc) in
          ⊎_elim (λ early. not_early how (dev.sectors old) (early ∙ ap Some is))
          (λ why. never_short how (dev.sectors old) (dev.candidate old) (dev.candidate e.0) enough
          (subst (IsRefusedOpening how (dev.sectors old) (dev.candidate old) (dev.candidate e.0))
          is why))
          (early_or _ due e.1 old e.0 all.early (λ none. all.refused honest none other)),
      tt,
    )

pub returns-in-Ok-clause-opened : goal.returns-in-Ok-clause-opened
returns-in-Ok-clause-opened g c honest = c.in-Ok.ensures.opened honest
