use Rattle.std.proofs.Common.{inl, ◌/◌, refl, sym, ap, ◌∙◌, subst}
use denote.Enum.Bare.{same_false}
use Rattle.sect_dev.specs.Reads.{OnlyReads}
use Rattle.file_opening.proofs.EmptyFiles.{reads_nothing}
use Rattle.dbm_fault.specs.declared.fault.Fault.TheVariants.{Device, Exists}
use Rattle.dbm_fault.specs.contracts.fault.Fault.{the_type}
use Rattle.file_opening.proofs.Exits.{exists_opens, same_honest, same_faults, reads_leave, reads_settle}
use Rattle.file_opening.proofs.opening.open_there.Goals as goal

pub returns-then-is_exclusive-clause-fresh : goal.returns-then-is_exclusive-clause-fresh
returns-then-is_exclusive-clause-fresh g c = tt

pub returns-then-is_exclusive-clause-any_moment : goal.returns-then-is_exclusive-clause-any_moment
returns-then-is_exclusive-clause-any_moment g c honest =
    let dev = g.D.SectorDev in
    let d = c.args.store.dev in
    reads_settle dev (dev.sectors d / 4) d c.into_dev.result _
    (subst (OnlyReads dev d) (sym c.into_dev.ensures)
    (reads_nothing dev d (λ image left. g.met.D.SectorDev.only_now d image honest left)))

pub returns-then-is_exclusive-clause-stands : goal.returns-then-is_exclusive-clause-stands
returns-then-is_exclusive-clause-stands g c honest only map bounds stands = tt

pub returns-then-is_exclusive-clause-only_reads : goal.returns-then-is_exclusive-clause-only_reads
returns-then-is_exclusive-clause-only_reads g c reading honest =
    let dev = g.D.SectorDev in
    let d = c.args.store.dev in
    subst (OnlyReads dev d) (sym c.into_dev.ensures)
    (reads_nothing dev d (λ image left. g.met.D.SectorDev.only_now d image honest left))

pub returns-then-is_exclusive-clause-refused : goal.returns-then-is_exclusive-clause-refused
returns-then-is_exclusive-clause-refused g c honest other =
    let dev = g.D.SectorDev in
    let store = c.args.store in
    let d = store.dev in
    let rest = store.settles honest c.requires.fresh.usable in
    let reads = subst (OnlyReads dev d) (sym c.into_dev.ensures)
    (reads_nothing dev d (λ image left. g.met.D.SectorDev.only_now d image honest left)) in (
      inl (inl (sym c.is_exclusive.ensures ∙ c.if-is_exclusive.true, refl)),
      λ writing. reads_leave dev (dev.sectors d / 4) d c.into_dev.result _ reads
          (rest.waits (c.requires.fresh.writable ∙ writing)).stable rest.settles,
    )

pub returns-then-is_exclusive-clause-device : goal.returns-then-is_exclusive-clause-device
returns-then-is_exclusive-clause-device g c = record {
  honesty = same_honest g.D.SectorDev c.args.store.dev c.into_dev.result c.into_dev.ensures;
  later = same_faults g.D.SectorDev c.args.store.dev c.into_dev.result c.into_dev.ensures;
  fault = λ is. absurd (same_false the_type Exists Device refl is);
}

pub returns-then-is_exclusive-clause-only : goal.returns-then-is_exclusive-clause-only
returns-then-is_exclusive-clause-only g c = exists_opens

pub returns-then-is_exclusive-clause-size : goal.returns-then-is_exclusive-clause-size
returns-then-is_exclusive-clause-size g c =
    let dev = g.D.SectorDev in
    (ap (λ d. dev.sectors d / 4) c.into_dev.ensures, λ kept. ap dev.sectors c.into_dev.ensures)
