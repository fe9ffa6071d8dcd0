use Rattle.std.proofs.Common.{refl}
use Rattle.redo_area.proofs.Openings.{refused-blank, refused-not_ours, refused-damaged}
use Rattle.redo_area.proofs.Recoveries.{untouched}
use Rattle.redo_area.proofs.recovery.settle_found.Goals as goal

pub returns-in-Blank-clause-any_moment : goal.returns-in-Blank-clause-any_moment
returns-in-Blank-clause-any_moment g c honest =
    untouched g.D.SectorDev c.args.dev.now (c.requires.stable honest)
    (λ image left. g.met.D.SectorDev.only_now c.args.dev.now image honest left)

pub returns-in-Clear-clause-any_moment : goal.returns-in-Clear-clause-any_moment
returns-in-Clear-clause-any_moment g c honest =
    untouched g.D.SectorDev c.args.dev.now (c.requires.stable honest)
    (λ image left. g.met.D.SectorDev.only_now c.args.dev.now image honest left)

pub returns-in-NotOurs-clause-any_moment : goal.returns-in-NotOurs-clause-any_moment
returns-in-NotOurs-clause-any_moment g c honest =
    untouched g.D.SectorDev c.args.dev.now (c.requires.stable honest)
    (λ image left. g.met.D.SectorDev.only_now c.args.dev.now image honest left)

pub returns-in-Damaged-clause-any_moment : goal.returns-in-Damaged-clause-any_moment
returns-in-Damaged-clause-any_moment g c honest =
    untouched g.D.SectorDev c.args.dev.now (c.requires.stable honest)
    (λ image left. g.met.D.SectorDev.only_now c.args.dev.now image honest left)

pub returns-in-Blank-clause-refused : goal.returns-in-Blank-clause-refused
returns-in-Blank-clause-refused g c honest other = (
  c.requires.stable honest,
  refl,
  refused-blank (g.D.SectorDev.seen c.args.dev.now) c.capacity-capacity.ensures
      (c.requires.read honest) c.in-Blank.ensures.said,
)

pub returns-in-NotOurs-clause-refused : goal.returns-in-NotOurs-clause-refused
returns-in-NotOurs-clause-refused g c honest other = (
  c.requires.stable honest,
  refl,
  refused-not_ours (g.D.SectorDev.seen c.args.dev.now) c.capacity-capacity.ensures
      (c.requires.read honest) c.in-NotOurs.ensures.said c.in-NotOurs.ensures.ours,
)

pub returns-in-Damaged-clause-refused : goal.returns-in-Damaged-clause-refused
returns-in-Damaged-clause-refused g c honest other = (
  c.requires.stable honest,
  refl,
  refused-damaged (g.D.SectorDev.seen c.args.dev.now) c.capacity-capacity.ensures
      (c.requires.read honest) c.in-Damaged.ensures.said c.in-Damaged.ensures.ours,
)
