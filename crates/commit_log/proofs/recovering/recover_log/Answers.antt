use Rattle.commit_log.proofs.Recovered.{one_read, two_read, then_ended}
use Rattle.commit_log.proofs.recovering.recover_log.Goals as goal

pub returns-in_err-first-clause-any_moment : goal.returns-in_err-first-clause-any_moment
returns-in_err-first-clause-any_moment g c honest =
    one_read g.D.SectorDev c.args.dev.now c.read_slot.new.dev c.args.start
    (c.requires.stable honest) (c.read_slot.ensures.only_reads honest)

pub returns-in_err-second-clause-any_moment : goal.returns-in_err-second-clause-any_moment
returns-in_err-second-clause-any_moment g c honest =
    let h1 = c.read_slot.ensures.device.honesty.1 honest in
    two_read g.D.SectorDev c.args.dev.now c.read_slot.new.dev c.args.start
    (c.requires.stable honest) (c.read_slot.ensures.only_reads honest) c.read_slot-2.new.dev
    (c.read_slot-2.ensures.only_reads h1)

pub returns-then-first-clause-any_moment : goal.returns-then-first-clause-any_moment
returns-then-first-clause-any_moment g c honest =
    let h1 = c.read_slot.ensures.device.honesty.1 honest in
    two_read g.D.SectorDev c.args.dev.now c.read_slot.new.dev c.args.start
    (c.requires.stable honest) (c.read_slot.ensures.only_reads honest) c.read_slot-2.new.dev
    (c.read_slot-2.ensures.only_reads h1)

pub returns-then-second-first-clause-any_moment : goal.returns-then-second-first-clause-any_moment
returns-then-second-first-clause-any_moment g c honest =
    let h1 = c.read_slot.ensures.device.honesty.1 honest in
    let h2 = c.read_slot-2.ensures.device.honesty.1 h1 in
    then_ended g.D.SectorDev c.args.dev.now c.read_slot.new.dev c.args.start
    (c.requires.stable honest) (c.read_slot.ensures.only_reads honest) c.read_slot-2.new.dev
    (c.read_slot-2.ensures.only_reads h1) c.end_log.new.dev
    (c.end_log.ensures.any_moment h2)

pub returns-clause-any_moment : goal.returns-clause-any_moment
returns-clause-any_moment g c honest =
    let h1 = c.read_slot.ensures.device.honesty.1 honest in
    let h2 = c.read_slot-2.ensures.device.honesty.1 h1 in
    then_ended g.D.SectorDev c.args.dev.now c.read_slot.new.dev c.args.start
    (c.requires.stable honest) (c.read_slot.ensures.only_reads honest) c.read_slot-2.new.dev
    (c.read_slot-2.ensures.only_reads h1) c.end_log-2.new.dev
    (c.end_log-2.ensures.any_moment h2)
