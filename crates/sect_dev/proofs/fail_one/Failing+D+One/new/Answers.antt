use Rattle.std.proofs.Common.{ap}
use Rattle.sect_dev.specs.declared.fail_one.One.{One}
use Rattle.sect_dev.specs.Failing.{schedule_of}
use Rattle.sect_dev.proofs.Schedules.{fails_at}
use Rattle.sect_dev.proofs.fail_one.Failing+D+One.new.Goals as goal

pub returns-clause-fails : goal.returns-clause-fails
returns-clause-fails _ c =
    fails_at (schedule_of c.with_schedule.result).0 c.args.k (ap (λ (p : One). p.0)
    c.with_schedule.ensures.schedule)
