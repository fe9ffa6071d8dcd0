use Rattle.std.proofs.Common.{ap}
use Rattle.sect_dev.specs.declared.fail_one.OneLate.{OneLate}
use Rattle.sect_dev.specs.Failing.{schedule_of}
use Rattle.sect_dev.proofs.Schedules.{fails_at}
use Rattle.sect_dev.proofs.fail_one.Failing+D+OneLate.new.Goals as goal

pub returns-clause-fails : goal.returns-clause-fails
returns-clause-fails _ c =
    fails_at (schedule_of c.with_schedule.result).0 c.args.k (ap (λ (p : OneLate). p.0)
    c.with_schedule.ensures.schedule)
