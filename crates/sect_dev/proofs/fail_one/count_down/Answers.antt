use Rattle.std.proofs.Common.{sym, ◌∙◌}
use Rattle.sect_dev.proofs.Schedules.{fails_now, fails_no_more}
use Rattle.sect_dev.proofs.fail_one.count_down.Goals as goal

pub returns-in-Some-eq0 : goal.returns-in-Some-eq0
returns-in-Some-eq0 c =
    let schedule = c.args.calls_before.now in
    let some = c.in-Some-eq0 in
    let first = sym some.field-0-is ∙ some.field-0-test in
    record {
      now = fails_now schedule some.field-0 some.is first;
      next = fails_no_more schedule some.field-0 some.is first;
    }
