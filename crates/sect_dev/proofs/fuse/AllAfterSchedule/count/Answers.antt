use Rattle.std.proofs.Common.{refl, arith}
use Rattle.sect_dev.proofs.Schedules.{blown, stays_blown}
use Rattle.sect_dev.proofs.fuse.AllAfterSchedule.count.Goals as goal

pub returns-then-self-eq0 : goal.returns-then-self-eq0
returns-then-self-eq0 c = record {
  now = blown c.args.self.now.calls_left c.if-self-eq0.true;
  next = stays_blown c.args.self.now.calls_left c.if-self-eq0.true;
  until = λ before now one stays. omega (arith, stays refl refl);
}
