use Rattle.std.proofs.Common.{◌+◌, sym, ◌∙◌}
use Rattle.sect_dev.specs.Device.{part_of}
use Rattle.commit_log.proofs.Finds.{part_field, carry_more, carry_fails}
use Rattle.commit_log.proofs.finding.carries.Goals as goal

pub returns-then-number_at-number : goal.returns-then-number_at-number
returns-then-number_at-number c =
    sym (carry_fails (part_of c.args.bytes.now) c.args.number c.args.count c.loop-k.k
    c.loop-k-test.true
    (λ is. c.if-number_at-number.true
    (c.number_at.ensures ∙ sym (part_field c.args.bytes.now (1 + c.loop-k.k)) ∙ is)))

pub loop-k-preserved : goal.loop-k-preserved
loop-k-preserved c = record {
  so_far = carry_more (part_of c.args.bytes.now) c.args.number c.loop-k.k c.loop-k.invariant.so_far
      (part_field c.args.bytes.now (1 + c.loop-k.k) ∙ sym c.number_at.ensures
      ∙ c.if-number_at-number.false);
}
