use Rattle.std.proofs.Common.{arith, refl}
use Rattle.slot_page.proofs.bucket.skipping.Goals as goal

pub returns-then-j-i : goal.returns-then-j-i
returns-then-j-i c = record {
  below = λ _. refl;
  above = λ le. absurd (omega (arith, le, c.if-j-i.true));
}
