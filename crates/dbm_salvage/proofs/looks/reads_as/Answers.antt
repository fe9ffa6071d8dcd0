use Rattle.std.proofs.Common.{arith}
use Rattle.dbm_salvage.proofs.PageKinds.{has_kind}
use Rattle.dbm_salvage.proofs.looks.reads_as.Goals as goal

pub returns-in_default : goal.returns-in_default
returns-in_default c = (
  λ yes. absurd cc,
  λ reads. let kind = has_kind c.args.n c.args.page.now.bytes reads in
      absurd (omega (arith, kind.0, kind.1, c.kind.ensures)),
)

pub returns-in_default-2 : goal.returns-in_default-2
returns-in_default-2 c = (
  λ yes. absurd cc,
  λ reads. let kind = has_kind c.args.n c.args.page.now.bytes reads in
      absurd (omega (arith, kind.0, kind.1, c.kind.ensures)),
)
