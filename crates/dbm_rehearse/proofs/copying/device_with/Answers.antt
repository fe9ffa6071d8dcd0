use Rattle.std.proofs.Common.{◌∙◌, ap, arith}
use Rattle.sect_dev.specs.History.{content_after}
use Rattle.sect_dev.specs.Mem.{history}
use Rattle.dbm_rehearse.proofs.Copies.{all_copied}
use Rattle.dbm_rehearse.proofs.copying.device_with.Goals as goal

pub returns-clause-holds : goal.returns-clause-holds
returns-clause-holds c = λ n lt.
    ap (λ h. content_after h n) c.sync.ensures.adds
    ∙ all_copied c.args.bytes.now c.sectors_with-n-end.result c.loop-n.n c.args.sectors
    (content_after (history c.loop-n.dev)) c.loop-n.invariant.copied
    (omega (arith, c.loop-n-test.false)) c.sectors_with-n-end.ensures.all n lt
