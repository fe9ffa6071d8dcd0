use Rattle.std.proofs.Common.{arith}
use Rattle.device_tests.proofs.Staging.{staged_below, some_staged}
use Rattle.device_tests.proofs.stores.stage.Goals as goal

pub returns-clause-below : goal.returns-clause-below
returns-clause-below g c =
    let s = g.S.PageStore in
    staged_below c.stage.result (s.state c.args.store.now) (s.state c.stage.new.self)
    c.args.page.now.bytes 5 c.stage.ensures.ok c.stage.ensures.err
    (omega (arith, c.own-n.ensures.number, c.if-n-gt4.false))

pub returns-clause-some : goal.returns-clause-some
returns-clause-some g c =
    let s = g.S.PageStore in
    some_staged c.stage.result (s.state c.args.store.now) (s.state c.stage.new.self)
    c.args.page.now.bytes c.stage.ensures.ok
