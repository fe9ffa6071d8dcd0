use Rattle.std.proofs.Common.{refl, sym}
use Rattle.page_io.proofs.Views.{after_stage, staged_shown}
use Rattle.bucket_chain.proofs.StagedPages.{few_more, still_known, may_still_end, others_still, on_ok}
use Rattle.bucket_chain.proofs.staging.stage_own.Goals as goal

pub returns-clause-few : goal.returns-clause-few
returns-clause-few g c =
    let s = g.S.PageStore in
    few_more (s.state c.args.store.now) (s.state c.stage.new.self) c.args.page.now.bytes
    c.stage.result c.stage.ensures.ok c.stage.ensures.err
    (g.met.S.PageStore.in_order c.args.store.now)

pub returns-clause-shown : goal.returns-clause-shown
returns-clause-shown g c honest =
    let s = g.S.PageStore in
    let old = c.args.store.now in
    let new = c.stage.new.self in
    let only = after_stage s old new c.args.page.now.bytes c.stage.result
    (g.met.S.PageStore.counts_now new) c.stage.ensures.ok c.stage.ensures.err
    c.stage.ensures.honesty c.stage.ensures.faults c.stage.ensures.kept in
    on_ok c.stage.result c.stage.ensures.ok
    (λ put. sym (staged_shown s old new _ c.args.page.now.bytes only honest
    (g.met.S.PageStore.in_order old) put refl))

pub returns-clause-others : goal.returns-clause-others
returns-clause-others g c honest n other =
    let s = g.S.PageStore in
    let old = c.args.store.now in
    let new = c.stage.new.self in
    let only = after_stage s old new c.args.page.now.bytes c.stage.result
    (g.met.S.PageStore.counts_now new) c.stage.ensures.ok c.stage.ensures.err
    c.stage.ensures.honesty c.stage.ensures.faults c.stage.ensures.kept in
    others_still s old new c.args.page.now.bytes c.stage.result c.stage.ensures.ok
    c.stage.ensures.err only honest n other

pub returns-clause-known : goal.returns-clause-known
returns-clause-known g c =
    let s = g.S.PageStore in
    still_known (s.state c.args.store.now) (s.state c.stage.new.self) c.args.page.now.bytes
    c.stage.result c.stage.ensures.ok c.stage.ensures.err

pub returns-clause-may_end : goal.returns-clause-may_end
returns-clause-may_end g c =
    let s = g.S.PageStore in
    may_still_end (s.state c.args.store.now) (s.state c.stage.new.self) c.args.page.now.bytes
    c.stage.result c.stage.ensures.ok c.stage.ensures.err
