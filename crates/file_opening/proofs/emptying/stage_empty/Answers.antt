use Rattle.std.proofs.Common.{◌∙◌, ap, refl}
use Rattle.std.proofs.lemmas.Result.{IfOk-from_err}
use Rattle.page_io.specs.Store.{StoreState}
use Rattle.page_io.proofs.Exits.{exit_is, if_exit}
use Rattle.page_io.proofs.Views.{after_stage, stages_then}
use Rattle.file_opening.proofs.StagedEmpty.{first_number, second_number, third_number, not_broken, not_err}
use Rattle.file_opening.proofs.emptying.stage_empty.Goals as goal

-- ---- the first page

pub stage-requires-clause-number : goal.stage-requires-clause-number
stage-requires-clause-number g c =
    first_number c.args.pages.now c.index-pages-0.result c.requires.numbers

pub returns-in_err-stage-clause-stages : goal.returns-in_err-stage-clause-stages
returns-in_err-stage-clause-stages g c =
    let st = g.S.PageStore in
    after_stage st c.args.store.now c.stage.new.self _ c.stage.result
    (g.met.S.PageStore.counts_now c.stage.new.self) c.stage.ensures.ok c.stage.ensures.err
    c.stage.ensures.honesty c.stage.ensures.faults c.stage.ensures.kept

pub returns-in_err-stage-clause-only : goal.returns-in_err-stage-clause-only
returns-in_err-stage-clause-only g c =
    if_exit _ _ c.in_err-stage.field-0.0 (exit_is _ _ c.from_residual.ensures.1)
    c.in_err-stage.ensures.answer.only

pub returns-in_err-stage-clause-broken : goal.returns-in_err-stage-clause-broken
returns-in_err-stage-clause-broken g c is usable =
    not_broken _ c.in_err-stage.field-0.0 _ _ (exit_is _ _ c.from_residual.ensures.1) refl
    c.in_err-stage.ensures.answer.broken.0 is usable

pub returns-in_err-stage-clause-staged : goal.returns-in_err-stage-clause-staged
returns-in_err-stage-clause-staged g c = IfOk-from_err _ _ c.from_residual.ensures.0

-- ---- the second page

pub stage-requires-2-clause-number : goal.stage-requires-2-clause-number
stage-requires-2-clause-number g c =
    second_number c.args.pages.now c.index-pages-1.result c.requires.numbers

pub returns-in_err-stage-2-clause-stages : goal.returns-in_err-stage-2-clause-stages
returns-in_err-stage-2-clause-stages g c =
    let st = g.S.PageStore in
    let first = after_stage st c.args.store.now c.stage.new.self _ c.stage.result
    (g.met.S.PageStore.counts_now c.stage.new.self) c.stage.ensures.ok c.stage.ensures.err
    c.stage.ensures.honesty c.stage.ensures.faults c.stage.ensures.kept in
    stages_then st _ _ _ (g.met.S.PageStore.counts_now c.stage.new.self) first
    (after_stage st c.stage.new.self c.stage-2.new.self _ c.stage-2.result
    (g.met.S.PageStore.counts_now c.stage-2.new.self) c.stage-2.ensures.ok
    c.stage-2.ensures.err c.stage-2.ensures.honesty c.stage-2.ensures.faults
    c.stage-2.ensures.kept)

pub returns-in_err-stage-2-clause-only : goal.returns-in_err-stage-2-clause-only
returns-in_err-stage-2-clause-only g c =
    if_exit _ _ c.in_err-stage-2.field-0.0 (exit_is _ _ c.from_residual-in_err-stage-2.ensures.1)
    c.in_err-stage-2.ensures.answer.only

pub returns-in_err-stage-2-clause-broken : goal.returns-in_err-stage-2-clause-broken
returns-in_err-stage-2-clause-broken g c is usable =
    not_broken _ c.in_err-stage-2.field-0.0 _ _
    (exit_is _ _ c.from_residual-in_err-stage-2.ensures.1)
    (ap (λ (s : StoreState). s.usable) c.in_ok-stage.ensures.ok)
    c.in_err-stage-2.ensures.answer.broken.0 is usable

pub returns-in_err-stage-2-clause-staged : goal.returns-in_err-stage-2-clause-staged
returns-in_err-stage-2-clause-staged g c =
    IfOk-from_err _ _ c.from_residual-in_err-stage-2.ensures.0

-- ---- the third page

pub stage-requires-3-clause-number : goal.stage-requires-3-clause-number
stage-requires-3-clause-number g c =
    third_number c.args.pages.now c.index-pages-2.result c.requires.numbers

pub returns-in_err-stage-3-clause-stages : goal.returns-in_err-stage-3-clause-stages
returns-in_err-stage-3-clause-stages g c =
    let st = g.S.PageStore in
    let first = after_stage st c.args.store.now c.stage.new.self _ c.stage.result
    (g.met.S.PageStore.counts_now c.stage.new.self) c.stage.ensures.ok c.stage.ensures.err
    c.stage.ensures.honesty c.stage.ensures.faults c.stage.ensures.kept in
    let second = stages_then st _ _ _ (g.met.S.PageStore.counts_now c.stage.new.self) first
    (after_stage st c.stage.new.self c.stage-2.new.self _ c.stage-2.result
    (g.met.S.PageStore.counts_now c.stage-2.new.self) c.stage-2.ensures.ok
    c.stage-2.ensures.err c.stage-2.ensures.honesty c.stage-2.ensures.faults
    c.stage-2.ensures.kept) in
    stages_then st _ _ _ (g.met.S.PageStore.counts_now c.stage-2.new.self) second
    (after_stage st c.stage-2.new.self c.stage-3.new.self _ c.stage-3.result
    (g.met.S.PageStore.counts_now c.stage-3.new.self) c.stage-3.ensures.ok
    c.stage-3.ensures.err c.stage-3.ensures.honesty c.stage-3.ensures.faults
    c.stage-3.ensures.kept)

pub returns-in_err-stage-3-clause-only : goal.returns-in_err-stage-3-clause-only
returns-in_err-stage-3-clause-only g c =
    if_exit _ _ c.in_err-stage-3.field-0.0 (exit_is _ _ c.from_residual-in_err-stage-3.ensures.1)
    c.in_err-stage-3.ensures.answer.only

pub returns-in_err-stage-3-clause-broken : goal.returns-in_err-stage-3-clause-broken
returns-in_err-stage-3-clause-broken g c is usable =
    not_broken _ c.in_err-stage-3.field-0.0 _ _
    (exit_is _ _ c.from_residual-in_err-stage-3.ensures.1)
    (ap (λ (s : StoreState). s.usable) c.in_ok-stage-2.ensures.ok
    ∙ ap (λ (s : StoreState). s.usable) c.in_ok-stage.ensures.ok)
    c.in_err-stage-3.ensures.answer.broken.0 is usable

pub returns-in_err-stage-3-clause-staged : goal.returns-in_err-stage-3-clause-staged
returns-in_err-stage-3-clause-staged g c =
    IfOk-from_err _ _ c.from_residual-in_err-stage-3.ensures.0

-- ---- all are staged

pub returns-clause-stages : goal.returns-clause-stages
returns-clause-stages g c =
    let st = g.S.PageStore in
    let first = after_stage st c.args.store.now c.stage.new.self _ c.stage.result
    (g.met.S.PageStore.counts_now c.stage.new.self) c.stage.ensures.ok c.stage.ensures.err
    c.stage.ensures.honesty c.stage.ensures.faults c.stage.ensures.kept in
    let second = stages_then st _ _ _ (g.met.S.PageStore.counts_now c.stage.new.self) first
    (after_stage st c.stage.new.self c.stage-2.new.self _ c.stage-2.result
    (g.met.S.PageStore.counts_now c.stage-2.new.self) c.stage-2.ensures.ok
    c.stage-2.ensures.err c.stage-2.ensures.honesty c.stage-2.ensures.faults
    c.stage-2.ensures.kept) in
    stages_then st _ _ _ (g.met.S.PageStore.counts_now c.stage-2.new.self) second
    (after_stage st c.stage-2.new.self c.stage-3.new.self _ c.stage-3.result
    (g.met.S.PageStore.counts_now c.stage-3.new.self) c.stage-3.ensures.ok
    c.stage-3.ensures.err c.stage-3.ensures.honesty c.stage-3.ensures.faults
    c.stage-3.ensures.kept)

pub returns-clause-broken : goal.returns-clause-broken
returns-clause-broken g c is usable = not_err _ _ is
