use Rattle.page_model.specs.Pages.{Meta}
use Rattle.dbm_model.specs.Bounds.{upgraded}
use Rattle.page_io.proofs.Exits.{exit_is}
use Rattle.seg_table.specs.MetaPages.{model_meta}
use Rattle.linear_hash.proofs.Ended.{turned, refused_turn}
use Rattle.linear_hash.proofs.changes.upgrade.Goals as goal

pub returns-in_err-commit_upgrade-clause-turns : goal.returns-in_err-commit_upgrade-clause-turns
returns-in_err-commit_upgrade-clause-turns g c honest usable map holds =
    let result = c.from_residual in
    let exit = exit_is result.result c.in_err-commit_upgrade.field-0.0 result.ensures.1 in
    let before = model_meta c.args.meta.now in
    refused_turn g.S.PageStore _ _ before _ _ exit _ _ _ _ _
    (turned g.S.PageStore _ _ before _ (model_meta c.commit_upgrade.new.meta) map map
    (λ (m : Meta). upgraded m.bounds) (λ (m : Meta). 0) _ c.copied-changed.ensures
    (λ there. c.in_err-commit_upgrade.ensures.turns honest usable map there) holds)

pub returns-clause-turns : goal.returns-clause-turns
returns-clause-turns g c honest usable map holds =
    let before = model_meta c.args.meta.now in
    turned g.S.PageStore _ _ before _ (model_meta c.commit_upgrade.new.meta) map map
    (λ (m : Meta). upgraded m.bounds) (λ (m : Meta). 0) _ c.copied-changed.ensures
    (λ there. c.in_ok-commit_upgrade.ensures.turns honest usable map there) holds
