use Rattle.std.proofs.Common.{rules}
use Rattle.std.specs.FinMap.{remove}
use Rattle.page_model.specs.Pages.{Meta}
use Rattle.page_io.proofs.Exits.{exit_is}
use Rattle.seg_table.specs.MetaPages.{model_meta}
use Rattle.linear_hash.proofs.Ended.{turned, refused_turn}
use Rattle.linear_hash.proofs.changes.delete_pair.Goals as goal

pub returns-clause-deleted : goal.returns-clause-deleted
returns-clause-deleted g c = search rules

pub returns-clause-turns : goal.returns-clause-turns
returns-clause-turns g c = search rules

pub returns-in_err-commit_delete-clause-turns : goal.returns-in_err-commit_delete-clause-turns
returns-in_err-commit_delete-clause-turns g c honest usable map holds was =
    let result = c.from_residual in
    let exit = exit_is result.result c.in_err-commit_delete.field-0.0 result.ensures.1 in
    let before = model_meta c.args.meta.now in
    refused_turn g.S.PageStore _ _ before _ _ exit _ _ _ _ _
    (turned g.S.PageStore _ _ before _ (model_meta c.commit_delete.new.meta) map
    (remove map c.args.key.now) (λ (m : Meta). m.bounds) (λ (m : Meta). 0) _
    c.copied-changed.ensures
    (λ there. c.in_err-commit_delete.ensures.turns honest usable map there was) holds)
