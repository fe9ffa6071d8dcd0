use Rattle.std.proofs.Common.{◌∙◌, ◌+◌, refl, sym, ap, subst}
use Rattle.std.specs.Prelude.{if◌then◌else◌}
use Rattle.std.specs.FinMap.{insert}
use Rattle.std.proofs.lemmas.Result.{IfOk-from_err}
use Rattle.dbm_model.specs.Sizes.{most_taken}
use Rattle.page_model.specs.Pages.{Meta}
use Rattle.dbm_model.specs.Pairs.{Pair}
use Rattle.page_io.specs.Views.{body_at}
use Rattle.page_io.specs.declared.store.PageFault.TheVariants.{Memory}
use Rattle.linear_hash.specs.Staging.{MayTakeMemory, TakesMemory}
use Rattle.page_io.proofs.Exits.{exit_is, came}
use Rattle.seg_table.specs.MetaPages.{model_meta}
use Rattle.linear_hash.specs.Tables.{shape_in, shape_for, IsTable}
use Rattle.linear_hash.specs.Changing.{IsStored}
use Rattle.linear_hash.proofs.Ended.{turned, refused_ends, refused_turn}
use Rattle.linear_hash.proofs.changes.store_pair.Goals as goal

-- the pair is not stored
pub returns-in_err-commit_store : goal.returns-in_err-commit_store
returns-in_err-commit_store g c =
    let told = c.in_err-commit_store.ensures in
    let result = c.from_residual in
    let exit = exit_is result.result c.in_err-commit_store.field-0.0 result.ensures.1 in
    let before = model_meta c.args.meta.now in
    record {
      ends = refused_ends g.S.PageStore _ _ before _ _ exit c.requires.valid told.ends.err
          told.ends.kept told.ends.cause told.ends.honesty told.ends.answer;
      pairs = IfOk-from_err _ _ result.ensures.0;
      bounds = refl;
      memory = λ is. subst (λ (m : Meta). MayTakeMemory m c.args.was_there
          (c.args.key.now, c.args.content.now)) c.copied-changed.ensures
          (told.memory (came _ _ exit Memory is));
      sparing = λ honest p table was is.
          let same = c.copied-changed.ensures in
          let pair : Pair = (c.args.key.now, c.args.content.now) in
          subst (λ (m : Meta). TakesMemory m p c.args.was_there pair) same
          (told.sparing honest p
          (subst (λ (m : Meta). IsTable (body_at g.S.PageStore c.args.store.now) m
          (g.S.PageStore.state c.args.store.now).end p) (sym same) table) was
          (came _ _ exit Memory is));
      shape = IfOk-from_err _ _ result.ensures.0;
      stored = λ honest. IfOk-from_err _ _ result.ensures.0;
      turns = λ honest usable map holds was.
          refused_turn g.S.PageStore _ _ before _ _ exit _ _ _ _ _
          (turned g.S.PageStore _ _ before _ (model_meta c.commit_store.new.meta) map
          (insert map c.args.key.now c.args.content.now) (λ (m : Meta). m.bounds)
          (λ (m : Meta). m.pairs + most_taken m.bounds.version) _
          c.copied-changed.ensures
          (λ there. told.turns honest usable map there was) holds);
    }

-- it is stored
pub returns : goal.returns
returns g c =
    let told = c.in_ok-commit_store.ensures in
    let same = c.copied-changed.ensures in
    record {
      ends = record {
        ok = told.ends.ok;
        err = tt;
        kept = λ honest. tt;
        valid = told.ends.valid;
        cause = told.ends.cause;
        honesty = told.ends.honesty;
        answer = told.ends.answer;
      };
      pairs = told.pairs ∙ ap (λ (m : Meta). if c.args.was_there then m.pairs else m.pairs + 1)
          same;
      bounds = told.bounds ∙ ap (λ (m : Meta). m.bounds) same;
      memory = λ is. absurd (let x = is in cc);
      sparing = λ honest p table was is. absurd (let x = is in cc);
      shape = told.shape ∙ ap (λ (m : Meta). shape_for c.commit_store.new.meta.pairs (shape_in m))
          same;
      stored = λ honest.
          let pair : Pair = (c.args.key.now, c.args.content.now) in
          subst (λ (m : Meta). IsStored c.args.was_there (body_at g.S.PageStore c.args.store.now)
          (body_at g.S.PageStore c.commit_store.new.store) m
          (model_meta c.commit_store.new.meta) (g.S.PageStore.state c.args.store.now).end
          (g.S.PageStore.state c.commit_store.new.store).end pair) same (told.stored honest);
      turns = λ honest usable map holds was.
          turned g.S.PageStore _ _ (model_meta c.args.meta.now) _ _ map
          (insert map c.args.key.now c.args.content.now) (λ (m : Meta). m.bounds)
          (λ (m : Meta). m.pairs + most_taken m.bounds.version) _ same
          (λ there. told.turns honest usable map there was) holds;
    }
