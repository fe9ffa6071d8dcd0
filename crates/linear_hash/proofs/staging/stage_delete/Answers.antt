use Rattle.std.proofs.Common.{IfOk, ◌≡◌, ◌∙◌, ◌-◌, ◌+◌, ◌≤◌, ℕ, length, refl, sym, ap, subst, arith}
use Rattle.dbm_model.specs.Bounds.{Version, V1, V2}
use Rattle.dbm_model.specs.Sizes.{pages_for}
use Rattle.page_io.specs.Versions.{model_version}
use Rattle.page_model.specs.Pages.{Meta}
use Rattle.page_model.specs.Placement.{delete}
use Rattle.std.proofs.lemmas.Result.{IfOk-from_err}
use Rattle.page_io.specs.Store.{Pages, StoreState}
use Rattle.page_io.specs.declared.store.PageFault.TheVariants.{Memory, NoRoom, Damaged}
use Rattle.page_io.specs.Views.{body_at, MayEnd}
use Rattle.page_io.proofs.Views.{stages_then}
use Rattle.page_io.proofs.Exits.{exit_is, came, cause_first, cause_last, last_not_damaged, last_has_room}
use Rattle.free_pages.specs.declared.free_state.FreeState.{FreeState}
use Rattle.seg_table.specs.MetaPages.{model_meta}
use Rattle.linear_hash.specs.Changing.{TookOut}
use Rattle.linear_hash.specs.Tables.{space_in, shape_in}
use Rattle.linear_hash.proofs.Midway.{midway_same}
use Rattle.linear_hash.proofs.Refusals.{remove_refused, remove_has_room, stage_answers}
use Rattle.linear_hash.proofs.Stagings.{table_midway, midway_pairs, deleted_count, staged_at_last, staged_ok, new_end_later, kept_at_last}
use Rattle.linear_hash.proofs.Written.{written_last, idle_end}
use Rattle.linear_hash.proofs.staging.stage_delete.Goals as goal

-- in version 1 no more pages are staged than are reserved
second_version : (version : Version) (reserved : ℕ) → 5 ≤ reserved
    → reserved ≤ 1 + pages_for version → version ≡ V2
second_version V1 reserved five few = absurd (omega (arith, five, few))
second_version V2 reserved five few = refl

-- the key is not taken out
pub returns-in_err-remove_key : goal.returns-in_err-remove_key
returns-in_err-remove_key g c =
    let st = g.S.PageStore in
    let told = c.in_err-remove_key.ensures in
    let result = c.from_residual in
    let exit = exit_is result.result c.in_err-remove_key.field-0.0 result.ensures.1 in
    record {
      stages = record {
        only = told.stages.only;
        cause = cause_first _ _ exit _ _ told.stages.cause;
      };
      few = omega (arith, told.few, ap (λ (ps : Pages). length ps) c.requires.idle);
      answer = record {
        change = remove_refused _ _ refl _ _ exit _ _ told.answer;
        memory = λ is. second_version (model_version c.args.meta.now.version) _
            g.S.PageStore.reserves (omega (
              arith,
              told.answer.memory (came _ _ exit Memory is),
              ap (λ (ps : Pages). length ps) c.requires.idle,
            ));
        no_room = λ none. remove_has_room _ _ _ _ told.answer (came _ _ exit NoRoom none);
      };
      end = IfOk-from_err _ _ result.ensures.0;
      no_memory = λ honest p table near is.
          let start = midway_same g.S.PageStore _ _ _ _ c.space_of-space.result p refl
          (c.space_of-space.ensures ∙ ap (space_in (model_meta c.args.meta.now)) c.end.ensures)
          (table_midway _ _ _ p table) in
          omega (
            arith,
            (told.sparing honest p start near).0.memory (came _ _ exit Memory is),
            ap (λ (ps : Pages). length ps) c.requires.idle,
            g.S.PageStore.reserves,
          );
      kept = IfOk-from_err _ _ result.ensures.0;
      may_commit = IfOk-from_err _ _ result.ensures.0;
      deleted = λ honest. IfOk-from_err _ _ result.ensures.0;
      exact = λ honest p table was. (
        IfOk-from_err _ _ result.ensures.0,
        λ damaged.
            let start = midway_same g.S.PageStore _ _ _ _ c.space_of-space.result p refl
            (c.space_of-space.ensures ∙ ap (space_in (model_meta c.args.meta.now)) c.end.ensures)
            (table_midway _ _ _ p table) in
            told.whole honest p start was (came _ _ exit Damaged damaged),
      );
    }

-- the meta page is staged last
pub returns-clause-stages : goal.returns-clause-stages
returns-clause-stages g c = record {
  only = stages_then g.S.PageStore _ _ _
      (g.met.S.PageStore.counts_now c.remove_key.new.store) c.in_ok-remove_key.ensures.stages.only
      c.stage_meta.ensures.stages.only;
  cause = cause_last _ _ _ _ c.in_ok-remove_key.ensures.stages.cause.later
      c.stage_meta.ensures.stages.cause;
}

pub returns-clause-answer : goal.returns-clause-answer
returns-clause-answer g c = record {
  change = stage_answers _ _ _ _ _
      (ap (λ (s : StoreState). s.usable) c.in_ok-remove_key.ensures.stages.only.state)
      c.stage_meta.ensures.answer;
  memory = λ is. second_version (model_version c.args.meta.now.version) _ g.S.PageStore.reserves
      (omega (
        arith,
        (c.stage_meta.ensures.answer.memory is).1,
        c.in_ok-remove_key.ensures.few,
        ap (λ (ps : Pages). length ps) c.requires.idle,
      ));
  no_room = λ none. last_has_room _ _ _ _ c.stage_meta.ensures.answer none;
}

pub returns-clause-few : goal.returns-clause-few
returns-clause-few g c = omega (
  arith,
  c.stage_meta.ensures.few,
  c.in_ok-remove_key.ensures.few,
  ap (λ (ps : Pages). length ps) c.requires.idle,
)

-- the file ends where it ended
pub returns-clause-end : goal.returns-clause-end
returns-clause-end g c = subst (λ (n : ℕ). IfOk c.stage_meta.result (λ end. end ≡ n))
    (c.in_ok-remove_key.ensures.end ∙ ap (λ (f : FreeState). f.file_end) c.space_of-space.ensures
    ∙ c.end.ensures) c.stage_meta.ensures.end

pub returns-clause-no_memory : goal.returns-clause-no_memory
returns-clause-no_memory g c honest p table near is =
    let start = midway_same g.S.PageStore _ _ _ _ c.space_of-space.result p refl
    (c.space_of-space.ensures ∙ ap (space_in (model_meta c.args.meta.now)) c.end.ensures)
    (table_midway _ _ _ p table) in
    omega (
      arith,
      (c.stage_meta.ensures.answer.memory is).1,
      (c.in_ok-remove_key.ensures.sparing honest p start near).1,
      ap (λ (ps : Pages). length ps) c.requires.idle,
      g.S.PageStore.reserves,
    )

pub returns-clause-may_commit : goal.returns-clause-may_commit
returns-clause-may_commit g c =
    let st = g.S.PageStore in
    let start = c.space_of-space.ensures ∙ ap (space_in (model_meta c.args.meta.now)) c.end.ensures
    in
    let ends = subst (λ (f : FreeState). MayEnd (st.state c.args.store.now) f.file_end) (sym start)
    (idle_end (st.state c.args.store.now) c.requires.idle) in
    new_end_later _ _ _ c.stage_meta.result
    (ap (λ (s : StoreState). s.end) c.in_ok-remove_key.ensures.stages.only.state)
    (c.stage_meta.ensures.may_commit (c.in_ok-remove_key.ensures.keeps.may_end ends))

-- what is kept of the meta page
pub returns-clause-kept : goal.returns-clause-kept
returns-clause-kept g c =
    let m = c.stage_meta.ensures.meta in
    kept_at_last c.stage_meta.result (record {
      valid = c.stage_meta.ensures.valid;
      bounds = ap (λ (n : Meta). n.bounds) m;
      pairs = ap (λ (n : Meta). n.pairs) m;
      shaped = ap shape_in m;
    })

pub returns-clause-exact : goal.returns-clause-exact
returns-clause-exact g c honest p table was =
    let start = midway_same g.S.PageStore _ _ _ _ c.space_of-space.result p refl
    (c.space_of-space.ensures ∙ ap (space_in (model_meta c.args.meta.now)) c.end.ensures)
    (table_midway _ _ _ p table) in
    let q = delete p c.args.key.now in
    let pairs = c.args.meta.now.pairs - 1 in
    let mid = midway_pairs _ _ _ q pairs (c.in_ok-remove_key.ensures.exact honest p start) in
    let counted = ap (λ (m : Meta). m.pairs - 1) table.meta_is
    ∙ sym (deleted_count p c.args.key.now table.good.sound was) in
    let h1 = c.in_ok-remove_key.ensures.stages.only.honesty.1 honest in (
      staged_ok c.stage_meta.result
          (λ page end last. staged_at_last _ _ _ q mid counted _ _ end c.stage_meta.ensures.meta
          last page (c.stage_meta.ensures.others h1)) (c.stage_meta.ensures.page h1)
          c.stage_meta.ensures.end,
      last_not_damaged _ _ _ _ c.stage_meta.ensures.answer,
    )

-- on any file: the key is taken out of its bucket, and then the meta page is written
pub returns-clause-deleted : goal.returns-clause-deleted
returns-clause-deleted g c honest =
    let before = model_meta c.args.meta.now in
    let h1 = c.in_ok-remove_key.ensures.stages.only.honesty.1 honest in
    let start = c.space_of-space.ensures ∙ ap (space_in before) c.end.ensures in
    let out = subst (λ (f : FreeState). TookOut (body_at g.S.PageStore c.args.store.now) before f
    c.args.key.now (body_at g.S.PageStore c.remove_key.new.store) c.remove_key.new.space) start
    (c.in_ok-remove_key.ensures.took_out honest) in
    staged_ok c.stage_meta.result
    (λ page end last. written_last
    (TookOut (body_at g.S.PageStore c.args.store.now) before
    (space_in before (g.S.PageStore.state c.args.store.now).end) c.args.key.now) _ _
    (record before { pairs = c.args.meta.now.pairs - 1 }) _ _ end out c.stage_meta.ensures.meta last
    page (c.stage_meta.ensures.others h1) before refl)
    (c.stage_meta.ensures.page h1) c.stage_meta.ensures.end
