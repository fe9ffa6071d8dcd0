use Rattle.std.proofs.Common.{ℕ, [], refl, sym, ap, ◌∙◌, subst, arith}
use Rattle.std.proofs.lemmas.Result.{IfOk-from_err}
use Rattle.page_model.specs.PageBodies.{heads_of}
use Rattle.page_model.proofs.Ends.{kept_taken, kept_extended}
use Rattle.free_pages.specs.declared.free_state.FreeState.{FreeState}
use Rattle.page_io.specs.Store.{StoreState, put_page}
use Rattle.page_io.specs.Views.{body_at, MayEnd}
use Rattle.page_io.specs.declared.store.PageFault.TheVariants.{NoRoom, Damaged}
use Rattle.page_io.proofs.Views.{after_stage, stages_then}
use Rattle.page_io.proofs.Exits.{exit_is, came, cause_first, cause_then, cause_stage, cause_ok, later_then, stage_not_damaged, stage_has_room}
use Rattle.seg_table.specs.MetaPages.{model_meta}
use Rattle.seg_table.specs.Heads.{AddsSegment}
use Rattle.seg_table.specs.Setting.{IsEntrySet}
use Rattle.seg_table.proofs.Stagings.{then_said, others_stay}
use Rattle.page_io.proofs.OwnNumbers.{own_of_head}
use Rattle.linear_hash.proofs.Extensions.{split_placed, no_keys, none_held, midway_heads, next_bucket, says_head, given_free, given_apart, given_space, headed_space, can_set, extended_now}
use Rattle.linear_hash.proofs.SplitPages.{emptied_alone}
use Rattle.linear_hash.proofs.Refusals.{store_refused, take_refused, stage_refused, set_refused, no_refusal}
use Rattle.linear_hash.proofs.splitting.add_bucket.Goals as goal

-- the bucket is not emptied
pub returns-in_err-store_all : goal.returns-in_err-store_all
returns-in_err-store_all g c =
    let told = c.in_err-store_all.ensures in
    let exit = exit_is c.from_residual.result c.in_err-store_all.field-0.0
    c.from_residual.ensures.1 in
    record {
      stages = record {
        only = told.stages.only;
        cause = cause_first _ _ exit _ _ told.stages.cause;
      };
      answer = store_refused _ _ refl _ _ exit told.answer;
      added = IfOk-from_err _ _ c.from_residual.ensures.0;
      keeps = record {
        ends = told.keeps.ends;
        may_end = λ may. IfOk-from_err _ _ c.from_residual.ensures.0;
      };
      extends = λ honest. IfOk-from_err _ _ c.from_residual.ensures.0;
      exact = λ honest p midway from. IfOk-from_err _ _ c.from_residual.ensures.0;
      whole = λ honest p midway from damaged.
          let placed = split_placed _ _ _ p _ midway c.requires.small from in
          told.whole honest _ _ placed [] refl (none_held _ _ _ _ _ _ placed) no_keys
          (came _ _ exit Damaged damaged);
      room = λ honest p midway from none. absurd (told.room refl (came _ _ exit NoRoom none));
    }

-- no page for the new head
pub returns-in_err-new_head : goal.returns-in_err-new_head
returns-in_err-new_head g c =
    let ok1 = c.in_ok-store_all.ensures in
    let told = c.in_err-new_head.ensures in
    let result = c.from_residual-in_err-new_head in
    let exit = exit_is result.result c.in_err-new_head.field-0.0 result.ensures.1 in
    record {
      stages = record {
        only = stages_then g.S.PageStore _ _ _ (g.met.S.PageStore.counts_now c.store_all.new.store)
            ok1.stages.only told.reads.only.stages_only;
        cause = cause_then _ _ exit _ _ _ ok1.stages.cause.later told.reads.cause;
      };
      answer = take_refused _ _ (ap (λ (s : StoreState). s.usable) ok1.stages.only.state) _ _
          exit _ told.answer;
      added = IfOk-from_err _ _ result.ensures.0;
      keeps = record {
        ends = λ e. told.ends (ok1.keeps.ends e);
        may_end = λ may. IfOk-from_err _ _ result.ensures.0;
      };
      extends = λ honest. IfOk-from_err _ _ result.ensures.0;
      exact = λ honest p midway from. IfOk-from_err _ _ result.ensures.0;
      whole = λ honest p midway from damaged.
          let placed = split_placed _ _ _ p _ midway c.requires.small from in
          told.whole (ok1.stages.only.honesty.1 honest) (given_space p)
          (given_free p _ _ _ (ok1.exact honest _ _ placed [] refl (none_held _ _ _ _ _ _ placed)
          no_keys) placed.free_is.some)
          (given_apart p midway.sound _ _ _ _ placed) (came _ _ exit Damaged damaged);
      room = λ honest p midway from none.
          let placed = split_placed _ _ _ p _ midway c.requires.small from in
          let emptied = ok1.exact honest _ _ placed [] refl (none_held _ _ _ _ _ _ placed) no_keys
          in
          let full = told.answer.no_room.0 (came _ _ exit NoRoom none) in
          omega (
            arith,
            full,
            ap (λ (s : FreeState). s.file_end) emptied.kept,
            ap (λ (s : StoreState). s.capacity) ok1.stages.only.state,
            kept_taken (given_space p),
            kept_extended p,
          );
    }

pub stage-requires-clause-number : goal.stage-requires-clause-number
stage-requires-clause-number g c = own_of_head c.empty.result.bytes _ c.empty.ensures.says

-- the new head is not staged
pub returns-in_err-stage : goal.returns-in_err-stage
returns-in_err-stage g c =
    let st = g.S.PageStore in
    let ok1 = c.in_ok-store_all.ensures in
    let ok2 = c.in_ok-new_head.ensures in
    let told = c.in_err-stage.ensures in
    let done = c.stage.ensures in
    let result = c.from_residual-in_err-stage in
    let exit = exit_is result.result c.in_err-stage.field-0.0 result.ensures.1 in
    let stages = after_stage st c.take.new.store c.stage.new.self c.empty.result.bytes
    c.stage.result (g.met.S.PageStore.counts_now c.stage.new.self) done.ok done.err done.honesty
    done.faults done.kept in
    record {
      stages = record {
        only = stages_then st _ _ _ (g.met.S.PageStore.counts_now c.take.new.store)
            (stages_then st _ _ _ (g.met.S.PageStore.counts_now c.store_all.new.store)
            ok1.stages.only
            ok2.reads.only.stages_only) stages;
        cause = cause_stage _ _ exit _ _ _ _ _ _ (later_then _ _ _ ok1.stages.cause.later
            ok2.reads.cause.later)
            done.faults told.answer;
      };
      answer = stage_refused _ _ (ap (λ (s : StoreState). s.usable)
          (ok2.reads.only.same ∙ ok1.stages.only.state)) _ _ exit _ _ told.answer;
      added = IfOk-from_err _ _ result.ensures.0;
      keeps = record {
        ends = λ e. ok2.ends (ok1.keeps.ends e);
        may_end = λ may. IfOk-from_err _ _ result.ensures.0;
      };
      extends = λ honest. IfOk-from_err _ _ result.ensures.0;
      exact = λ honest p midway from. IfOk-from_err _ _ result.ensures.0;
      whole = λ honest p midway from damaged.
          absurd (stage_not_damaged _ _ _ _ told.answer (came _ _ exit Damaged damaged));
      room = λ honest p midway from none.
          absurd (stage_has_room _ _ _ _ told.answer (came _ _ exit NoRoom none));
    }

-- the new head is not set
pub returns-in_err-set_head : goal.returns-in_err-set_head
returns-in_err-set_head g c =
    let st = g.S.PageStore in
    let ok1 = c.in_ok-store_all.ensures in
    let ok2 = c.in_ok-new_head.ensures in
    let told = c.in_err-set_head.ensures in
    let done = c.stage.ensures in
    let result = c.from_residual-in_err-set_head in
    let exit = exit_is result.result c.in_err-set_head.field-0.0 result.ensures.1 in
    let staged = after_stage st c.take.new.store c.stage.new.self c.empty.result.bytes
    c.stage.result (g.met.S.PageStore.counts_now c.stage.new.self) done.ok done.err done.honesty
    done.faults done.kept in
    let so_far = stages_then st _ _ _ (g.met.S.PageStore.counts_now c.take.new.store)
    (stages_then st _ _ _ (g.met.S.PageStore.counts_now c.store_all.new.store) ok1.stages.only
    ok2.reads.only.stages_only) staged in
    record {
      stages = record {
        only = stages_then st _ _ _ (g.met.S.PageStore.counts_now c.stage.new.self)
            so_far told.stages.only;
        cause = cause_then _ _ exit _ _ _ so_far.later told.stages.cause;
      };
      answer = set_refused _ _ (ap (λ (s : StoreState). s.usable) so_far.state) _ _ exit
          _ _ told.answer;
      added = IfOk-from_err _ _ result.ensures.0;
      keeps = record {
        ends = λ e. told.keeps.ends (ok2.ends (ok1.keeps.ends e));
        may_end = λ may. IfOk-from_err _ _ result.ensures.0;
      };
      extends = λ honest. IfOk-from_err _ _ result.ensures.0;
      exact = λ honest p midway from. IfOk-from_err _ _ result.ensures.0;
      whole = λ honest p midway from damaged.
          let at0 = body_at st c.args.store.now in
          let at1 = body_at st c.store_all.new.store in
          let at2 = body_at st c.stage.new.self in
          let n = c.in_ok-new_head.new_head in
          let placed = split_placed at0 _ _ p _ midway c.requires.small from in
          let emptied = c.in_ok-store_all.ensures.exact honest _ _ placed [] refl
          (none_held _ _ _ _ _ _ placed) no_keys in
          let h1 = c.in_ok-store_all.ensures.stages.only.honesty.1 honest in
          let h2 = c.in_ok-new_head.ensures.reads.only.stages_only.honesty.1 h1 in
          let h3 = c.in_ok-stage.ensures.honesty.1 h2 in
          let taken = c.in_ok-new_head.ensures.exact h1 (given_space p)
          (given_free p _ _ _ emptied placed.free_is.some)
          (given_apart p midway.sound _ _ _ _ placed) in
          let reads = c.in_ok-new_head.ensures.reads.only in
          let order = g.met.S.PageStore.in_order c.store_all.new.store in
          let done = c.stage.ensures in
          let own = own_of_head c.empty.result.bytes n c.empty.ensures.says in
          let stages = after_stage st c.take.new.store c.stage.new.self c.empty.result.bytes
          c.stage.result (g.met.S.PageStore.counts_now c.stage.new.self) done.ok done.err
          done.honesty done.faults done.kept in
          let here = says_head at2 c.empty.result.bytes n
          (then_said st c.store_all.new.store c.take.new.store c.stage.new.self n
          c.empty.result.bytes reads stages h1 order c.in_ok-stage.ensures.ok own)
          c.empty.ensures.page c.empty.ensures.says in
          let others = others_stay st c.store_all.new.store c.take.new.store c.stage.new.self n
          c.empty.result.bytes reads stages h1 order c.in_ok-stage.ensures.ok own in
          let b = c.buckets-bucket.ensures ∙ next_bucket at0 _ _ p midway in
          let can = can_set p midway.sound at0 at1 at2 c.args.space.now c.store_all.new.space
          c.take.new.space n midway.below emptied placed.free_is.some taken here others
          (model_meta c.args.meta.now) _ b midway.shape_is midway.segments_are
          c.in_ok-new_head.ensures.number (midway_heads at0 _ _ p midway c.requires.small) in
          c.in_err-set_head.ensures.whole h3 (heads_of p.chains) (headed_space p) can
          (came _ _ exit Damaged damaged);
      room = λ honest p midway from none.
          let placed = split_placed _ _ _ p _ midway c.requires.small from in
          let emptied = c.in_ok-store_all.ensures.exact honest _ _ placed [] refl
          (none_held _ _ _ _ _ _ placed) no_keys in
          let h1 = c.in_ok-store_all.ensures.stages.only.honesty.1 honest in
          let taken = c.in_ok-new_head.ensures.exact h1 (given_space p)
          (given_free p _ _ _ emptied placed.free_is.some)
          (given_apart p midway.sound _ _ _ _ placed) in
          let full = c.in_err-set_head.ensures.answer.no_room (came _ _ exit NoRoom none) in
          let room = ap (λ (s : StoreState). s.capacity) c.in_ok-stage.ensures.ok
          ∙ ap (λ (s : StoreState). s.capacity) c.in_ok-new_head.ensures.reads.only.same
          ∙ ap (λ (s : StoreState). s.capacity) c.in_ok-store_all.ensures.stages.only.state in
          omega (
            arith,
            full.1,
            ap (λ (s : FreeState). s.file_end) taken.1,
            room,
            kept_extended p,
          );
    }

-- the bucket is added
pub returns : goal.returns
returns g c =
    let st = g.S.PageStore in
    let ok1 = c.in_ok-store_all.ensures in
    let ok2 = c.in_ok-new_head.ensures in
    let ok3 = c.in_ok-set_head.ensures in
    let done = c.stage.ensures in
    let staged = after_stage st c.take.new.store c.stage.new.self c.empty.result.bytes
    c.stage.result (g.met.S.PageStore.counts_now c.stage.new.self) done.ok done.err done.honesty
    done.faults done.kept in
    let so_far = stages_then st _ _ _ (g.met.S.PageStore.counts_now c.take.new.store)
    (stages_then st _ _ _ (g.met.S.PageStore.counts_now c.store_all.new.store) ok1.stages.only
    ok2.reads.only.stages_only) staged in
    let all = stages_then st _ _ _ (g.met.S.PageStore.counts_now c.stage.new.self)
    so_far ok3.stages.only in
    record {
      stages = record { only = all; cause = cause_ok _ _ _ all.later };
      answer = no_refusal _ _;
      added = subst (AddsSegment (model_meta c.args.meta.now) (model_meta c.set_head.new.meta))
          c.buckets-bucket.ensures ok3.ok;
      keeps = record {
        ends = λ e. ok3.keeps.ends (ok2.ends (ok1.keeps.ends e));
        may_end = λ may.
            let emptied = c.in_ok-store_all.ensures.keeps.may_end may in
            let put = c.in_ok-stage.ensures.ok
            ∙ ap (λ (s : StoreState). record s {
              staged =
                  put_page s.staged c.empty.result.bytes;
            })
            c.in_ok-new_head.ensures.reads.only.same in
            let staged = c.in_ok-new_head.ensures.may_end emptied c.empty.result.bytes
            (own_of_head c.empty.result.bytes _ c.empty.ensures.says) in
            c.in_ok-set_head.ensures.keeps.may_end
            (subst (λ (s : StoreState). MayEnd s c.take.new.space.file_end) (sym put) staged);
      };
      extends = λ honest.
          let at0 = body_at st c.args.store.now in
          let at1 = body_at st c.store_all.new.store in
          let at2 = body_at st c.stage.new.self in
          let n = c.in_ok-new_head.new_head in
          let h1 = ok1.stages.only.honesty.1 honest in
          let h2 = ok2.reads.only.stages_only.honesty.1 h1 in
          let h3 = c.in_ok-stage.ensures.honesty.1 h2 in
          let order = g.met.S.PageStore.in_order c.store_all.new.store in
          let own = own_of_head c.empty.result.bytes n c.empty.ensures.says in
          record {
            mid = at1;
            between = c.store_all.new.space;
            first = emptied_alone at0 at1
                (MayEnd (st.state c.args.store.now) c.args.space.now.file_end) _ _ _
                (ok1.stored honest);
            second = record {
              mid = at2;
              between = c.take.new.space;
              first = record {
                is_taken = ok2.taken h1;
                says = says_head at2 c.empty.result.bytes n
                    (then_said st c.store_all.new.store c.take.new.store c.stage.new.self n
                    c.empty.result.bytes ok2.reads.only staged h1 order c.in_ok-stage.ensures.ok
                    own)
                    c.empty.ensures.page c.empty.ensures.says;
                others = others_stay st c.store_all.new.store c.take.new.store c.stage.new.self n
                    c.empty.result.bytes ok2.reads.only staged h1 order c.in_ok-stage.ensures.ok
                    own;
              };
              second = subst (λ (b : ℕ). IsEntrySet at2 (body_at st c.set_head.new.store)
                  c.args.meta.now.segments.items c.set_head.new.meta.segments.items
                  c.take.new.space c.set_head.new.space b n) c.buckets-bucket.ensures
                  (ok3.set h3);
            };
          };
      exact = λ honest p midway from.
          let at0 = body_at st c.args.store.now in
          let at1 = body_at st c.store_all.new.store in
          let at2 = body_at st c.stage.new.self in
          let n = c.in_ok-new_head.new_head in
          let placed = split_placed at0 _ _ p _ midway c.requires.small from in
          let emptied = c.in_ok-store_all.ensures.exact honest _ _ placed [] refl
          (none_held _ _ _ _ _ _ placed) no_keys in
          let h1 = c.in_ok-store_all.ensures.stages.only.honesty.1 honest in
          let h2 = c.in_ok-new_head.ensures.reads.only.stages_only.honesty.1 h1 in
          let h3 = c.in_ok-stage.ensures.honesty.1 h2 in
          let taken = c.in_ok-new_head.ensures.exact h1 (given_space p)
          (given_free p _ _ _ emptied placed.free_is.some)
          (given_apart p midway.sound _ _ _ _ placed) in
          let reads = c.in_ok-new_head.ensures.reads.only in
          let order = g.met.S.PageStore.in_order c.store_all.new.store in
          let done = c.stage.ensures in
          let own = own_of_head c.empty.result.bytes n c.empty.ensures.says in
          let stages = after_stage st c.take.new.store c.stage.new.self c.empty.result.bytes
          c.stage.result (g.met.S.PageStore.counts_now c.stage.new.self) done.ok done.err
          done.honesty done.faults done.kept in
          let here = says_head at2 c.empty.result.bytes n
          (then_said st c.store_all.new.store c.take.new.store c.stage.new.self n
          c.empty.result.bytes reads stages h1 order c.in_ok-stage.ensures.ok own)
          c.empty.ensures.page c.empty.ensures.says in
          let others = others_stay st c.store_all.new.store c.take.new.store c.stage.new.self n
          c.empty.result.bytes reads stages h1 order c.in_ok-stage.ensures.ok own in
          let b = c.buckets-bucket.ensures ∙ next_bucket at0 _ _ p midway in
          let can = can_set p midway.sound at0 at1 at2 c.args.space.now c.store_all.new.space
          c.take.new.space n midway.below emptied placed.free_is.some taken here others
          (model_meta c.args.meta.now) _ b midway.shape_is midway.segments_are
          c.in_ok-new_head.ensures.number (midway_heads at0 _ _ p midway c.requires.small) in
          extended_now p midway.sound at0 at1 at2 c.args.space.now c.store_all.new.space
          c.take.new.space n midway.below emptied placed.free_is.some taken here others
          (body_at st c.set_head.new.store) c.set_head.new.space (model_meta c.args.meta.now)
          (model_meta c.set_head.new.meta) _ b midway.segments_are
          (c.in_ok-set_head.ensures.exact h3 (heads_of p.chains) (headed_space p) can);
      whole = λ honest p midway from damaged. cc;
      room = λ honest p midway from none. absurd cc;
    }
