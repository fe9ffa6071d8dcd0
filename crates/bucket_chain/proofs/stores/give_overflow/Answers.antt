use Rattle.std.proofs.Common.{ℕ, refl, sym, subst, ◌∙◌, ap, arith}
use Rattle.std.proofs.lemmas.Result.{IfOk-from_err}
use Rattle.page_model.specs.Pages.{Body}
use Rattle.page_io.specs.Store.{StoreState}
use Rattle.page_io.specs.Views.{body_at, MayEnd}
use Rattle.page_io.specs.declared.store.PageFault.TheVariants.{NoRoom, Damaged}
use Rattle.page_io.proofs.Views.{stages_then, same_said, known_below}
use Rattle.page_io.proofs.Exits.{exit_is, came, cause_then, cause_ok}
use Rattle.page_io.specs.BucketPages.{page_records}
use Rattle.free_pages.specs.declared.free_state.FreeState.{FreeState}
use Rattle.free_pages.specs.FreeList.{IsFreeList, HasEnds}
use Rattle.bucket_chain.proofs.ReadPages.{reads_none}
use Rattle.bucket_chain.specs.Chains.{number_or, AreLinked}
use Rattle.bucket_chain.proofs.OverflowGivings.{giving_starts, giving_goes_on, next_link, room_left, not_all}
use Rattle.bucket_chain.proofs.Refusals.{walk_stores, give_stores, cause_give, walk_has_room, give_has_room, no_store_refusal, no_fault, long_walk_stores, long_walk_cause, long_walk_has_room}
use Rattle.bucket_chain.proofs.stores.give_overflow.Goals as goal

pub loop-step-init : goal.loop-step-init
loop-step-init g c = record {
  stages = (reads_none g.S.PageStore c.args.store.now
      (g.met.S.PageStore.only_now c.args.store.now)).stages_only;
  ends = λ e. e;
  end = refl;
  may_end = λ may. may;
  given = λ honest. giving_starts (body_at g.S.PageStore c.args.store.now)
      c.args.space.now c.args.first;
}

pub loop-step-preserved : goal.loop-step-preserved
loop-step-preserved g c =
    let st = g.S.PageStore in
    let ok = c.in_ok-give.ensures.ok in
    record {
      stages = stages_then st _ _ _ (g.met.S.PageStore.counts_now c.read_link.new.store)
          (stages_then st _ _ _ (g.met.S.PageStore.counts_now c.loop-step.store)
          c.loop-step.invariant.stages c.in_ok-next.ensures.reads.only.stages_only)
          c.in_ok-give.ensures.stages;
      ends = λ _. (
        λ none. absurd (c.if-at-eq0.false (sym (ap (λ (t : FreeState). t.head) ok) ∙ none)),
        λ none. absurd (omega (arith, none, ap (λ (t : FreeState). t.count) ok)),
      );
      end = ap (λ (t : FreeState). t.file_end) ok ∙ c.loop-step.invariant.end;
      may_end = λ may.
          let before = c.loop-step.invariant.may_end may in
          c.in_ok-give.ensures.may_end (known_below _ _ _ before c.in_ok-next.ensures.known.1)
          (subst (λ (x : StoreState). MayEnd x c.loop-step.space.file_end)
          (sym c.in_ok-next.ensures.reads.only.same) before);
      given = λ honest.
          let h1 = c.loop-step.invariant.stages.honesty.1 honest in
          let h2 = c.in_ok-next.ensures.reads.only.stages_only.honesty.1 h1 in
          let same = same_said st _ _ c.in_ok-next.ensures.reads.only h1 in
          giving_goes_on _ (body_at st c.args.store.now) (body_at st c.loop-step.store)
          (body_at st c.give.new.store) c.args.space.now c.loop-step.space c.give.new.space
          c.args.first c.loop-step.at c.loop-step._step c.in_ok-next.next
          (page_records c.read_link.new.page.bytes)
          (c.loop-step.invariant.given honest) (c.in_ok-next.ensures.says h1)
          c.in_ok-next.ensures.known.0 (c.in_ok-give.ensures.free h2)
          (λ m other. c.in_ok-give.ensures.others h2 m other ∙ ap (λ (f : ℕ → Body). f m) same)
          ok (λ s is apart. c.in_ok-give.ensures.exact h2 s
          (subst (λ (f : ℕ → Body). IsFreeList f c.loop-step.space s) (sym same) is) apart);
    }

-- more pages than there may be
pub returns : goal.returns
returns g c =
    let so_far = c.loop-step.invariant in
    record {
      stages = record { only = so_far.stages; cause = long_walk_cause _ _ so_far.stages.later };
      answer = long_walk_stores _;
      room = λ none. long_walk_has_room none;
      ends = so_far.ends;
      end = so_far.end;
      may_end = so_far.may_end;
      given = λ honest. tt;
      whole = λ honest head leaf rest s placed from damaged.
          not_all _ _ _ _ _ _ _ _ (so_far.given honest) head leaf rest s placed from
          (omega (
            arith,
            c.loop-step-test.false,
            ap (λ (t : FreeState). t.file_end)
                placed.free_is.kept,
          ));
    }

-- the last page was given
pub returns-then-at-eq0 : goal.returns-then-at-eq0
returns-then-at-eq0 g c =
    let st = g.S.PageStore in
    let so_far = c.loop-step.invariant in
    record {
      stages = record { only = so_far.stages; cause = cause_ok _ _ _ so_far.stages.later };
      answer = no_store_refusal _ _;
      room = λ none. no_fault _ _ none;
      ends = so_far.ends;
      end = so_far.end;
      may_end = so_far.may_end;
      given = λ honest.
          let given = so_far.given honest in record {
            pages = given.pages;
            linked = subst (AreLinked (body_at st c.args.store.now) given.pages) c.if-at-eq0.true
                given.linked;
            first_is = given.first_is
                ∙ ap (λ (n : ℕ). number_or given.pages n) c.if-at-eq0.true;
            numbered = given.numbered;
            given = given.given;
          };
      whole = λ honest head leaf rest s placed from damaged. absurd (no_fault _ _ damaged);
    }

-- a page is not read
pub returns-in_err-next : goal.returns-in_err-next
returns-in_err-next g c =
    let st = g.S.PageStore in
    let told = c.in_err-next.ensures in
    let result = c.from_residual in
    let exit = exit_is result.result c.in_err-next.field-0.0 result.ensures.1 in
    let so_far = c.loop-step.invariant in
    record {
      stages = record {
        only = stages_then st _ _ _ (g.met.S.PageStore.counts_now c.loop-step.store) so_far.stages
            told.reads.only.stages_only;
        cause = cause_then _ _ exit _ _ _ so_far.stages.later told.reads.cause;
      };
      answer = walk_stores _ _ (ap (λ (s : StoreState). s.usable) so_far.stages.state) _ _
          exit told.answer;
      room = λ none. walk_has_room _ _ told.answer (came _ _ exit NoRoom none);
      ends = so_far.ends;
      end = so_far.end;
      may_end = λ may. subst (λ (x : StoreState). MayEnd x c.loop-step.space.file_end)
          (sym told.reads.only.same) (so_far.may_end may);
      given = λ honest. IfOk-from_err _ _ result.ensures.0;
      whole = λ honest head leaf rest s placed from damaged.
          c.in_err-next.ensures.whole (c.loop-step.invariant.stages.honesty.1 honest) _ _
          (omega (arith, c.if-at-eq0.false))
          (next_link _ _ _ _ _ _ _ _ (c.loop-step.invariant.given honest) head leaf rest s placed
          from
          c.if-at-eq0.false) (came _ _ exit Damaged damaged);
    }

-- a page is not given
pub returns-in_err-give : goal.returns-in_err-give
returns-in_err-give g c =
    let st = g.S.PageStore in
    let told = c.in_err-give.ensures in
    let result = c.from_residual-in_err-give in
    let exit = exit_is result.result c.in_err-give.field-0.0 result.ensures.1 in
    let so_far = c.loop-step.invariant in
    let read = c.in_ok-next.ensures.reads.only in
    let both = stages_then st _ _ _ (g.met.S.PageStore.counts_now c.loop-step.store) so_far.stages
    read.stages_only in
    record {
      stages = record {
        only = stages_then st _ _ _ (g.met.S.PageStore.counts_now c.read_link.new.store)
            both told.stages;
        cause = cause_give _ _ exit _ _ _ both.later told.faults _ _ _ _ told.answer;
      };
      answer = give_stores _ _ (ap (λ (s : StoreState). s.usable) both.state) _ _ exit _
          _ _ told.answer;
      room = λ none. give_has_room _ _ _ _ _ told.answer (came _ _ exit NoRoom none);
      ends = λ e. subst HasEnds (sym told.err) (so_far.ends e);
      end = ap (λ (f : FreeState). f.file_end) told.err ∙ so_far.end;
      may_end = λ may.
          let kept = subst (λ (x : StoreState). MayEnd x c.loop-step.space.file_end)
          (sym (told.err_state ∙ read.same)) (so_far.may_end may) in
          subst (λ (f : FreeState). MayEnd (st.state c.give.new.store) f.file_end)
          (sym told.err) kept;
      given = λ honest. IfOk-from_err _ _ result.ensures.0;
      whole = λ honest head leaf rest s placed from damaged.
          room_left _ _ _ _ _ _ _ _ (c.loop-step.invariant.given honest) head leaf rest s placed
          from
          (c.in_err-give.ensures.answer.damaged.0 (came _ _ exit Damaged damaged));
    }
