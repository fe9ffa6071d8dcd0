use Rattle.std.proofs.Common.{◌≡◌, List, length, map, take, fold, refl, sym, subst, ap, ◌∙◌, arith}
use Rattle.std.proofs.lemmas.Result.{IfOk-from_err}
use Rattle.std.proofs.lemmas.List.{length-map, length-take-le, take_all}
use Rattle.page_model.specs.Pages.{Record}
use Rattle.page_model.specs.Chain.{Entry, record_of}
use Rattle.page_io.specs.Store.{StoreState}
use Rattle.page_io.specs.Versions.{model_version}
use Rattle.page_io.specs.Views.{body_at, MayEnd}
use Rattle.page_io.specs.declared.store.PageFault.TheVariants.{NoRoom, Damaged}
use Rattle.page_io.proofs.Views.{stages_then}
use Rattle.page_io.proofs.Exits.{exit_is, came, cause_then, cause_ok}
use Rattle.bucket_chain.specs.Pairs.{record_as, IsSmall}
use Rattle.bucket_chain.proofs.ReadPages.{reads_none}
use Rattle.bucket_chain.specs.AnyFile.{AreAdded}
use Rattle.bucket_chain.specs.Changes.{BecomesPlaced, put_in}
use Rattle.bucket_chain.proofs.Added.{added_under, one_added, all_grow}
use Rattle.bucket_chain.proofs.Refusals.{put_stores, no_store_refusal, no_fault}
use Rattle.bucket_chain.proofs.Storing.{none_put, next_of, one_put, all_put, next_record, record_there}
use Rattle.bucket_chain.proofs.stores.put_all.Goals as goal

pub loop-pair-init : goal.loop-pair-init
loop-pair-init g c = record {
  stages = (reads_none g.S.PageStore c.args.store.now
      (g.met.S.PageStore.only_now c.args.store.now)).stages_only;
  ends = λ e. e;
  may_end = λ may. may;
  added = λ honest. (refl, refl);
  put = λ honest chain s placed entries same held empty once.
      none_put _ _ _ _ chain s entries placed held empty;
}

-- a pair is not put
pub returns-in_err-put_record : goal.returns-in_err-put_record
returns-in_err-put_record g c =
    let st = g.S.PageStore in
    let told = c.in_err-put_record.ensures in
    let result = c.from_residual in
    let exit = exit_is result.result c.in_err-put_record.field-0.0 result.ensures.1 in
    let so_far = c.loop-pair.invariant in
    record {
      stages = record {
        only = stages_then st _ _ _ (g.met.S.PageStore.counts_now c.loop-pair.store)
            so_far.stages told.stages.only;
        cause = cause_then _ _ exit _ _ _ so_far.stages.later told.stages.cause;
      };
      answer = put_stores _ _ (ap (λ (s : StoreState). s.usable) so_far.stages.state) _ _ exit
          _ _ _ told.answer;
      room = λ none fails. absurd (omega (arith, c.loop-pair-test.true, ap length none));
      no_room = λ honest fails.
          let i = c.loop-pair.pair-index in
          let full = (told.answer.no_room (came _ _ exit NoRoom fails)).0 in
          let grown = all_grow _ (λ r. c.args.head) _ _ (take i
          (map record_as c.args.pairs.now)) _ _
          (so_far.added honest) in
          omega (
            arith,
            full,
            grown,
            length-take-le i (map record_as c.args.pairs.now)
                (omega (arith, c.loop-pair-test.true, length-map c.args.pairs.now record_as)),
            c.loop-pair-test.true,
            ap (λ (s : StoreState). s.capacity) so_far.stages.state,
          );
      added = λ honest. IfOk-from_err _ _ result.ensures.0;
      keeps = record {
        ends = λ e. told.keeps.ends (so_far.ends e);
        may_end = λ may. IfOk-from_err _ _ result.ensures.0;
      };
      exact = λ honest chain s placed entries same held empty once. IfOk-from_err _ _
          result.ensures.0;
      whole = λ honest chain s placed entries same held empty once damaged.
          told.whole (so_far.stages.honesty.1 honest) _ _
          (so_far.put honest chain s placed entries same held empty once).is_placed
          (came _ _ exit Damaged damaged);
    }

pub loop-pair-preserved : goal.loop-pair-preserved
loop-pair-preserved g c =
    let st = g.S.PageStore in record {
      stages = stages_then st _ _ _ (g.met.S.PageStore.counts_now c.loop-pair.store)
          c.loop-pair.invariant.stages c.in_ok-put_record.ensures.stages.only;
      ends = λ e. c.in_ok-put_record.ensures.keeps.ends (c.loop-pair.invariant.ends e);
      may_end = λ may. c.in_ok-put_record.ensures.keeps.may_end (c.loop-pair.invariant.may_end may);
      added = λ honest.
          let i = c.loop-pair.pair-index in
          let pairs = c.args.pairs.now in
          let item = c.pair-item.result in
          let Start = MayEnd (st.state c.args.store.now) c.args.space.now.file_end in
          let at = body_at st c.loop-pair.store in
          let at' = body_at st c.put_record.new.store in
          subst (λ (ps : List Record). AreAdded (body_at st c.args.store.now) at' Start
          c.args.space.now c.put_record.new.space (λ r. c.args.head) ps)
          (sym (next_record pairs i item c.loop-pair-test.true (sym c.pair-item.is)))
          (one_added Start (λ r. c.args.head) _ c.args.space.now (take i (map record_as pairs)) at
          c.loop-pair.space (record_as item) at' c.put_record.new.space
          (c.loop-pair.invariant.added honest)
          (added_under _ Start c.loop-pair.invariant.may_end at at' c.loop-pair.space
          c.put_record.new.space c.args.head (record_as item)
          (c.in_ok-put_record.ensures.added (c.loop-pair.invariant.stages.honesty.1 honest))));
      put = λ honest chain s placed entries same held empty once.
          let i = c.loop-pair.pair-index in
          let pairs = c.args.pairs.now in
          let item = c.pair-item.result in
          let so_far = c.loop-pair.invariant.put honest chain s placed entries same held empty
          once in
          let here = sym c.pair-item.is in
          let next = next_of (model_version c.args.version) (body_at st c.loop-pair.store)
          (fold put_in (chain, s) so_far.done) entries so_far.done so_far.rest i
          (map record_as pairs) (record_as item) so_far.parts so_far.many same
          (omega (arith, c.loop-pair-test.true, length-map pairs record_as))
          (record_there pairs i item c.loop-pair-test.true here) so_far.held once in
          let small : IsSmall (model_version c.args.version) (record_as item) =
          subst (IsSmall (model_version c.args.version)) (ap record_as here)
          (c.requires i item c.loop-pair-test.true) in
          let becomes = c.in_ok-put_record.ensures.exact
          (c.loop-pair.invariant.stages.honesty.1 honest) _ _ so_far.is_placed next.e next.is
          next.alone (so_far.counted next.e.pair.0 ∙ next.none) in
          one_put _ _ (body_at st c.loop-pair.store) (body_at st c.put_record.new.store) _
          c.loop-pair.space c.put_record.new.space _ (chain, s) entries i so_far (record_as item)
          next small becomes;
    }

-- all pairs were put
pub returns : goal.returns
returns g c =
    let st = g.S.PageStore in
    let so_far = c.loop-pair.invariant in
    let all = take_all c.loop-pair.pair-index (map record_as c.args.pairs.now)
    (omega (arith, c.loop-pair-test.false, length-map c.args.pairs.now record_as)) in
    record {
      stages = record { only = so_far.stages; cause = cause_ok _ _ _ so_far.stages.later };
      answer = no_store_refusal _ _;
      room = λ empty none. no_fault _ _ none;
      no_room = λ honest none. absurd (no_fault _ _ none);
      added = λ honest.
          subst (AreAdded (body_at st c.args.store.now) (body_at st c.loop-pair.store)
          (MayEnd (st.state c.args.store.now) c.args.space.now.file_end)
          c.args.space.now c.loop-pair.space (λ r. c.args.head)) all (so_far.added honest);
      keeps = record { ends = so_far.ends; may_end = so_far.may_end };
      exact = λ honest chain s placed entries same held empty once.
          let put = so_far.put honest chain s placed entries same held empty once in
          let all : put.done ≡ entries = all_put _ _ _ _ _ _ _ entries c.loop-pair.pair-index put
          (omega (
            arith,
            c.loop-pair-test.false,
            ap length same,
            length-map entries record_of,
            length-map c.args.pairs.now record_as,
          )) in
          record {
            becomes = λ at first.
                subst (λ (es : List Entry). BecomesPlaced at (body_at st c.loop-pair.store)
                c.loop-pair.space (fold put_in (chain, s) es)) all (put.becomes at first);
          };
      whole = λ honest chain s placed entries same held empty once damaged.
          absurd (no_fault _ _ damaged);
    }
