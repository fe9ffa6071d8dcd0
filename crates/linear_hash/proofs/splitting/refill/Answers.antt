use Rattle.std.proofs.Common.{◌≡◌, ℕ, List, map, take, cond, refl, sym, subst, ap, ◌∙◌, arith}
use Rattle.std.proofs.lemmas.List.{length-map, take_all}
use Rattle.page_model.specs.Pages.{Record}
use Rattle.std.proofs.lemmas.Result.{IfOk-from_err}
use Rattle.page_model.specs.Address.{hash_of}
use Rattle.page_io.specs.Store.{StoreState}
use Rattle.page_io.specs.Views.{body_at, MayEnd}
use Rattle.page_io.specs.declared.store.PageFault.TheVariants.{NoRoom, Damaged}
use Rattle.page_io.proofs.Views.{stages_then}
use Rattle.page_io.proofs.Exits.{exit_is, came, cause_then}
use Rattle.bucket_chain.specs.Pairs.{record_as}
use Rattle.bucket_chain.proofs.ReadPages.{reads_none}
use Rattle.bucket_chain.specs.AnyFile.{IsAdded, AreAdded}
use Rattle.bucket_chain.proofs.Added.{added_under, one_added}
use Rattle.bucket_chain.proofs.Storing.{next_record}
use Rattle.linear_hash.specs.AnyFile.{head_for}
use Rattle.linear_hash.proofs.SplitPages.{chosen_head}
use Rattle.linear_hash.proofs.Fillings.{filling_starts, filling_ends, filling_room, refill_length, refill_entry, refill_record, refill_placed, refill_held, refill_absent, refill_goes_on}
use Rattle.linear_hash.proofs.Refusals.{put_refused}
use Rattle.linear_hash.proofs.splitting.refill.Goals as goal
use Rattle.linear_hash.proofs.splitting.refill.Goals.{then-goes_up, else-goes_up}

pub loop-pair-init : goal.loop-pair-init
loop-pair-init g c = record {
  stages = (reads_none g.S.PageStore c.args.store.now
      (g.met.S.PageStore.only_now c.args.store.now)).stages_only;
  ends = λ e. e;
  may_end = λ may. may;
  added = λ honest. (refl, refl);
  filling = λ honest p from. filling_starts p from.sound _ _ from.below from.contents;
}

-- a pair is not put
pub returns-in_err-put_record : goal.returns-in_err-put_record
returns-in_err-put_record g c =
    let so_far = c.loop-pair.invariant in
    let told = c.in_err-put_record.ensures in
    let result = c.from_residual in
    let exit = exit_is result.result c.in_err-put_record.field-0.0 result.ensures.1 in
    record {
      stages = record {
        only = stages_then g.S.PageStore _ _ _ (g.met.S.PageStore.counts_now c.loop-pair.store)
            so_far.stages told.stages.only;
        cause = cause_then _ _ exit _ _ _ so_far.stages.later told.stages.cause;
      };
      answer = put_refused _ _ (ap (λ (s : StoreState). s.usable) so_far.stages.state) _ _ exit
          _ _ _ told.answer;
      keeps = record {
        ends = λ e. told.keeps.ends (so_far.ends e);
        may_end = λ may. IfOk-from_err _ _ result.ensures.0;
      };
      added = λ honest. IfOk-from_err _ _ result.ensures.0;
      exact = λ honest p from. IfOk-from_err _ _ result.ensures.0;
      whole = λ honest p from damaged.
          let i = c.loop-pair.pair-index in
          let item = c.pair-item.result in
          let here = sym c.pair-item.is in
          let so_far = c.loop-pair.invariant.filling honest p from in
          let n = c.args.heads.new in
          let head = c.args.heads.old in
          let up = c.split_goes_up-goes_up.result in
          let goes : c.if-goes_up.to ≡ cond up n head = elim c.if-goes_up.branch [
            | then-goes_up w ↦ w.to-is ∙ sym (ap (λ b. cond b n head) w.if-goes_up.true)
            | else-goes_up w ↦ w.to-is ∙ sym (ap (λ b. cond b n head) w.if-goes_up.false)
          ] in
          let placed = refill_placed _ _ _ _ head n _ p from i item c.loop-pair-test.true here _ _
          so_far (omega (arith, c.if-prove.false)) up c.hash.result c.if-goes_up.to
          c.split_goes_up-goes_up.ensures.place
          (c.hash.ensures ∙ ap hash_of c.deref.ensures.value) goes in
          c.in_err-put_record.ensures.whole (c.loop-pair.invariant.stages.honesty.1 honest) _ _
          placed
          (came _ _ exit Damaged damaged);
      room = λ honest p from none.
          let so_far = c.loop-pair.invariant.filling honest p from in
          let full = c.in_err-put_record.ensures.answer.no_room (came _ _ exit NoRoom none) in
          omega (
            arith,
            full.0,
            filling_room _ _ p c.loop-pair.pair-index so_far,
            ap (λ (s : StoreState). s.capacity) c.loop-pair.invariant.stages.state,
          );
    }

pub loop-pair-preserved : goal.loop-pair-preserved
loop-pair-preserved g c =
    let st = g.S.PageStore in record {
      stages = stages_then st _ _ _ (g.met.S.PageStore.counts_now c.loop-pair.store)
          c.loop-pair.invariant.stages c.in_ok-put_record.ensures.stages.only;
      ends = λ e. c.in_ok-put_record.ensures.keeps.ends (c.loop-pair.invariant.ends e);
      may_end = λ may.
          c.in_ok-put_record.ensures.keeps.may_end (c.loop-pair.invariant.may_end may);
      added = λ honest.
          let i = c.loop-pair.pair-index in
          let item = c.pair-item.result in
          let r = record_as item in
          let Start = MayEnd (st.state c.args.store.now) c.args.space.now.file_end in
          let Now = MayEnd (st.state c.loop-pair.store) c.loop-pair.space.file_end in
          let at = body_at st c.loop-pair.store in
          let at' = body_at st c.put_record.new.store in
          let n = c.args.heads.new in
          let head = c.args.heads.old in
          let heads = head_for c.args.shape.level head n in
          let up = c.split_goes_up-goes_up.result in
          let goes : c.if-goes_up.to ≡ cond up n head = elim c.if-goes_up.branch [
            | then-goes_up w ↦ w.to-is ∙ sym (ap (λ b. cond b n head) w.if-goes_up.true)
            | else-goes_up w ↦ w.to-is ∙ sym (ap (λ b. cond b n head) w.if-goes_up.false)
          ] in
          let to : c.if-goes_up.to ≡ heads r = chosen_head up c.args.shape.level n head
          c.if-goes_up.to c.hash.result (hash_of item.key.items)
          c.split_goes_up-goes_up.ensures.bit
          (c.hash.ensures ∙ ap hash_of c.deref.ensures.value) goes in
          let added = subst (λ (h : ℕ). IsAdded at at' Now c.loop-pair.space
          c.put_record.new.space h r)
          to (c.in_ok-put_record.ensures.added (c.loop-pair.invariant.stages.honesty.1 honest)) in
          subst (λ (ps : List Record). AreAdded (body_at st c.args.store.now) at' Start
          c.args.space.now c.put_record.new.space heads ps)
          (sym (next_record c.args.pairs.now i item c.loop-pair-test.true (sym c.pair-item.is)))
          (one_added Start heads _ c.args.space.now (take i (map record_as c.args.pairs.now)) at
          c.loop-pair.space r at' c.put_record.new.space (c.loop-pair.invariant.added honest)
          (added_under Now Start c.loop-pair.invariant.may_end at at' c.loop-pair.space
          c.put_record.new.space (heads r) r added));
      filling = λ honest p from.
          let i = c.loop-pair.pair-index in
          let item = c.pair-item.result in
          let here = sym c.pair-item.is in
          let so_far = c.loop-pair.invariant.filling honest p from in
          let n = c.args.heads.new in
          let head = c.args.heads.old in
          let up = c.split_goes_up-goes_up.result in
          let goes : c.if-goes_up.to ≡ cond up n head = elim c.if-goes_up.branch [
            | then-goes_up w ↦ w.to-is ∙ sym (ap (λ b. cond b n head) w.if-goes_up.true)
            | else-goes_up w ↦ w.to-is ∙ sym (ap (λ b. cond b n head) w.if-goes_up.false)
          ] in
          let placed = refill_placed _ _ _ _ head n _ p from i item c.loop-pair-test.true here _ _
          so_far (omega (arith, c.if-prove.false)) up c.hash.result c.if-goes_up.to
          c.split_goes_up-goes_up.ensures.place
          (c.hash.ensures ∙ ap hash_of c.deref.ensures.value) goes in
          let there = c.loop-pair-test.true in
          let becomes = c.in_ok-put_record.ensures.exact
          (c.loop-pair.invariant.stages.honesty.1 honest) _ _ placed
          (refill_entry _ _ _ _ head n _ p from i item there here)
          (refill_record _ _ _ _ head n _ p from i item there here)
          (refill_held _ _ _ _ head n _ p from i item there here _ _ so_far)
          (refill_absent _ _ _ _ head n _ p from i item there here _ _ so_far) in
          refill_goes_on _ _ _ _ head n _ p from i item there here _ _ so_far
          (body_at st c.put_record.new.store) c.put_record.new.space becomes;
    }

pub returns-clause-added : goal.returns-clause-added
returns-clause-added g c honest =
    let st = g.S.PageStore in
    let pairs = map record_as c.args.pairs.now in
    let all = take_all c.loop-pair.pair-index pairs
    (omega (arith, c.loop-pair-test.false, length-map c.args.pairs.now record_as)) in
    subst (AreAdded (body_at st c.args.store.now) (body_at st c.loop-pair.store)
    (MayEnd (st.state c.args.store.now) c.args.space.now.file_end) c.args.space.now
    c.loop-pair.space (head_for c.args.shape.level c.args.heads.old c.args.heads.new)) all
    (c.loop-pair.invariant.added honest)

pub returns-clause-exact : goal.returns-clause-exact
returns-clause-exact g c honest p from =
    let many = refill_length _ _ _ _ _ _ _ p from in
    filling_ends _ _ p c.loop-pair.pair-index (omega (arith, c.loop-pair-test.false, many))
    (c.loop-pair.invariant.filling honest p from)
