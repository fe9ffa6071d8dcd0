use Rattle.std.proofs.Common.{inl, inr, [], ◌≡◌, ◌<◌, ◌≤◌, ◌+◌, ◌*◌, ◌/◌, ◌%◌, ℕ, List, length, get_or, ap, sym, subst, ◌∙◌, arith, refl, replicate}
use Rattle.std.proofs.lemmas.Result.{IfOk-from_err, on_ok_weaker, on_err_weaker}
use Rattle.page_model.specs.Bytes.{u32_bytes, overwrite}
use Rattle.page_model.specs.Reading.{heads_on, body_of}
use Rattle.page_io.specs.Page.{own_number}
use Rattle.page_io.specs.Store.{StoreState, IsKnown, put_page}
use Rattle.page_io.specs.Views.{body_at, MayEnd}
use Rattle.page_io.specs.declared.store.PageFault.TheVariants.{Damaged}
use Rattle.page_io.proofs.Views.{after_stage, stages_then}
use Rattle.page_io.proofs.Exits.{exit_is, came, if_exit, cause_first, cause_stage, cause_stage_last, cause_ok, stage_not_damaged, last_not_damaged}
use Rattle.seg_table.specs.MetaPages.{model_meta}
use Rattle.seg_table.specs.Setting.{SaysEntry}
use Rattle.seg_table.proofs.EntryTexts.{entry_set, entry_alone}
use Rattle.seg_table.proofs.HeadTexts.{own_kept, own_of_segment, fresh_said, head_said, heads_said}
use Rattle.seg_table.proofs.HeadSets.{still_apart, set_there, set_added, adds, adds_none}
use Rattle.seg_table.proofs.Refusals.{take_sets, head_sets, stage_sets, stage_sets_last, no_set_refusal, few_same}
use Rattle.seg_table.proofs.Stagings.{known_some, few_after, known_may_end, then_said, others_stay}
use Rattle.seg_table.proofs.Tables.{part, part_read, part_said, length-part}
use Rattle.seg_table.proofs.table.set_head.Given.{Over}
use Rattle.seg_table.proofs.table.set_head.Goals as goal

-- a segment is added

-- no page is taken
pub returns-in_err-n : goal.returns-in_err-n
returns-in_err-n g c =
    let st = g.S.PageStore in
    let told = c.in_err-n.ensures in
    let result = c.from_residual in
    let exit = exit_is result.result c.in_err-n.field-0.0 result.ensures.1 in
    record {
      stages = record {
        only = told.reads.only.stages_only;
        cause = cause_first _ _ exit _ _ told.reads.cause;
      };
      few = few_same _ _ 1 told.reads.only.same;
      answer = take_sets _ _ refl _ _ exit _ _ told.answer;
      err = if_exit _ _ _ exit refl;
      err_state = if_exit _ _ _ exit told.reads.only.same;
      ok = IfOk-from_err _ _ result.ensures.0;
      keeps = record { ends = told.ends; may_end = λ may. IfOk-from_err _ _ result.ensures.0 };
      set = λ honest. IfOk-from_err _ _ result.ensures.0;
      exact = λ honest heads s can. IfOk-from_err _ _ result.ensures.0;
      whole = λ honest heads s can damaged.
          told.whole honest s can.free_is (still_apart c.args.meta.now.segments.items s can.apart)
          (came _ _ exit Damaged damaged);
    }

-- the page that was taken is not staged
pub returns-in_err-stage : goal.returns-in_err-stage
returns-in_err-stage g c =
    let st = g.S.PageStore in
    let told = c.in_err-stage.ensures in
    let result = c.from_residual-in_err-stage in
    let exit = exit_is result.result c.in_err-stage.field-0.0 result.ensures.1 in
    let one = c.in_ok-n.ensures in
    let done = c.stage.ensures in
    let staged = after_stage st c.take.new.store c.stage.new.self c.set_u32_at.new.self.bytes
    c.stage.result (g.met.S.PageStore.counts_now c.stage.new.self) done.ok done.err done.honesty
    done.faults done.kept in
    record {
      stages = record {
        only = stages_then st _ _ _ (g.met.S.PageStore.counts_now c.take.new.store)
            one.reads.only.stages_only staged;
        cause = cause_stage _ _ exit _ _ _ _ _ _ one.reads.cause.later done.faults told.answer;
      };
      few = few_same _ _ 1 (told.err ∙ one.reads.only.same);
      answer = stage_sets _ _ one.reads.only.same _ _ exit _ _ _ told.answer;
      err = if_exit _ _ _ exit refl;
      err_state = if_exit _ _ _ exit (told.err ∙ one.reads.only.same);
      ok = IfOk-from_err _ _ result.ensures.0;
      keeps = record { ends = one.ends; may_end = λ may. IfOk-from_err _ _ result.ensures.0 };
      set = λ honest. IfOk-from_err _ _ result.ensures.0;
      exact = λ honest heads s can. IfOk-from_err _ _ result.ensures.0;
      whole = λ honest heads s can damaged.
          absurd (stage_not_damaged _ _ _ _ told.answer (came _ _ exit Damaged damaged));
    }

fresh_number : (g : Over) (c : goal.After-push g)
    → own_number c.set_u32_at.new.self.bytes ≡ c.in_ok-n.n
fresh_number g c = own_kept c.plain-page.result.bytes _ (replicate 2032 0) (u32_bytes c.args.head)
    c.in_ok-n.n (16 + 4 * (c.args.bucket % 508)) (omega arith) c.plain-page.result.whole
    (omega arith) (omega arith) c.plain-page.ensures c.set_u32_at.ensures

pub stage-requires-clause-number : goal.stage-requires-clause-number
stage-requires-clause-number g c =
    own_kept c.plain-page.result.bytes _ (replicate 2032 0) (u32_bytes c.args.head) c.in_ok-n.n
    (16 + 4 * (c.args.bucket % 508)) (omega arith) c.plain-page.result.whole (omega arith)
    (omega arith) c.plain-page.ensures c.set_u32_at.ensures

pub returns-then-s-len-clause-few : goal.returns-then-s-len-clause-few
returns-then-s-len-clause-few g c =
    let after = g.S.PageStore.state c.stage.new.self in
    subst (λ (st : StoreState). length after.staged ≤ length st.staged + 1)
    c.in_ok-n.ensures.reads.only.same
    (few_after (g.S.PageStore.state c.take.new.store) after c.set_u32_at.new.self.bytes
    c.stage.result (g.met.S.PageStore.in_order c.take.new.store) c.stage.ensures.ok
    c.stage.ensures.err)

pub returns-then-s-len-clause-ok : goal.returns-then-s-len-clause-ok
returns-then-s-len-clause-ok g c =
    adds (model_meta c.args.meta.now) c.push.new.self.items c.in_ok-n.n c.args.bucket (omega arith)
    c.in_ok-n.ensures.number (omega arith) c.push.ensures.items

pub returns-then-s-len-clause-keeps : goal.returns-then-s-len-clause-keeps
returns-then-s-len-clause-keeps g c = record {
  ends = c.in_ok-n.ensures.ends;
  may_end = λ may. let bytes = c.set_u32_at.new.self.bytes in
      let put = c.in_ok-stage.ensures.ok
      ∙ ap (λ (st : StoreState). record st { staged = put_page st.staged bytes })
      c.in_ok-n.ensures.reads.only.same in
      subst (λ (st : StoreState). MayEnd st c.take.new.space.file_end) (sym put)
      (c.in_ok-n.ensures.may_end may bytes (fresh_number g c));
}

pub returns-then-s-len-clause-exact : goal.returns-then-s-len-clause-exact
returns-then-s-len-clause-exact g c honest heads s can =
    let store = g.S.PageStore in
    let old = c.args.store.now in
    let mid = c.take.new.store in
    let new = c.stage.new.self in
    let n = c.in_ok-n.n in
    let bytes = c.set_u32_at.new.self.bytes in
    let done = c.stage.ensures in
    let reads = c.in_ok-n.ensures.reads.only in
    let put = c.in_ok-stage.ensures.ok in
    let order = g.met.S.PageStore.in_order old in
    let stages = after_stage store mid new bytes c.stage.result (g.met.S.PageStore.counts_now new)
    done.ok done.err done.honesty done.faults done.kept in
    let taken = c.in_ok-n.ensures.exact honest s can.free_is
    (still_apart c.args.meta.now.segments.items s can.apart) in
    let added : c.args.bucket / 508 ≡ length c.args.meta.now.segments.items = omega arith in
    let first : 16 + 4 * (c.args.bucket % 508) ≡ 16 = omega (arith, added, can.room, can.bucket) in
    let written = c.set_u32_at.ensures
    ∙ ap (λ (at : ℕ). overwrite c.plain-page.result.bytes at (u32_bytes c.args.head)) first in
    let page = then_said store old mid new n bytes reads stages honest order put (fresh_number g c)
    ∙ fresh_said c.plain-page.result.bytes bytes n c.args.head (omega arith) can.some
    (omega arith) c.plain-page.ensures written in
    set_added (body_at store old) (body_at store new) (model_meta c.args.meta.now) c.args.space.now
    heads c.args.bucket c.args.head s can n c.push.new.self.items c.take.new.space added taken.0
    c.push.ensures.items taken.1 page
    (others_stay store old mid new n bytes reads stages honest order put (fresh_number g c))

-- on any file the page that was taken says the head alone
pub returns-then-s-len-clause-set : goal.returns-then-s-len-clause-set
returns-then-s-len-clause-set g c honest =
    let store = g.S.PageStore in
    let old = c.args.store.now in
    let mid = c.take.new.store in
    let new = c.stage.new.self in
    let n = c.in_ok-n.n in
    let i = c.args.bucket % 508 in
    let bytes = c.set_u32_at.new.self.bytes in
    let done = c.stage.ensures in
    let reads = c.in_ok-n.ensures.reads.only in
    let put = c.in_ok-stage.ensures.ok in
    let order = g.met.S.PageStore.in_order old in
    let stages = after_stage store mid new bytes c.stage.result (g.met.S.PageStore.counts_now new)
    done.ok done.err done.honesty done.faults done.kept in
    inr (record {
      none = omega arith;
      taken = n;
      is_taken = c.in_ok-n.ensures.taken honest;
      says = subst (λ body. SaysEntry body [] i c.args.head)
          (sym (then_said store old mid new n bytes reads stages honest order put
          (fresh_number g c)))
          (entry_alone c.plain-page.result.bytes bytes n i c.args.head (omega arith) (omega arith)
          (omega arith) c.plain-page.ensures c.set_u32_at.ensures);
      kept = others_stay store old mid new n bytes reads stages honest order put
          (fresh_number g c);
      behind = c.push.ensures.items;
    })

pub returns-then-s-len-clause-stages : goal.returns-then-s-len-clause-stages
returns-then-s-len-clause-stages g c = record {
  only = let done = c.stage.ensures in
      stages_then g.S.PageStore _ _ _ (g.met.S.PageStore.counts_now c.take.new.store)
      c.in_ok-n.ensures.reads.only.stages_only
      (after_stage g.S.PageStore c.take.new.store c.stage.new.self c.set_u32_at.new.self.bytes
      c.stage.result (g.met.S.PageStore.counts_now c.stage.new.self) done.ok done.err
      done.honesty done.faults done.kept);
  cause = cause_ok _ _ _ (cause_stage_last _ _ _ _ _ _ _ c.in_ok-n.ensures.reads.cause.later
      c.stage.ensures.faults c.stage.ensures.answer).later;
}

pub returns-then-s-len-clause-answer : goal.returns-then-s-len-clause-answer
returns-then-s-len-clause-answer g c = no_set_refusal _ _ _ _

pub returns-then-s-len-clause-whole : goal.returns-then-s-len-clause-whole
returns-then-s-len-clause-whole g c honest heads s can damaged = cc

-- a segment that is there

-- its page is not read
pub returns-in_err-read_segment : goal.returns-in_err-read_segment
returns-in_err-read_segment g c =
    let st = g.S.PageStore in
    let told = c.in_err-read_segment.ensures in
    let result = c.from_residual-in_err-read_segment in
    let exit = exit_is result.result c.in_err-read_segment.field-0.0 result.ensures.1 in
    record {
      stages = record {
        only = told.reads.only.stages_only;
        cause = cause_first _ _ exit _ _ told.reads.cause;
      };
      few = few_same _ _ 1 told.reads.only.same;
      answer = head_sets _ _ refl _ _ exit _ _ told.answer;
      err = if_exit _ _ _ exit refl;
      err_state = if_exit _ _ _ exit told.reads.only.same;
      ok = IfOk-from_err _ _ result.ensures.0;
      keeps = record { ends = λ e. e; may_end = λ may. IfOk-from_err _ _ result.ensures.0 };
      set = λ honest. IfOk-from_err _ _ result.ensures.0;
      exact = λ honest heads s can. IfOk-from_err _ _ result.ensures.0;
      whole = λ honest heads s can damaged.
          told.readable honest (part_said _ _ heads _ can.heads_are (omega arith))
          (came _ _ exit Damaged damaged);
    }

pub stage-requires-2-clause-number : goal.stage-requires-2-clause-number
stage-requires-2-clause-number g c =
    let own : get_or c.args.meta.now.segments.items (c.args.bucket / 508) 0
    ≡ get_or c.deref.result.now (c.args.bucket / 508) 0 =
    ap (λ (xs : List ℕ). get_or xs (c.args.bucket / 508) 0) (sym c.deref.ensures.0) in
    own_of_segment c.read_segment.new.page.bytes c.set_u32_at-2.new.self.bytes
    (u32_bytes c.args.head) _ (16 + 4 * (c.args.bucket % 508)) c.read_segment.new.page.whole
    (omega arith) (omega arith) c.in_ok-read_segment.ensures.segment
    c.set_u32_at-2.ensures ∙ own

pub stage-requires-2-clause-some : goal.stage-requires-2-clause-some
stage-requires-2-clause-some g c =
    let known = subst (λ (xs : List ℕ).
    IsKnown (g.S.PageStore.state c.args.store.now) (get_or xs (c.args.bucket / 508) 0))
    (sym c.deref.ensures.0) c.in_ok-read_segment.ensures.known in
    known_some (g.S.PageStore.state c.args.store.now)
    (get_or c.deref.result.now (c.args.bucket / 508) 0)
    (g.met.S.PageStore.in_order c.args.store.now) known

segment_number : (g : Over) (c : goal.After-stage-2 g)
    → own_number c.set_u32_at-2.new.self.bytes
    ≡ get_or c.args.meta.now.segments.items (c.args.bucket / 508) 0
segment_number g c = own_of_segment c.read_segment.new.page.bytes c.set_u32_at-2.new.self.bytes
    (u32_bytes c.args.head) _ (16 + 4 * (c.args.bucket % 508)) c.read_segment.new.page.whole
    (omega arith) (omega arith) c.in_ok-read_segment.ensures.segment c.set_u32_at-2.ensures

pub returns-clause-few : goal.returns-clause-few
returns-clause-few g c =
    let after = g.S.PageStore.state c.stage-2.new.self in
    subst (λ (st : StoreState). length after.staged ≤ length st.staged + 1)
    c.in_ok-read_segment.ensures.reads.only.same
    (few_after (g.S.PageStore.state c.read_segment.new.store) after c.set_u32_at-2.new.self.bytes
    c.stage-2.result (g.met.S.PageStore.in_order c.read_segment.new.store)
    c.stage-2.ensures.ok c.stage-2.ensures.err)

pub returns-clause-ok : goal.returns-clause-ok
returns-clause-ok g c = on_ok_weaker c.stage-2.result
    (λ put. adds_none (model_meta c.args.meta.now) c.args.bucket (omega arith)) c.stage-2.ensures.ok

pub returns-clause-keeps : goal.returns-clause-keeps
returns-clause-keeps g c = record {
  ends = λ e. e;
  may_end = λ may. let bytes = c.set_u32_at-2.new.self.bytes in
      let n = get_or c.args.meta.now.segments.items (c.args.bucket / 508) 0 in
      let same = c.in_ok-read_segment.ensures.reads.only.same in
      on_ok_weaker c.stage-2.result (λ put.
      known_may_end (g.S.PageStore.state c.args.store.now) (g.S.PageStore.state c.stage-2.new.self)
      c.args.space.now.file_end n bytes c.in_ok-read_segment.ensures.known (segment_number g c)
      (put ∙ ap (λ (st : StoreState). record st { staged = put_page st.staged bytes }) same) may)
      c.stage-2.ensures.ok;
}

pub returns-clause-exact : goal.returns-clause-exact
returns-clause-exact g c honest heads s can =
    let store = g.S.PageStore in
    let old = c.args.store.now in
    let mid = c.read_segment.new.store in
    let new = c.stage-2.new.self in
    let ns = c.args.meta.now.segments.items in
    let b = c.args.bucket in
    let n = get_or ns (b / 508) 0 in
    let before = c.read_segment.new.page.bytes in
    let bytes = c.set_u32_at-2.new.self.bytes in
    let done = c.stage-2.ensures in
    let reads = c.in_ok-read_segment.ensures.reads.only in
    let order = g.met.S.PageStore.in_order old in
    let stages = after_stage store mid new bytes c.stage-2.result (g.met.S.PageStore.counts_now new)
    done.ok done.err done.honesty done.faults done.kept in
    let there : b / 508 < length ns = omega arith in
    let was = ap (body_of n) (c.in_ok-read_segment.ensures.found honest)
    ∙ part_read (body_at store old) ns heads (b / 508) can.heads_are.are_read there in
    let place : b % 508 ≤ length (part heads (b / 508)) =
    omega (arith, length-part heads (b / 508), can.bucket) in
    let now = head_said before bytes (part heads (b / 508)) n (b % 508) c.args.head
    c.in_ok-read_segment.ensures.segment was (omega arith) place can.some (omega arith)
    c.set_u32_at-2.ensures in
    on_ok_weaker c.stage-2.result (λ put.
    set_there (body_at store old) (body_at store new) (model_meta c.args.meta.now) c.args.space.now
    heads b c.args.head s can there
    (then_said store old mid new n bytes reads stages honest order put (segment_number g c) ∙ now)
    (others_stay store old mid new n bytes reads stages honest order put (segment_number g c)))
    done.ok

-- on any file the page that was read says the head among its others
pub returns-clause-set : goal.returns-clause-set
returns-clause-set g c honest =
    let store = g.S.PageStore in
    let old = c.args.store.now in
    let mid = c.read_segment.new.store in
    let new = c.stage-2.new.self in
    let ns = c.args.meta.now.segments.items in
    let b = c.args.bucket in
    let n = get_or ns (b / 508) 0 in
    let before = c.read_segment.new.page.bytes in
    let bytes = c.set_u32_at-2.new.self.bytes in
    let done = c.stage-2.ensures in
    let reads = c.in_ok-read_segment.ensures.reads.only in
    let order = g.met.S.PageStore.in_order old in
    let stages = after_stage store mid new bytes c.stage-2.result (g.met.S.PageStore.counts_now new)
    done.ok done.err done.honesty done.faults done.kept in
    on_ok_weaker c.stage-2.result (λ put. inl (
      record {
        there = omega arith;
        others = heads_on before;
        segment = ap (body_of n) (sym (c.in_ok-read_segment.ensures.found honest))
            ∙ heads_said before n c.in_ok-read_segment.ensures.segment;
        says = subst (λ body. SaysEntry body (heads_on before) (b % 508) c.args.head)
            (sym (then_said store old mid new n bytes reads stages honest order put
            (segment_number g c)))
            (entry_set before bytes n (b % 508) c.args.head (omega arith) (omega arith)
            c.in_ok-read_segment.ensures.segment c.set_u32_at-2.ensures);
        kept = others_stay store old mid new n bytes reads stages honest order put
            (segment_number g c);
      },
      refl,
      refl,
    )) done.ok

pub returns-clause-stages : goal.returns-clause-stages
returns-clause-stages g c = record {
  only = let done = c.stage-2.ensures in
      stages_then g.S.PageStore _ _ _ (g.met.S.PageStore.counts_now c.read_segment.new.store)
      c.in_ok-read_segment.ensures.reads.only.stages_only
      (after_stage g.S.PageStore c.read_segment.new.store c.stage-2.new.self
      c.set_u32_at-2.new.self.bytes c.stage-2.result
      (g.met.S.PageStore.counts_now c.stage-2.new.self) done.ok done.err done.honesty
      done.faults done.kept);
  cause = cause_stage_last _ _ _ _ _ _ _ c.in_ok-read_segment.ensures.reads.cause.later
      c.stage-2.ensures.faults c.stage-2.ensures.answer;
}

pub returns-clause-answer : goal.returns-clause-answer
returns-clause-answer g c = stage_sets_last _ _ _ _ _ _ c.in_ok-read_segment.ensures.reads.only.same
    c.stage-2.ensures.answer

pub returns-clause-err_state : goal.returns-clause-err_state
returns-clause-err_state g c =
    on_err_weaker c.stage-2.result (λ same. same ∙ c.in_ok-read_segment.ensures.reads.only.same)
    c.stage-2.ensures.err

pub returns-clause-whole : goal.returns-clause-whole
returns-clause-whole g c honest heads s can damaged =
    absurd (last_not_damaged _ _ _ _ c.stage-2.ensures.answer damaged)
