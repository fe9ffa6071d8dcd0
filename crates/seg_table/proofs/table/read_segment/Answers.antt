use Rattle.std.proofs.Common.{◌≡◌, ◌∙◌, ℕ, List, get_or, ap, subst, rules, arith, refl}
use Rattle.std.proofs.lemmas.Result.{IfOk-from_err}
use Rattle.page_model.specs.Numbers.{IsNumber}
use Rattle.page_model.specs.Reading.{body_of}
use Rattle.page_io.specs.Store.{IsKnown}
use Rattle.page_io.specs.Views.{visible_page}
use Rattle.page_io.specs.declared.store.PageFault.TheVariants.{Damaged}
use Rattle.page_io.proofs.Views.{unknown_said, after_read}
use Rattle.page_io.proofs.Exits.{exit_is, came, cause_first, cause_ok}
use Rattle.seg_table.specs.MetaPages.{model_meta}
use Rattle.seg_table.specs.Segments.{heads_in}
use Rattle.seg_table.proofs.HeadTexts.{heads_spelled, said_segment}
use Rattle.seg_table.proofs.Refusals.{read_heads, no_head_refusal, damaged_heads, cause_damaged}
use Rattle.seg_table.proofs.table.read_segment.Goals as goal

-- the page is not read
pub returns-in_err-read : goal.returns-in_err-read
returns-in_err-read g c =
    let told = c.in_err-read.ensures in
    let result = c.from_residual in
    let exit = exit_is result.result c.in_err-read.field-0.0 result.ensures.1 in
    let reads = after_read g.S.PageStore _ _ (g.met.S.PageStore.counts_now c.read.new.self)
    told.state told.honesty told.cause.later told.kept in
    record {
      reads = record { only = reads; cause = cause_first _ _ exit _ _ told.cause };
      answer = read_heads _ _ refl _ _ exit _ told.answer;
      known = IfOk-from_err _ _ result.ensures.0;
      segment = IfOk-from_err _ _ result.ensures.0;
      found = λ honest. IfOk-from_err _ _ result.ensures.0;
      readable = λ honest are damaged.
          let old = c.args.store.now in
          let ns = c.args.meta.now.segments.items in
          let own : get_or c.deref.result.now c.args.s 0 ≡ get_or ns c.args.s 0 =
          ap (λ (xs : List ℕ). get_or xs c.args.s 0) c.deref.ensures.0 in
          let unknown = subst (λ (n : ℕ). IsKnown (g.S.PageStore.state old) n → ⊥) own
          (c.in_err-read.ensures.answer.damaged.0 (came _ _ exit Damaged damaged)).1 in
          let other = unknown_said g.S.PageStore old (get_or ns c.args.s 0)
          (g.met.S.PageStore.ends old) are.some unknown in
          absurd (cc (other, are.says));
    }

-- the page is a segment
pub returns-then-segment_ok-clause-reads : goal.returns-then-segment_ok-clause-reads
returns-then-segment_ok-clause-reads g c = record {
  only = after_read g.S.PageStore _ _ (g.met.S.PageStore.counts_now c.read.new.self)
      c.in_ok-read.ensures.state c.in_ok-read.ensures.honesty c.in_ok-read.ensures.cause.later
      c.in_ok-read.ensures.kept;
  cause = cause_ok _ _ _ c.in_ok-read.ensures.cause.later;
}

pub returns-then-segment_ok-clause-answer : goal.returns-then-segment_ok-clause-answer
returns-then-segment_ok-clause-answer g c = no_head_refusal _ _

pub returns-then-segment_ok-clause-readable : goal.returns-then-segment_ok-clause-readable
returns-then-segment_ok-clause-readable g c honest are damaged = cc

pub returns-then-segment_ok-clause-segment : goal.returns-then-segment_ok-clause-segment
returns-then-segment_ok-clause-segment g c =
    let own : get_or c.deref.result.now c.args.s 0
    ≡ get_or c.args.meta.now.segments.items c.args.s 0 =
    ap (λ (xs : List ℕ). get_or xs c.args.s 0) c.deref.ensures.0 in
    let small : IsNumber (get_or c.deref.result.now c.args.s 0) = search rules in
    heads_spelled c.read.new.page.bytes (get_or c.args.meta.now.segments.items c.args.s 0)
    (heads_in (model_meta c.args.meta.now) c.args.s) (subst IsNumber own small) (omega arith)
    (c.segment_ok.ensures.0 (cc))

-- it is none
pub returns-else-segment_ok-clause-reads : goal.returns-else-segment_ok-clause-reads
returns-else-segment_ok-clause-reads g c = record {
  only = after_read g.S.PageStore _ _ (g.met.S.PageStore.counts_now c.read.new.self)
      c.in_ok-read.ensures.state c.in_ok-read.ensures.honesty c.in_ok-read.ensures.cause.later
      c.in_ok-read.ensures.kept;
  cause = cause_damaged _ _ c.in_ok-read.ensures.cause.later;
}

pub returns-else-segment_ok-clause-answer : goal.returns-else-segment_ok-clause-answer
returns-else-segment_ok-clause-answer g c = damaged_heads _

pub returns-else-segment_ok-clause-known : goal.returns-else-segment_ok-clause-known
returns-else-segment_ok-clause-known g c = tt

pub returns-else-segment_ok-clause-segment : goal.returns-else-segment_ok-clause-segment
returns-else-segment_ok-clause-segment g c = tt

pub returns-else-segment_ok-clause-found : goal.returns-else-segment_ok-clause-found
returns-else-segment_ok-clause-found g c honest = tt

pub returns-else-segment_ok-clause-readable : goal.returns-else-segment_ok-clause-readable
returns-else-segment_ok-clause-readable g c honest are damaged =
    let old = c.args.store.now in
    let ns = c.args.meta.now.segments.items in
    let n = get_or ns c.args.s 0 in
    let own : get_or c.deref.result.now c.args.s 0 ≡ n =
    ap (λ (xs : List ℕ). get_or xs c.args.s 0) c.deref.ensures.0 in
    let bytes = c.read.new.page.bytes in
    let found = c.in_ok-read.ensures.found honest in
    let yes = c.segment_ok.ensures.1
    (said_segment bytes n (heads_in (model_meta c.args.meta.now) c.args.s) are.heads
    c.read.new.page.whole are.many (ap (body_of n)
    (found ∙ ap (visible_page g.S.PageStore old) own) ∙ are.says)) in
    absurd (cc)
