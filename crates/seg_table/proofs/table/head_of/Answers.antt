use Rattle.std.proofs.Common.{◌/◌, ◌%◌, ◌∙◌, get_or, ap, subst, sym, refl, arith}
use Rattle.std.proofs.lemmas.Result.{IfOk-from_err}
use Rattle.page_model.specs.Reading.{body_of}
use Rattle.page_io.specs.Views.{body_at}
use Rattle.page_io.specs.declared.store.PageFault.TheVariants.{Damaged}
use Rattle.page_io.proofs.Views.{after_read}
use Rattle.page_io.proofs.Exits.{exit_is, came, cause_first, cause_ok}
use Rattle.seg_table.specs.Heads.{HasEntry}
use Rattle.seg_table.proofs.HeadReads.{entry_read, head_read}
use Rattle.seg_table.proofs.Refusals.{head_heads, no_head_refusal}
use Rattle.seg_table.proofs.Tables.{part_said}
use Rattle.seg_table.proofs.table.head_of.Goals as goal

-- its segment page is not read
pub returns-in_err-read_segment : goal.returns-in_err-read_segment
returns-in_err-read_segment g c =
    let told = c.in_err-read_segment.ensures in
    let result = c.from_residual in
    let exit = exit_is result.result c.in_err-read_segment.field-0.0 result.ensures.1 in
    record {
      reads = record { only = told.reads.only; cause = cause_first _ _ exit _ _ told.reads.cause };
      answer = head_heads _ _ refl _ _ exit told.answer;
      entry = λ honest. IfOk-from_err _ _ result.ensures.0;
      exact = λ honest heads are lt. IfOk-from_err _ _ result.ensures.0;
      whole = λ honest heads are damaged.
          told.readable honest (part_said _ _ heads _ are c.requires) (came _ _ exit Damaged
          damaged);
      readable = λ honest says damaged. told.readable honest says (came _ _ exit Damaged damaged);
    }

-- the head stands in it
pub returns-clause-reads : goal.returns-clause-reads
returns-clause-reads g c = record {
  only = c.in_ok-read_segment.ensures.reads.only;
  cause = cause_ok _ _ _ c.in_ok-read_segment.ensures.reads.cause.later;
}

pub returns-clause-answer : goal.returns-clause-answer
returns-clause-answer g c = no_head_refusal _ _

pub returns-clause-whole : goal.returns-clause-whole
returns-clause-whole g c honest heads are damaged = cc

pub returns-clause-readable : goal.returns-clause-readable
returns-clause-readable g c honest says damaged = cc

pub returns-clause-entry : goal.returns-clause-entry
returns-clause-entry g c honest =
    let at = body_at g.S.PageStore c.args.store.now in
    let bytes = c.read_segment.new.page.bytes in
    let n = get_or c.args.meta.now.segments.items (c.args.bucket / 508) 0 in
    subst (HasEntry (at n) (c.args.bucket % 508)) (sym c.head_in.ensures)
    (entry_read at c.args.meta.now.segments.items c.args.bucket bytes
    c.read_segment.new.page.whole c.in_ok-read_segment.ensures.segment
    (ap (body_of n) (sym (c.in_ok-read_segment.ensures.found honest))))

pub returns-clause-exact : goal.returns-clause-exact
returns-clause-exact g c honest heads are lt =
    let bytes = c.read_segment.new.page.bytes in
    let n = get_or c.args.meta.now.segments.items (c.args.bucket / 508) 0 in
    c.head_in.ensures
    ∙ head_read (body_at g.S.PageStore c.args.store.now) c.args.meta.now.segments.items
    c.args.bucket bytes c.read_segment.new.page.whole c.in_ok-read_segment.ensures.segment
    (ap (body_of n) (sym (c.in_ok-read_segment.ensures.found honest))) heads are.are_read
    c.requires

-- it stands in the page that is lent
pub returns-in-Some-clause-reads : goal.returns-in-Some-clause-reads
returns-in-Some-clause-reads g c =
    let done = c.promote.ensures in
    record {
      only = after_read g.S.PageStore _ _ (g.met.S.PageStore.counts_now c.promote.new.self)
          done.state done.honesty (omega (arith, done.faults)) done.kept;
      cause = cause_ok _ _ _ (omega (arith, done.faults));
    }

pub returns-in-Some-clause-answer : goal.returns-in-Some-clause-answer
returns-in-Some-clause-answer g c = no_head_refusal _ _

pub returns-in-Some-clause-whole : goal.returns-in-Some-clause-whole
returns-in-Some-clause-whole g c honest heads are damaged = cc

pub returns-in-Some-clause-readable : goal.returns-in-Some-clause-readable
returns-in-Some-clause-readable g c honest says damaged = cc
