use Rattle.std.proofs.Common.{rules, ◌≡◌, inr, refl, ap, Err, arith}
use Rattle.std.proofs.lemmas.Result.{err_from_is_err_and}
use Rattle.page_io.specs.declared.store.PageFault.TheVariants.{Damaged}
use Rattle.page_io.proofs.Views.{reads_then}
use Rattle.page_io.specs.BucketPages.{page_records}
use Rattle.bucket_chain.proofs.ReadPages.{still_honest, link_before, link_after}
use Rattle.bucket_chain.proofs.Walks.{read_as, walk_goes_on, walk_is_here, some_page, not_too_long}
use Rattle.file_check.proofs.KeyPasses.{has_new, not_last, are_apart}
use Rattle.file_check.proofs.ToldFlaws.{kept_then}
use Rattle.file_check.proofs.keys.check_keys.Goals as goal
use Rattle.file_check.proofs.keys.check_keys.Goals.{then-next-eq0-via-then-next-eq0, then-next-eq0-via-else-next-eq0+then-not-are_apart}

pub returns-then-at-n-clause-sound : goal.returns-then-at-n-clause-sound
returns-then-at-n-clause-sound g c honest =
    has_new _ _ _ _ _ _ (page_records c.args.page.now.bytes) c.if-at-n.true
    (c.loop-step.invariant.walked honest)

pub returns-in_err-next-clause-reads : goal.returns-in_err-next-clause-reads
returns-in_err-next-clause-reads g c = record {
  only = reads_then g.S.PageStore _ _ _ (g.met.S.PageStore.counts_now c.loop-step.store)
      c.loop-step.invariant.reads c.in_err-next.ensures.reads.only;
  cause = search rules;
}

pub returns-in_err-next-clause-whole : goal.returns-in_err-next-clause-whole
returns-in_err-next-clause-whole g c honest chain new damaged =
    let walk = c.loop-step.invariant.walked honest in
    let reads = c.loop-step.invariant.reads in
    let here = walk_is_here _ _ _ _ _ _ _ _ _ (read_as _ _ _ _ chain new.is) walk in
    let some = some_page _ _ _ _ _ _ _ _ _ (read_as _ _ _ _ chain new.is) walk in
    let p = err_from_is_err_and c.from_residual.result c.from_residual.ensures.1 in
    let fault : c.in_err-next.field-0.0 ≡ Damaged = let e = rw (p.1, p.2) at damaged in cc in
    c.in_err-next.ensures.whole (still_honest g.S.PageStore _ _ reads honest) _ _ some
    (link_after _ g.S.PageStore _ _ reads honest _ _ _ _ here.link) (ap Err fault)

pub returns-then-next-eq0-clause-whole : goal.returns-then-next-eq0-clause-whole
returns-then-next-eq0-clause-whole g c honest chain new damaged =
    let walk = c.loop-step.invariant.walked honest in
    let link = link_before _ g.S.PageStore _ _ c.loop-step.invariant.reads honest _ _ _ _
    c.in_ok-next.ensures.says in
    elim c.then-next-eq0.branch [
      | then-next-eq0-via-then-next-eq0 w ↦
          not_last _ _ _ _ _ _ _ _ _ (page_records c.args.page.now.bytes) _ chain new walk
          c.if-at-n.false link w.if-next-eq0.true
      | then-next-eq0-via-else-next-eq0+then-not-are_apart w ↦
          (let apart = w.are_apart.ensures.1
          (are_apart _ _ _ _ _ _ _ _ _ (page_records c.args.page.now.bytes) _ chain new walk
          c.if-at-n.false link) in cc)
    ]

pub loop-step-preserved : goal.loop-step-preserved
loop-step-preserved g c = record {
  kinds = inr refl;
  reads = reads_then g.S.PageStore _ _ _ (g.met.S.PageStore.counts_now c.loop-step.store)
      c.loop-step.invariant.reads c.in_ok-next.ensures.reads.only;
  told = kept_then c.loop-step.invariant.told c.in_ok-next.ensures.told (λ is. cc);
  walked = λ honest.
      let link = link_before _ g.S.PageStore _ _ c.loop-step.invariant.reads honest _ _ _ _
      c.in_ok-next.ensures.says in
      walk_goes_on _ _ _ _ _ _ _ (c.loop-step.invariant.walked honest) _ _ link
      c.in_ok-next.ensures.known.0 c.if-next-eq0.false
      (c.if-at-n.false, c.are_apart.ensures.0 c.if-not-are_apart.false);
}

pub returns-clause-whole : goal.returns-clause-whole
returns-clause-whole g c honest chain new damaged =
    not_too_long _ _ _ _ _ _ _ _ _ (read_as _ _ _ _ chain new.is)
    (c.loop-step.invariant.walked honest) (omega arith)
