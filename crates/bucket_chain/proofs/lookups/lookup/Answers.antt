use Rattle.std.proofs.Common.{◌≡◌, inr, refl, ap, Err, arith, rules}
use Rattle.std.proofs.lemmas.Result.{err_from_is_err_and}
use Rattle.page_io.specs.declared.store.PageFault.TheVariants.{Damaged}
use Rattle.page_io.proofs.Views.{reads_then}
use Rattle.page_io.specs.BucketPages.{page_records}
use Rattle.bucket_chain.specs.Walks.{EndsWithout, IsRecordAt}
use Rattle.bucket_chain.proofs.ReadPages.{still_honest, link_before, link_after}
use Rattle.bucket_chain.proofs.Walks.{read_as, walk_ends, walk_goes_on, walk_is_here, some_page, not_too_long}
use Rattle.bucket_chain.proofs.SoundLooks.{stands_at, not_over}
use Rattle.bucket_chain.proofs.KeyWalks.{looked_up, not_there, absent_times}
use Rattle.bucket_chain.proofs.lookups.lookup.Goals as goal

pub returns-in_err-next-clause-whole : goal.returns-in_err-next-clause-whole
returns-in_err-next-clause-whole g c honest chain is damaged =
    let walk = c.loop-step.invariant.walked honest in
    let reads = c.loop-step.invariant.reads in
    let here = walk_is_here _ _ _ _ _ _ _ _ _ (read_as _ _ _ _ chain is) walk in
    let some = some_page _ _ _ _ _ _ _ _ _ (read_as _ _ _ _ chain is) walk in
    let p = err_from_is_err_and c.from_residual.result c.from_residual.ensures.1 in
    let fault : c.in_err-next.field-0.0 ≡ Damaged = let e = rw (p.1, p.2) at damaged in cc in
    c.in_err-next.ensures.whole (still_honest g.S.PageStore _ _ reads honest) _ _ some
    (link_after _ g.S.PageStore _ _ reads honest _ _ _ _ here.link) (ap Err fault)

pub returns-in_err-next-clause-readable : goal.returns-in_err-next-clause-readable
returns-in_err-next-clause-readable g c honest can damaged =
    let reads = c.loop-step.invariant.reads in
    let here = stands_at _ _ _ _ _ _ _ _ can (c.loop-step.invariant.walked honest) in
    let p = err_from_is_err_and c.from_residual.result c.from_residual.ensures.1 in
    let fault : c.in_err-next.field-0.0 ≡ Damaged = let e = rw (p.1, p.2) at damaged in cc in
    c.in_err-next.ensures.whole (still_honest g.S.PageStore _ _ reads honest) _ _ here.some
    (link_after _ g.S.PageStore _ _ reads honest _ _ _ _ here.link) (ap Err fault)

pub returns-in-Some-clause-walked : goal.returns-in-Some-clause-walked
returns-in-Some-clause-walked g c honest =
    let bytes = c.read_link.new.page.bytes in
    let link = link_before _ g.S.PageStore _ _ c.loop-step.invariant.reads honest _ _ _ _
    c.in_ok-next.ensures.says in
    walk_ends _ _ _ _ _ _ _ (c.loop-step.invariant.walked honest)
    (IsRecordAt c.args.key.now bytes
    (record { page = c.loop-step.at; slot = c.in-Some.slot })) _ _ link
    record {
      number = refl;
      page = c.in_ok-next.ensures.link.page.page;
      records = refl;
      has =
          c.in-Some.ensures.found;
    }

pub returns-in-Some-clause-exact : goal.returns-in-Some-clause-exact
returns-in-Some-clause-exact g c honest chain is =
    let bytes = c.read_link.new.page.bytes in
    let link = link_before _ g.S.PageStore _ _ c.loop-step.invariant.reads honest _ _ _ _
    c.in_ok-next.ensures.says in
    looked_up _ _ _ _ chain c.args.key.now _ _ _ _ (page_records bytes) is
    (c.loop-step.invariant.walked honest) link c.in_ok-next.ensures.known.0 bytes
    (record { page = c.loop-step.at; slot = c.in-Some.slot })
    c.in_ok-next.ensures.link.page.page refl c.in-Some.ensures.found c.in-Some.ensures.only

pub returns-then-next-eq0-clause-walked : goal.returns-then-next-eq0-clause-walked
returns-then-next-eq0-clause-walked g c honest =
    let link = link_before _ g.S.PageStore _ _ c.loop-step.invariant.reads honest _ _ _ _
    c.in_ok-next.ensures.says in
    walk_ends _ _ _ _ _ _ _ (c.loop-step.invariant.walked honest) (EndsWithout c.args.key.now) _ _
    link (c.if-next-eq0.true, absent_times _ _ c.in_default.ensures.none)

pub returns-then-next-eq0-clause-exact : goal.returns-then-next-eq0-clause-exact
returns-then-next-eq0-clause-exact g c honest chain is =
    let link = link_before _ g.S.PageStore _ _ c.loop-step.invariant.reads honest _ _ _ _
    c.in_ok-next.ensures.says in
    not_there _ _ _ _ chain c.args.key.now _ _ _ _ _ is (c.loop-step.invariant.walked honest) link
    c.in_ok-next.ensures.known.0 c.if-next-eq0.true (absent_times _ _ c.in_default.ensures.none)

pub loop-step-preserved : goal.loop-step-preserved
loop-step-preserved g c = record {
  kinds = inr refl;
  reads = reads_then g.S.PageStore _ _ _ (g.met.S.PageStore.counts_now c.loop-step.store)
      c.loop-step.invariant.reads c.in_ok-next.ensures.reads.only;
  walked = λ honest.
      let link = link_before _ g.S.PageStore _ _ c.loop-step.invariant.reads honest _ _ _ _
      c.in_ok-next.ensures.says in
      walk_goes_on _ _ _ _ _ _ _ (c.loop-step.invariant.walked honest) _ _ link
      c.in_ok-next.ensures.known.0 c.if-next-eq0.false
      (absent_times _ _ c.in_default.ensures.none);
}

pub returns-clause-whole : goal.returns-clause-whole
returns-clause-whole g c honest chain is damaged =
    not_too_long _ _ _ _ _ _ _ _ _ (read_as _ _ _ _ chain is)
    (c.loop-step.invariant.walked honest) (omega arith)

pub returns-clause-readable : goal.returns-clause-readable
returns-clause-readable g c honest can damaged =
    not_over _ _ _ _ _ _ _ _ can (c.loop-step.invariant.walked honest) (omega arith)

pub returns-in-Some-clause-held : goal.returns-in-Some-clause-held
returns-in-Some-clause-held g c = search rules
