use Rattle.std.proofs.Common.{◌≡◌, map, ap, Err, arith, rules}
use Rattle.std.proofs.lemmas.Result.{err_from_is_err_and}
use Rattle.page_io.specs.Versions.{model_version}
use Rattle.page_io.specs.Views.{body_at}
use Rattle.page_io.specs.declared.store.PageFault.TheVariants.{Damaged}
use Rattle.page_io.proofs.Views.{reads_then}
use Rattle.bucket_chain.specs.Chains.{record_pair}
use Rattle.bucket_chain.proofs.ReadPages.{reads_none, still_honest, link_before, link_after}
use Rattle.bucket_chain.proofs.Walks.{read_as, walk_is_here, some_page, not_too_long}
use Rattle.bucket_chain.proofs.LeastKeys.{best_ahead}
use Rattle.bucket_chain.proofs.LeastWalks.{best_of_head, best_goes_on, best_is_read, best_is_least}
use Rattle.bucket_chain.proofs.leasts.least_with_overflow.Goals as goal

pub loop-step-init : goal.loop-step-init
loop-step-init g c = record {
  reads = reads_none g.S.PageStore c.args.store.now
      (λ y h left. g.met.S.PageStore.only_now c.args.store.now y h left);
  ranked = c.requires;
  so_far = λ head records least. best_of_head _ (model_version c.args.version)
      (body_at g.S.PageStore c.args.store.now) head _ _ _ _
      records least (λ h. h.1);
}

pub returns-in_err-next-clause-whole : goal.returns-in_err-next-clause-whole
returns-in_err-next-clause-whole g c head records read least honest chain is damaged =
    let so_far = c.loop-step.invariant.so_far head records least in
    let loaded = so_far.loaded (honest, read) in
    let reads = c.loop-step.invariant.reads in
    let here = walk_is_here _ _ _ _ _ _ _ _ _ (read_as _ _ _ _ chain is) loaded.walk in
    let some = some_page _ _ _ _ _ _ _ _ _ (read_as _ _ _ _ chain is) loaded.walk in
    let p = err_from_is_err_and c.from_residual.result c.from_residual.ensures.1 in
    let fault : c.in_err-next.field-0.0 ≡ Damaged = let e = rw (p.1, p.2) at damaged in cc in
    c.in_err-next.ensures.whole (still_honest g.S.PageStore _ _ reads honest) _ _ some
    (link_after _ g.S.PageStore _ _ reads honest _ _ _ _ here.link) (ap Err fault)

pub returns-then-next-eq0-clause-ahead : goal.returns-then-next-eq0-clause-ahead
returns-then-next-eq0-clause-ahead g c records least =
    let so_far = c.loop-step.invariant.so_far 0 records least in
    rw c.slot_in.ensures
    (best_ahead _ _ _ _ (c.best_of-best.ensures.least
    (map record_pair so_far.records) so_far.least))

pub returns-then-next-eq0-clause-walked : goal.returns-then-next-eq0-clause-walked
returns-then-next-eq0-clause-walked g c head records honest read least =
    let so_far = c.loop-step.invariant.so_far head records least in
    let link = link_before _ g.S.PageStore _ _ c.loop-step.invariant.reads honest _ _ _ _
    c.in_ok-next.ensures.says in
    rw c.slot_in.ensures
    (best_is_read _ _ _ _ _ _ _ _ _ _ _ _ _ _ so_far
    (c.best_of-best.ensures.least
    (map record_pair so_far.records) so_far.least) c.in_ok-next.ensures.known.0
    (honest, read) link c.if-next-eq0.true)

pub returns-then-next-eq0-clause-exact : goal.returns-then-next-eq0-clause-exact
returns-then-next-eq0-clause-exact g c head records read least honest chain is =
    let so_far = c.loop-step.invariant.so_far head records least in
    let link = link_before _ g.S.PageStore _ _ c.loop-step.invariant.reads honest _ _ _ _
    c.in_ok-next.ensures.says in
    rw c.slot_in.ensures
    (best_is_least _ _ _ _ _ _ _ _ _ _ _ _ _ _ so_far
    (c.best_of-best.ensures.least
    (map record_pair so_far.records) so_far.least) c.in_ok-next.ensures.known.0
    (honest, read) link _ chain is c.if-next-eq0.true)

pub loop-step-preserved : goal.loop-step-preserved
loop-step-preserved g c = record {
  reads = reads_then g.S.PageStore _ _ _ (g.met.S.PageStore.counts_now c.loop-step.store)
      c.loop-step.invariant.reads c.in_ok-next.ensures.reads.only;
  ranked = c.best_of-best.ensures.ranked;
  so_far = λ head records least.
      let so_far = c.loop-step.invariant.so_far head records least in
      best_goes_on _ _ _ _ _ _ _ _ _ _ _ _ _ _ so_far
      (c.best_of-best.ensures.least
      (map record_pair so_far.records) so_far.least) c.in_ok-next.ensures.known.0
      (λ h. link_before _ g.S.PageStore _ _ c.loop-step.invariant.reads h.0 _ _ _ _
      c.in_ok-next.ensures.says) c.if-next-eq0.false;
}

pub returns-clause-whole : goal.returns-clause-whole
returns-clause-whole g c head records read least honest chain is damaged =
    let so_far = c.loop-step.invariant.so_far head records least in
    not_too_long _ _ _ _ _ _ _ _ _ (read_as _ _ _ _ chain is) (so_far.loaded (honest, read)).walk
    (omega arith)

pub returns-clause-ahead : goal.returns-clause-ahead
returns-clause-ahead g c = search rules

pub returns-clause-walked : goal.returns-clause-walked
returns-clause-walked g c = search rules

pub returns-clause-exact : goal.returns-clause-exact
returns-clause-exact g c = search rules
