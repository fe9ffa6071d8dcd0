use Rattle.std.proofs.Common.{rules, ◌≡◌, inl, inr, map, refl, sym, ap, subst, Err, arith}
use Rattle.std.proofs.lemmas.Result.{err_from_is_err_and}
use Rattle.std.specs.List.{AllByRecursion}
use Rattle.page_io.specs.Versions.{model_version}
use Rattle.page_io.specs.Views.{body_at}
use Rattle.page_io.specs.declared.store.PageFault.TheVariants.{Damaged}
use Rattle.page_io.proofs.Views.{reads_then}
use Rattle.bucket_chain.specs.Pairs.{record_as, IsSmall}
use Rattle.bucket_chain.proofs.ReadPages.{reads_none, still_honest, link_before, link_after}
use Rattle.bucket_chain.proofs.Walks.{read_as, walk_is_here, some_page, not_too_long}
use Rattle.bucket_chain.proofs.LoadedRecords.{went_well, none_loaded, more_loaded, all_loaded, all_of, more_small, each_small}
use Rattle.bucket_chain.proofs.loads.load_all.Goals as goal

pub loop-step-init : goal.loop-step-init
loop-step-init g c = record {
  kinds = inl refl;
  small = subst (AllByRecursion (IsSmall (model_version c.args.version))) (sym (ap
      (map record_as) c.new-pairs.ensures.items)) tt;
  reads = reads_none g.S.PageStore c.args.store.now
      (λ y h left. g.met.S.PageStore.only_now c.args.store.now y h left);
  loaded = λ honest. none_loaded (body_at g.S.PageStore c.args.store.now) c.args.head _
      (ap (map record_as) c.new-pairs.ensures.items);
}

pub returns-in_err-next-clause-whole : goal.returns-in_err-next-clause-whole
returns-in_err-next-clause-whole g c honest chain is damaged =
    let loaded = c.loop-step.invariant.loaded honest in
    let reads = c.loop-step.invariant.reads in
    let here = walk_is_here _ _ _ _ _ _ _ _ _ (read_as _ _ _ _ chain is) loaded.walk in
    let some = some_page _ _ _ _ _ _ _ _ _ (read_as _ _ _ _ chain is) loaded.walk in
    let p = err_from_is_err_and c.from_residual.result c.from_residual.ensures.1 in
    let fault : c.in_err-next.field-0.0 ≡ Damaged = let e = rw (p.1, p.2) at damaged in cc in
    c.in_err-next.ensures.whole (still_honest g.S.PageStore _ _ reads honest) _ _ some
    (link_after _ g.S.PageStore _ _ reads honest _ _ _ _ here.link) (ap Err fault)

pub returns-then-next-eq0-clause-small : goal.returns-then-next-eq0-clause-small
returns-then-next-eq0-clause-small g c =
    each_small _ _ (more_small _ _ _ _ c.in_ok-next.ensures.link.page
    (went_well _ c.load_page.result c.in_ok-map_err.ensures.variant c.load_page.ensures)
    c.loop-step.invariant.small)

pub returns-then-next-eq0-clause-walked : goal.returns-then-next-eq0-clause-walked
returns-then-next-eq0-clause-walked g c honest =
    let link = link_before _ g.S.PageStore _ _ c.loop-step.invariant.reads honest _ _ _ _
    c.in_ok-next.ensures.says in
    let appended = went_well _ c.load_page.result c.in_ok-map_err.ensures.variant
    c.load_page.ensures in
    all_loaded _ _ _ _ _ _ _ _ _ _ (c.loop-step.invariant.loaded honest) link
    c.in_ok-next.ensures.known.0 appended c.if-next-eq0.true

pub returns-then-next-eq0-clause-exact : goal.returns-then-next-eq0-clause-exact
returns-then-next-eq0-clause-exact g c honest chain is =
    let link = link_before _ g.S.PageStore _ _ c.loop-step.invariant.reads honest _ _ _ _
    c.in_ok-next.ensures.says in
    let appended = went_well _ c.load_page.result c.in_ok-map_err.ensures.variant
    c.load_page.ensures in
    all_of _ _ _ _ _ _ _ _ _ _
    (c.loop-step.invariant.loaded honest) link c.in_ok-next.ensures.known.0
    appended _ chain is c.if-next-eq0.true

pub loop-step-preserved : goal.loop-step-preserved
loop-step-preserved g c = record {
  kinds = inr refl;
  small = more_small _ _ _ _ c.in_ok-next.ensures.link.page
      (went_well _ c.load_page.result c.in_ok-map_err.ensures.variant c.load_page.ensures)
      c.loop-step.invariant.small;
  reads = reads_then g.S.PageStore _ _ _ (g.met.S.PageStore.counts_now c.loop-step.store)
      c.loop-step.invariant.reads c.in_ok-next.ensures.reads.only;
  loaded = λ honest.
      let link = link_before _ g.S.PageStore _ _ c.loop-step.invariant.reads honest _ _ _ _
      c.in_ok-next.ensures.says in
      let appended = went_well _ c.load_page.result c.in_ok-map_err.ensures.variant
      c.load_page.ensures in
      more_loaded _ _ _ _ _ _ _ _ _ _ (c.loop-step.invariant.loaded honest) link
      c.in_ok-next.ensures.known.0 appended c.if-next-eq0.false;
}

pub returns-clause-whole : goal.returns-clause-whole
returns-clause-whole g c honest chain is damaged =
    not_too_long _ _ _ _ _ _ _ _ _ (read_as _ _ _ _ chain is)
    (c.loop-step.invariant.loaded honest).walk (omega arith)

pub returns-in_err-next-clause-reads : goal.returns-in_err-next-clause-reads
returns-in_err-next-clause-reads g c = record {
  only = reads_then g.S.PageStore _ _ _ (g.met.S.PageStore.counts_now c.loop-step.store)
      c.loop-step.invariant.reads c.in_err-next.ensures.reads.only;
  cause = search rules;
}

pub returns-in_err-map_err-clause-reads : goal.returns-in_err-map_err-clause-reads
returns-in_err-map_err-clause-reads g c = record {
  only = reads_then g.S.PageStore _ _ _ (g.met.S.PageStore.counts_now c.loop-step.store)
      c.loop-step.invariant.reads c.in_ok-next.ensures.reads.only;
  cause = search rules;
}

pub returns-then-next-eq0-clause-reads : goal.returns-then-next-eq0-clause-reads
returns-then-next-eq0-clause-reads g c = record {
  only = reads_then g.S.PageStore _ _ _ (g.met.S.PageStore.counts_now c.loop-step.store)
      c.loop-step.invariant.reads c.in_ok-next.ensures.reads.only;
  cause = search rules;
}
