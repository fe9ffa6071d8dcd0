use Rattle.std.proofs.Common.{◌≡◌, ◌∙◌, inr, refl, sym, ap, Err, arith}
use Rattle.std.proofs.lemmas.Result.{err_from_is_err_and}
use Rattle.page_io.specs.declared.store.PageFault.TheVariants.{Damaged}
use Rattle.page_io.proofs.Views.{reads_then}
use Rattle.bucket_chain.specs.Walks.{EndsWithout}
use Rattle.bucket_chain.proofs.ContentLookups.{look_absent, look_of_version, look_ends, look_found}
use Rattle.bucket_chain.proofs.ReadPages.{still_honest, link_before, link_after}
use Rattle.bucket_chain.proofs.Walks.{read_as, walk_ends, walk_goes_on, walk_is_here, some_page, not_too_long}
use Rattle.bucket_chain.proofs.SoundLooks.{stands_at, not_over}
use Rattle.bucket_chain.proofs.KeyWalks.{not_there, absent_times}
use Rattle.bucket_chain.proofs.content_lookups.lookup_content.Goals as goal

pub returns-in_err-look-clause-whole : goal.returns-in_err-look-clause-whole
returns-in_err-look-clause-whole g c honest chain is damaged =
    let walk = c.loop-step.invariant.walked honest in
    let reads = c.loop-step.invariant.reads in
    let here = walk_is_here _ _ _ _ _ _ _ _ _ (read_as _ _ _ _ chain is) walk in
    let some = some_page _ _ _ _ _ _ _ _ _ (read_as _ _ _ _ chain is) walk in
    let p = err_from_is_err_and c.from_residual.result c.from_residual.ensures.1 in
    let fault : c.in_err-look.field-0.0 ≡ Damaged = let e = rw (p.1, p.2) at damaged in cc in
    c.in_err-look.ensures.whole (still_honest g.S.PageStore _ _ reads honest) _ _ some
    (link_after _ g.S.PageStore _ _ reads honest _ _ _ _ here.link) (ap Err fault)

pub returns-in_err-look-clause-readable : goal.returns-in_err-look-clause-readable
returns-in_err-look-clause-readable g c honest can damaged =
    let reads = c.loop-step.invariant.reads in
    let here = stands_at _ _ _ _ _ _ _ _ can (c.loop-step.invariant.walked honest) in
    let p = err_from_is_err_and c.from_residual.result c.from_residual.ensures.1 in
    let fault : c.in_err-look.field-0.0 ≡ Damaged = let e = rw (p.1, p.2) at damaged in cc in
    c.in_err-look.ensures.whole (still_honest g.S.PageStore _ _ reads honest) _ _ here.some
    (link_after _ g.S.PageStore _ _ reads honest _ _ _ _ here.link) (ap Err fault)

pub returns-then-is_some-clause-of_version : goal.returns-then-is_some-clause-of_version
returns-then-is_some-clause-of_version g c =
    let looked = c.in_ok-look.ensures.looked in
    look_of_version _ _ looked.0 _ _ looked.1.page looked.2

pub returns-then-is_some-clause-walked : goal.returns-then-is_some-clause-walked
returns-then-is_some-clause-walked g c honest =
    let reads = c.loop-step.invariant.reads in
    let looked = c.in_ok-look.ensures.looked in
    let link = link_before _ g.S.PageStore _ _ reads honest _ _ _ _ looked.3 in
    look_ends _ _ _ _ _ _ _ _ looked.0 _ (c.loop-step.invariant.walked honest) link _
    (sym c.is_some.ensures ∙ c.if-is_some.true) looked.2

pub returns-then-is_some-clause-exact : goal.returns-then-is_some-clause-exact
returns-then-is_some-clause-exact g c honest chain is =
    let reads = c.loop-step.invariant.reads in
    let looked = c.in_ok-look.ensures.looked in
    let link = link_before _ g.S.PageStore _ _ reads honest _ _ _ _ looked.3 in
    look_found _ _ _ _ _ _ _ _ looked.0 _ (c.loop-step.invariant.walked honest) link _ chain is
    c.in_ok-look.ensures.known.0 looked.1.page.page _ (sym c.is_some.ensures ∙ c.if-is_some.true) looked.2

pub returns-then-look-eq0-clause-walked : goal.returns-then-look-eq0-clause-walked
returns-then-look-eq0-clause-walked g c honest =
    let reads = c.loop-step.invariant.reads in
    let looked = c.in_ok-look.ensures.looked in
    let link = link_before _ g.S.PageStore _ _ reads honest _ _ _ _ looked.3 in
    walk_ends _ _ _ _ _ _ _ (c.loop-step.invariant.walked honest) (EndsWithout c.args.key.now) _ _
    link (
      c.if-look-eq0.true,
      absent_times _ _ (look_absent _ _ _ _ (sym c.is_some.ensures ∙ c.if-is_some.false) looked.2),
    )

pub returns-then-look-eq0-clause-exact : goal.returns-then-look-eq0-clause-exact
returns-then-look-eq0-clause-exact g c honest chain is =
    let reads = c.loop-step.invariant.reads in
    let looked = c.in_ok-look.ensures.looked in
    let link = link_before _ g.S.PageStore _ _ reads honest _ _ _ _ looked.3 in
    not_there _ _ _ _ chain c.args.key.now _ _ _ _ _ is (c.loop-step.invariant.walked honest) link
    c.in_ok-look.ensures.known.0 c.if-look-eq0.true
    (absent_times _ _ (look_absent _ _ _ _ (sym c.is_some.ensures ∙ c.if-is_some.false) looked.2))

pub loop-step-preserved : goal.loop-step-preserved
loop-step-preserved g c = record {
  kinds = inr refl;
  reads = reads_then g.S.PageStore _ _ _ (g.met.S.PageStore.counts_now c.loop-step.store)
      c.loop-step.invariant.reads c.in_ok-look.ensures.reads.only;
  walked = λ honest.
      let looked = c.in_ok-look.ensures.looked in
      let link = link_before _ g.S.PageStore _ _ c.loop-step.invariant.reads honest _ _ _ _ looked.3 in
      walk_goes_on _ _ _ _ _ _ _ (c.loop-step.invariant.walked honest) _ _ link
      c.in_ok-look.ensures.known.0 c.if-look-eq0.false
      (absent_times _ _ (look_absent _ _ _ _ (sym c.is_some.ensures ∙ c.if-is_some.false)
      looked.2));
}

pub returns-clause-whole : goal.returns-clause-whole
returns-clause-whole g c honest chain is damaged =
    not_too_long _ _ _ _ _ _ _ _ _ (read_as _ _ _ _ chain is)
    (c.loop-step.invariant.walked honest) (omega arith)

pub returns-clause-readable : goal.returns-clause-readable
returns-clause-readable g c honest can damaged =
    not_over _ _ _ _ _ _ _ _ can (c.loop-step.invariant.walked honest) (omega arith)
