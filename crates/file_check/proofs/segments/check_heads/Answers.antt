use Rattle.std.proofs.Common.{◌≡◌, ◌+◌, ◌++◌, ℕ, List, flat_map, take, get_or, [], Err, refl, ap, ◌∙◌, arith}
use Rattle.std.proofs.lemmas.Result.{err_from_is_err_and}
use Rattle.page_model.specs.Chain.{pages_in}
use Rattle.page_io.specs.declared.store.PageFault.TheVariants.{Damaged}
use Rattle.page_io.proofs.Views.{reads_then}
use Rattle.file_check.specs.Marks.{AreMarked, MayBeSeen}
use Rattle.seg_table.specs.MetaPages.{model_meta}
use Rattle.file_check.specs.Segments.{shape_in}
use Rattle.file_check.specs.BucketChains.{IsBucketChain, IsChecked}
use Rattle.bucket_chain.proofs.ReadPages.{reads_none, still_honest}
use Rattle.file_check.proofs.ChainReads.{none_counted}
use Rattle.file_check.proofs.HeadReads.{no_heads, more_heads, may_chain, chain_there, more_exact, all_exact}
use Rattle.file_check.proofs.StoreReads.{from_mid, to_mid}
use Rattle.file_check.proofs.ToldFlaws.{kept_then}
use Rattle.file_check.proofs.segments.check_heads.Goals as goal

pub loop-i-init : goal.loop-i-init
loop-i-init g c = record {
  length = refl;
  reads = reads_none g.S.PageStore c.args.store.now
      (λ y h left. g.met.S.PageStore.only_now c.args.store.now y h left);
  told = λ told was. was;
  sound = λ honest seen are. no_heads _ _ _ _ _ _ seen are;
  exact = λ honest seen chains are is may. none_counted _ _ seen are;
}

pub returns-in_err-more-clause-whole : goal.returns-in_err-more-clause-whole
returns-in_err-more-clause-whole g c honest seen chains are is may damaged =
    let reads = c.loop-i.invariant.reads in
    let m = model_meta c.args.meta.now in
    let before = seen ++ flat_map pages_in (take c.loop-i.i chains) in
    let chain = get_or chains c.loop-i.i [] in
    let p = err_from_is_err_and c.from_residual.result c.from_residual.ensures.1 in
    let fault : c.in_err-more.field-0.0 ≡ Damaged = let e = rw (p.1, p.2) at damaged in cc in
    let counted = c.loop-i.invariant.exact honest seen chains are is may in
    c.in_err-more.ensures.whole (still_honest g.S.PageStore _ _ reads honest) before chain
    (to_mid g.S.PageStore _ _ reads honest (λ at end. AreMarked c.loop-i.marks end before)
    counted.marked)
    (to_mid g.S.PageStore _ _ reads honest (λ at end. IsBucketChain m.bounds.version at (shape_in m)
    (c.args.first + c.loop-i.i) c.u32_at-head.result chain)
    (chain_there _ _ _ _ _ c.loop-i.i c.u32_at-head.result chains is c.loop-i-test.true
    c.u32_at-head.ensures))
    (to_mid g.S.PageStore _ _ reads honest (λ at end. MayBeSeen end (before ++ pages_in chain))
    (may_chain _ seen chains c.loop-i.i (omega (arith, is.many)) may))
    (ap Err fault)

pub loop-i-preserved : goal.loop-i-preserved
loop-i-preserved g c =
    let reads = c.loop-i.invariant.reads in
    let m = model_meta c.args.meta.now in
    let check = λ (honest : g.S.PageStore.honest c.args.store.now).
    from_mid g.S.PageStore _ _ reads honest (λ at end. (seen : List ℕ)
    → AreMarked c.loop-i.marks end seen → IsChecked m.bounds.version at end (shape_in m)
    (c.args.first + c.loop-i.i) c.u32_at-head.result c.in_ok-more.more c.check_chain.new.marks seen)
    (c.in_ok-more.ensures.sound (still_honest g.S.PageStore _ _ reads honest)) in
    record {
      length = c.in_ok-more.ensures.length ∙ c.loop-i.invariant.length;
      reads = reads_then g.S.PageStore _ _ _ (g.met.S.PageStore.counts_now c.loop-i.store) reads
          c.in_ok-more.ensures.reads.only;
      told = λ told was. c.bucket.ensures told
          (kept_then c.loop-i.invariant.told c.in_ok-more.ensures.told (λ is. cc) told was);
      sound = λ honest seen are. more_heads _ _ _ _ _ c.loop-i.i c.loop-i.pairs c.in_ok-more.more _
          c.u32_at-head.result c.loop-i.marks _ seen (c.loop-i.invariant.sound honest seen are)
          c.u32_at-head.ensures (check honest) c.saturating_add-pairs.ensures;
      exact = λ honest seen chains are is may. more_exact _ _ _ _ _ _ c.loop-i.i c.loop-i.pairs
          c.in_ok-more.more _ c.u32_at-head.result c.loop-i.marks _ seen chains
          (omega (arith, g.met.S.PageStore.in_range c.args.store.now)) is may c.loop-i-test.true
          (c.loop-i.invariant.exact honest seen chains are is may)
          c.u32_at-head.ensures (check honest) c.saturating_add-pairs.ensures;
    }

pub returns-clause-exact : goal.returns-clause-exact
returns-clause-exact g c honest seen chains are is may =
    all_exact _ _ _ _ _ _ c.loop-i.i _ _ seen chains is (omega arith)
    (c.loop-i.invariant.exact honest seen chains are is may)
