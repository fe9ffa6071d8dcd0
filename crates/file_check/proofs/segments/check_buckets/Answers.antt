use Rattle.std.proofs.Common.{◌≡◌, ◌<◌, ◌*◌, ◌++◌, ℕ, List, length, flat_map, take, Err, refl, ap, ◌∙◌, arith}
use Rattle.std.proofs.lemmas.Result.{err_from_is_err_and}
use Rattle.page_model.specs.Chain.{pages_in}
use Rattle.page_io.specs.Store.{StoreState}
use Rattle.page_io.specs.declared.store.PageFault.TheVariants.{Damaged}
use Rattle.page_io.proofs.Views.{reads_then}
use Rattle.file_check.specs.Marks.{AreMarked, MayBeSeen}
use Rattle.seg_table.specs.MetaPages.{model_meta}
use Rattle.bucket_chain.proofs.ReadPages.{reads_none, still_honest}
use Rattle.file_check.specs.Segments.{AreCounted, AreInSegment, IsSegmentChecked}
use Rattle.file_check.proofs.BucketReads.{no_segments, more_segments, all_segments, part, in_segment, may_segment, segment_counted, buckets_counted}
use Rattle.file_check.proofs.ChainReads.{none_counted}
use Rattle.file_check.proofs.StoreReads.{from_mid, to_mid}
use Rattle.file_check.proofs.ToldFlaws.{kept_then}
use Rattle.file_check.proofs.segments.check_buckets.Goals as goal

pub check_segment-requires-clause-marks : goal.check_segment-requires-clause-marks
check_segment-requires-clause-marks g c =
    omega (arith, ap (λ (st : StoreState). st.end) c.loop-s.invariant.reads.same)

pub loop-s-init : goal.loop-s-init
loop-s-init g c = record {
  length = refl;
  reads = reads_none g.S.PageStore c.args.store.now
      (λ y h left. g.met.S.PageStore.only_now c.args.store.now y h left);
  told = λ told was. was;
  sound = λ honest seen are. no_segments _ _ _ _ seen are;
  exact = λ honest seen chains are is may. none_counted _ _ seen are;
}

pub returns-in_err-more-clause-whole : goal.returns-in_err-more-clause-whole
returns-in_err-more-clause-whole g c honest seen chains are is may damaged =
    let reads = c.loop-s.invariant.reads in
    let m = model_meta c.args.meta.now in
    let before = seen ++ flat_map pages_in (take (508 * c.loop-s.s) chains) in
    let here = part c.loop-s.s chains in
    let p = err_from_is_err_and c.from_residual.result c.from_residual.ensures.1 in
    let fault : c.in_err-more.field-0.0 ≡ Damaged = let e = rw (p.1, p.2) at damaged in cc in
    let counted = c.loop-s.invariant.exact honest seen chains are is may in
    let within : c.loop-s.s < length c.args.meta.now.segments.items = omega arith in
    c.in_err-more.ensures.whole (still_honest g.S.PageStore _ _ reads honest) before here
    (to_mid g.S.PageStore _ _ reads honest (λ at end. AreMarked c.loop-s.marks end before)
    counted.marked)
    (to_mid g.S.PageStore _ _ reads honest (λ at end. AreInSegment at m c.loop-s.s here)
    (in_segment _ m c.loop-s.s chains is within))
    (to_mid g.S.PageStore _ _ reads honest
    (λ at end. MayBeSeen end (before ++ flat_map pages_in here))
    (may_segment _ seen chains c.loop-s.s may))
    (ap Err fault)

pub loop-s-preserved : goal.loop-s-preserved
loop-s-preserved g c =
    let reads = c.loop-s.invariant.reads in
    let m = model_meta c.args.meta.now in
    let within : c.loop-s.s < length c.args.meta.now.segments.items = omega arith in
    let check = λ (honest : g.S.PageStore.honest c.args.store.now).
    from_mid g.S.PageStore _ _ reads honest (λ at end. (seen : List ℕ)
    → AreMarked c.loop-s.marks end seen
    → IsSegmentChecked at end m c.loop-s.s c.in_ok-more.more c.check_segment.new.marks seen)
    (c.in_ok-more.ensures.sound (still_honest g.S.PageStore _ _ reads honest)) in
    record {
      length = c.in_ok-more.ensures.length ∙ c.loop-s.invariant.length;
      reads = reads_then g.S.PageStore _ _ _ (g.met.S.PageStore.counts_now c.loop-s.store) reads
          c.in_ok-more.ensures.reads.only;
      told = kept_then c.loop-s.invariant.told c.in_ok-more.ensures.told (λ is. cc);
      sound = λ honest seen are. more_segments _ _ m c.loop-s.s c.loop-s.pairs c.in_ok-more.more _
          c.loop-s.marks _ seen c.requires.meta within (c.loop-s.invariant.sound honest seen are)
          (check honest) c.saturating_add-pairs.ensures;
      exact = λ honest seen chains are is may.
          let before = seen ++ flat_map pages_in (take (508 * c.loop-s.s) chains) in
          let here = part c.loop-s.s chains in
          let counted = c.loop-s.invariant.exact honest seen chains are is may in
          segment_counted _ chains c.loop-s.s c.loop-s.pairs c.in_ok-more.more _ c.loop-s.marks _
          seen counted
          (from_mid g.S.PageStore _ _ reads honest
          (λ at end. AreCounted here end c.in_ok-more.more c.check_segment.new.marks before)
          (c.in_ok-more.ensures.exact (still_honest g.S.PageStore _ _ reads honest) before here
          (to_mid g.S.PageStore _ _ reads honest (λ at end. AreMarked c.loop-s.marks end before)
          counted.marked)
          (to_mid g.S.PageStore _ _ reads honest (λ at end. AreInSegment at m c.loop-s.s here)
          (in_segment _ m c.loop-s.s chains is within))
          (to_mid g.S.PageStore _ _ reads honest
          (λ at end. MayBeSeen end (before ++ flat_map pages_in here))
          (may_segment _ seen chains c.loop-s.s may)))) c.saturating_add-pairs.ensures;
    }

pub returns-clause-sound : goal.returns-clause-sound
returns-clause-sound g c honest seen are =
    all_segments _ _ (model_meta c.args.meta.now) c.loop-s.s _ _ seen c.requires.meta (omega arith)
    (c.loop-s.invariant.sound honest seen are)

pub returns-clause-exact : goal.returns-clause-exact
returns-clause-exact g c honest seen chains are is may =
    buckets_counted _ _ (model_meta c.args.meta.now) chains c.loop-s.s _ _ seen c.requires.meta
    (omega arith) is (c.loop-s.invariant.exact honest seen chains are is may)
