use Rattle.std.proofs.Common.{rules, ◌≡◌, ◌*◌, ◌<◌, ◌++◌, ℕ, List, flat_map, get_or, Err, refl, sym, ap, ◌∙◌, subst, arith}
use Rattle.std.proofs.lemmas.Result.{err_from_is_err_and}
use Rattle.std.specs.Prelude.{IfOk}
use Rattle.page_model.specs.Chain.{pages_in}
use Rattle.page_model.specs.Reading.{body_of}
use Rattle.page_io.specs.Views.{body_at}
use Rattle.page_io.specs.declared.store.PageFault.TheVariants.{Damaged}
use Rattle.page_io.proofs.Views.{after_read, reads_then, unknown_said}
use Rattle.file_check.specs.Marks.{AreMarked, MayBeSeen}
use Rattle.seg_table.specs.MetaPages.{model_meta}
use Rattle.seg_table.specs.Segments.{heads_in}
use Rattle.bucket_chain.proofs.ReadPages.{still_honest}
use Rattle.file_check.specs.Segments.{AreCounted, AreHeadChains, AreHeadsChecked}
use Rattle.file_check.proofs.StoreReads.{from_mid, to_mid}
use Rattle.file_check.proofs.SegmentReads.{if_ok, segment_checked, is_segment, head_chains}
use Rattle.file_check.proofs.segments.check_segment.Goals as goal

pub returns-in_err-read-clause-whole : goal.returns-in_err-read-clause-whole
returns-in_err-read-clause-whole g c honest seen chains are is may damaged =
    let old = c.args.store.now in
    let own : get_or c.deref.result.now c.args.s 0
    ≡ get_or c.args.meta.now.segments.items c.args.s 0 =
    ap (λ (ns : List ℕ). get_or ns c.args.s 0) c.deref.ensures.0 in
    let p = err_from_is_err_and c.from_residual.result c.from_residual.ensures.1 in
    let fault : c.in_err-read.field-0.0 ≡ Damaged = let e = rw (p.1, p.2) at damaged in cc in
    let unknown = c.in_err-read.ensures.answer.damaged.0 (ap Err fault) in
    let used = c.requires.meta.used c.args.s 0 c.requires.within in
    let some : 0 < get_or c.deref.result.now c.args.s 0 = subst (λ (n : ℕ). 0 < n)
    (sym own) used.0 in
    let other = unknown_said g.S.PageStore old (get_or c.deref.result.now c.args.s 0)
    (g.met.S.PageStore.ends old) (omega (arith, some)) unknown.1 in
    let says = ap (body_at g.S.PageStore old) own ∙ is.said in
    absurd (cc (other, says))

pub returns-then-not-segment_ok-clause-whole : goal.returns-then-not-segment_ok-clause-whole
returns-then-not-segment_ok-clause-whole g c honest seen chains are is may damaged =
    let old = c.args.store.now in
    let m = model_meta c.args.meta.now in
    let bytes = c.read.new.page.bytes in
    let n = get_or c.args.meta.now.segments.items c.args.s 0 in
    let own : get_or c.deref.result.now c.args.s 0 ≡ n =
    ap (λ (ns : List ℕ). get_or ns c.args.s 0) c.deref.ensures.0 in
    let read : body_at g.S.PageStore old n ≡ body_of n bytes =
    subst (λ (k : ℕ). body_at g.S.PageStore old k ≡ body_of k bytes) own
    (sym (ap (body_of (get_or c.deref.result.now c.args.s 0))
    (c.in_ok-read.ensures.found honest))) in
    let yes = c.segment_ok.ensures.1 (is_segment (body_at g.S.PageStore old) m c.args.s bytes chains
    is c.read.new.page.whole read) in
    absurd (cc (yes))

pub returns-clause-reads : goal.returns-clause-reads
returns-clause-reads g c = record {
  only = reads_then g.S.PageStore _ _ _ (g.met.S.PageStore.counts_now c.read.new.store)
      (after_read g.S.PageStore c.args.store.now c.read.new.store
      (g.met.S.PageStore.counts_now c.read.new.store) c.read.ensures.state c.read.ensures.honesty
      c.read.ensures.cause.later c.read.ensures.kept) c.check_heads.ensures.reads.only;
  cause = search rules;
}

pub returns-clause-sound : goal.returns-clause-sound
returns-clause-sound g c honest seen are =
    let old = c.args.store.now in
    let m = model_meta c.args.meta.now in
    let bytes = c.read.new.page.bytes in
    let n = get_or c.args.meta.now.segments.items c.args.s 0 in
    let marks = c.check_heads.new.marks in
    let first-read = after_read g.S.PageStore old c.read.new.store
    (g.met.S.PageStore.counts_now c.read.new.store) c.read.ensures.state c.read.ensures.honesty
    c.read.ensures.cause.later c.read.ensures.kept in
    let own : get_or c.deref.result.now c.args.s 0 ≡ n =
    ap (λ (ns : List ℕ). get_or ns c.args.s 0) c.deref.ensures.0 in
    let read : body_at g.S.PageStore old n ≡ body_of n bytes =
    subst (λ (k : ℕ). body_at g.S.PageStore old k ≡ body_of k bytes) own
    (sym (ap (body_of (get_or c.deref.result.now c.args.s 0))
    (c.in_ok-read.ensures.found honest))) in
    let used = c.requires.meta.used c.args.s 0 c.requires.within in
    let many : c.min-count.result ≡ heads_in m c.args.s =
    omega (arith, c.min-count.ensures, c.buckets.ensures) in
    let segment = c.segment_ok.ensures.0 c.if-not-segment_ok.false in
    let checked = c.check_heads.ensures.sound
    (still_honest g.S.PageStore old c.read.new.store first-read honest) seen
    (to_mid g.S.PageStore old c.read.new.store first-read honest
    (λ at end. AreMarked c.args.marks.now end seen) are) in
    if_ok (λ pairs. AreHeadsChecked (body_at g.S.PageStore c.read.new.store)
    (g.S.PageStore.state c.read.new.store).end m bytes
    (508 * c.args.s) c.min-count.result pairs marks seen) _ c.check_heads.result checked
    (λ pairs is. segment_checked (body_at g.S.PageStore old)
    (g.S.PageStore.state old).end m c.args.s
    (508 * c.args.s) c.min-count.result pairs bytes marks seen
    (from_mid g.S.PageStore old c.read.new.store first-read honest (λ at end. AreHeadsChecked at end
    m bytes (508 * c.args.s) c.min-count.result pairs marks seen) is)
    read segment used.1 many refl)

pub returns-clause-exact : goal.returns-clause-exact
returns-clause-exact g c honest seen chains are is may =
    let old = c.args.store.now in
    let mid = c.read.new.store in
    let m = model_meta c.args.meta.now in
    let bytes = c.read.new.page.bytes in
    let n = get_or c.args.meta.now.segments.items c.args.s 0 in
    let first-read = after_read g.S.PageStore old mid (g.met.S.PageStore.counts_now mid)
    c.read.ensures.state c.read.ensures.honesty c.read.ensures.cause.later c.read.ensures.kept in
    let own : get_or c.deref.result.now c.args.s 0 ≡ n =
    ap (λ (ns : List ℕ). get_or ns c.args.s 0) c.deref.ensures.0 in
    let read : body_at g.S.PageStore old n ≡ body_of n bytes =
    subst (λ (k : ℕ). body_at g.S.PageStore old k ≡ body_of k bytes) own
    (sym (ap (body_of (get_or c.deref.result.now c.args.s 0))
    (c.in_ok-read.ensures.found honest))) in
    let many : c.min-count.result ≡ heads_in m c.args.s =
    omega (arith, c.min-count.ensures, c.buckets.ensures) in
    from_mid g.S.PageStore old mid first-read honest (λ at end. IfOk c.check_heads.result
    (λ pairs. AreCounted chains end pairs c.check_heads.new.marks seen))
    (c.check_heads.ensures.exact (still_honest g.S.PageStore old mid first-read honest) seen chains
    (to_mid g.S.PageStore old mid first-read honest
    (λ at end. AreMarked c.args.marks.now end seen) are)
    (to_mid g.S.PageStore old mid first-read honest (λ at end. AreHeadChains at
    m bytes (508 * c.args.s) c.min-count.result chains)
    (head_chains (body_at g.S.PageStore old) m c.args.s (508 * c.args.s) c.min-count.result bytes
    chains is c.read.new.page.whole read many refl))
    (to_mid g.S.PageStore old mid first-read honest
    (λ at end. MayBeSeen end (seen ++ flat_map pages_in chains)) may))

pub returns-clause-whole : goal.returns-clause-whole
returns-clause-whole g c honest seen chains are is may damaged =
    let old = c.args.store.now in
    let mid = c.read.new.store in
    let m = model_meta c.args.meta.now in
    let bytes = c.read.new.page.bytes in
    let n = get_or c.args.meta.now.segments.items c.args.s 0 in
    let first-read = after_read g.S.PageStore old mid (g.met.S.PageStore.counts_now mid)
    c.read.ensures.state c.read.ensures.honesty c.read.ensures.cause.later c.read.ensures.kept in
    let own : get_or c.deref.result.now c.args.s 0 ≡ n =
    ap (λ (ns : List ℕ). get_or ns c.args.s 0) c.deref.ensures.0 in
    let read : body_at g.S.PageStore old n ≡ body_of n bytes =
    subst (λ (k : ℕ). body_at g.S.PageStore old k ≡ body_of k bytes) own
    (sym (ap (body_of (get_or c.deref.result.now c.args.s 0))
    (c.in_ok-read.ensures.found honest))) in
    let many : c.min-count.result ≡ heads_in m c.args.s =
    omega (arith, c.min-count.ensures, c.buckets.ensures) in
    c.check_heads.ensures.whole (still_honest g.S.PageStore old mid first-read honest) seen chains
    (to_mid g.S.PageStore old mid first-read honest
    (λ at end. AreMarked c.args.marks.now end seen) are)
    (to_mid g.S.PageStore old mid first-read honest (λ at end. AreHeadChains at
    m bytes (508 * c.args.s) c.min-count.result chains)
    (head_chains (body_at g.S.PageStore old) m c.args.s (508 * c.args.s) c.min-count.result bytes
    chains is c.read.new.page.whole read many refl))
    (to_mid g.S.PageStore old mid first-read honest
    (λ at end. MayBeSeen end (seen ++ flat_map pages_in chains)) may) damaged

pub returns-then-not-segment_ok-clause-reads : goal.returns-then-not-segment_ok-clause-reads
returns-then-not-segment_ok-clause-reads g c = record {
  only = after_read g.S.PageStore c.args.store.now c.read.new.store
      (g.met.S.PageStore.counts_now c.read.new.store) c.read.ensures.state c.read.ensures.honesty
      c.read.ensures.cause.later c.read.ensures.kept;
  cause = search rules;
}
