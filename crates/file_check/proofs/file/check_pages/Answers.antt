use Rattle.std.proofs.Common.{◌≡◌, ◌≤◌, ◌<◌, ◌∷◌, ◌++◌, ℕ, length, flat_map, Err, sym, ap, subst, arith}
use Rattle.std.proofs.lemmas.Result.{err_from_is_err_and}
use Rattle.page_model.specs.Chain.{pages_in, pairs_in}
use Rattle.dbm_model.specs.Sizes.{home}
use Rattle.page_io.specs.declared.store.PageFault.TheVariants.{Damaged}
use Rattle.file_check.specs.Marks.{AreMarked, MayBeSeen, IsEachSeen}
use Rattle.seg_table.specs.MetaPages.{model_meta}
use Rattle.bucket_chain.proofs.ReadPages.{still_honest}
use Rattle.file_check.specs.FreeLists.{IsList, IsListMarked}
use Rattle.file_check.proofs.GoodFiles.{may_tables, may_buckets, may_free, whole_count, right_count}
use Rattle.file_check.proofs.StoreReads.{from_mid, to_mid}
use Rattle.file_check.proofs.file.check_pages.Goals as goal

pub returns-in_err-pairs-clause-whole : goal.returns-in_err-pairs-clause-whole
returns-in_err-pairs-clause-whole g c honest is damaged =
    let seen = 1 ∷ c.args.meta.now.segments.items in
    let tables = subst (λ (end : ℕ). AreMarked c.mark_tables.new.marks end seen) c.end-end.ensures
    (c.mark_tables.ensures.marked c.if-not-mark_tables.false) in
    let p = err_from_is_err_and c.from_residual.result c.from_residual.ensures.1 in
    let fault : c.in_err-pairs.field-0.0 ≡ Damaged =
    let e = rw (p.1, p.2) at damaged in cc in
    c.in_err-pairs.ensures.whole honest seen is.chains tables is.buckets
    (may_buckets _ _ (model_meta c.args.meta.now) is) (ap Err fault)

pub returns-then-end-most-clause-whole : goal.returns-then-end-most-clause-whole
returns-then-end-most-clause-whole g c honest is damaged =
    too_many c.end-end.result _ (home (model_meta c.args.meta.now).bounds) c.most_pages-most.result
    c.if-end-most.true c.most_pages-most.ensures c.end-end.ensures is.bounded
  where
    too_many : (end there most found : ℕ) → found < end → found ≡ most → end ≡ there
        → there ≤ most → ⊥
    too_many end there most found lt a b le = absurd (omega arith)

pub returns-then-not-mark_tables-clause-whole : goal.returns-then-not-mark_tables-clause-whole
returns-then-not-mark_tables-clause-whole g c honest is damaged =
    let m = model_meta c.args.meta.now in
    let seen = 1 ∷ c.args.meta.now.segments.items in
    let yes = c.mark_tables.ensures.may_be.1 (subst (λ (end : ℕ). MayBeSeen end seen)
    (sym c.end-end.ensures) (may_tables _ _ m is)) in
    absurd (cc (yes, c.if-not-mark_tables.true))

pub returns-then-pairs-meta-clause-whole : goal.returns-then-pairs-meta-clause-whole
returns-then-pairs-meta-clause-whole g c honest is damaged =
    let m = model_meta c.args.meta.now in
    let seen = 1 ∷ c.args.meta.now.segments.items in
    let tables = subst (λ (end : ℕ). AreMarked c.mark_tables.new.marks end seen) c.end-end.ensures
    (c.mark_tables.ensures.marked c.if-not-mark_tables.false) in
    let counted = c.in_ok-pairs.ensures.exact honest seen is.chains tables is.buckets
    (may_buckets _ _ m is) in
    c.if-pairs-meta.true (right_count m (length (flat_map pairs_in is.chains)) _
    c.requires.meta counted.counted is.counted)

pub returns-in_err-check_free-clause-whole : goal.returns-in_err-check_free-clause-whole
returns-in_err-check_free-clause-whole g c honest is damaged =
    let m = model_meta c.args.meta.now in
    let seen = 1 ∷ c.args.meta.now.segments.items in
    let reads = c.in_ok-pairs.ensures.reads.only in
    let tables = subst (λ (end : ℕ). AreMarked c.mark_tables.new.marks end seen) c.end-end.ensures
    (c.mark_tables.ensures.marked c.if-not-mark_tables.false) in
    let counted = c.in_ok-pairs.ensures.exact honest seen is.chains tables is.buckets
    (may_buckets _ _ m is) in
    let before = seen ++ flat_map pages_in is.chains in
    let p = err_from_is_err_and c.from_residual-in_err-check_free.result
    c.from_residual-in_err-check_free.ensures.1 in
    let fault : c.in_err-check_free.field-0.0 ≡ Damaged = let e = rw (p.1, p.2) at damaged in cc in
    c.in_err-check_free.ensures.whole (still_honest g.S.PageStore _ _ reads honest) before is.free
    (to_mid g.S.PageStore _ _ reads honest
    (λ at end. AreMarked c.check_buckets.new.marks end before) counted.marked)
    (to_mid g.S.PageStore _ _ reads honest (λ at end. IsList at m.free_head m.free_count is.free)
    is.list)
    (to_mid g.S.PageStore _ _ reads honest (λ at end. MayBeSeen end (before ++ is.free))
    (may_free _ _ m is)) (ap Err fault)

pub returns-then-are_all_marked-clause-sound : goal.returns-then-are_all_marked-clause-sound
returns-then-are_all_marked-clause-sound g c honest =
    let m = model_meta c.args.meta.now in
    let seen = 1 ∷ c.args.meta.now.segments.items in
    let reads = c.in_ok-pairs.ensures.reads.only in
    let tables = subst (λ (end : ℕ). AreMarked c.mark_tables.new.marks end seen) c.end-end.ensures
    (c.mark_tables.ensures.marked c.if-not-mark_tables.false) in
    let buckets = c.in_ok-pairs.ensures.sound honest seen tables in
    let before = seen ++ flat_map pages_in buckets.chains in
    let list = from_mid g.S.PageStore _ _ reads honest (λ at end. IsListMarked at end m.free_head
    m.free_count c.check_free.new.marks before)
    (c.in_ok-check_free.ensures.sound (still_honest g.S.PageStore _ _ reads honest) before
    (to_mid g.S.PageStore _ _ reads honest
    (λ at end. AreMarked c.check_buckets.new.marks end before) buckets.marked)) in
    let all = before ++ list.free in
    let each = (c.are_all_marked.ensures all (subst
    (λ (end : ℕ). AreMarked c.check_free.new.marks end all) (sym c.end-end.ensures)
    list.marked)).0 c.if-are_all_marked.true in
    record {
      chains = buckets.chains;
      free = list.free;
      buckets = buckets.are;
      list = list.is;
      each = subst (λ (end : ℕ). IsEachSeen end all) c.end-end.ensures each;
      counted = whole_count m (length (flat_map pairs_in buckets.chains)) _ c.requires.meta
          buckets.counted c.if-pairs-meta.false;
      bounded = few c.end-end.result _ (home m.bounds) c.most_pages-most.result c.if-end-most.false
          c.most_pages-most.ensures c.end-end.ensures;
    }
  where
    few : (end there most found : ℕ) → end ≤ found → found ≡ most → end ≡ there → there ≤ most
    few end there most found le a b = omega arith

pub returns-else-are_all_marked-clause-whole : goal.returns-else-are_all_marked-clause-whole
returns-else-are_all_marked-clause-whole g c honest is damaged =
    let m = model_meta c.args.meta.now in
    let seen = 1 ∷ c.args.meta.now.segments.items in
    let reads = c.in_ok-pairs.ensures.reads.only in
    let tables = subst (λ (end : ℕ). AreMarked c.mark_tables.new.marks end seen) c.end-end.ensures
    (c.mark_tables.ensures.marked c.if-not-mark_tables.false) in
    let counted = c.in_ok-pairs.ensures.exact honest seen is.chains tables is.buckets
    (may_buckets _ _ m is) in
    let before = seen ++ flat_map pages_in is.chains in
    let all = before ++ is.free in
    let marked = from_mid g.S.PageStore _ _ reads honest
    (λ at end. AreMarked c.check_free.new.marks end all)
    (c.in_ok-check_free.ensures.exact (still_honest g.S.PageStore _ _ reads honest) before is.free
    (to_mid g.S.PageStore _ _ reads honest
    (λ at end. AreMarked c.check_buckets.new.marks end before) counted.marked)
    (to_mid g.S.PageStore _ _ reads honest (λ at end. IsList at m.free_head m.free_count is.free)
    is.list)
    (to_mid g.S.PageStore _ _ reads honest (λ at end. MayBeSeen end all) (may_free _ _ m is))) in
    let yes = (c.are_all_marked.ensures all
    (subst (λ (end : ℕ). AreMarked c.check_free.new.marks end all) (sym c.end-end.ensures)
    marked)).1 (subst (λ (end : ℕ). IsEachSeen end all) (sym c.end-end.ensures) is.each) in
    absurd (cc (yes, c.if-are_all_marked.false))
