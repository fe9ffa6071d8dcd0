use Rattle.std.proofs.Common.{◌≡◌, Err, sym, ap, ◌∙◌, subst, arith, rules}
use Rattle.std.proofs.lemmas.Result.{err_from_is_err_and}
use Rattle.page_model.specs.PageBodies.{meta_of}
use Rattle.page_io.specs.Views.{body_at}
use Rattle.page_io.specs.declared.store.PageFault.TheVariants.{Damaged}
use Rattle.seg_table.specs.MetaPages.{model_meta}
use Rattle.bucket_chain.proofs.ReadPages.{still_honest}
use Rattle.file_check.specs.Good.{IsFilled}
use Rattle.file_check.proofs.GoodFiles.{good_file, meta_valid, meta_said, filled, one_meta}
use Rattle.file_check.proofs.StoreReads.{from_mid, to_mid}
use Rattle.file_check.proofs.file.verify.Goals as goal

pub returns-in_err-meta-clause-damaged : goal.returns-in_err-meta-clause-damaged
returns-in_err-meta-clause-damaged g c honest damaged pairs file =
    let p = err_from_is_err_and c.from_residual.result c.from_residual.ensures.1 in
    let fault : c.in_err-meta.field-0.0 ≡ Damaged = let e = rw (p.1, p.2) at damaged in cc in
    c.in_err-meta.ensures.whole honest (meta_of file.placement) (meta_valid _ _ pairs file)
    (meta_said _ _ pairs file) (ap Err fault)

pub returns-in_err-check_pages-clause-damaged : goal.returns-in_err-check_pages-clause-damaged
returns-in_err-check_pages-clause-damaged g c honest damaged pairs file =
    let old = c.args.store.now in
    let reads = c.in_ok-meta.ensures.reads.only in
    let m = model_meta c.in_ok-meta.meta in
    let p = err_from_is_err_and c.from_residual-in_err-check_pages.result
    c.from_residual-in_err-check_pages.ensures.1 in
    let fault : c.in_err-check_pages.field-0.0 ≡ Damaged = let e = rw (p.1, p.2) at damaged in cc in
    let same : meta_of file.placement ≡ m = one_meta (meta_of file.placement) m
    (sym (meta_said _ _ pairs file) ∙ c.in_ok-meta.ensures.says honest) in
    c.in_err-check_pages.ensures.whole (still_honest g.S.PageStore _ _ reads honest)
    (to_mid g.S.PageStore _ _ reads honest (λ at end. IsFilled at end m)
    (subst (IsFilled (body_at g.S.PageStore old) (g.S.PageStore.state old).end) same
    (filled _ _ pairs file))) (ap Err fault)

pub returns-clause-good : goal.returns-clause-good
returns-clause-good g c honest =
    let old = c.args.store.now in
    let reads = c.in_ok-meta.ensures.reads.only in
    let m = model_meta c.in_ok-meta.meta in
    good_file _ _ m (omega (arith, (g.met.S.PageStore.in_range old).0)) c.in_ok-meta.ensures.valid
    (c.in_ok-meta.ensures.says honest)
    (from_mid g.S.PageStore _ _ reads honest (λ at end. IsFilled at end m)
    (c.in_ok-check_pages.ensures.sound (still_honest g.S.PageStore _ _ reads honest)))

pub check_pages-requires-clause-none : goal.check_pages-requires-clause-none
check_pages-requires-clause-none g c = search rules
