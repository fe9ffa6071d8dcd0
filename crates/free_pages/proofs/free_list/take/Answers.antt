use Rattle.std.proofs.Common.{◌≡◌, Err, ap, arith}
use Rattle.std.proofs.lemmas.Result.{err_from_is_err_and}
use Rattle.page_model.specs.Space.{after_take}
use Rattle.page_io.specs.Views.{body_at}
use Rattle.page_io.specs.declared.store.PageFault.TheVariants.{Damaged}
use Rattle.page_io.proofs.Views.{known_below, end_stays, end_grows}
use Rattle.free_pages.specs.FreeList.{state_of}
use Rattle.free_pages.proofs.FreeLists.{first_free, list_ends, list_is_well}
use Rattle.free_pages.proofs.free_list.take.Goals as goal

pub returns-in_err-rest-clause-whole : goal.returns-in_err-rest-clause-whole
returns-in_err-rest-clause-whole g c honest s list apart damaged =
    let p = err_from_is_err_and c.from_residual.result c.from_residual.ensures.1 in
    let fault : c.in_err-rest.field-0.0 ≡ Damaged = let is = rw (p.1, p.2) at damaged in cc in
    let first = first_free (body_at g.S.PageStore c.args.store.now) c.args.space.now s list apart
    (omega arith) in
    c.in_err-rest.ensures.whole honest (state_of (after_take s)) first (ap Err fault)

pub returns-then-space-ne0-clause-may_end : goal.returns-then-space-ne0-clause-may_end
returns-then-space-ne0-clause-may_end g c may bytes own =
    let before = g.S.PageStore.state c.args.store.now in
    let below = known_below before c.args.space.now.file_end c.args.space.now.head may
    c.in_ok-rest.ensures.known in
    rw (c.in_ok-rest.ensures.end)
    (end_stays before c.args.space.now.file_end bytes may (omega (arith, below, own)))

pub returns-then-space-clause-whole : goal.returns-then-space-clause-whole
returns-then-space-clause-whole g c honest s list apart damaged =
    let ends = list_ends (body_at g.S.PageStore c.args.store.now) c.args.space.now s list apart in
    list_is_well c.args.space.now ends c.if-space.true

pub returns-clause-may_end : goal.returns-clause-may_end
returns-clause-may_end g c may bytes own =
    end_grows (g.S.PageStore.state c.args.store.now) c.args.space.now.file_end bytes may own
