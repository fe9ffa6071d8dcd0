use Rattle.std.proofs.Common.{◌≡◌, refl, sym, ap, ◌∙◌, arith, Some, Err}
use Rattle.std.proofs.lemmas.Result.{err_from_is_err_and}
use Rattle.page_model.specs.Reading.{body_of}
use Rattle.page_io.specs.declared.store.PageFault.TheVariants.{Damaged}
use Rattle.page_io.proofs.Views.{unknown_said}
use Rattle.free_pages.proofs.FreeLists.{rest_ends, rest_is_well, one_next, none_read}
use Rattle.free_pages.proofs.free_list.take_first.Goals as goal

pub returns-in_err-read-clause-whole : goal.returns-in_err-read-clause-whole
returns-in_err-read-clause-whole g c honest rest first damaged =
    let old = c.args.store.now in
    let p = err_from_is_err_and c.from_residual.result c.from_residual.ensures.1 in
    let fault : c.in_err-read.field-0.0 ≡ Damaged = let is = rw (p.1, p.2) at damaged in cc in
    let unknown = c.in_err-read.ensures.answer.damaged.0 (ap Err fault) in
    let other = unknown_said g.S.PageStore old c.args.space.now.head (g.met.S.PageStore.ends old)
    (omega arith) unknown.1 in
    absurd (cc (other, first.free))

pub returns-in_err-next-clause-whole : goal.returns-in_err-next-clause-whole
returns-in_err-next-clause-whole g c honest rest first damaged =
    let found : c.read_free.result ≡ Some rest.head = (c.read_free.ensures.says rest.head).1
    (ap (body_of c.args.space.now.head) (c.in_ok-read.ensures.found honest) ∙ first.free) in
    none_read rest.head (sym found ∙ c.in_err-next.ensures.ok_part)

pub returns-then-next-space-clause-whole : goal.returns-then-next-space-clause-whole
returns-then-next-space-clause-whole g c honest rest first damaged =
    let found : c.read_free.result ≡ Some rest.head = (c.read_free.ensures.says rest.head).1
    (ap (body_of c.args.space.now.head) (c.in_ok-read.ensures.found honest) ∙ first.free) in
    absurd (rest_is_well c.in_ok-next.next c.args.space.now.count rest
    (one_next c.in_ok-next.next rest.head (sym c.in_ok-next.ensures.ok_part ∙ found)) first.ends first.one_less c.if-next-space.true)

pub returns-clause-taken : goal.returns-clause-taken
returns-clause-taken g c honest = record {
  some = c.requires.0;
  first = refl;
  free = ap (body_of c.args.space.now.head) (sym (c.in_ok-read.ensures.found honest))
      ∙ (c.read_free.ensures.says c.in_ok-next.next).0 c.in_ok-next.ensures.ok_part;
  one_less = omega arith;
  ends = rest_ends c.in_ok-next.next c.args.space.now.count c.requires.1 c.if-next-space.false;
  end = refl;
}
