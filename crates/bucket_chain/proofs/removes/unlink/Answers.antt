use Rattle.std.proofs.Common.{◌≡◌, ◌⊎◌, inl, inr, ◌≤◌, length, refl, sym, ◌∙◌, arith}
use Rattle.page_model.specs.Reading.{body_of}
use Rattle.page_io.specs.Page.{own_number}
use Rattle.page_io.specs.declared.store.PageFault.TheVariants.{Damaged}
use Rattle.page_io.proofs.Views.{known_below}
use Rattle.page_io.proofs.Exits.{exit_is, came}
use Rattle.page_io.proofs.OwnNumbers.{own_same}
use Rattle.page_io.specs.BucketPages.{page_records}
use Rattle.bucket_chain.proofs.Headers.{header_of}
use Rattle.page_io.specs.Versions.{model_version}
use Rattle.bucket_chain.proofs.KnownPages.{page_without}
use Rattle.bucket_chain.proofs.StagedPages.{rewritten_next}
use Rattle.bucket_chain.proofs.TakenOut.{taken_from, taken_with, prior_says}
use Rattle.bucket_chain.proofs.removes.unlink.Given.{Over}
use Rattle.bucket_chain.proofs.removes.unlink.Goals as goal
use Rattle.bucket_chain.proofs.removes.unlink.Goals.{else-hit-ne0-via-then-hit-ne0+else-slots-eq1, else-hit-ne0-via-else-hit-ne0}

pub returns-in_err-relink-clause-whole : goal.returns-in_err-relink-clause-whole
returns-in_err-relink-clause-whole g c honest most head key chain is hit damaged =
    let result = c.from_residual in
    let exit = exit_is result.result c.in_err-relink.field-0.0 result.ensures.1 in
    let page = prior_says _ _ head key _ _ hit most chain is c.if-hit-ne0.true in
    c.in_err-relink.ensures.whole honest _ _ (omega (arith, c.if-hit-ne0.true)) page.link
    (came _ _ exit Damaged damaged)

pub returns-then-slots-eq1-clause-unlinked : goal.returns-then-slots-eq1-clause-unlinked
returns-then-slots-eq1-clause-unlinked g c honest head key is =
    let count = (header_of _ _ _ _ _ _ is.link).count in
    taken_with _ _ head key _ _ is _ c.if-hit-ne0.true
    (sym count ∙ sym c.slots.ensures ∙ c.if-slots-eq1.true)
    (c.in_ok-relink.ensures.relinked honest) (c.in_ok-relink.ensures.others honest)

pub stage_page-requires-clause-own : goal.stage_page-requires-clause-own
stage_page-requires-clause-own g c =
    let held = c.requires.1 in
    omega (
      arith,
      own_same c.remove.new.page.bytes,
      c.remove.ensures.header.own,
      held.own,
      held.some,
    )

pub stage_page-requires-clause-known : goal.stage_page-requires-clause-known
stage_page-requires-clause-known g c =
    page_without (model_version c.args.version) c.args.page.now.bytes _ c.args.hit.slot
    c.requires.1.page c.remove.ensures.holds

-- the page that is staged is the hit's
number : (g : Over) (c : goal.In_ok-stage_page g)
    → own_number c.remove.new.page.bytes ≡ c.args.hit.page
number g c = own_same c.remove.new.page.bytes ∙ c.remove.ensures.header.own ∙ c.requires.1.own

pub returns-clause-may_end : goal.returns-clause-may_end
returns-clause-may_end g c end may =
    c.in_ok-stage_page.ensures.may_end end
    (omega (arith, number g c, known_below _ _ _ may c.requires.1.known)) may

pub returns-clause-unlinked : goal.returns-clause-unlinked
returns-clause-unlinked g c honest head key is =
    let staged = c.in_ok-stage_page.ensures in
    let said = rewritten_next g.S.PageStore c.args.store.now c.stage_page.new.store c.args.hit.page
    c.remove.new.page.bytes (body_of c.args.hit.page c.remove.new.page.bytes) (number g c) refl
    (staged.says honest) (staged.others honest) in
    let within = c.requires.1.has.0 in
    let count = (header_of _ _ _ _ _ _ is.link).count in
    let why : (c.args.hit.prior ≡ 0) ⊎ (2 ≤ length (page_records c.args.page.now.bytes)) =
    elim c.else-hit-ne0.branch [
      | else-hit-ne0-via-then-hit-ne0+else-slots-eq1 w ↦
          inr (omega (arith, within, count, w.slots.ensures, w.if-slots-eq1.false))
      | else-hit-ne0-via-else-hit-ne0 w ↦ inl w.if-hit-ne0.false
    ] in
    taken_from _ _ head key _ _ is _ c.remove.new.page.bytes why said.says
    c.remove.ensures.holds said.others
