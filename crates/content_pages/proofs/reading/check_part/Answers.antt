use Rattle.std.proofs.Common.{sym, ◌∙◌, ap, arith}
use Rattle.page_model.specs.PageBodies.{filled}
use Rattle.page_model.specs.Pages.{ContentPage}
use Rattle.page_io.specs.declared.store.PageFault.TheVariants.{Damaged}
use Rattle.page_io.proofs.Exits.{exit_is, came, not_both}
use Rattle.content_pages.proofs.ContentTexts.{one_text, part_filled, filled_clear}
use Rattle.content_pages.proofs.reading.check_part.Goals as goal

pub returns-in_err-next-clause-whole : goal.returns-in_err-next-clause-whole
returns-in_err-next-clause-whole g c honest next part some size says damaged =
    let exit = exit_is c.from_residual.result c.in_err-next.field-0.0 c.from_residual.ensures.1 in
    c.in_err-next.ensures.whole honest next some (record { bytes = filled part; says = says })
    (came _ _ exit Damaged damaged)

pub returns-else-is_clear-clause-whole : goal.returns-else-is_clear-clause-whole
returns-else-is_clear-clause-whole g c honest next part some size says damaged =
    let same = one_text _ _ _ _ (sym (c.in_ok-next.ensures.says honest) ∙ says) in
    not_both c.is_clear.result (c.is_clear.ensures.1
    (filled_clear c.read_page.new.page.bytes part c.args.long size c.requires same))
    c.if-is_clear.false

pub returns-then-is_clear-clause-says : goal.returns-then-is_clear-clause-says
returns-then-is_clear-clause-says g c honest =
    let bytes = c.read_page.new.page.bytes in
    c.in_ok-next.ensures.says honest
    ∙ ap (ContentPage c.in_ok-next.next) (part_filled bytes c.args.long (omega arith)
    c.requires (c.is_clear.ensures.0 c.if-is_clear.true))
