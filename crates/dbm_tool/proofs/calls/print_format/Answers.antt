use Rattle.std.proofs.Common.{refl}
use Rattle.file_opening.specs.declared.open_how.Access.TheVariants.{ReadOnly}
use Rattle.dbm_tool.specs.Files.{there}
use Rattle.dbm_tool.proofs.Carrying.{was_closed}
use Rattle.dbm_tool.proofs.calls.print_format.Goals as goal

pub returns-clause-carried : goal.returns-clause-carried
returns-clause-carried g c =
    was_closed _ (there ReadOnly) _ _ c.in_ok-opened.opened c.in_ok-opened.opened c.print_format-done.result
    c.in_ok-opened.ensures.opens c.in_ok-opened.ensures.fresh (refl, c.print_format-done.ensures.printed, c.print_format-done.ensures.only) c.close.ensures.closed
