use Rattle.file_opening.specs.declared.open_how.Access.TheVariants.{ReadOnly}
use Rattle.dbm_lines.specs.Forms.{listing_in}
use Rattle.dbm_tool.specs.Commands.{form_of}
use Rattle.dbm_tool.specs.Files.{there}
use Rattle.dbm_tool.proofs.Carrying.{printed, was_closed}
use Rattle.dbm_tool.proofs.texts.list.Goals as goal

pub returns-clause-carried : goal.returns-clause-carried
returns-clause-carried g c =
    was_closed _ (there ReadOnly) _ _ c.in_ok-db.db c.print_keys-done.new.db c.flush_after.result
    c.in_ok-db.ensures.opens c.in_ok-db.ensures.fresh
    (printed _ _ _ _ _ c.print_keys-done.result _ c.flush_after.ensures.failed c.flush_after.ensures.done c.flush_after.ensures.bytes
    (listing_in (form_of c.args.spelling)) c.print_keys-done.ensures.printed c.print_keys-done.ensures.whole c.print_keys-done.ensures.reads)
    c.close.ensures.closed
