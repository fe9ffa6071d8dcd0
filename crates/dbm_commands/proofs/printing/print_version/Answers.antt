use Rattle.dbm_commands.proofs.Lines.{two_printed}
use Rattle.dbm_commands.proofs.printing.print_version.Goals as goal

pub returns : goal.returns
returns g c =
    two_printed c.flush.result _ _ _ _ _ _ (rw c.number_of.ensures at c.in_ok-print_number.ensures)
    (rw c.syncs_of.ensures at c.in_ok-print_number-2.ensures) c.flush.ensures.bytes
