use Rattle.dbm_commands.proofs.Lines.{seven_printed}
use Rattle.dbm_commands.proofs.printing.print_stat.Goals as goal

pub returns : goal.returns
returns g c =
    seven_printed c.flush.result _ _ _ _ _ _ _ _ _ _ _ _ _ _ _ _ c.in_ok-print_number.ensures
    c.in_ok-print_number-2.ensures c.in_ok-print_number-3.ensures c.in_ok-print_number-4.ensures
    c.in_ok-print_number-5.ensures c.in_ok-print_number-6.ensures
    c.in_ok-print_number-7.ensures c.flush.ensures.bytes
