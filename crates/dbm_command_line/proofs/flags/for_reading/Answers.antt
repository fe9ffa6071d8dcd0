use Rattle.std.proofs.Common.{codes, false, true}
use Rattle.clap.specs.Words.{found_of, rows_of}
use Rattle.dbm_command_line.specs.Asking.{IsForReading}
use Rattle.dbm_command_line.proofs.Naming.{flag_read, if_none}
use Rattle.dbm_command_line.proofs.flags.for_reading.Goals as goal

pub returns-then-branch : goal.returns-then-branch
returns-then-branch c = flag_read (found_of c.args.options.now) (codes "read")
    c.in_ok-get_one.field-0 true c.if-branch.true c.in_ok-get_one.ensures.none
    c.in_ok-get_one.ensures.value

pub returns-else-branch : goal.returns-else-branch
returns-else-branch c = flag_read (found_of c.args.options.now) (codes "read")
    c.in_ok-get_one.field-0 false c.if-branch.false c.in_ok-get_one.ensures.none
    c.in_ok-get_one.ensures.value

pub returns-in_err-get_one : goal.returns-in_err-get_one
returns-in_err-get_one c = if_none c.from_residual.result
    (IsForReading (rows_of (found_of c.args.options.now))) c.from_residual.ensures
