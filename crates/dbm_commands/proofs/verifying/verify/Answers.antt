use Rattle.std.proofs.Common.{◌≡◌, Err, ap}
use Rattle.dbm_fault.specs.declared.fault.Fault.TheVariants.{Damaged}
use Rattle.dbm_commands.proofs.verifying.verify.Goals as goal

pub returns-in-Err-clause-damaged : goal.returns-in-Err-clause-damaged
returns-in-Err-clause-damaged g c honest is pairs file =
    let told = c.from.ensures in
    let damaged : c.in-Err.fault ≡ Damaged = cc in
    c.in-Err.ensures.damaged honest (ap Err damaged) pairs file
