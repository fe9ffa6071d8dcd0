use Rattle.std.proofs.Common.{◌≡◌, Err, ap, subst, sym}
use Rattle.page_io.specs.Store.{Pages}
use Rattle.dbm_fault.specs.declared.fault.Fault.TheVariants.{Damaged}
use Rattle.dbm_file.specs.Verifying.{IsFileOf}
use Rattle.dbm_aside.proofs.looking.look_through.Goals as goal

pub returns-in-Ok-looked-clause-good : goal.returns-in-Ok-looked-clause-good
returns-in-Ok-looked-clause-good g c honest =
    let reads = c.in-Ok-looked.ensures.read.reads.stages_only in
    let was = reads.honesty.0 honest in
    subst (λ (pages : Pages). IsFileOf pages c.in-Ok-looked.pairs) (sym (reads.kept was).committed)
    (c.in-Ok-looked.ensures.good was)

pub returns-clause-damaged : goal.returns-clause-damaged
returns-clause-damaged g c honest is pairs file =
    let damaged : c.in-Err.fault ≡ Damaged = cc in
    c.in-Err.ensures.damaged honest (ap Err damaged) pairs file
