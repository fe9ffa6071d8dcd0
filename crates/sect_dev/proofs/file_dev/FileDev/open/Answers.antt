use Rattle.std.proofs.Common.{rules, refl}
use Rattle.sect_dev.proofs.file_dev.FileDev.open.Goals as goal

pub returns-in-Ok-Some : goal.returns-in-Ok-Some
returns-in-Ok-Some _ c = record { size = refl; faults = refl; begins = refl; missing = tt }

pub invariant_of-result : goal.invariant_of-result
invariant_of-result c = search rules
