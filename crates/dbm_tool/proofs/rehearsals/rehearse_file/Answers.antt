use Rattle.dbm_command_line.specs.declared.plan.Source.TheVariants.{File}
use Rattle.dbm_tool.proofs.rehearsals.rehearse_file.Goals as goal

pub returns-clause-ends : goal.returns-clause-ends
returns-clause-ends g c = c.rehearse.ensures.ends (File c.args.file) c.args.stops
