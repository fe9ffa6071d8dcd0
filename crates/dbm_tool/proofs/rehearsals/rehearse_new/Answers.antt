use Rattle.dbm_command_line.specs.declared.plan.Source.TheVariants.{Memory}
use Rattle.dbm_tool.proofs.rehearsals.rehearse_new.Goals as goal

pub returns-clause-ends : goal.returns-clause-ends
returns-clause-ends g c = c.rehearse.ensures.ends (Memory c.args.limit c.args.version) c.args.stops
