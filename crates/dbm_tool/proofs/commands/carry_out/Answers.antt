use Rattle.std.proofs.Common.{rules, ap, ◌∙◌}
use Rattle.dbm_command_line.specs.declared.plan.Plan.TheVariants.{Script, ReadScript}
use Rattle.dbm_command_line.specs.declared.plan.Source.{Source}
use Rattle.dbm_command_line.specs.declared.plan.Source.TheVariants.{File}
use Rattle.dbm_tool.proofs.CarriedPlans.{carried_as}
use Rattle.dbm_tool.proofs.commands.carry_out.Goals as goal

pub returns-in-Create-clause-output : goal.returns-in-Create-clause-output
returns-in-Create-clause-output g c = search rules

pub returns-in-Store-clause-ends : goal.returns-in-Store-clause-ends
returns-in-Store-clause-ends g c = search rules

-- ---- a script was run as it is spelled

pub returns-in-Script-File-default-clause-carried :
    goal.returns-in-Script-File-default-clause-carried
returns-in-Script-File-default-clause-carried g c =
    let arm = c.in-Script-File-default in
    carried_as _ _ (Script (File arm.file) arm.spelling) _ _ _ _
    (arm.is ∙ ap (λ (source : Source). Script source arm.spelling) (rw arm.is at arm.source-is))
    c.script.ensures.carried

pub returns-in-ReadScript-clause-carried : goal.returns-in-ReadScript-clause-carried
returns-in-ReadScript-clause-carried g c =
    carried_as _ _ (ReadScript c.in-ReadScript.file c.in-ReadScript.spelling) _ _ _ _
    c.in-ReadScript.is c.script-in-ReadScript.ensures.carried
