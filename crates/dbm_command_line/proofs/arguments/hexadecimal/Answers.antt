use Rattle.std.proofs.Common.{Some, codes}
use Rattle.clap.specs.Words.{Rule, new_rule}
use Rattle.clap.specs.declared.builder.action.ArgAction.TheVariants.{SetTrue}
use Rattle.dbm_command_line.specs.Building.{IsRule}
use Rattle.dbm_command_line.specs.CommandLine.{hexadecimal_rule}
use Rattle.dbm_command_line.proofs.Building.{with_action_of, with_help, with_short}
use Rattle.dbm_command_line.proofs.arguments.hexadecimal.Goals as goal

pub returns : goal.returns
returns c =
    let named : Rule = record (new_rule (codes "hexadecimal")) { short = Some 120 } in
    let short : IsRule c.short.result named =
    with_short 120 c.new.result c.short.result (new_rule (codes "hexadecimal")) c.short.ensures
    (record { shape = c.new.ensures.rule; local = c.new.ensures.optional.1 }) in
    let flag : IsRule c.action.result hexadecimal_rule =
    with_action_of SetTrue c.short.result c.action.result named c.action.ensures short in
    with_help c.action.result c.help.result hexadecimal_rule c.help.ensures flag
