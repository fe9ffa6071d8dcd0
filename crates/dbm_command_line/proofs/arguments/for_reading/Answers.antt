use Rattle.std.proofs.Common.{Some, codes}
use Rattle.clap.specs.Words.{Rule, new_rule}
use Rattle.clap.specs.declared.builder.action.ArgAction.TheVariants.{SetTrue}
use Rattle.dbm_command_line.specs.Building.{IsRule}
use Rattle.dbm_command_line.specs.CommandLine.{read_rule}
use Rattle.dbm_command_line.proofs.Building.{with_action_of, with_help, with_long}
use Rattle.dbm_command_line.proofs.arguments.for_reading.Goals as goal

pub returns : goal.returns
returns c =
    let named : Rule = record (new_rule (codes "read")) { long = Some (codes "read") } in
    let long : IsRule c.long.result named =
    with_long c.new.result c.long.result (new_rule (codes "read")) c.long.ensures
    (record { shape = c.new.ensures.rule; local = c.new.ensures.optional.1 }) in
    let flag : IsRule c.action.result read_rule =
    with_action_of SetTrue c.long.result c.action.result named c.action.ensures long in
    with_help c.action.result c.help.result read_rule c.help.ensures flag
