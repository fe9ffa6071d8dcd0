use Rattle.std.proofs.Common.{◌∙◌, Some, ap, pos}
use Rattle.clap.specs.Words.{Rule, new_rule}
use Rattle.clap.specs.declared.builder.value_parser.ValueParser.TheVariants as parser
use Rattle.dbm_command_line.specs.Building.{IsRule}
use Rattle.dbm_command_line.specs.CommandLine.{number_rule}
use Rattle.dbm_command_line.proofs.Building.{with_help, with_long, with_parser, with_value_name}
use Rattle.dbm_command_line.proofs.arguments.number.Goals as goal

pub returns : goal.returns
returns c =
    let named : Rule = record (new_rule c.args.name.now) { long = Some c.args.name.now } in
    let shown : Rule = record named { value_names = 1 } in
    let long : IsRule c.long.result named =
    with_long c.new.result c.long.result (new_rule c.args.name.now) c.long.ensures
    (record { shape = c.new.ensures.rule; local = c.new.ensures.optional.1 }) in
    let value : IsRule c.value_name.result shown =
    with_value_name c.long.result c.value_name.result named (rw c.value_name.ensures)
    (rw c.value_name.ensures) long in
    let read : IsRule c.value_parser-2.result (number_rule c.args.name.now) =
    with_parser (parser.Signed (pos 0) (pos 4294967295)) c.value_name.result c.value_parser-2.result
    shown c.value_parser-2.ensures.others
    (c.value_parser-2.ensures.given.1
    ∙ ap Some (c.value_parser-2.ensures.given.2 ∙ c.value_parser.ensures)) value in
    with_help c.value_parser-2.result c.help.result (number_rule c.args.name.now)
    c.help.ensures read
