use Rattle.std.proofs.Common.{◌≡◌, ◌∙◌, Some, ap, codes, pos}
use Rattle.std.specs.Range.{range_inclusive_end, range_inclusive_start}
use Rattle.clap.specs.Words.{Rule, new_rule}
use Rattle.clap.specs.declared.builder.value_parser.ValueParser.TheVariants as parser
use Rattle.dbm_command_line.specs.Building.{IsRule}
use Rattle.dbm_command_line.specs.CommandLine.{syncs_rule}
use Rattle.dbm_command_line.proofs.Building.{narrowed_by, with_help, with_long, with_parser, with_value_name}
use Rattle.dbm_command_line.proofs.arguments.syncs.Goals as goal

pub returns : goal.returns
returns c =
    let named : Rule = record (new_rule (codes "syncs")) { long = Some (codes "syncs") } in
    let shown : Rule = record named { value_names = 1 } in
    let long : IsRule c.long.result named =
    with_long c.new.result c.long.result (new_rule (codes "syncs")) c.long.ensures
    (record { shape = c.new.ensures.rule; local = c.new.ensures.optional.1 }) in
    let value : IsRule c.value_name.result shown =
    with_value_name c.long.result c.value_name.result named (rw c.value_name.ensures)
    (rw c.value_name.ensures) long in
    let narrowed : c.range.result ≡ parser.Signed (pos 1) (pos 2) =
    narrowed_by c.range.result (pos 1) (pos 2) (range_inclusive_start c.new-2.result)
    (range_inclusive_end c.new-2.result) (c.new-2.ensures.start)
    (c.new-2.ensures.end) (rw c.value_parser.ensures at c.range.ensures) in
    let read : IsRule c.value_parser-2.result syncs_rule =
    with_parser (parser.Signed (pos 1) (pos 2)) c.value_name.result c.value_parser-2.result
    shown c.value_parser-2.ensures.others
    (c.value_parser-2.ensures.given.1
    ∙ ap Some (c.value_parser-2.ensures.given.2 ∙ narrowed)) value in
    with_help c.value_parser-2.result c.help.result syncs_rule c.help.ensures read
