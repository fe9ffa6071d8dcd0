use Rattle.std.proofs.Common.{true, codes}
use Rattle.std.proofs.lemmas.Result.{IfOk-from_err}
use Rattle.clap.specs.Words.{App, Shape, new_app, with_rule}
use Rattle.dbm_command_line.specs.Building.{IsApp, alone}
use Rattle.dbm_command_line.specs.CommandLine.{cache_rule, program_line, verbose_rule, wait_rule}
use Rattle.dbm_command_line.proofs.Building.{option_added, with_about, with_after_help, with_bin_name, with_no_binary_name, with_option, with_subcommand_required, with_version}
use Rattle.dbm_command_line.proofs.commands.program.Goals as goal

-- without its options
abbrev bare_line : Shape
bare_line = record (new_app (codes "dbmtool")).top {
  has_version = true;
  no_binary_name = true;
  subcommand_required = true;
}

pub returns-in_err-bin_name : goal.returns-in_err-bin_name
returns-in_err-bin_name c =
    IfOk-from_err c.from_residual.result (λ made. IsApp made (alone program_line))
    c.from_residual.ensures.0

pub returns-in_err-arg : goal.returns-in_err-arg
returns-in_err-arg c =
    IfOk-from_err c.from_residual-in_err-arg.result (λ made. IsApp made (alone program_line))
    c.from_residual-in_err-arg.ensures.0

pub returns-in_err-arg-2 : goal.returns-in_err-arg-2
returns-in_err-arg-2 c =
    IfOk-from_err c.from_residual-in_err-arg-2.result (λ made. IsApp made (alone program_line))
    c.from_residual-in_err-arg-2.ensures.0

pub returns : goal.returns
returns c =
    let bare : App = new_app (codes "dbmtool") in
    let numbered : App = record {
      top = record bare.top { has_version = true };
      subs = bare.subs;
    } in
    let nameless : App = record {
      top = record numbered.top { no_binary_name = true };
      subs =
          numbered.subs;
    } in
    let about : IsApp c.about.result bare =
    with_about c.new.result c.about.result bare c.about.ensures
    (record { shape = c.new.ensures.app; local = c.new.ensures.local }) in
    let version : IsApp c.version.result numbered =
    with_version c.about.result c.version.result bare c.version.ensures about in
    let unnamed : IsApp c.no_binary_name.result nameless =
    with_no_binary_name c.version.result c.no_binary_name.result numbered
    c.no_binary_name.ensures version in
    let required : IsApp c.subcommand_required.result (alone bare_line) =
    with_subcommand_required c.no_binary_name.result c.subcommand_required.result nameless
    c.subcommand_required.ensures unnamed in
    let helped : IsApp c.after_help.result (alone bare_line) =
    with_after_help c.subcommand_required.result c.after_help.result (alone bare_line)
    c.after_help.ensures required in
    let named : IsApp c.in_ok-bin_name.field-0 (alone bare_line) =
    with_bin_name c.after_help.result c.in_ok-bin_name.field-0 (alone bare_line)
    c.in_ok-bin_name.ensures.0 helped in
    let with_verbose : IsApp c.in_ok-arg.field-0 (with_rule (alone bare_line) verbose_rule) =
    with_option c.in_ok-bin_name.field-0 c.in_ok-arg.field-0 c.verbose.result (alone bare_line)
    verbose_rule named c.verbose.ensures c.in_ok-arg.ensures in
    let with_wait : IsApp c.in_ok-arg-2.field-0
    (with_rule (with_rule (alone bare_line) verbose_rule) wait_rule) =
    with_option c.in_ok-arg.field-0 c.in_ok-arg-2.field-0 c.wait.result
    (with_rule (alone bare_line) verbose_rule) wait_rule with_verbose c.wait.ensures
    c.in_ok-arg-2.ensures in
    option_added c.in_ok-arg-2.field-0 c.cache.result c.arg-3.result
    (with_rule (with_rule (alone bare_line) verbose_rule) wait_rule) cache_rule with_wait
    c.cache.ensures c.arg-3.ensures
