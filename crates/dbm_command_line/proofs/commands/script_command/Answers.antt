use Rattle.std.proofs.Common.{codes, false}
use Rattle.std.proofs.lemmas.Result.{IfOk-from_err}
use Rattle.clap.specs.Words.{App, Rule, new_app, with_rule}
use Rattle.dbm_command_line.specs.Building.{IsApp, IsRule, alone}
use Rattle.dbm_command_line.specs.CommandLine.{number_rule, read_rule, script_line, text_rule, version_rule, word_rule}
use Rattle.dbm_command_line.proofs.Building.{option_added, with_about, with_after_help, with_option, with_required}
use Rattle.dbm_command_line.proofs.commands.script_command.Goals as goal

pub returns-in_err-arg : goal.returns-in_err-arg
returns-in_err-arg c = IfOk-from_err c.from_residual.result (λ made. IsApp made (alone script_line))
    c.from_residual.ensures.0

pub returns-in_err-arg-2 : goal.returns-in_err-arg-2
returns-in_err-arg-2 c = IfOk-from_err c.from_residual-in_err-arg-2.result
    (λ made. IsApp made (alone script_line)) c.from_residual-in_err-arg-2.ensures.0

pub returns-in_err-arg-3 : goal.returns-in_err-arg-3
returns-in_err-arg-3 c = IfOk-from_err c.from_residual-in_err-arg-3.result
    (λ made. IsApp made (alone script_line)) c.from_residual-in_err-arg-3.ensures.0

pub returns-in_err-arg-4 : goal.returns-in_err-arg-4
returns-in_err-arg-4 c = IfOk-from_err c.from_residual-in_err-arg-4.result
    (λ made. IsApp made (alone script_line)) c.from_residual-in_err-arg-4.ensures.0

pub returns : goal.returns
returns c =
    let bare : App = new_app (codes "script") in
    let free : Rule = record (word_rule (codes "file")) { required = false } in
    let about : IsApp c.about.result bare =
    with_about c.new.result c.about.result bare c.about.ensures
    (record { shape = c.new.ensures.app; local = c.new.ensures.local }) in
    let helped : IsApp c.after_help.result bare =
    with_after_help c.about.result c.after_help.result bare c.after_help.ensures about in
    let file : IsRule c.required.result free =
    with_required false c.word.result c.required.result (word_rule (codes "file"))
    c.required.ensures c.word.ensures in
    let with_file : IsApp c.in_ok-arg.field-0 (with_rule bare free) =
    with_option c.after_help.result c.in_ok-arg.field-0 c.required.result bare free helped file
    c.in_ok-arg.ensures in
    let with_memory : IsApp c.in_ok-arg-2.field-0
    (with_rule (with_rule bare free) (number_rule (codes "memory"))) =
    with_option c.in_ok-arg.field-0 c.in_ok-arg-2.field-0 c.number-memory.result
    (with_rule bare free) (number_rule (codes "memory")) with_file c.number-memory.ensures
    c.in_ok-arg-2.ensures in
    let with_version : IsApp c.in_ok-arg-3.field-0
    (with_rule (with_rule (with_rule bare free) (number_rule (codes "memory"))) version_rule) =
    with_option c.in_ok-arg-2.field-0 c.in_ok-arg-3.field-0 c.version.result
    (with_rule (with_rule bare free) (number_rule (codes "memory"))) version_rule with_memory
    c.version.ensures c.in_ok-arg-3.ensures in
    let with_reading : IsApp c.in_ok-arg-4.field-0
    (with_rule (with_rule (with_rule (with_rule bare free) (number_rule (codes "memory")))
    version_rule) read_rule) =
    with_option c.in_ok-arg-3.field-0 c.in_ok-arg-4.field-0 c.for_reading.result
    (with_rule (with_rule (with_rule bare free) (number_rule (codes "memory"))) version_rule)
    read_rule with_version c.for_reading.ensures c.in_ok-arg-4.ensures in
    option_added c.in_ok-arg-4.field-0 c.text_form.result c.arg-5.result
    (with_rule (with_rule (with_rule (with_rule bare free) (number_rule (codes "memory")))
    version_rule) read_rule)
    text_rule with_reading c.text_form.ensures c.arg-5.ensures
