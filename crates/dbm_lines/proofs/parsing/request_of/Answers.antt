use Rattle.std.proofs.Common.{◌≡◌, ◌∙◌, None, arith, rules}
use Rattle.dbm_lines.specs.Lines.{bare_call}
use Rattle.dbm_lines.proofs.Requests.{call_of_line}
use Rattle.dbm_lines.proofs.parsing.request_of.Goals as goal

pub request_with_parts-requires : goal.request_with_parts-requires
request_with_parts-requires c = search rules

pub returns-in_default-clause-request : goal.returns-in_default-clause-request
returns-in_default-clause-request c =
    let bare : bare_call c.args.line.now ≡ None = search rules in
    c.request_with_parts.ensures.request bare
    ∙ call_of_line c.args.form c.args.line.now (omega arith)
