use Rattle.std.proofs.Common.{sym, ◌∙◌, arith}
use Rattle.dbm_lines.proofs.BadLines.{from_none, more_parts, of_fields, of_words}
use Rattle.dbm_lines.proofs.Requests.{from_some}
use Rattle.dbm_lines.proofs.bad_lines.why_bad.Goals as goal

pub returns-then-is_some : goal.returns-then-is_some
returns-then-is_some c = λ none.
    let parts = from_some _ c.split_part-2.result c.split_part-2.ensures.split
    (sym c.is_some.ensures ∙ c.if-is_some.true) in (
      omega arith,
      more_parts c.args.form c.args.line.now c.in-Some.key.now c.in-Some.content.now
          parts.0.0.now parts.0.1.now c.in-Some.ensures.split parts.1,
    )

pub returns-in-Hexadecimal : goal.returns-in-Hexadecimal
returns-in-Hexadecimal c =
    of_words c.args.form c.args.line.now c.in-Some.key.now c.in-Some.content.now
    c.why_bad_words.result c.in-Hexadecimal.is (omega arith) c.in-Some.ensures.split
    (from_none c.split_part-2.result c.split_part-2.ensures.single
    (sym c.is_some.ensures ∙ c.if-is_some.false)) c.why_bad_words.ensures

pub returns-in-Escaped : goal.returns-in-Escaped
returns-in-Escaped c =
    of_fields c.args.form c.args.line.now c.in-Some.key.now c.in-Some.content.now
    c.in-Escaped.is (omega arith) c.in-Some.ensures.split
    (from_none c.split_part-2.result c.split_part-2.ensures.single
    (sym c.is_some.ensures ∙ c.if-is_some.false))
