use Rattle.std.proofs.Common.{sym, ◌∙◌, refl, codes}
use Rattle.dbm_lines.proofs.Requests.{from_some, key_of_more}
use Rattle.dbm_lines.proofs.parsing.key_in_parts.Goals as goal

pub returns-then-is_some-clause-fetch : goal.returns-then-is_some-clause-fetch
returns-then-is_some-clause-fetch c =
    let parts = from_some _ c.split_part.result c.split_part.ensures.split
    (sym c.is_some.ensures ∙ c.if-is_some.true) in
    key_of_more c.args.form (codes "F") (λ k content. refl) c.args.parts.now parts.0.0.now
    parts.0.1.now parts.1

pub returns-then-is_some-clause-delete : goal.returns-then-is_some-clause-delete
returns-then-is_some-clause-delete c =
    let parts = from_some _ c.split_part.result c.split_part.ensures.split
    (sym c.is_some.ensures ∙ c.if-is_some.true) in
    key_of_more c.args.form (codes "D") (λ k content. refl) c.args.parts.now parts.0.0.now
    parts.0.1.now parts.1
