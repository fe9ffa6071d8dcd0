use Rattle.std.proofs.Common.{sym, ◌∙◌}
use Rattle.dbm_lines.proofs.Requests.{from_some, pair_of_more}
use Rattle.dbm_lines.proofs.parsing.pair_in_words.Goals as goal

pub returns-then-is_some-clause-pair : goal.returns-then-is_some-clause-pair
returns-then-is_some-clause-pair c =
    let parts = from_some _ c.split_word-2.result c.split_word-2.ensures.split
    (sym c.is_some.ensures ∙ c.if-is_some.true) in
    pair_of_more c.args.words.now c.in-Some.first.now c.in-Some.second.now parts.0.0.now
    parts.0.1.now c.in-Some.ensures.split parts.1
