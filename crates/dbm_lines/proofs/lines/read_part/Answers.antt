use Rattle.std.proofs.Common.{subst, arith}
use Rattle.std.proofs.lemmas.Grind.{common_steps}
use Rattle.std.specs.Io.BufRead.{FillKeeps}
use Rattle.dbm_lines.proofs.Reading.{takes_part}
use Rattle.dbm_lines.proofs.lines.read_part.Goals as goal

pub returns-clause-part : goal.returns-clause-part
returns-clause-part g c =
    let rested = c.fill_buf.follows.lender-at-none in
    let filled = subst (FillKeeps _ (g.R.Read.remaining rested) (g.R.BufRead.consumable_len rested))
    c.in_ok-bytes.was c.fill_buf.follows.holds-at-none in
    takes_part c.args.most _ _ _ (g.R.BufRead.consumable_len rested) c.in_ok-bytes.bytes.now _ _ _ _
    c.in_ok-bytes.ensures.front c.in_ok-bytes.ensures.end filled.0 filled.1 c.consume.ensures.bytes
    c.keep_part-part.ensures.part

pub returns-clause-counted : goal.returns-clause-counted
returns-clause-counted g c = grind (arith, common_steps)
