use Rattle.std.proofs.Common.{◌==◌, ℕ}
use Rattle.dbm_lines.proofs.Splits.{first_place}
use Rattle.dbm_lines.proofs.splitting.first_separator.Goals as goal

pub returns : goal.returns
returns c =
    first_place (λ (byte : ℕ). byte == c.args.separator) c.args.line.now c.memchr.result
    c.memchr.ensures
