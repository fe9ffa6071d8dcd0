use Rattle.std.proofs.Common.{◌==◌, ℕ}
use Rattle.dbm_lines.proofs.Splits.{split_there, split_nowhere}
use Rattle.dbm_lines.proofs.splitting.split_at.Goals as goal

pub returns-in_err-end-clause-single : goal.returns-in_err-end-clause-single
returns-in_err-end-clause-single c = let alone =
    split_nowhere (λ (byte : ℕ). byte == c.args.separator) c.args.line.now (c.in_err-end.ensures) in
    rw c.from_residual.ensures alone

pub returns-clause-split : goal.returns-clause-split
returns-clause-split c = split_there (λ (byte : ℕ). byte == c.args.separator) c.args.line.now c.in_ok-end.end
    (c.in_ok-end.ensures)
