-- How long a line may be.
use Rattle.std.proofs.Common.{suc, length, cond, Option, None, ap, arith}
use Rattle.std.proofs.lemmas.Bool.{le-leb, lt-leb}
use Rattle.dbm_model.specs.Calls.{Call}
use Rattle.dbm_lines.specs.Lines.{longest_line, words_in, call_of_words}
use Rattle.dbm_lines.specs.Texts.{LongLines}

pub long_lines : LongLines
long_lines = record {
  longest = λ line le. ap (λ b. cond {A = Option Call} b None (call_of_words (words_in line)))
      (lt-leb (suc longest_line) (length line) (omega (arith, le)));
  longer = λ line lt. ap (λ b. cond {A = Option Call} b None (call_of_words (words_in line)))
      (le-leb (suc longest_line) (length line) (omega (arith, lt)));
}
