use Rattle.std.proofs.Common.{refl}
use Rattle.hex.proofs.OnLiterals.{hex_on_literals}
use Rattle.dbm_lines.proofs.text_laws.word_examples.Goals as goal

pub returns : goal.returns
unfolding hex_on_literals
returns c = record {
  empty = refl;
  lower = refl;
  either_case = refl;
  odd = refl;
  no_word = refl;
  no_digit = refl;
}
