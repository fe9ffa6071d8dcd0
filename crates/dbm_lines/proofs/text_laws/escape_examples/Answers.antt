use Rattle.std.proofs.Common.{refl}
use Rattle.hex.proofs.OnLiterals.{hex_on_literals}
use Rattle.dbm_lines.proofs.text_laws.escape_examples.Goals as goal

pub returns : goal.returns
unfolding hex_on_literals
returns c = record {
  nothing = refl;
  plain = refl;
  backslash = refl;
  tab = refl;
  line_feed = refl;
  zero_byte = refl;
  delete = refl;
  lower_case = refl;
  either_case = refl;
  before_more = refl;
  typed = refl;
  unknown = refl;
  upper_letter = refl;
  one_digit = refl;
  no_digit = refl;
  trailing = refl;
}
