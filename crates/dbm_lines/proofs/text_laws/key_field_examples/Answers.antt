use Rattle.std.proofs.Common.{refl}
use Rattle.hex.proofs.OnLiterals.{hex_on_literals}
use Rattle.dbm_lines.proofs.text_laws.key_field_examples.Goals as goal

pub returns : goal.returns
unfolding hex_on_literals
returns c = record {
  nothing = refl;
  plain = refl;
  hash = refl;
  more = refl;
  escape = refl;
  line = refl;
  no_bytes = refl;
  empty_line = refl;
  comment = refl;
  space = refl;
  tab = refl;
  marked_hash = refl;
}
