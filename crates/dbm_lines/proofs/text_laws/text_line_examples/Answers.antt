use Rattle.std.proofs.Common.{ℕ, List, map, refl, ap}
use Rattle.std.specs.Prelude.{flat_map}
use Rattle.hex.proofs.OnLiterals.{hex_on_literals}
use Rattle.dbm_model.specs.Pairs.{Pair}
use Rattle.dbm_lines.specs.Dumps.{text_line}
use Rattle.dbm_lines.specs.Escapes.{escaped}
use Rattle.dbm_lines.specs.Lines.{with_line_feed}
use Rattle.dbm_lines.proofs.DumpLemmas.{no_entries, two_entries}
use Rattle.dbm_lines.proofs.EscapeLemmas.{long_text_lines}
use Rattle.dbm_lines.proofs.text_laws.text_line_examples.Goals as goal

pub returns : goal.returns
unfolding hex_on_literals
returns c = record {
  examples = record {
    pair = refl;
    no_content = refl;
    no_key = refl;
    bad_key = refl;
    bad_content = refl;
    one_field = refl;
    three_fields = refl;
    empty_line = refl;
    no_pairs = ap (flat_map text_line) no_entries;
    dump = ap (flat_map text_line) two_entries;
    listing = ap (λ (pairs : List Pair).
        flat_map (λ (key : List ℕ). with_line_feed (escaped key))
        (map (λ (pair : Pair). pair.0) pairs)) two_entries;
  };
  long = long_text_lines;
}
