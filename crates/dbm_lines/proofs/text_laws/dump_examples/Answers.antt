use Rattle.std.proofs.Common.{ℕ, List, map, ap}
use Rattle.std.specs.Prelude.{flat_map}
use Rattle.hex.proofs.OnLiterals.{hex_on_literals}
use Rattle.dbm_model.specs.Pairs.{Pair}
use Rattle.dbm_lines.specs.Dumps.{dump_line}
use Rattle.dbm_lines.specs.Lines.{with_line_feed}
use Rattle.dbm_lines.specs.Words.{word_of}
use Rattle.dbm_lines.proofs.DumpLemmas.{no_entries, two_entries}
use Rattle.dbm_lines.proofs.text_laws.dump_examples.Goals as goal

pub returns : goal.returns
unfolding hex_on_literals
returns c = record {
  nothing = ap (flat_map dump_line) no_entries;
  dump = ap (flat_map dump_line) two_entries;
  listing = ap (λ (pairs : List Pair).
      flat_map (λ (key : List ℕ). with_line_feed (word_of key))
      (map (λ (pair : Pair). pair.0) pairs)) two_entries;
}
