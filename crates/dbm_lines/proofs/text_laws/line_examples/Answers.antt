use Rattle.std.proofs.Common.{refl}
use Rattle.std.specs.Fmt.{digits}
use Rattle.hex.proofs.OnLiterals.{hex_on_literals}
use Rattle.dbm_lines.proofs.LineLemmas.{long_lines}
use Rattle.dbm_lines.proofs.text_laws.line_examples.Goals as goal

pub returns : goal.returns
unfolding hex_on_literals digits
returns c = record {
  examples = record {
    lines = refl;
    last_feed = refl;
    store = refl;
    insert = refl;
    fetch = refl;
    delete = refl;
    first = refl;
    next = refl;
    error = refl;
    clear = refl;
    lower_case = refl;
    two_spaces = refl;
    unknown = refl;
    short = refl;
    two_keys = refl;
    empty = refl;
    stored = refl;
    kept = refl;
    deleted = refl;
    bytes = refl;
    no_bytes = refl;
    no_record = refl;
    end = refl;
    last_fault = refl;
    absent = refl;
    fault = refl;
    number = refl;
  };
  long = long_lines;
}
