use Rattle.std.proofs.Common.{refl}
use Rattle.std.specs.Fmt.{digits}
use Rattle.hex.proofs.OnLiterals.{hex_on_literals}
use Rattle.dbm_lines.proofs.TextScriptLemmas.{long_text_calls}
use Rattle.dbm_lines.proofs.text_laws.text_script_examples.Goals as goal

pub returns : goal.returns
unfolding hex_on_literals digits
returns c = record {
  calls = record {
    store = refl;
    insert = refl;
    fetch = refl;
    delete = refl;
    first = refl;
    next = refl;
    error = refl;
    clear = refl;
    no_key = refl;
    no_content = refl;
    nothing = refl;
    dot = refl;
    marked_key = refl;
    lower_case = refl;
    two_tabs = refl;
    spaces = refl;
    no_field = refl;
    one_field = refl;
    three_fields = refl;
    bare_with_field = refl;
    bad_key = refl;
    bad_content = refl;
    unknown = refl;
    empty = refl;
  };
  replies = record {
    stored = refl;
    kept = refl;
    deleted = refl;
    absent = refl;
    no_record = refl;
    end = refl;
    number = refl;
    fault = refl;
    last_fault = refl;
    bytes = refl;
    no_bytes = refl;
    one_byte = refl;
    none = refl;
    end_word = refl;
    refusal = refl;
    longer = refl;
    shorter = refl;
    minus = refl;
    zero = refl;
    none_marked = refl;
  };
  script = record {
    calls = refl;
    answer = refl;
  };
  long = long_text_calls;
}
