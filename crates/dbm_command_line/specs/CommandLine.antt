-- The program's command line in the parser's words.
use Rattle.std.specs.Prelude.{List, [], ◌∷◌, Some, pos, true, false, codes}
use Rattle.clap.specs.Words.{App, Rule, Shape, Text, new_app, new_rule}
use Rattle.clap.specs.declared.builder.action.ArgAction.TheVariants.{SetTrue}
use Rattle.clap.specs.declared.builder.value_parser.ValueParser.TheVariants as parser

-- a word in its place, which is required
abbrev pub word_rule : Text → Rule
word_rule id = record (new_rule id) { value_names = 1; required = true }

-- `--NAME N`, and N a `u32`
abbrev pub number_rule : Text → Rule
number_rule name = record (new_rule name) {
  long = Some name;
  value_names = 1;
  parser =
      Some (parser.Signed (pos 0) (pos 4294967295));
}

-- `--group N`, and N from 1 to 100000; 10000 where it isn't given
abbrev pub group_rule : Rule
group_rule = record (number_rule (codes "group")) {
  defaults =
      codes "10000" ∷ [];
  parser =
      Some (parser.Signed (pos 1) (pos 100000));
}

-- `--stops N`, and N from 1
abbrev pub stops_rule : Rule
stops_rule = record (number_rule (codes "stops")) {
  parser =
      Some (parser.Signed (pos 1) (pos 4294967295));
}

-- `--syncs N`, and N 1 or 2
abbrev pub syncs_rule : Rule
syncs_rule = record (number_rule (codes "syncs")) {
  parser =
      Some (parser.Signed (pos 1) (pos 2));
}

-- `-x`
abbrev pub hexadecimal_rule : Rule
hexadecimal_rule = record (new_rule (codes "hexadecimal")) {
  short = Some 120;
  action = Some SetTrue;
}

-- `--text`
abbrev pub text_rule : Rule
text_rule = record (new_rule (codes "text")) {
  long = Some (codes "text");
  action = Some SetTrue;
}

-- `--v2`
abbrev pub version_rule : Rule
version_rule = record (new_rule (codes "v2")) {
  long = Some (codes "v2");
  action = Some SetTrue;
}

-- `--read`
abbrev pub read_rule : Rule
read_rule = record (new_rule (codes "read")) {
  long = Some (codes "read");
  action = Some SetTrue;
}

-- `--replace`
abbrev pub replace_rule : Rule
replace_rule = record (new_rule (codes "replace")) {
  long = Some (codes "replace");
  action = Some SetTrue;
}

-- `--wait SECONDS`, from 0 to 86400
abbrev pub wait_rule : Rule
wait_rule = record (number_rule (codes "wait")) {
  parser =
      Some (parser.Signed (pos 0) (pos 86400));
}

-- `--cache PAGES`, from 1 to 65536
abbrev pub cache_rule : Rule
cache_rule = record (number_rule (codes "cache")) {
  parser =
      Some (parser.Signed (pos 1) (pos 65536));
}

-- `--verbose`
abbrev pub verbose_rule : Rule
verbose_rule = record (new_rule (codes "verbose")) {
  long = Some (codes "verbose");
  action = Some SetTrue;
}

abbrev pub line : Text → List Rule → Shape
line name rules = record (new_app name).top { rules = rules }

-- `NAME FILE`
abbrev pub file_line : Text → Shape
file_line name = line name (word_rule (codes "file") ∷ [])

-- `NAME FILE [--text]`
abbrev pub pairs_line : Text → Shape
pairs_line name = line name (word_rule (codes "file") ∷ text_rule ∷ [])

-- `load FILE [--text] [--group N] [--replace] [--limit N]`
abbrev pub load_line : Shape
load_line = line (codes "load") (word_rule (codes "file") ∷ text_rule ∷ group_rule ∷ replace_rule
    ∷ number_rule (codes "limit") ∷ [])

-- `upgrade FILE [--syncs N]`
abbrev pub upgrade_line : Shape
upgrade_line = line (codes "upgrade") (word_rule (codes "file") ∷ syncs_rule ∷ [])

-- `resize FILE [--limit N]`
abbrev pub resize_line : Shape
resize_line = line (codes "resize") (word_rule (codes "file") ∷ number_rule (codes "limit") ∷ [])

-- `backup FILE TO`
abbrev pub backup_line : Shape
backup_line = line (codes "backup") (word_rule (codes "file") ∷ word_rule (codes "to") ∷ [])

-- `NAME FILE KEY [-x]`
abbrev pub key_line : Text → Shape
key_line name = line name (word_rule (codes "file") ∷ word_rule (codes "key")
    ∷ hexadecimal_rule ∷ [])

-- `NAME FILE KEY CONTENT [-x]`
abbrev pub pair_line : Text → Shape
pair_line name = line name (word_rule (codes "file") ∷ word_rule (codes "key") ∷ hexadecimal_rule
    ∷ word_rule (codes "content") ∷ [])

-- `create FILE [--limit N] [--v2] [--syncs N]`
abbrev pub create_line : Shape
create_line = line (codes "create")
    (word_rule (codes "file") ∷ record (number_rule (codes "limit")) {
      defaults =
          codes "1000000" ∷ [];
    } ∷ version_rule ∷ syncs_rule ∷ [])

-- `script [FILE] [--memory N] [--v2] [--read] [--text]`
abbrev pub script_line : Shape
script_line = line (codes "script")
    (record (word_rule (codes "file")) { required = false } ∷ number_rule (codes "memory")
    ∷ version_rule ∷ read_rule ∷ text_rule ∷ [])

-- `rehearse [FILE] [--memory N] [--v2] [--stops N]`
abbrev pub rehearse_line : Shape
rehearse_line = line (codes "rehearse")
    (record (word_rule (codes "file")) { required = false } ∷ number_rule (codes "memory")
    ∷ version_rule ∷ stops_rule ∷ [])

-- `faults`
abbrev pub faults_line : Shape
faults_line = line (codes "faults") []

-- `dbmtool [--verbose] [--wait SECONDS] [--cache PAGES] [--version]`, whose name is none of the words
-- that are read
abbrev pub program_line : Shape
program_line = record (line (codes "dbmtool") (verbose_rule ∷ wait_rule ∷ cache_rule ∷ [])) {
  has_version = true;
  no_binary_name = true;
  subcommand_required = true;
}

-- `dbmtool`, and then one of the lines
unfoldable pub command_line : App
command_line = record {
  top = record program_line { is_leaf = false };
  subs = create_line ∷ pair_line (codes "store") ∷ pair_line (codes "insert")
      ∷ key_line (codes "fetch") ∷ key_line (codes "delete")
      ∷ pairs_line (codes "list") ∷ pairs_line (codes "dump") ∷ load_line
      ∷ file_line (codes "stat") ∷ file_line (codes "verify") ∷ file_line (codes "version")
      ∷ upgrade_line ∷ resize_line ∷ backup_line ∷ file_line (codes "salvage")
      ∷ script_line ∷ rehearse_line ∷ faults_line ∷ [];
}
