-- What commands print.
use Rattle.std.specs.Prelude.{◌≡◌, ◌⊎◌, ℕ, List, ◌∷◌, ◌++◌, Option, Result, Ok, Err, codes}
use Rattle.std.specs.Fmt.{decimal}
use Rattle.std.specs.Io.KnownBytes.{Appends}
use Rattle.dbm_lines.specs.Lines.{with_line_feed}
use Rattle.dbm_lines.specs.Words.{word_of}
use Rattle.dbm_command_line.specs.declared.plan.Spelling.{Spelling}
use Rattle.dbm_command_line.specs.declared.plan.Spelling.TheVariants.{Text, Hexadecimal}
use Rattle.dbm_model.specs.Bounds.{Version, version_number}
use Rattle.page_model.specs.Valid.{meta_buckets}
use Rattle.page_io.specs.declared.store.PageStore.{Ghosts}
use Rattle.redo_area.specs.declared.header.CommitKind.{CommitKind}
use Rattle.redo_area.specs.declared.header.CommitKind.TheVariants.{Images, Log}
use Rattle.dbm_fault.specs.declared.engine_fault.EngineFault.TheVariants.{Write}
use Rattle.dbm_file.specs.Database.{meta_kept, page_state}
use Rattle.dbm_file.specs.declared.calls.Reply.{Reply}
use Rattle.dbm_file.specs.declared.calls.Reply.TheVariants.{Bytes}
use Rattle.dbm_file.specs.declared.calls.Stat.{Stat}
use Rattle.dbm_file.specs.declared.database.Database.{Database}
use Rattle.dbm_commands.specs.Outcomes.{IsTold}
use Rattle.dbm_commands.specs.declared.outcomes.Outcome.{Outcome}
use Rattle.dbm_commands.specs.declared.outcomes.Outcome.TheVariants.{Done}
use Rattle.dbm_commands.specs.declared.outcomes.Failure.{Failure}
use Rattle.dbm_commands.specs.declared.outcomes.Failure.TheVariants.{Fault}

-- a content as it is, or as a word
abbrev pub content_line : Spelling → List ℕ → List ℕ
content_line Text content = with_line_feed content
content_line Hexadecimal content = with_line_feed (word_of content)

-- a content was printed, or could not be; any other reply is told
abbrev pub IsFetched : Spelling → Option (List ℕ) → Option (List ℕ) → Result Outcome Failure
    → Reply → Type 0
IsFetched spelling old new result (Bytes content) =
    ((result ≡ Ok Done) × Appends old new (content_line spelling content))
    ⊎ (result ≡ Err (Fault Write))
IsFetched spelling old new result reply = IsTold result reply

-- what a database tells of itself
abbrev pub stat_of : {S : Type 0} {s : Ghosts S} → Database S s → Stat
stat_of db = record {
  pairs = (meta_kept db).pairs;
  limit = (meta_kept db).bounds.limit;
  buckets = meta_buckets (meta_kept db);
  level = (meta_kept db).level;
  split = (meta_kept db).split;
  pages = (page_state db).end;
  free = (meta_kept db).free_count;
}

-- `name number`
abbrev pub number_line : List ℕ → ℕ → List ℕ
number_line name number = with_line_feed (name ++ 32 ∷ decimal number)

-- each number behind its name, one a line
abbrev pub stat_text : Stat → List ℕ
stat_text stat =
    number_line (codes "pairs") stat.pairs
    ++ number_line (codes "limit") stat.limit
    ++ number_line (codes "buckets") stat.buckets
    ++ number_line (codes "level") stat.level
    ++ number_line (codes "split") stat.split
    ++ number_line (codes "pages") stat.pages
    ++ number_line (codes "free") stat.free

-- the version of a database's format
abbrev pub version_of : {S : Type 0} {s : Ghosts S} → Database S s → Version
version_of db = (meta_kept db).bounds.version

-- so many syncs has each of commits in a row
abbrev pub syncs_of : CommitKind → ℕ
syncs_of Log = 1
syncs_of Images = 2

-- the number of a version, and the syncs of each of commits in a row, one a line
abbrev pub format_text : Version → CommitKind → List ℕ
format_text version kind =
    number_line (codes "version") (version_number version)
    ++ number_line (codes "syncs") (syncs_of kind)
