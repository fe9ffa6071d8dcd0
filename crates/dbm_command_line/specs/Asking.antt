-- The plan that a parse of the words by the command line asks for.
use Rattle.std.specs.Prelude.{◌≡◌, ◌≤◌, ◌⊎◌, ℕ, List, Option, Some, None, Ok, Bool, is_some, true, false, codes}
use Rattle.std.specs.Str.Parse.{ParsesUnsigned}
use Rattle.std.specs.declared.num.ParseIntError.{ParseIntError}
use Rattle.clap.specs.Words.{Row, Text, first_of, matches_of, one_of, subcommand_of, takes}
use Rattle.dbm_command_line.specs.CommandLine.{command_line}
use Rattle.dbm_command_line.specs.declared.plan.Plan.{Plan}
use Rattle.dbm_command_line.specs.declared.plan.Plan.TheVariants.{Create, Store, Insert, Fetch, Delete, List as ListKeys, Dump, Load, Replace, Resize, Backup, Salvage, Stat, Verify, Format, Upgrade, Script, ReadScript, Rehearse, Faults}
use Rattle.dbm_command_line.specs.declared.plan.Request.{Request}
use Rattle.dbm_command_line.specs.declared.plan.Source.{Source}
use Rattle.dbm_command_line.specs.declared.plan.Source.TheVariants.{File, Memory}
use Rattle.dbm_command_line.specs.declared.plan.Spelling.{Spelling}
use Rattle.dbm_command_line.specs.declared.plan.Spelling.TheVariants as spelling
use Rattle.dbm_command_line.specs.declared.plan.Commits as kinds
use Rattle.dbm_command_line.specs.declared.plan.Commits.TheVariants.{Images, Log}
use Rattle.dbm_command_line.specs.declared.plan.Upgrade as changes
use Rattle.dbm_command_line.specs.declared.plan.Upgrade.TheVariants.{Version2, Commits}
use Rattle.dbm_command_line.specs.declared.plan.Version.{Version}
use Rattle.dbm_command_line.specs.declared.plan.Version.TheVariants.{V1, V2}

-- the parser entered this text under the id
abbrev pub IsText : List Row → Text → Text → Type 0
IsText rows id text = first_of id rows ≡ Some text

-- the text under the id is the number
abbrev pub IsNumberText : List Row → Text → ℕ → Type 0
IsNumberText rows id number =
    (text : Text) × (one_of id rows ≡ Some text)
    × ParsesUnsigned {E = ParseIntError} 32 10 text (Ok number)

-- a number under the id, or no text
abbrev pub IsOptional : List Row → Text → Option ℕ → Type 0
IsOptional rows id None = first_of id rows ≡ None
IsOptional rows id (Some number) = IsNumberText rows id number

-- the number under `group`, from 1 to 100000
abbrev pub IsGroup : List Row → ℕ → Type 0
IsGroup rows group =
    IsNumberText rows (codes "group") group × (1 ≤ group) × (group ≤ 100000)

-- a number under the id, from the least to the most, or no text
abbrev pub IsWithin : List Row → Text → ℕ → ℕ → Option ℕ → Type 0
IsWithin rows id least most None = first_of id rows ≡ None
IsWithin rows id least most (Some number) =
    IsNumberText rows id number × (least ≤ number) × (number ≤ most)

abbrev pub flag_text : Spelling → Text
flag_text spelling.Text = codes "false"
flag_text spelling.Hexadecimal = codes "true"

-- what is entered for `--text`
abbrev pub text_flag : Spelling → Text
text_flag spelling.Text = codes "true"
text_flag spelling.Hexadecimal = codes "false"

-- what is entered for `--v2`
abbrev pub v2_flag : Version → Text
v2_flag V1 = codes "false"
v2_flag V2 = codes "true"

-- `--v2` was given where the version is 2, and not where it is 1
abbrev pub IsVersion : List Row → Version → Type 0
IsVersion rows version = one_of (codes "v2") rows ≡ Some (v2_flag version)

-- so many syncs has each of commits in a row
abbrev pub syncs_of : kinds.Commits → ℕ
syncs_of Log = 1
syncs_of Images = 2

-- `--syncs` has the number for them, or wasn't given where they are made by redo images
abbrev pub AreNewCommits : List Row → kinds.Commits → Type 0
AreNewCommits rows Log = IsNumberText rows (codes "syncs") 1
AreNewCommits rows Images =
    (first_of (codes "syncs") rows ≡ None) ⊎ IsNumberText rows (codes "syncs") 2

-- `--syncs` was given where the commits are to be made otherwise, and not where the version is
abbrev pub IsUpgrade : List Row → changes.Upgrade → Type 0
IsUpgrade rows Version2 = first_of (codes "syncs") rows ≡ None
IsUpgrade rows (Commits commits) = IsNumberText rows (codes "syncs") (syncs_of commits)

-- `--text` was given where the lines are text, and not where they have hexadecimal words
abbrev pub IsForm : List Row → Spelling → Type 0
IsForm rows spelled = one_of (codes "text") rows ≡ Some (text_flag spelled)

pub record ArePairs (rows : List Row) (name : Text) (spelled : Spelling) : Type 0 where
  pub file : IsText rows (codes "file") name
  pub flag : IsForm rows spelled

pub record IsKey (rows : List Row) (name word : Text) (spelled : Spelling) : Type 0 where
  pub file : IsText rows (codes "file") name
  pub key : IsText rows (codes "key") word
  pub flag : one_of (codes "hexadecimal") rows ≡ Some (flag_text spelled)

pub record IsPair (rows : List Row) (name word value : Text) (spelled : Spelling) : Type 0 where
  pub key : IsKey rows name word spelled
  pub content : IsText rows (codes "content") value

-- what is given of FILE and `--memory`, one alone, is the source, and FILE has no `--v2`
abbrev pub IsSource : List Row → Source → Type 0
IsSource rows (File file) = IsText rows (codes "file") file.now
    × (first_of (codes "memory") rows ≡ None) × IsVersion rows V1
IsSource rows (Memory limit version) = (first_of (codes "file") rows ≡ None)
    × IsNumberText rows (codes "memory") limit × IsVersion rows version

-- both of FILE and `--memory` are given, or neither
abbrev pub LacksSource : List Row → Type 0
LacksSource rows = is_some (first_of (codes "file") rows) ≡ is_some (first_of (codes "memory") rows)

-- `--v2` is given with FILE, and not with `--memory`
abbrev pub LacksMemory : List Row → Type 0
LacksMemory rows = (is_some (first_of (codes "file") rows) ≡ true)
    × (first_of (codes "memory") rows ≡ None) × IsVersion rows V2

-- what is entered for a flag
abbrev pub flag_entry : Bool → Text
flag_entry true = codes "true"
flag_entry false = codes "false"

-- `--read` is given, or not
abbrev pub IsForReading : List Row → Bool → Type 0
IsForReading rows reading = one_of (codes "read") rows ≡ Some (flag_entry reading)

-- `--read` is given with `--memory`, and not with FILE
abbrev pub LacksFile : List Row → Type 0
LacksFile rows = (first_of (codes "file") rows ≡ None)
    × (is_some (first_of (codes "memory") rows) ≡ true) × IsForReading rows true

-- `--replace` is given, or not
abbrev pub IsReplacing : List Row → Bool → Type 0
IsReplacing rows replacing = one_of (codes "replace") rows ≡ Some (flag_entry replacing)

-- `--limit` is given, and not `--replace`
abbrev pub LacksReplace : List Row → Type 0
LacksReplace rows = (is_some (first_of (codes "limit") rows) ≡ true) × IsReplacing rows false

-- the command of this name, with what was entered for it, asks for the plan
abbrev pub Asks : Text → List Row → Plan → Type 0
Asks name rows (Create file limit version commits) =
    (name ≡ codes "create") × IsText rows (codes "file") file.now
    × IsNumberText rows (codes "limit") limit × IsVersion rows version
    × AreNewCommits rows commits
Asks name rows (Store file key content spelled) =
    (name ≡ codes "store") × IsPair rows file.now key.now content.now spelled
Asks name rows (Insert file key content spelled) =
    (name ≡ codes "insert") × IsPair rows file.now key.now content.now spelled
Asks name rows (Fetch file key spelled) =
    (name ≡ codes "fetch") × IsKey rows file.now key.now spelled
Asks name rows (Delete file key spelled) =
    (name ≡ codes "delete") × IsKey rows file.now key.now spelled
Asks name rows (ListKeys file spelled) = (name ≡ codes "list") × ArePairs rows file.now spelled
Asks name rows (Dump file spelled) = (name ≡ codes "dump") × ArePairs rows file.now spelled
Asks name rows (Load file spelled group) = (name ≡ codes "load")
    × ArePairs rows file.now spelled × IsGroup rows group
    × (first_of (codes "limit") rows ≡ None) × IsReplacing rows false
Asks name rows (Replace file spelled limit) = (name ≡ codes "load")
    × ArePairs rows file.now spelled × IsOptional rows (codes "limit") limit
    × IsReplacing rows true
Asks name rows (Resize file limit) = (name ≡ codes "resize")
    × IsText rows (codes "file") file.now × IsOptional rows (codes "limit") limit
Asks name rows (Backup file to) = (name ≡ codes "backup")
    × IsText rows (codes "file") file.now × IsText rows (codes "to") to.now
Asks name rows (Salvage file) = (name ≡ codes "salvage") × IsText rows (codes "file") file.now
Asks name rows (Stat file) = (name ≡ codes "stat") × IsText rows (codes "file") file.now
Asks name rows (Verify file) = (name ≡ codes "verify") × IsText rows (codes "file") file.now
Asks name rows (Format file) = (name ≡ codes "version") × IsText rows (codes "file") file.now
Asks name rows (Upgrade file to) = (name ≡ codes "upgrade")
    × IsText rows (codes "file") file.now × IsUpgrade rows to
Asks name rows (Script source spelled) = (name ≡ codes "script") × IsSource rows source
    × IsForReading rows false × IsForm rows spelled
Asks name rows (ReadScript file spelled) = (name ≡ codes "script") × IsSource rows (File file)
    × IsForReading rows true × IsForm rows spelled
Asks name rows (Rehearse source stops) = (name ≡ codes "rehearse") × IsSource rows source
    × IsOptional rows (codes "stops") stops
Asks name rows Faults = name ≡ codes "faults"

abbrev pub Names : Option (Text × List Row) → Plan → Type 0
Names None plan = ⊥
Names (Some entered) plan = Asks entered.0 entered.1 plan

-- what the words enter asks for the plan
abbrev pub IsPlan : List Text → Plan → Type 0
IsPlan words plan = Names (subcommand_of command_line words) plan

-- `--verbose` was entered, or not
abbrev pub IsVerbose : List Row → Bool → Type 0
IsVerbose rows verbose = one_of (codes "verbose") rows ≡ Some (flag_entry verbose)

-- the words enter it, or not
abbrev pub AreVerbose : List Text → Bool → Type 0
AreVerbose words verbose = IsVerbose (matches_of command_line words) verbose

-- what was entered in front of the command: whether faults are told in words, how many seconds to
-- wait, and how many pages to keep
pub record AreOptions (rows : List Row) (request : Request) : Type 0 where
  pub verbose : IsVerbose rows request.verbose
  pub wait : IsWithin rows (codes "wait") 0 86400 request.wait
  pub cache : IsWithin rows (codes "cache") 1 65536 request.cache

-- the words enter these
abbrev pub AreAsked : List Text → Request → Type 0
AreAsked words request = AreOptions (matches_of command_line words) request

-- the parser takes the words: they are no mistake, and don't ask for help
abbrev pub AreTaken : List Text → Type 0
AreTaken words = takes command_line words ≡ true

-- the command of this name was entered, and not with one source alone
abbrev pub NamesNoSource : Text → Option (Text × List Row) → Type 0
NamesNoSource name None = ⊥
NamesNoSource name (Some entered) = (entered.0 ≡ name) × LacksSource entered.1

-- what the words enter is this command with no source, or with two
abbrev pub IsWithoutSource : Text → List Text → Type 0
IsWithoutSource name words = NamesNoSource name (subcommand_of command_line words)

-- a script or a rehearsal was entered, with FILE and `--v2`
abbrev pub NamesNoMemory : Option (Text × List Row) → Type 0
NamesNoMemory None = ⊥
NamesNoMemory (Some entered) = ((entered.0 ≡ codes "script") ⊎ (entered.0 ≡ codes "rehearse"))
    × LacksMemory entered.1

-- what the words enter is a script or a rehearsal, with FILE and `--v2`
abbrev pub IsWithoutMemory : List Text → Type 0
IsWithoutMemory words = NamesNoMemory (subcommand_of command_line words)

-- a script was entered, with `--memory` and `--read`
abbrev pub NamesNoFile : Option (Text × List Row) → Type 0
NamesNoFile None = ⊥
NamesNoFile (Some entered) = (entered.0 ≡ codes "script") × LacksFile entered.1

-- what the words enter is a script, with `--memory` and `--read`
abbrev pub IsWithoutFile : List Text → Type 0
IsWithoutFile words = NamesNoFile (subcommand_of command_line words)

-- a load was entered, with `--limit` and not `--replace`
abbrev pub NamesNoReplace : Option (Text × List Row) → Type 0
NamesNoReplace None = ⊥
NamesNoReplace (Some entered) = (entered.0 ≡ codes "load") × LacksReplace entered.1

-- what the words enter is a load, with `--limit` and not `--replace`
abbrev pub IsWithoutReplace : List Text → Type 0
IsWithoutReplace words = NamesNoReplace (subcommand_of command_line words)
