-- How a failure is told in words, in a second line.
use Rattle.std.specs.Prelude.{◌≡◌, ◌⊎◌, ℕ, List, [], ◌++◌, Bool, true, false, Option, Some, None, codes}
use Rattle.std.specs.Fmt.{decimal}
use Rattle.std.specs.Io.KnownBytes.{Appends}
use Rattle.dbm_lines.specs.Lines.{with_line_feed}
use Rattle.dbm_command_line.specs.declared.help_text.TheConstants.{BAD_LIMIT_WORDS, BROKEN_WORDS, DAMAGED_WORDS, DEVICE_WORDS, EXISTS_WORDS, FULL_WORDS, LOST_WORDS, MEMORY_WORDS, MISSING_WORDS, NO_PASS_WORDS, NO_ROOM_WORDS, NOT_A_DATABASE_WORDS, READ_ONLY_WORDS, READ_WORDS, STOPPED_WORDS, TOO_LONG_WORDS, TOO_SMALL_WORDS, VERSION_WORDS, WRITE_WORDS}
use Rattle.dbm_command_line.specs.declared.plan.Plan.{Plan}
use Rattle.dbm_command_line.specs.declared.plan.Plan.TheVariants.{Create, Store, Insert, Fetch, Delete, List as ListKeys, Dump, Load, Replace, Resize, Backup, Salvage, Stat, Verify, Format, Upgrade, Script, ReadScript, Rehearse, Faults}
use Rattle.dbm_command_line.specs.declared.plan.Source.TheVariants.{File, Memory as InMemory}
use Rattle.dbm_command_line.specs.declared.plan.Spelling.{Spelling}
use Rattle.dbm_command_line.specs.declared.plan.Spelling.TheVariants.{Text, Hexadecimal}
use Rattle.dbm_commands.specs.declared.outcomes.Failure.{Failure}
use Rattle.dbm_commands.specs.declared.outcomes.Failure.TheVariants.{NotHex, NotText, Fault, NotKept}
use Rattle.dbm_fault.specs.declared.engine_fault.EngineFault.TheVariants.{Memory, Read, Write, Line, Db}
use Rattle.dbm_fault.specs.declared.fault.Fault.{Fault as Refusal}
use Rattle.dbm_fault.specs.declared.fault.Fault.TheVariants as refusal
use Rattle.dbm_lines.specs.declared.bad_lines.BadLine.{BadLine}
use Rattle.dbm_lines.specs.declared.bad_lines.BadLine.TheVariants.{TooLong, OnePart, ManyParts, NoDigits, OddDigits, NotADigit, BadEscape}
use Rattle.dbm_tool.specs.Flaws.{AreDamageWords}

-- it ends with status 2
abbrev pub is_fault : Failure → Bool
is_fault (Fault met) = true
is_fault (NotKept stop) = true
is_fault NotHex = false
is_fault NotText = false

-- the name of the file that the plan opens, without `.db`
abbrev pub file_of : Plan → Option (List ℕ)
file_of (Create file limit version commits) = Some file.now
file_of (Store file key content spelling) = Some file.now
file_of (Insert file key content spelling) = Some file.now
file_of (Fetch file key spelling) = Some file.now
file_of (Delete file key spelling) = Some file.now
file_of (ListKeys file spelling) = Some file.now
file_of (Dump file spelling) = Some file.now
file_of (Load file spelling group) = Some file.now
file_of (Replace file spelling limit) = Some file.now
file_of (Resize file limit) = Some file.now
file_of (Backup file to) = Some file.now
file_of (Salvage file) = Some file.now
file_of (Stat file) = Some file.now
file_of (Verify file) = Some file.now
file_of (Format file) = Some file.now
file_of (Upgrade file to) = Some file.now
file_of (Script (File file) spelling) = Some file.now
file_of (ReadScript file spelling) = Some file.now
file_of (Script (InMemory limit version) spelling) = None
file_of (Rehearse (File file) stops) = Some file.now
file_of (Rehearse (InMemory limit version) stops) = None
file_of Faults = None

-- `FILE.db: `
abbrev pub file_text : Option (List ℕ) → List ℕ
file_text None = []
file_text (Some file) = file ++ codes ".db: "

-- `line N: `
abbrev pub line_text : Option ℕ → List ℕ
line_text None = []
line_text (Some line) = codes "line " ++ decimal line ++ codes ": "

-- the words of each fault, as the table of the faults has them
abbrev pub fault_words : Refusal → List ℕ
fault_words refusal.Memory = MEMORY_WORDS.now
fault_words refusal.Device = DEVICE_WORDS.now
fault_words refusal.Broken = BROKEN_WORDS.now
fault_words refusal.ReadOnly = READ_ONLY_WORDS.now
fault_words refusal.TooLong = TOO_LONG_WORDS.now
fault_words refusal.Full = FULL_WORDS.now
fault_words refusal.NoPass = NO_PASS_WORDS.now
fault_words refusal.NoRoom = NO_ROOM_WORDS.now
fault_words refusal.Damaged = DAMAGED_WORDS.now
fault_words refusal.NotADatabase = NOT_A_DATABASE_WORDS.now
fault_words refusal.Version = VERSION_WORDS.now
fault_words refusal.TooSmall = TOO_SMALL_WORDS.now
fault_words refusal.BadLimit = BAD_LIMIT_WORDS.now
fault_words refusal.Missing = MISSING_WORDS.now
fault_words refusal.Exists = EXISTS_WORDS.now

-- why a line of a load is bad, by how its words are spelled
abbrev pub bad_line_words : BadLine → Spelling → List ℕ
bad_line_words TooLong spelling = codes "the line is too long"
bad_line_words OnePart Hexadecimal = codes "the line has no blank between key and content"
bad_line_words OnePart Text = codes "the line has no tab between key and content"
bad_line_words ManyParts Hexadecimal = codes "the line has more than one blank"
bad_line_words ManyParts Text = codes "the line has more than one tab"
bad_line_words NoDigits spelling =
    codes "a word of the line is empty, and `.` stands for no bytes"
bad_line_words OddDigits spelling = codes "a word of the line has an odd number of digits"
bad_line_words NotADigit spelling = codes "a word of the line has a byte that is no digit"
bad_line_words BadEscape spelling = codes "a field of the line has a backslash with no escape"

abbrev pub AreBadLineWords : List ℕ → Type 0
AreBadLineWords words =
    ((why : BadLine) × (spelling : Spelling) × (words ≡ bad_line_words why spelling))
    ⊎ (words ≡ codes "the line says no pair")

-- the words of a stream that failed, and behind them the system's own, if it told some
abbrev pub AreStreamWords : List ℕ → List ℕ → Type 0
AreStreamWords stream words =
    (words ≡ stream) ⊎ ((told : List ℕ) × (words ≡ stream ++ (codes ": " ++ told)))

-- there is no file of the name, but one that has `.db` in it already
abbrev pub suffixed_words : List ℕ
suffixed_words =
    codes "there is no such file, but there is one without the second `.db`: leave `.db` off the name"

-- the words of a refusal; in the place of those of fault 2 the system's own may stand, and in the
-- place of those of fault 9 which page breaks a rule
abbrev pub AreRefusalWords : Refusal → List ℕ → Type 0
AreRefusalWords refusal.Device words = Unit {0}
AreRefusalWords refusal.Missing words =
    (words ≡ fault_words refusal.Missing) ⊎ (words ≡ suffixed_words)
AreRefusalWords refusal.Damaged words = AreDamageWords words
AreRefusalWords fault words = words ≡ fault_words fault

-- the words of a failure
abbrev pub AreWords : Failure → List ℕ → Type 0
AreWords (Fault Memory) words = words ≡ MEMORY_WORDS.now
AreWords (Fault Read) words = AreStreamWords READ_WORDS.now words
AreWords (Fault Write) words = AreStreamWords WRITE_WORDS.now words
AreWords (Fault (Line n)) words = AreBadLineWords words
AreWords (Fault (Db fault)) words = AreRefusalWords fault words
AreWords (NotKept stop) words = words ≡ STOPPED_WORDS.now ++ decimal stop ++ LOST_WORDS.now
AreWords NotHex words = ⊥
AreWords NotText words = ⊥

-- `dbmtool: FILE.db: line N: WORDS`, without what isn't known of a file and a line
pub record IsCauseLine (file : Option (List ℕ)) (number : Option ℕ) (failure : Failure)
    (line : List ℕ) : Type 0 where
  pub words : List ℕ
  pub are_words : AreWords failure words
  pub line_is : line ≡ with_line_feed
      (codes "dbmtool: " ++ (file_text file ++ (line_text number ++ words)))

-- the bytes grew by some that are so
abbrev pub GrowsBy : Option (List ℕ) → Option (List ℕ) → (List ℕ → Type 0) → Type 0
GrowsBy old new IsSo = (more : List ℕ) × Appends old new more × IsSo more
