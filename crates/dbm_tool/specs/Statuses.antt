-- What the exit statuses tell of the words.
use Rattle.std.specs.Prelude.{◌≡◌, ◌⊎◌, ℕ, List, [], ◌++◌, Bool, true, false, ◌&&◌, ◌||◌, Option, None, Some, Result, Ok, Err, codes}
use Rattle.std.specs.Io.KnownBytes.{Appends}
use Rattle.std.specs.IoError.{error_kind}
use Rattle.std.specs.declared.io.Error.{Error}
use Rattle.std.specs.declared.io.ErrorKind.TheVariants.{BrokenPipe}
use Rattle.dbm_command_line.specs.Asking.{AreTaken, AreVerbose, IsPlan, IsWithoutFile, IsWithoutMemory, IsWithoutReplace, IsWithoutSource}
use Rattle.dbm_command_line.specs.declared.plan.Plan.{Plan}
use Rattle.dbm_commands.specs.declared.outcomes.Outcome.{Outcome}
use Rattle.dbm_commands.specs.declared.outcomes.Outcome.TheVariants.{Done, Nothing}
use Rattle.dbm_commands.specs.declared.outcomes.Failure.{Failure}
use Rattle.dbm_commands.specs.declared.outcomes.Failure.TheVariants.{NotHex, NotText, Fault, NotKept}
use Rattle.dbm_fault.specs.declared.engine_fault.EngineFault.{EngineFault}
use Rattle.dbm_fault.specs.declared.engine_fault.EngineFault.TheVariants.{Memory, Write}
use Rattle.dbm_lines.specs.Lines.{with_line_feed}
use Rattle.dbm_tool.specs.Causes.{IsCauseLine, file_of, is_fault}
use Rattle.dbm_tool.specs.Endings.{CanMeet, LacksDigits, has_lines, looks_at_stops}
use Rattle.dbm_tool.specs.Faults.{failure_line}

abbrev pub status_of : Result Outcome Failure → ℕ
status_of (Ok Done) = 0
status_of (Ok Nothing) = 1
status_of (Err (Fault met)) = 2
status_of (Err (NotKept stop)) = 2
status_of (Err NotHex) = 3
status_of (Err NotText) = 3

-- where the line was told, the bytes grew by exactly it
abbrev pub Tells : Bool → Option (List ℕ) → Option (List ℕ) → List ℕ → Type 0
Tells told old new line = told ≡ true → Appends old new line

-- behind the line of a failure that is a fault one stands that says in words what happened, where
-- that is asked for, and else nothing
abbrev pub Follows : Bool → Option (List ℕ) → Option ℕ → Failure → List ℕ → Type 0
Follows false file number failure more = more ≡ []
Follows true file number failure more = IsCauseLine file number failure more

-- Where the failure was told, the bytes grew by exactly its line and what follows it.
abbrev pub TellsMore : Bool → Option (List ℕ) → Option ℕ → Bool → Option (List ℕ)
    → Option (List ℕ) → Failure → Type 0
TellsMore asked file number told old new failure =
    told ≡ true → (more : List ℕ) × Appends old new (failure_line failure ++ more)
    × Follows (is_fault failure && asked) file number failure more

-- the words are a plan, and it is so
pub record AskFor (words : List (List ℕ)) (IsSo : Plan → Type 0) : Type 0 where
  pub plan : Plan
  pub is_plan : IsPlan words plan
  pub is_so : IsSo plan

-- the parser doesn't take them, as where help is asked for
abbrev pub AreRefused : List (List ℕ) → Type 0
AreRefused words = AreTaken words → ⊥

-- The words are a plan, which failed so, and that was told; in words too, where these words or the
-- environment ask for it. They name the plan's file, and no line but one of a load.
pub record TellsFailure (words : List (List ℕ)) (plan : Plan) (environment told : Bool)
    (old new : Option (List ℕ)) (failure : Failure) : Type 0 where
  pub is_plan : IsPlan words plan
  pub verbose : Bool
  pub is_verbose : AreVerbose words verbose
  pub number : Option ℕ
  pub of_load : (number ≡ None) ⊎ (has_lines plan ≡ true)
  pub lines : TellsMore (verbose || environment) (file_of plan) number told old new failure

-- a fault that the plan can meet, and by which it ended
pub record TellsFaultOfPlan (words : List (List ℕ)) (environment told : Bool)
    (old new : Option (List ℕ)) (EndsBy : Plan → Result Outcome Failure → Type 0) : Type 0 where
  pub plan : Plan
  pub met : EngineFault
  pub can_be_met : CanMeet plan met
  pub ends : EndsBy plan (Err (Fault met))
  pub tells : TellsFailure words plan environment told old new (Fault met)

-- one that the reading of the words met, or the printing of help
pub record TellsFaultOfWords (words : List (List ℕ)) (environment told : Bool)
    (old new : Option (List ℕ)) : Type 0 where
  pub met : EngineFault
  pub can_be_met : (met ≡ Memory) ⊎ ((met ≡ Write) × AreRefused words)
  pub lines : TellsMore environment None None told old new (Fault met)

-- a rehearsal lost a change, and the stop was told
pub record TellsLoss (words : List (List ℕ)) (environment told : Bool)
    (old new : Option (List ℕ)) (EndsBy : Plan → Result Outcome Failure → Type 0) : Type 0 where
  pub plan : Plan
  pub rehearses : looks_at_stops plan ≡ true
  pub stop : ℕ
  pub ends : EndsBy plan (Err (NotKept stop))
  pub tells : TellsFailure words plan environment told old new (NotKept stop)

-- a fault that these words can meet was told, or a stop that lost a change
abbrev pub TellsFault : List (List ℕ) → Bool → Bool → Option (List ℕ) → Option (List ℕ)
    → (Plan → Result Outcome Failure → Type 0) → Type 0
TellsFault words environment told old new EndsBy =
    TellsFaultOfPlan words environment told old new EndsBy
    ⊎ (TellsFaultOfWords words environment told old new
    ⊎ TellsLoss words environment told old new EndsBy)

-- the system told that nobody reads the pipe any more
abbrev pub IsClosedPipe : Option Error → Type 0
IsClosedPipe told = (error : Error) × (told ≡ Some error) × (error_kind error ≡ BrokenPipe)

abbrev pub bad_wait_line : List ℕ
bad_wait_line =
    with_line_feed (codes "dbmtool: DBMTOOL_WAIT is no number of seconds from 0 to 86400")

abbrev pub no_command_line : List ℕ
no_command_line = with_line_feed (codes "error: no such command")

-- a script or a rehearsal has no database, or two
abbrev pub LackSource : List (List ℕ) → Type 0
LackSource words =
    IsWithoutSource (codes "script") words ⊎ IsWithoutSource (codes "rehearse") words

-- a KEY or CONTENT is not hexadecimal, a version is asked of a script or a rehearsal on a file,
-- reading alone of a script in memory, a limit of a load that replaces nothing, or the words are no
-- plan
abbrev pub TellsMisuse : List (List ℕ) → Bool → Option (List ℕ) → Option (List ℕ) → Type 0
TellsMisuse words told old new =
    (AskFor words LacksDigits × Tells told old new (failure_line NotHex))
    ⊎ (AreRefused words ⊎ (LackSource words ⊎ (IsWithoutMemory words ⊎ (IsWithoutFile words
    ⊎ (IsWithoutReplace words ⊎ Tells told old new no_command_line)))))
