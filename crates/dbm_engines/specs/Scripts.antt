-- What an engine does with a script.
use Rattle.std.specs.Prelude.{◌≡◌, ◌++◌, ℕ, List, true, Option, Some, None, IfSome}
use Rattle.std.specs.FinMap as map
use Rattle.std.specs.Io.KnownBytes.{Appends}
use Rattle.dbm_model.specs.Bounds.{Bounds}
use Rattle.dbm_model.specs.Calls.{Call, Reply}
use Rattle.dbm_lines.specs.Lines.{bad_line}
use Rattle.dbm_lines.specs.Scripts.{calls_in}
use Rattle.dbm_model.specs.Room.{HasRoom}
use Rattle.dbm_model.specs.States.{Handle, fresh}
use Rattle.dbm_model.specs.Steps.{Run}
use Rattle.dbm_model.specs.Sizes.{is_limit}
use Rattle.page_io.specs.Versions.{model_version}
use Rattle.page_io.specs.declared.store.PageStore.{Ghosts}
use Rattle.page_io.specs.declared.version.Version.{Version}
use Rattle.dbm_file.specs.Answers.{IsStep}
use Rattle.dbm_file.specs.Runs.{IsRun}
use Rattle.dbm_file.specs.declared.database.Database.{Database}
use Rattle.dbm_lines.specs.Forms.{answer_in, reply_line_in, script_in}
use Rattle.dbm_lines.specs.declared.forms.TextForm.{TextForm}

-- the first lines of a text of this form, as the calls that they ask for, and the rest
abbrev pub AreFirstLines : TextForm → Option (List ℕ) → List (Option Call) → Type 0
AreFirstLines form text made = (rest : List (Option Call))
    × IfSome text (λ bytes. script_in form bytes ≡ made ++ rest)

-- The calls of the first lines of the text were made, in order, and no other.
pub record MakesFirst {S : Type 0} {s : Ghosts S} (form : TextForm) (text : Option (List ℕ))
    (old new : Database S s) (start : Handle) : Type 0 where
  pub made : List (Option Call)
  pub first : AreFirstLines form text made
  pub replies : List Reply
  pub run : IsRun old new start (calls_in made) replies

-- the calls of the script were made in order, and exactly the answer to it was written
pub record AnswersScript {S : Type 0} {s : Ghosts S} (form : TextForm)
    (script : List (Option Call)) (old new : Database S s) (start : Handle)
    (before after : Option (List ℕ)) : Type 0 where
  pub replies : List Reply
  pub run : IsRun old new start (calls_in script) replies
  pub written : Appends before after (answer_in form script replies)

-- the first lines of the text were answered so, and no call of a later one was made
pub record AnswersFirst {S : Type 0} {s : Ghosts S} (form : TextForm) (text : Option (List ℕ))
    (old new : Database S s) (start : Handle) (before after : Option (List ℕ)) : Type 0 where
  pub made : List (Option Call)
  pub first : AreFirstLines form text made
  pub answers : AnswersScript form made old new start before after

-- the call of a line was made, or none for a bad line, and Says holds of the line that answers it
abbrev pub AnswersLine : {S : Type 0} {s : Ghosts S} → TextForm → Option Call → Database S s
    → Database S s → Handle → (List ℕ → Type 0) → Type 0
AnswersLine form None old new start Says = (new ≡ old) × Says bad_line
AnswersLine form (Some call) old new start Says =
    (reply : Reply) × IsStep old new start call reply × Says (reply_line_in form reply)

-- the bounds of a new database that is asked for so
abbrev pub asked : ℕ → Version → Bounds
asked limit version = record { limit = limit; version = model_version version }

-- the script was answered by a run of a new database of these bounds, which has room for every list
-- of calls
pub record AnswersInMemory (form : TextForm) (bounds : Bounds) (text : List ℕ)
    (old new : Option (List ℕ)) : Type 0 where
  pub allowed : is_limit bounds.limit ≡ true
  pub before : Handle
  pub empty : before.state ≡ fresh map.empty bounds true
  pub room : HasRoom before
  pub after : Handle
  pub replies : List Reply
  pub run : Run before (calls_in (script_in form text)) replies after
  pub written : Appends old new (answer_in form (script_in form text) replies)
