-- What the lines of a script tell on any device, whatever its bytes.
use Rattle.std.specs.Prelude.{◌≡◌, ℕ, List, map, Option, Some, None}
use Rattle.std.specs.Io.KnownBytes.{Appends}
use Rattle.dbm_model.specs.Calls as model
use Rattle.dbm_lines.specs.Lines.{bad_line}
use Rattle.dbm_lines.specs.Scripts.{calls_in}
use Rattle.page_io.specs.declared.store.PageStore.{Ghosts}
use Rattle.dbm_file.specs.Calls.{call_of, reply_of}
use Rattle.dbm_file.specs.Replies.{IsAnswered, AreAnswered}
use Rattle.dbm_file.specs.declared.calls.Call.{Call}
use Rattle.dbm_file.specs.declared.calls.Reply.{Reply}
use Rattle.dbm_file.specs.declared.database.Database.{Database}
use Rattle.dbm_lines.specs.Forms.{answer_in, reply_line_in}
use Rattle.dbm_lines.specs.declared.forms.TextForm.{TextForm}

-- the call of a line was made and answered, or none was made for a bad line, and Says holds of the
-- line that tells that
abbrev pub TellsLine : {S : Type 0} {s : Ghosts S} → TextForm → Option model.Call
    → Database S s → Database S s → (List ℕ → Type 0) → Type 0
TellsLine form None old new Says = (new ≡ old) × Says bad_line
TellsLine form (Some call) old new Says =
    (made : Call) × (call_of made ≡ call) × (reply : Reply) × IsAnswered old new made reply
    × Says (reply_line_in form (reply_of reply))

-- the calls of the script were made and answered in order, and exactly the lines that tell that were
-- written
pub record TellsScript {S : Type 0} {s : Ghosts S} (form : TextForm)
    (script : List (Option model.Call)) (old new : Database S s)
    (before after : Option (List ℕ)) : Type 0 where
  pub calls : List Call
  pub calls_are : map call_of calls ≡ calls_in script
  pub replies : List Reply
  pub answered : AreAnswered old new calls replies
  pub written : Appends before after (answer_in form script (map reply_of replies))
