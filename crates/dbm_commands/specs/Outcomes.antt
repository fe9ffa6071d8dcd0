-- A command that makes one call, and how it ends.
use Rattle.std.specs.Prelude.{◌≡◌, Result, Ok, Err}
use Rattle.page_io.specs.declared.store.PageStore.{Ghosts}
use Rattle.dbm_fault.specs.declared.engine_fault.EngineFault.TheVariants.{Db}
use Rattle.dbm_file.specs.Answers.{IsStep}
use Rattle.dbm_file.specs.Calls.{call_of, reply_of}
use Rattle.dbm_file.specs.Database.{AtEachHandle}
use Rattle.dbm_file.specs.Replies.{IsAnswered}
use Rattle.dbm_file.specs.declared.calls.Call.{Call}
use Rattle.dbm_file.specs.declared.calls.Reply.{Reply}
use Rattle.dbm_file.specs.declared.calls.Reply.TheVariants.{Stored, Kept, Deleted, Absent, NoRecord, Upgraded, Refused}
use Rattle.dbm_file.specs.declared.database.Database.{Database}
use Rattle.dbm_commands.specs.declared.outcomes.Outcome.{Outcome}
use Rattle.dbm_commands.specs.declared.outcomes.Outcome.TheVariants.{Done, Nothing}
use Rattle.dbm_commands.specs.declared.outcomes.Failure.{Failure}
use Rattle.dbm_commands.specs.declared.outcomes.Failure.TheVariants.{Fault}

-- the command tells the reply of its call
abbrev pub IsTold : Result Outcome Failure → Reply → Type 0
IsTold result Stored = result ≡ Ok Done
IsTold result Kept = result ≡ Ok Nothing
IsTold result Deleted = result ≡ Ok Done
IsTold result Absent = result ≡ Ok Nothing
IsTold result NoRecord = result ≡ Ok Nothing
IsTold result Upgraded = result ≡ Ok Done
IsTold result (Refused fault) = result ≡ Err (Fault (Db fault))
IsTold result _ = ⊥

-- Exactly this call was made, and Tells holds of its reply.
pub record MakesCall {S : Type 0} {s : Ghosts S} (old new : Database S s) (call : Call)
    (Tells : Reply → Type 0) : Type 0 where
  pub reply : Reply
  pub told : Tells reply
  -- a step of the model, at each handle that an honest database is at
  pub step : AtEachHandle old (λ h. IsStep old new h (call_of call) (reply_of reply))
  -- which replies there are, and what the call read and left, on any device
  pub answered : IsAnswered old new call reply
