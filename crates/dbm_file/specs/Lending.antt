-- What a call leaves once the bytes that it lends have ended.
use Rattle.std.specs.Prelude.{◌≡◌, IfOk}
use Rattle.dbm_model.specs.Calls.{Call, Reply}
use Rattle.dbm_model.specs.States.{Handle}
use Rattle.page_io.specs.declared.store.PageStore.{Ghosts}
use Rattle.dbm_file.specs.Calls.{Lent}
use Rattle.dbm_file.specs.Database.{store_of, IsAt}
use Rattle.dbm_file.specs.Answers.{IsStep, IsCallEnded}
use Rattle.dbm_file.specs.Passing.{pass_of, pass_after}
use Rattle.dbm_file.specs.declared.database.Database.{Database}

-- a step of the call, whose reply is told so
pub record Lends {S : Type 0} {s : Ghosts S} (call : Call) (reply_of : Lent → Reply)
    (old : Database S s) (result : Lent) (new : Database S s) : Type 0 where
  pub step : s.honest (store_of old) → (h : Handle) → IsAt old h
      → IsStep old new h call (reply_of result)
  pub keeps : IsCallEnded old new result
  -- on any bytes
  pub stands : IfOk result (λ found. pass_of new ≡ pass_after call found (pass_of old))
