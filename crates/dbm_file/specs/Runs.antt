-- How a list of calls is answered, and what it leaves.
use Rattle.std.specs.Prelude.{◌≡◌, ◌⊎◌, true, false, List, [], ◌∷◌, ◌++◌}
use Rattle.dbm_model.specs.Calls.{Call, Reply, Refused, Device}
use Rattle.dbm_model.specs.States.{State, Handle}
use Rattle.dbm_model.specs.Steps.{Step, Run}
use Rattle.page_io.specs.Store.{Settled}
use Rattle.page_io.specs.declared.store.PageStore.{Ghosts}
use Rattle.dbm_file.specs.Answers.{MayBeLeft, StandsForSome, Survives, IsStep}
use Rattle.dbm_file.specs.Database.{store_of, page_state, IsAt}
use Rattle.dbm_file.specs.Held.{Held, held_by, held_asked}
use Rattle.dbm_file.specs.declared.database.Database.{Database}

-- what a stop within these calls, answered so, may leave: what a stop within one of them may
abbrev pub MayBeLeftWithin : Handle → List Call → List Reply → Handle → Held → Type 0
MayBeLeftWithin before [] [] after left = (after ≡ before) × (left ≡ held_by before.state)
MayBeLeftWithin before (call ∷ calls) (reply ∷ replies) after left =
    (mid : Handle) × Step before call reply mid
    × ((MayBeLeft before mid call left × Run mid calls replies after)
    ⊎ MayBeLeftWithin mid calls replies after left)
MayBeLeftWithin before [] (reply ∷ replies) after left = ⊥
MayBeLeftWithin before (call ∷ calls) [] after left = ⊥

-- what may be left where the call broke the database: what was held before it, or what it asks for
abbrev pub IsInDoubt : State → Call → Held → Type 0
IsInDoubt before call left = (left ≡ held_by before) ⊎ (left ≡ held_asked before call)

-- Where the calls broke the database: those before the one that broke it leave it usable, and each
-- image that a stop may leave now stands for what they left, or for what the call asks for which
-- broke it.
pub record IsBreak {S : Type 0} {s : Ghosts S} (new : Database S s) (before : Handle)
    (calls : List Call) (replies : List Reply) (after : Handle) : Type 0 where
  pub earlier : List Call
  pub answered : List Reply
  pub call : Call
  pub later : List Call
  pub refused : List Reply
  pub calls_are : calls ≡ earlier ++ call ∷ later
  pub replies_are : replies ≡ answered ++ Refused Device ∷ refused
  pub sound : Handle
  pub run : Run before earlier answered sound
  pub usable : sound.state.usable ≡ true
  pub broken : Handle
  pub step : Step sound call (Refused Device) broken
  pub breaks : broken.state.usable ≡ false
  pub rest : Run broken later refused after
  pub in_doubt : (settled : Settled) → s.settles_to (store_of new) settled
      → StandsForSome (IsInDoubt sound.state call) settled

-- A list of calls on a database at this handle: steps of the model one after another, and what a
-- stop leaves within them and after them.
pub record IsRun {S : Type 0} {s : Ghosts S} (old new : Database S s) (before : Handle)
    (calls : List Call) (replies : List Reply) : Type 0 where
  pub after : Handle
  pub run : Run before calls replies after
  pub is_at : IsAt new after
  pub survives : (page_state old).usable ≡ true
      → Survives old new (MayBeLeftWithin before calls replies after)
  pub breaks : (page_state old).usable ≡ true → (page_state new).usable ≡ false
      → IsBreak new before calls replies after

-- The databases between the calls: each call is a step on the one that the call before it left, so
-- from the moment on at which it began, and until it has answered, a stop leaves what one within it
-- may.
abbrev pub AreSteps : {S : Type 0} {s : Ghosts S} → Database S s → Database S s → Handle → List Call
    → List Reply → Handle → Type 0
AreSteps old new before [] [] after = (new ≡ old) × (after ≡ before)
AreSteps {S} {s} old new before (call ∷ calls) (reply ∷ replies) after =
    (mid : Database S s) × (step : IsStep old mid before call reply)
    × AreSteps mid new step.after calls replies after
AreSteps old new before [] (reply ∷ replies) after = ⊥
AreSteps old new before (call ∷ calls) [] after = ⊥

-- A list of calls made one after another, each in a commit of its own.
pub record IsMadeInSteps {S : Type 0} {s : Ghosts S} (old new : Database S s) (before : Handle)
    (calls : List Call) (replies : List Reply) : Type 0 where
  pub after : Handle
  pub is_at : IsAt new after
  pub steps : AreSteps old new before calls replies after
