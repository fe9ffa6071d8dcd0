-- What a stop within a session leaves, by where it comes.
use Rattle.std.specs.Prelude.{◌≡◌, ℕ, ◌/◌, true, List, [], ◌∷◌, ◌++◌, map, take}
use Rattle.sect_dev.specs.Device.{LeavesOnly}
use Rattle.sect_dev.specs.Moments.{IsOutcome}
use Rattle.sect_dev.specs.declared.device.SectorDev.{Ghosts}
use Rattle.page_io.specs.declared.store.PageStore as store
use Rattle.redo_area.specs.File.{settled}
use Rattle.redo_area.specs.declared.pager.Pager.{Pager}
use Rattle.page_cache.specs.declared.cached_pages.CachedPages.{CachedPages}
use Rattle.dbm_model.specs.Calls.{Call, Reply, Stored}
use Rattle.dbm_model.specs.Changes.{replacing}
use Rattle.dbm_model.specs.Pairs.{Pair}
use Rattle.dbm_model.specs.States.{Handle}
use Rattle.dbm_model.specs.Steps.{Run}
use Rattle.dbm_model.specs.Members.{Members, held, opened}
use Rattle.dbm_model.specs.Members as members
use Rattle.dbm_model.specs.Sessions.{Disk, Begins}
use Rattle.dbm_file.specs.Calls.{reply_of}
use Rattle.dbm_file.specs.Database.{IsAt}
use Rattle.dbm_file.specs.Opened.{device_below}
use Rattle.dbm_file.specs.Runs.{IsMadeInSteps}
use Rattle.dbm_file.specs.declared.database.Database.{Database}
use Rattle.rehearsal.specs.Members.{StandsForOne}
use Rattle.rehearsal.specs.declared.sessions.Ending.{Ending}
use Rattle.rehearsal.specs.declared.sessions.Ending.TheVariants.{Rested, Unsettled, Broke, BrokeGroup}

-- the replies, where the calls were made
abbrev pub IfMade : Ending → (List Reply → Type 0) → Type 0
IfMade (Rested replies stored) P = P (map reply_of replies.items)
IfMade (Unsettled replies stored) P = P (map reply_of replies.items)
IfMade (Broke replies) P = P (map reply_of replies.items)
IfMade (BrokeGroup replies) P = P (map reply_of replies.items)
IfMade ending P = Unit {0}

-- From the moment on at which the last call had answered, which left this handle, a stop leaves what
-- that holds, or that with the first pairs of the group, so many in each image.
pub record EndsFrom {D : Type 0} (bound : Ghosts D) (old new : D) (last : Handle)
    (group : List Pair) : Type 0 where
  pub count : ℕ
  pub stored : Handle
  pub run : Run (record last { faults = stored.faults }) (map replacing (take count group))
      (map (λ _. Stored) (take count group)) stored
  pub leaves : LeavesOnly bound.moment
      (IsOutcome bound.left_since (settled (bound.sectors old / 4))) old new
      (StandsForOne (held last.state ∷ held stored.state ∷ []))

-- The calls were made from this database on. Each is a step on the database that the call before it
-- left, so a stop that comes when a call had answered leaves what a later call leaves, or what is
-- left behind them all.
pub record MadeInSteps {D : Type 0} (bound : Ghosts D) (p : store.Ghosts (Pager D bound))
    (s : store.Ghosts (CachedPages (Pager D bound) p))
    (first : Database (CachedPages (Pager D bound) p) s) (new : D) (h : Handle)
    (calls : List Call) (group : List Pair) (replies : List Reply) : Type 0 where
  pub last : Database (CachedPages (Pager D bound) p) s
  pub made : IsMadeInSteps first last h calls replies
  pub ends : made.after.state.usable ≡ true
      → EndsFrom bound (device_below last) new made.after group

-- The opening gave a database at a handle that the session may begin with. A stop within the opening
-- leaves what there was, or what it makes of that; the calls then go in steps.
pub record GoesInSteps {D : Type 0} (bound : Ghosts D) (p : store.Ghosts (Pager D bound))
    (s : store.Ghosts (CachedPages (Pager D bound) p)) (disk : Disk) (before : Members)
    (how : members.Opening) (old new : D) (calls : List Call) (group : List Pair)
    (replies : List Reply) : Type 0 where
  pub first : Database (CachedPages (Pager D bound) p) s
  pub h : Handle
  pub is_at : IsAt first h
  pub begins : Begins disk before how h
  pub opening : LeavesOnly bound.moment
      (IsOutcome bound.left_since (settled (bound.sectors old / 4))) old (device_below first)
      (StandsForOne (before ++ map (opened how) before))
  pub steps : MadeInSteps bound p s first new h calls group replies
