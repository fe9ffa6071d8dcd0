-- What a store of pages holds, and what a change of it leaves.
use Rattle.std.specs.Prelude.{◌≡◌, ◌⊎◌, ◌↔◌, ◌+◌, ◌*◌, ◌<◌, ◌≤◌, ℕ, true, Result, OnOk, OnErr, IfErr, IsErrOf}
use Rattle.dbm_model.specs.Bounds.{Bounds}
use Rattle.sect_dev.specs.Device.{LeavesOnly}
use Rattle.dbm_model.specs.Pairs.{Contents}
use Rattle.dbm_model.specs.Sizes.{home, most_taken}
use Rattle.page_model.specs.Pages.{Meta}
use Rattle.page_model.specs.Valid.{IsMeta}
use Rattle.page_io.specs.Answers.{HasDeviceCause}
use Rattle.page_io.specs.Store.{Settled}
use Rattle.page_io.specs.Meaning.{ImageStandsFor}
use Rattle.page_io.specs.declared.store.PageStore.{Ghosts}
use Rattle.page_io.specs.declared.store.PageFault.{PageFault}
use Rattle.page_io.specs.declared.store.PageFault.TheVariants.{NoRoom, Damaged}
use Rattle.page_io.specs.Committing.{Holds, IsForgotten, IsUntouched}
use Rattle.linear_hash.specs.Staging.{IsChangeAnswer}

-- an image stands for one of two maps, each with its bounds
abbrev pub StandsForEither : Contents → Bounds → Contents → Bounds → Settled → Type 0
StandsForEither old bounds new wanted settled =
    ImageStandsFor settled old bounds ⊎ ImageStandsFor settled new wanted

-- How the commit of a change ends on any device, where `after` is then kept of the meta page: as
-- below, but that nothing is said of what is kept after an Err.
pub record IsCommitted {S : Type 0} (s : Ghosts S) (old new : S) (after : Meta)
    (result : Result Unit PageFault) : Type 0 where
  pub ok : OnOk result (s.state new ≡ record (s.state old) { end = (s.state new).end })
  pub err : IfErr result (IsForgotten (s.state old) (s.state new))
  pub kept : s.honest old
      → OnErr result ((s.state new).usable ≡ true → IsUntouched s old new)
  pub valid : OnOk result (IsMeta after)
  pub cause : HasDeviceCause (s.faults old) (s.faults new) result
  pub honesty : s.honest new ↔ s.honest old
  pub answer : IsChangeAnswer (s.state old) result

-- How a change ends on any device, where `before` and `after` are kept of the meta page: it is
-- done, or refused with nothing changed, but that a fault of the device may break the store.
pub record IsEnded {S : Type 0} (s : Ghosts S) (old new : S) (before after : Meta)
    (result : Result Unit PageFault) : Type 0 where
  pub ok : OnOk result (s.state new ≡ record (s.state old) { end = (s.state new).end })
  pub err : IfErr result (λ e. IsForgotten (s.state old) (s.state new) e × (after ≡ before))
  -- on any bytes a refusal commits nothing, writes nothing and syncs nothing
  pub kept : s.honest old
      → OnErr result ((s.state new).usable ≡ true → IsUntouched s old new)
  pub valid : IsMeta after
  pub cause : HasDeviceCause (s.faults old) (s.faults new) result
  pub honesty : s.honest new ↔ s.honest old
  pub answer : IsChangeAnswer (s.state old) result

-- What it makes of a file that stood for the map: it stands for the changed one with the wanted
-- bounds, with at most so many pages more and no more than a database of these needs, or is as it
-- was, and at every moment for one of the two. It lacks no room on a device for twice as many pages
-- as such a database needs, nor on one for twice as many as the file then might have.
pub record ChangesMap {S : Type 0} (s : Ghosts S) (old new : S) (before after : Meta)
    (map changed : Contents) (wanted : Bounds) (most : ℕ) (result : Result Unit PageFault)
    : Type 0 where
  pub done : OnOk result (Holds s new after changed)
  pub bounds : OnOk result (after.bounds ≡ wanted)
  pub kept : OnErr result ((s.state new).usable ≡ true → IsUntouched s old new)
  pub any_moment : LeavesOnly s.moment s.settled_since old new
      (StandsForEither map before.bounds changed wanted)
  pub unchanged : OnErr result ((s.state new).usable ≡ true
      → LeavesOnly s.moment s.settled_since old new
      (λ settled. ImageStandsFor settled map before.bounds))
  pub whole : IsErrOf result Damaged → ⊥
  pub grows : OnOk result (((s.state old).end ≤ (s.state new).end)
      × ((s.state new).end ≤ (s.state old).end + most))
  pub bounded : OnOk result ((s.state new).end ≤ home wanted)
  pub no_room : IsErrOf result NoRoom
      → ((s.state old).capacity < 2 * home wanted)
      × ((s.state old).capacity
      < 2 * ((s.state old).end + before.pairs + most_taken before.bounds.version))
