-- A database whose last commit is brought to its places.
use Rattle.std.specs.Prelude.{◌≡◌, true}
use Rattle.dbm_model.specs.States.{Handle}
use Rattle.page_io.specs.declared.store.PageStore.{Ghosts}
use Rattle.dbm_file.specs.Held.{held_by}
use Rattle.dbm_file.specs.Answers.{Survives}
use Rattle.dbm_file.specs.Database.{page_state, handle_of, IsAt}
use Rattle.dbm_file.specs.declared.database.Database.{Database}

-- a database at this handle has the same pairs, and every image of every moment stands for them
pub record StandsStill {S : Type 0} {s : Ghosts S} (old new : Database S s)
    (h : Handle) : Type 0 where
  pub is_at : IsAt new (handle_of new h.state.map)
  pub survives : (page_state old).usable ≡ true → Survives old new (λ left. left ≡ held_by h.state)
