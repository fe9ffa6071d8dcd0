-- What may be committed, and what a commit or its refusal leaves.
use Rattle.std.specs.Prelude.{◌≡◌, ◌⊎◌, ◌<◌, ◌≤◌, ℕ, [], true, false, length}
use Rattle.dbm_model.specs.Pairs.{Contents}
use Rattle.page_model.specs.Pages.{Meta, MetaPage}
use Rattle.page_model.specs.Meaning.{said_by}
use Rattle.page_io.specs.Store.{StoreState, AllBelow, has_page, page_of}
use Rattle.page_io.specs.Meaning.{FileStandsFor}
use Rattle.page_io.specs.declared.store.PageStore.{Ghosts}
use Rattle.page_io.specs.declared.store.PageFault.{PageFault}
use Rattle.page_io.specs.declared.store.PageFault.TheVariants.{Device}

-- the staged pages can be committed with this end: they are below it, and those behind the old end
-- are among them
pub record MayCommit (state : StoreState) (end : ℕ) : Type 0 where
  pub below : AllBelow end state.staged
  pub grown : (n : ℕ) → state.end ≤ n → n < end → has_page state.staged n ≡ true
  pub some : 0 < length state.staged
  pub least : 4 ≤ end

-- the committed pages stand for the map, and the meta page says what is kept of it
pub record Holds {S : Type 0} (s : Ghosts S) (store : S) (m : Meta) (map : Contents) : Type 0 where
  pub stands : FileStandsFor (s.committed store) map m.bounds
  pub meta_is : said_by (page_of (s.committed store)) 1 ≡ MetaPage m

-- no page was committed, nothing was written and nothing synced
pub record IsUntouched {S : Type 0} (s : Ghosts S) (old new : S) : Type 0 where
  pub committed : s.committed new ≡ s.committed old
  pub still : (s.moment new).at ≡ (s.moment old).at

-- what was staged is forgotten, and the store broken where the device was the cause of the fault in
-- a commit
abbrev pub IsForgotten : StoreState → StoreState → PageFault → Type 0
IsForgotten old new fault = (new ≡ record old { staged = [] })
    ⊎ ((fault ≡ Device) × (new ≡ record old { staged = []; usable = false }))
