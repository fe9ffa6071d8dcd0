-- What holds once a lent slice has ended.
use Rattle.std.specs.Prelude.{⊤}
use Rattle.std.specs.Borrow.{MutBor, Fml, RattleType, follows_so}
use mathlib.Core.Option.{none}
use Rattle.page_io.specs.declared.store.PageStore as store
use Rattle.dbm_file.specs.contracts.database.Database.{the_row}
use Rattle.dbm_file.specs.declared.database.Database.{Database}

module _ (S : RattleType) (pages : store.Ghosts S.Denot) where
  -- once the lent slice has ended, the database is one of which P holds
  abbrev pub EndsAs : MutBor (Database S.Denot pages) → (Database S.Denot pages → Type 0) → Fml
  EndsAs s P = follows_so (the_row S pages) (the_row S pages) s.ghost_name none (λ _ _. ⊤) P
