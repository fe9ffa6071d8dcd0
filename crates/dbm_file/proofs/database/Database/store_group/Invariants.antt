use Rattle.std.specs.Prelude.{Some}
use Rattle.dbm_file.proofs.database.Database.store_group.Given as goal

abbrev pub ghosts-store_lent : goal.ghosts-store_lent
ghosts-store_lent g a = record { name = a.base.ghost_name; began = Some a.base.now }
