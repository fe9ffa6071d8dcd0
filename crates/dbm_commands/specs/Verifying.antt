-- What is printed of a file that was looked through.
use Rattle.std.specs.Prelude.{ℕ, List, [], ◌∷◌, Option}
use Rattle.std.specs.Fmt.{decimal}
use Rattle.std.specs.Io.KnownBytes.{Appends}
use Rattle.page_io.specs.Store.{Pages}
use Rattle.dbm_lines.specs.Lines.{with_line_feed}
use Rattle.dbm_fault.specs.declared.engine_fault.EngineFault.TheVariants.{Memory, Write, Db}
use Rattle.dbm_fault.specs.declared.fault.Fault.TheVariants.{Broken, Device, Damaged}
use Rattle.dbm_file.specs.Verifying.{IsFileOf}
use Rattle.dbm_commands.specs.declared.outcomes.Failure.{Failure}
use Rattle.dbm_commands.specs.declared.outcomes.Failure.TheVariants.{Fault}

-- the pages are a good file, and how many pairs it has was printed in a line
pub record TellsPairs (pages : Pages) (old new : Option (List ℕ)) : Type 0 where
  pub pairs : ℕ
  pub is_file : IsFileOf pages pairs
  pub printed : Appends old new (with_line_feed (decimal pairs))

abbrev pub verify_failures : List Failure
verify_failures =
    Fault Memory ∷ Fault (Db Broken) ∷ Fault (Db Device) ∷ Fault (Db Damaged) ∷ Fault Write ∷ []
