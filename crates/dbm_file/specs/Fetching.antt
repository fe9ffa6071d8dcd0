-- Where a content is that was found, in an open database.
use Rattle.std.specs.Prelude.{◌≤◌, ℕ, List, length, Option, Some, None}
use Rattle.page_io.specs.declared.store.PageStore.{Ghosts}
use Rattle.dbm_file.specs.Database.{meta_kept}
use Rattle.dbm_file.specs.Rooms.{longest_content}
use Rattle.dbm_file.specs.declared.database.Database.{Database}
use Rattle.dbm_file.specs.declared.database.Found.{Found}
use Rattle.dbm_file.specs.declared.database.Found.TheVariants.{Near, Far}

-- its bytes
abbrev pub content_in : {S : Type 0} {s : Ghosts S} → Database S s → Option Found
    → Option (List ℕ)
content_in db None = None
content_in db (Some Near) = Some db.near.items
content_in db (Some Far) = Some db.far.items

-- on any device no content is longer than the version allows
abbrev pub IsShort : {S : Type 0} {s : Ghosts S} → Database S s → Found → Type 0
IsShort db Near = Unit {0}
IsShort db Far = length db.far.items ≤ longest_content (meta_kept db).bounds.version
