-- A record of the code.
use Rattle.std.specs.Prelude.{◌≤◌}
use Rattle.dbm_model.specs.Bounds.{Version}
use Rattle.page_model.specs.Pages.{Record}
use Rattle.page_model.specs.Slots.{size}
use Rattle.page_model.specs.Valid.{IsRecord, IsOf}
use Rattle.bucket_chain.specs.declared.pair.Pair as code

-- as one of the model
abbrev pub record_as : code.Pair → Record
record_as pair = record { key = pair.key.items; bytes = pair.content.items; far = pair.far }

-- it may be put into a page of this version
pub record IsSmall (version : Version) (r : Record) : Type 0 where
  pub few : size r ≤ 2026
  pub told : IsRecord r
  pub of_version : IsOf version r
