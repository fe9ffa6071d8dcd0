-- What the code's `Meta` says, and the header of the meta page.
use Rattle.std.specs.Prelude.{◌≡◌, ◌≢◌, ◌≤◌, ℕ, ◌+◌, ◌*◌, List}
use Rattle.page_model.specs.Bytes.{u32_at}
use Rattle.page_model.specs.Pages as model
use Rattle.page_model.specs.Reading.{next_of, IsClear}
use Rattle.lin_addr.specs.Shapes.{CanBe}
use Rattle.page_io.specs.Plain.{HasPlainHeader}
use Rattle.page_io.specs.Versions.{model_version}
use Rattle.seg_table.specs.declared.meta.Meta.{Meta}

-- what a meta page of it says
abbrev pub model_meta : Meta → model.Meta
model_meta m = record {
  bounds = record { limit = m.limit; version = model_version m.version };
  pairs = m.pairs;
  level = m.shape.level;
  split = m.shape.split;
  free_head = m.free_head;
  free_count = m.free_count;
  segments = m.segments.items;
}

-- page 1, the meta page, with no next page
pub record HasMetaHeader (bytes : List ℕ) : Type 0 where
  pub header : HasPlainHeader bytes 1 1
  pub no_next : next_of bytes ≡ 0

-- no version has this number
abbrev pub IsUnknown : ℕ → Type 0
IsUnknown number = (number ≢ 1) × (number ≢ 2)

-- behind the version: a shape, no more segments than there is room for, and zeros where nothing
-- else stands
pub record IsMetaLayout (bytes : List ℕ) : Type 0 where
  pub shape : CanBe (u32_at bytes 28) (u32_at bytes 32)
  pub few : u32_at bytes 44 ≤ 496
  pub zeros : IsClear bytes 48 64
  pub rest : IsClear bytes (64 + 4 * u32_at bytes 44) 2048
