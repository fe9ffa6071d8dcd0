-- The turn number of a file: bytes 0 to 7 of sector 1, big-endian.
use Rattle.std.specs.Prelude.{◌≡◌, ◌≢◌, ◌%◌, ℕ}
use Rattle.sect_dev.specs.Device.{Image, Candidates, IsImageOf}
use Rattle.page_model.specs.Bytes.{u32_at, u32_bytes, overwrite}
use Rattle.redo_area.specs.File.{settled}

-- its lower half is another number, which is odd, and nothing else was written
pub record IsTurned (before after : Image) : Type 0 where
  pub low : ℕ
  pub odd : low % 2 ≡ 1
  pub other : low ≢ u32_at (before 1) 4
  pub written : after 1 ≡ overwrite (before 1) 4 (u32_bytes low)
  pub others : (m : ℕ) → m ≢ 1 → after m ≡ before m

-- it settles as an image does that the device had at the start, and has its commit sector
pub record IsAsBefore (capacity : ℕ) (candidate : Candidates) (image : Image) : Type 0 where
  pub start : Image
  pub at_start : IsImageOf candidate start
  pub same : settled capacity image ≡ settled capacity start
  pub sector : image 0 ≡ start 0
