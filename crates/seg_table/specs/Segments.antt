-- Segment pages.
use Rattle.std.specs.Prelude.{◌≡◌, ℕ, ◌-◌, ◌*◌, List, length, min, All}
use Rattle.page_model.specs.Numbers.{IsNumber}
use Rattle.page_model.specs.Pages as model
use Rattle.page_model.specs.Pages.{SegmentPage}
use Rattle.page_model.specs.Reading.{heads_on}
use Rattle.page_model.specs.Spelling.{segment_spelling}
use Rattle.page_model.specs.Valid.{meta_buckets, MaySay}

-- how many buckets of segment s exist
abbrev pub heads_in : model.Meta → ℕ → ℕ
heads_in m s = min (meta_buckets m - 508 * s) 508

-- the page is spelled as a segment page with so many heads, which may be any numbers
pub record IsSegment (bytes : List ℕ) (own count : ℕ) : Type 0 where
  pub heads : List ℕ
  pub many : length heads ≡ count
  pub numbers : All IsNumber heads
  pub spelled : bytes ≡ segment_spelling own heads

-- the page is spelled with the heads that are read of it, which page `own` may say
pub record IsSpelledSegment (bytes : List ℕ) (own : ℕ) : Type 0 where
  pub valid : MaySay own (SegmentPage (heads_on bytes))
  pub spelled : bytes ≡ segment_spelling own (heads_on bytes)
