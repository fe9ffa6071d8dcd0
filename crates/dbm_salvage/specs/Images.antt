-- Redo images that lie over the pages of a file.
use Rattle.std.specs.Prelude.{◌≡◌, ◌≢◌, ◌⊎◌, ℕ, ◌+◌, ◌*◌, ◌<◌, ◌≤◌, ◌==◌, if◌then◌else◌, List, slice_index_or}
use Rattle.sect_dev.specs.Device.{Image}
use Rattle.page_model.specs.Reading.{own_number}
use Rattle.page_io.specs.Page.{page_at}
use Rattle.dbm_salvage.specs.Salvage.{ReadsAs}

-- where page n stands: where its redo image does, or at its own number, for which the list has 0
-- or nothing
abbrev pub place : List ℕ → ℕ → ℕ
place places n = if slice_index_or places n 0 == 0 then n else slice_index_or places n 0

-- each page of so many stands on the device
abbrev pub AreOnDevice : List ℕ → ℕ → ℕ → Type 0
AreOnDevice places pages sectors =
    (n : ℕ) → n < pages → 4 * place places n + 4 ≤ sectors

-- page `at` has the number n, which is that of a page of a file of so many, and reads as this page
pub record IsImageFor (image : Image) (pages at n : ℕ) : Type 0 where
  pub own : own_number (page_at image at) ≡ n
  pub some : 1 ≤ n
  pub below : n < pages
  pub reads : ReadsAs n (page_at image at)

-- the image that stands at page `at` lies over page n, where nothing or another one did
pub record IsLaidAt (old : List ℕ) (n at : ℕ) (new : List ℕ) : Type 0 where
  pub here : place new n ≡ at
  pub others : (m : ℕ) → m ≢ n → place new m ≡ place old m

-- Of the redo images from page `start` on, `count` of them, those that read as pages of a file of so
-- many pages lie over these, and nothing else does; `lost` is 0 just where all of them read so.
-- `Faulted` is that the device failed.
pub record AreLaid (image : Image) (pages start count : ℕ) (Faulted : Type 0)
    (places : List ℕ) (lost : ℕ) : Type 0 where
  pub from : (n : ℕ) → (place places n ≡ n)
      ⊎ ((at : ℕ) × (start ≤ at) × (at < start + count) × (place places n ≡ at)
      × IsImageFor image pages at n)
  pub all : (at n : ℕ) → start ≤ at → at < start + count → IsImageFor image pages at n
      → Faulted ⊎ (place places n ≢ n)
  pub none_lost : lost ≡ 0 → (at : ℕ) → start ≤ at → at < start + count
      → (n : ℕ) × IsImageFor image pages at n
  pub some_lost : 1 ≤ lost → Faulted ⊎ ((at : ℕ) × (start ≤ at) × (at < start + count)
      × ((n : ℕ) → IsImageFor image pages at n → ⊥))
