-- What an image settles to.
use Rattle.std.specs.Prelude.{◌≡◌, ◌⊎◌, ◌≤◌, ◌<◌, ◌+◌, ◌*◌, ℕ, true, if◌then◌else◌, length}
use Rattle.sect_dev.specs.Device.{Image, Candidates, IsImageOf, IsStable}
use Rattle.page_io.specs.Page.{page_at}
use Rattle.page_io.specs.Store.{Pages, pages_from, file_pages, overlaid, are_in_order, Settled, blank, file_of, nothing}
use Rattle.redo_area.specs.Header.{header_of}
use Rattle.redo_area.specs.declared.header.Header.{Header}
use Rattle.redo_area.specs.declared.header.Header.TheVariants.{Blank, Clear, Armed, Logging, NotOurs, Damaged}
use Rattle.commit_log.specs.Log.{settled_at}
pub use Rattle.commit_log.specs.Homes.{IsOutsideAll}

-- the redo images of an image
abbrev pub redo_images : Image → ℕ → ℕ → Pages
redo_images image start count = pages_from (page_at image) start count

-- the home pages under these
abbrev pub settled_over : Pages → Image → ℕ → Settled
settled_over redo image end =
    if are_in_order 1 end redo then file_of
    (file_pages (overlaid redo (page_at image)) end) else nothing

abbrev pub settled_by : Header → Image → Settled
settled_by Blank image = blank
settled_by (Clear end) image = file_of (file_pages (page_at image) end)
settled_by (Armed end start count) image = settled_over (redo_images image start count) image end
settled_by (Logging start) image = settled_at image start
settled_by NotOurs image = nothing
settled_by Damaged image = nothing

-- the pages that an image of a device of so many pages settles to
unfoldable pub settled : ℕ → Image → Settled
settled capacity image = settled_by (header_of capacity (image 0)) image

-- all is on the disk, and the commit sector is clear
pub record IsAtRest (capacity end : ℕ) (candidate : Candidates) (seen : Image) : Type 0 where
  pub stable : IsStable candidate seen
  pub header : header_of capacity (seen 0) ≡ Clear end

-- all is on the disk, and the commit sector is armed over these redo images
pub record IsArmed (capacity end start : ℕ) (redo : Pages) (candidate : Candidates)
    (seen : Image) : Type 0 where
  pub stable : IsStable candidate seen
  pub header : header_of capacity (seen 0) ≡ Armed end start (length redo)
  pub images : redo_images seen start (length redo) ≡ redo
  pub in_order : are_in_order 1 end redo ≡ true

-- a sector in front of the end, or of so many pages from page `start` on
abbrev pub IsHeld : ℕ → ℕ → ℕ → ℕ → Type 0
IsHeld end start count m =
    (m < 4 * end) ⊎ ((4 * start ≤ m) × (m < 4 * (start + count)))

-- All is on the disk, and says these pages over those at home. So it does while pages come to their
-- own numbers and others stand behind the end, as long as `count` pages from page `start` on stay:
-- redo images, or a log.
pub record HoldsWaiting (capacity end start count : ℕ) (waiting : Pages) (candidate : Candidates)
    (seen : Image) : Type 0 where
  pub stable : IsStable candidate seen
  pub in_order : are_in_order 1 end waiting ≡ true
  pub settles : (image : Image)
      → ((m : ℕ) → IsOutsideAll waiting m → IsHeld end start count m → image m ≡ seen m)
      → settled capacity image ≡ file_of (file_pages (overlaid waiting (page_at seen)) end)

-- it settles as an image does that the device had at the start
abbrev pub SettlesAsBefore : ℕ → Candidates → Image → Type 0
SettlesAsBefore capacity candidate image =
    (start : Image) × IsImageOf candidate start × (settled capacity image ≡ settled capacity start)

-- a blank device, or a file of these pages
abbrev pub IsBlankOr : Pages → Settled → Type 0
IsBlankOr pages settled = (settled ≡ blank) ⊎ (settled ≡ file_of pages)
