-- The two slots of a log, which commits in a row take by turns.
use Rattle.std.specs.Prelude.{◌≡◌, ◌≢◌, ◌==◌, ◌≤◌, ◌<◌, ℕ, zero, suc, ◌+◌, ◌*◌, Bool, true, false, ◌&&◌, ◌||◌, not, nat_le, nat_lt, if◌then◌else◌, List, [], ◌++◌, take, drop, length}
use Rattle.sect_dev.specs.Device.{Image, Candidates, IsStable, part_of}
use Rattle.page_model.specs.Bytes.{u32_at}
use Rattle.page_io.specs.Page.{page_at, IsOutside}
use Rattle.commit_log.specs.Homes.{IsOutsideAll}
use Rattle.page_io.specs.Store.{Pages, Settled, file_of, nothing, pages_from, file_pages, overlaid, are_in_order}

-- the commit of a slot: its number, the end of the file after it, and the pages that it has
pub record Log : Type 0 where
  pub number : ℕ
  pub end : ℕ
  pub pages : Pages

-- no commit has number 0
abbrev pub no_log : Log
no_log = record { number = 0; end = 0; pages = [] }

-- the sectors of a slot, from the first one on
abbrev pub Slot : Type 0
Slot = ℕ → List ℕ

abbrev pub slot_of : Image → ℕ → Slot
slot_of image at k = image (at + k)

-- so many sectors behind the first one begin with this number
abbrev pub carry : Slot → ℕ → ℕ → Bool
carry slot number zero = true
carry slot number (suc count) = (u32_at (slot (1 + count)) 0 == number) && carry slot number count

-- these sectors with the bytes again that the number took the place of, which the first one has
abbrev pub unstamped : Slot → Image
unstamped slot k = take 4 (drop (16 + 4 * k) (slot 0)) ++ drop 4 (slot (1 + k))

-- the pages of a slot
abbrev pub logged : Slot → Pages
logged slot = pages_from (page_at (unstamped slot)) 0 (u32_at (slot 0) 4)

-- the fields of a slot's first sector are in range: a number from 1 on, 1 to 15 pages, and an end
-- that is not behind the log
abbrev pub is_in_range : ℕ → List ℕ → Bool
is_in_range start first =
    (nat_le 1 (u32_at first 0) && (nat_le 1 (u32_at first 4) && nat_le (u32_at first 4) 15))
    && (nat_le 4 (u32_at first 8) && nat_le (u32_at first 8) start)

abbrev pub log_of : ℕ → List ℕ → Bool → Pages → Log
log_of start first all pages =
    if (is_in_range start first && all) && are_in_order 1 (u32_at first 8) pages
    then record { number = u32_at first 0; end = u32_at first 8; pages = pages }
    else no_log

-- What a slot says: a commit where all sectors that the first one counts carry its number.
unfoldable pub log_by : ℕ → Slot → Log
log_by start slot =
    log_of start (slot 0) (carry slot (u32_at (slot 0) 0) (4 * u32_at (slot 0) 4)) (logged slot)

-- Whether a slot is whole and the numbers of its pages are out of order: no commit leaves one.
unfoldable pub is_disordered : ℕ → Slot → Bool
is_disordered start slot =
    (is_in_range start (slot 0) && carry slot (u32_at (slot 0) 0) (4 * u32_at (slot 0) 4))
    && not (are_in_order 1 (u32_at (slot 0) 8) (logged slot))

-- whether one of the two slots is
abbrev pub has_disordered : Image → ℕ → Bool
has_disordered image start =
    is_disordered start (slot_of image (4 * start))
    || is_disordered start (slot_of image (4 * start + 64))

-- the pages of the older commit stand over those at home, and those of the newer over both
abbrev pub settled_newer : Log → Log → (ℕ → List ℕ) → Settled
settled_newer older newer home =
    if newer.number == 0 then nothing
    else file_of (file_pages (overlaid newer.pages (overlaid older.pages home)) newer.end)

-- of two slots the one with the greater number is the newer one
abbrev pub settled_logs : Log → Log → (ℕ → List ℕ) → Settled
settled_logs first second home =
    if nat_lt second.number first.number then settled_newer second first home
    else settled_newer first second home

-- the pages that an image settles to whose commit sector names a log from page `start` on
abbrev pub settled_at : Image → ℕ → Settled
settled_at image start =
    if has_disordered image start then nothing
    else settled_logs (log_by start (slot_of image (4 * start)))
    (log_by start (slot_of image (4 * start + 64))) (page_at image)

-- the first sectors of both slots, in this order or the other
pub record ArePlaces (start at beside : ℕ) : Type 0 where
  pub first : at ≡ 4 * start → beside ≡ 4 * start + 64
  pub second : at ≢ 4 * start → (at ≡ 4 * start + 64) × (beside ≡ 4 * start)

-- All is on the disk, and the newest commit of the log, of this number, is in the slot from sector
-- `at` on.
pub record IsLogged (end start number at beside : ℕ) (waiting : Pages) (candidate : Candidates)
    (seen : Image) : Type 0 where
  pub stable : IsStable candidate seen
  pub places : ArePlaces start at beside
  pub newest : log_by start (slot_of seen at)
      ≡ record { number = number; end = end; pages = waiting }
  pub some : 1 ≤ number
  pub in_order : are_in_order 1 end waiting ≡ true
  pub least : 4 ≤ end
  pub above : end ≤ start
  -- no sector of this slot has a greater number, and each of the other one has a lower one
  pub highest : (k : ℕ) → k < 61 → u32_at (seen (at + k)) 0 ≤ number
  pub lower : (k : ℕ) → k < 61 → u32_at (seen (beside + k)) 0 < number
  -- the other slot says an older commit, or is not whole
  pub ordered : is_disordered start (slot_of seen beside) ≡ false
  -- what the older commit says is at home, or waits
  pub said : (n : ℕ)
      → overlaid waiting (overlaid (log_by start (slot_of seen beside)).pages (page_at seen)) n
      ≡ overlaid waiting (page_at seen) n

-- the bytes of a slot that has this commit
pub record Spells (start number end : ℕ) (pages : Pages) (bytes : List ℕ) : Type 0 where
  pub says : log_by start (part_of bytes) ≡ record { number = number; end = end; pages = pages }
  pub long : 512 * (1 + 4 * length pages) ≤ length bytes
  pub few : length pages ≤ 15
  pub stamped : (k : ℕ) → k < 1 + 4 * length pages → u32_at (part_of bytes k) 0 ≡ number
  pub counted : u32_at (part_of bytes 0) 4 ≡ length pages

-- a sector of neither slot, and of none of these pages
abbrev pub IsBesideLog : ℕ → Pages → ℕ → Type 0
IsBesideLog start pages m = IsOutside (4 * start) (4 * start + 128) m × IsOutsideAll pages m
