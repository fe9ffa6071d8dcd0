-- What an opening finds, makes, empties or refuses.
use Rattle.std.specs.Prelude.{◌≡◌, ◌⊎◌, ℕ, ◌+◌, ◌/◌, nat_lt, Bool, true, false, ◌&&◌, not, List, length, Option, Some, None, if◌then◌else◌}
use Rattle.std.specs.FinMap.{empty}
use Rattle.std.specs.Option.{option_or}
use Rattle.dbm_model.specs.Bounds.{Bounds}
use Rattle.page_io.specs.Versions.{model_version}
use Rattle.sect_dev.specs.Device.{Image, Candidates, IsImageOf}
use Rattle.page_model.specs.Bytes.{u32_at}
use Rattle.page_model.specs.Pages.{Meta, MetaPage}
use Rattle.dbm_model.specs.Pairs.{Contents}
use Rattle.page_model.specs.PageBodies.{meta_of}
use Rattle.page_model.specs.Placement.{fresh_placement}
use Rattle.page_model.specs.Reading.{body_of}
use Rattle.dbm_model.specs.Sizes.{sectors_for}
use Rattle.page_model.specs.Valid.{IsMeta}
use Rattle.page_io.specs.Store.{Pages, Settled, blank, file_of, nothing, page_of}
use Rattle.page_io.specs.Meaning.{ImageStandsFor}
use Rattle.seg_table.specs.MetaPages.{HasMetaHeader, IsUnknown}
use Rattle.redo_area.specs.Header.{has_magic}
use Rattle.redo_area.specs.File.{settled}
use Rattle.redo_area.specs.Opening.{SaysUnsettled}
use Rattle.redo_area.specs.Settling.{SettlesTo}
use Rattle.file_opening.specs.declared.open_how.Access.{Access}
use Rattle.file_opening.specs.declared.open_how.Access.TheVariants as access
use Rattle.file_opening.specs.declared.open_how.OpenHow.{OpenHow}
use Rattle.dbm_fault.specs.declared.fault.Fault.{Fault}
use Rattle.dbm_fault.specs.declared.fault.Fault.TheVariants.{Memory, ReadOnly, NoRoom, NotADatabase, Version, TooSmall, BadLimit, Exists, Damaged}

-- ---- what is asked

-- stores and deletes are allowed (POSIX: one opened for writing only is opened for reading and
-- writing)
abbrev pub writes : Access → Bool
writes access.ReadOnly = false
writes access.WriteOnly = true
writes access.ReadWrite = true

-- the bounds of a database that it makes or empties
abbrev pub bounds_of : OpenHow → Bounds
bounds_of how = record { limit = how.limit; version = model_version how.version }

-- no database may be there
abbrev pub is_exclusive : OpenHow → Bool
is_exclusive how = how.create && how.exclusive

-- ---- why it is refused

-- what refuses an opening before the device is called, if anything does
abbrev pub early_fault : OpenHow → ℕ → Option Fault
early_fault how sectors = if how.truncate && not (writes how.access) then Some ReadOnly
    else (if nat_lt sectors 16 then Some TooSmall else None)

-- a device of so many sectors has room for a database that needs so many, if its limit is one
abbrev pub room_fault : Option ℕ → ℕ → Option Fault
room_fault None sectors = Some BadLimit
room_fault (Some needed) sectors = if nat_lt sectors needed then Some TooSmall else None

-- why no database is made on a blank device, if none is
abbrev pub making_fault : OpenHow → ℕ → Option Fault
making_fault how sectors = if not how.create then Some NotADatabase
    else (if not (writes how.access) then Some ReadOnly
    else room_fault (sectors_for (bounds_of how)) sectors)

-- a commit of the three pages of an empty database has no room behind a file that ends there
abbrev pub commit_fault : ℕ → ℕ → Option Fault
commit_fault sectors end = if nat_lt (sectors / 4) (end + 3) then Some NoRoom else None

-- why a database whose file ends there is not emptied with those bounds, if it is not
abbrev pub emptying_fault : Bounds → ℕ → ℕ → Option Fault
emptying_fault bounds sectors end =
    option_or (room_fault (sectors_for bounds) sectors) (commit_fault sectors end)

-- a good meta page
pub record SaysMeta (bytes : List ℕ) : Type 0 where
  pub meta : Meta
  pub valid : IsMeta meta
  pub says : body_of 1 bytes ≡ MetaPage meta

abbrev pub SaysNoMeta : List ℕ → Type 0
SaysNoMeta bytes = (m : Meta) → IsMeta m → body_of 1 bytes ≡ MetaPage m → ⊥

-- why a meta page is refused: its version is looked at once its header is good, and before all else
abbrev pub RefusesMeta : List ℕ → Fault → Type 0
RefusesMeta bytes Version = SaysNoMeta bytes × HasMetaHeader bytes × IsUnknown (u32_at bytes 16)
RefusesMeta bytes Damaged =
    SaysNoMeta bytes × (HasMetaHeader bytes → IsUnknown (u32_at bytes 16) → ⊥)
RefusesMeta bytes _ = ⊥

-- why a file is refused: its meta page, and then where it was to be emptied
abbrev pub RefusesFile : OpenHow → ℕ → Pages → Fault → Type 0
RefusesFile how sectors pages fault =
    RefusesMeta (page_of pages 1) fault
    ⊎ (SaysMeta (page_of pages 1) × (how.truncate ≡ true)
    × (emptying_fault (bounds_of how) sectors (length pages + 1) ≡ Some fault))

-- the same where no database may be there
abbrev pub RefusesFound : OpenHow → ℕ → Pages → Fault → Type 0
RefusesFound how sectors pages fault =
    ((is_exclusive how ≡ true) × (fault ≡ Exists))
    ⊎ ((is_exclusive how ≡ false) × RefusesFile how sectors pages fault)

abbrev pub RefusesBy : Settled → OpenHow → ℕ → Image → Fault → Type 0
RefusesBy blank how sectors image fault = making_fault how sectors ≡ Some fault
RefusesBy (file_of pages) how sectors image fault = RefusesFound how sectors pages fault
RefusesBy nothing how sectors image fault =
    fault ≡ (if is_exclusive how then Exists
    else (if has_magic (image 0) then Damaged else NotADatabase))

-- the same, or want of memory for its pages where it was to be emptied
abbrev pub RefusesOpened : OpenHow → ℕ → Pages → Fault → Type 0
RefusesOpened how sectors pages fault =
    RefusesFound how sectors pages fault ⊎ ((fault ≡ Memory) × (how.truncate ≡ true))

-- memory is taken for the pages of an emptied database, and for redo images that may not be written
abbrev pub TakesMemory : OpenHow → ℕ → Image → Type 0
TakesMemory how sectors image =
    (how.truncate ≡ true) ⊎ ((writes how.access ≡ false) × SaysUnsettled (sectors / 4) image)

-- why an opening of a device with this image is refused
abbrev pub Refuses : OpenHow → ℕ → Image → Fault → Type 0
Refuses how sectors image fault =
    RefusesBy (settled (sectors / 4) image) how sectors image fault
    ⊎ ((fault ≡ Memory) × TakesMemory how sectors image)

-- the fault is that of an image that the device had at the start, and for writing what a stop now
-- leaves settles as it does
pub record IsRefusedOpening (how : OpenHow) (sectors : ℕ) (start now : Candidates)
    (fault : Fault) : Type 0 where
  pub image : Image
  pub at_start : IsImageOf start image
  pub refuses : Refuses how sectors image fault
  pub left : writes how.access ≡ true → (after : Image) → IsImageOf now after
      → settled (sectors / 4) after ≡ settled (sectors / 4) image

-- nothing that is asked refuses what the device holds
abbrev pub Allows : OpenHow → ℕ → Settled → Type 0
Allows how sectors blank = making_fault how sectors ≡ None
Allows how sectors (file_of pages) =
    (is_exclusive how ≡ false) × (how.truncate ≡ true
    → emptying_fault (bounds_of how) sectors (length pages + 1) ≡ None)
Allows how sectors nothing = Unit {0}

abbrev pub AllAllow : OpenHow → ℕ → Candidates → Type 0
AllAllow how sectors start = (image : Image) → IsImageOf start image
    → Allows how sectors (settled (sectors / 4) image)

-- ---- what it makes

-- a database may be made: nothing refuses that, and the device may be blank
pub record Makes (how : OpenHow) (sectors : ℕ) (start : Candidates) : Type 0 where
  pub due : making_fault how sectors ≡ None
  pub on_blank : SettlesTo (sectors / 4) start blank

-- a file with a good meta page may be emptied, if that was asked for and nothing refuses it
pub record EmptiesFile (how : OpenHow) (sectors : ℕ) (file : Pages) : Type 0 where
  pub asked : how.truncate ≡ true
  pub written : writes how.access ≡ true
  pub allowed : is_exclusive how ≡ false
  pub opens : SaysMeta (page_of file 1)
  pub due : emptying_fault (bounds_of how) sectors (length file + 1) ≡ None

-- the device may hold such a file
pub record Empties (how : OpenHow) (sectors : ℕ) (start : Candidates) : Type 0 where
  pub file : Pages
  pub at_start : SettlesTo (sectors / 4) start (file_of file)
  pub empties : EmptiesFile how sectors file

-- a database is made or emptied
abbrev pub BeginsEmpty : OpenHow → ℕ → Candidates → Type 0
BeginsEmpty how sectors start = Makes how sectors start ⊎ Empties how sectors start

-- what an opening may leave: what the device held at the start, or an empty database
abbrev pub MayRemain : OpenHow → ℕ → Candidates → Settled → Type 0
MayRemain how sectors start now =
    SettlesTo (sectors / 4) start now
    ⊎ (BeginsEmpty how sectors start × ImageStandsFor now empty (bounds_of how))

-- ---- what is opened

-- what is kept of the meta page of a file: what it says, or where it was emptied that of an empty
-- database
abbrev pub KeepsMetaOf : OpenHow → ℕ → Pages → Meta → Type 0
KeepsMetaOf how sectors file kept =
    ((how.truncate ≡ false) × (is_exclusive how ≡ false) × IsMeta kept
    × (body_of 1 (page_of file 1) ≡ MetaPage kept))
    ⊎ (EmptiesFile how sectors file × (kept ≡ meta_of (fresh_placement (bounds_of how))))

-- the same where the device may hold such a file, or where a database was made
abbrev pub KeepsMeta : OpenHow → ℕ → Candidates → Meta → Type 0
KeepsMeta how sectors start kept =
    ((file : Pages) × SettlesTo (sectors / 4) start (file_of file)
    × KeepsMetaOf how sectors file kept)
    ⊎ (Makes how sectors start × (kept ≡ meta_of (fresh_placement (bounds_of how))))

-- an image at the start stood for this map and these bounds
pub record StoodFor (pages : ℕ) (start : Candidates) (map : Contents)
    (bounds : Bounds) : Type 0 where
  pub image : Image
  pub at_start : IsImageOf start image
  pub stands : ImageStandsFor (settled pages image) map bounds

-- each image at the start is blank or stands for a map
abbrev pub AllStand : ℕ → Candidates → Type 0
AllStand pages start = (image : Image) → IsImageOf start image
    → (settled pages image ≡ blank)
    ⊎ ((map : Contents) × (bounds : Bounds) × ImageStandsFor (settled pages image) map bounds)

-- what is opened is what an image at the start stood for, or is made or emptied
abbrev pub IsOpened : OpenHow → ℕ → Candidates → Contents → Bounds → Type 0
IsOpened how sectors start map bounds =
    (StoodFor (sectors / 4) start map bounds × (how.truncate ≡ false) × (is_exclusive how ≡ false))
    ⊎ (BeginsEmpty how sectors start × (map ≡ empty) × (bounds ≡ bounds_of how))
