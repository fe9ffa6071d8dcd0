-- What opening a device answers.
use Rattle.std.specs.Prelude.{◌≡◌, ◌≢◌, ◌⊎◌, ◌≤◌, ℕ, [], true, Bool, if◌then◌else◌, Option, Some, None, Result, IfErr}
use Rattle.sect_dev.specs.Device.{Image, Candidates, IsImageOf, IsStable, MoreFaults}
use Rattle.page_io.specs.Store.{Settled, StoreState, blank, file_of, nothing}
use Rattle.redo_area.specs.Header.{header_of, has_magic, kind_of}
use Rattle.redo_area.specs.declared.header.CommitKind.TheVariants.{Images}
use Rattle.redo_area.specs.declared.header.Header.TheVariants.{Clear, Armed, Logging}
use Rattle.redo_area.specs.File.{settled}
use Rattle.redo_area.specs.declared.open_fault.OpenFault.{OpenFault}
use Rattle.redo_area.specs.declared.open_fault.OpenFault.TheVariants.{Memory, Device, Blank, NotOurs, Damaged}

abbrev pub refusal_by : Settled → Bool → Option OpenFault
refusal_by blank ours = Some Blank
refusal_by (file_of pages) ours = None
refusal_by nothing ours = if ours then Some Damaged else Some NotOurs

-- why an image does not open, if it does not
abbrev pub refusal_of : ℕ → Image → Option OpenFault
refusal_of capacity image = refusal_by (settled capacity image) (has_magic (image 0))

-- the commit sector of an image is armed
pub record SaysArmed (capacity : ℕ) (image : Image) : Type 0 where
  pub end : ℕ
  pub start : ℕ
  pub count : ℕ
  pub header : header_of capacity (image 0) ≡ Armed end start count

-- the commit sector of an image names a log
pub record SaysLogging (capacity : ℕ) (image : Image) : Type 0 where
  pub start : ℕ
  pub header : header_of capacity (image 0) ≡ Logging start

-- Of a file that was closed all is on the disk, and its commit sector is clear; where its commits may
-- be in a log it may name one, which the next opening for writing takes over.
pub record IsClosed (capacity end : ℕ) (candidate : Candidates) (seen : Image) : Type 0 where
  pub stable : IsStable candidate seen
  pub header : (header_of capacity (seen 0) ≡ Clear end) ⊎ SaysLogging capacity seen
  pub images : kind_of (seen 0) ≡ Images → header_of capacity (seen 0) ≡ Clear end

-- pages of an image stand beside their own numbers, which opening for reading takes into memory
abbrev pub SaysUnsettled : ℕ → Image → Type 0
SaysUnsettled capacity image = SaysArmed capacity image ⊎ SaysLogging capacity image

-- the one image that is left is one that the device had at the start, and does not open
pub record IsRefused (capacity : ℕ) (start now : Candidates) (seen : Image)
    (answer : OpenFault) : Type 0 where
  pub stable : IsStable now seen
  pub at_start : IsImageOf start seen
  pub fault : refusal_of capacity seen ≡ Some answer

-- a store as opening leaves it
pub record IsFresh (pages : ℕ) (for_writing : Bool) (state : StoreState) : Type 0 where
  pub staged : state.staged ≡ []
  pub capacity : state.capacity ≡ pages
  pub usable : state.usable ≡ true
  pub writable : state.writable ≡ for_writing

-- Device comes only with a fault of the device, and only opening for reading takes memory
pub record HasOpenCause {T D : Type 0} (writable : Bool) (before now : ℕ)
    (result : Result T (D × OpenFault)) : Type 0 where
  pub later : before ≤ now
  pub fault : IfErr result (λ e. e.1 ≡ Device → MoreFaults before now)
  pub no_memory : writable ≡ true → IfErr result (λ e. e.1 ≢ Memory)
