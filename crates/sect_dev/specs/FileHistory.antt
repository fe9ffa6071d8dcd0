-- What happens under a file from its opening on. No program sees it. What ties it to the calls is
-- `RecordsCalls` alone.
use Rattle.std.specs.Prelude.{◌≡◌, ◌+◌, ◌*◌, ◌/◌, ◌%◌, ◌<◌, ◌≤◌, ℕ, Bool, true, false, IsTrue, List, [], length, slice_index}
use Rattle.std.specs.declared.fs.File.{File}
use Rattle.std.proofs.Common.{subst, arith}
use Rattle.sect_dev.specs.Device.{Image, Candidates, IsImageOf, NoNewCandidate, IsStable, IsRunWritten, IsRunPartlyWritten, with_run_candidates}

-- what the system was asked to change, from which byte of the file on, and whether it answered Ok
pub data Change : Type 0 where
  Writes : (at : ℕ) → (bytes : List ℕ) → (ok : Bool) → Change
  Syncs : (ok : Bool) → Change

-- Moment t comes after t changes, and change t is the next one. At each moment sectors have
-- contents, and candidates for what a stop may leave, and reads that asked for bytes from a place
-- on were given some.
pub record FileHistory : Type 1 where
  pub change : ℕ → Change
  pub seen : ℕ → Image
  pub candidate : ℕ → Candidates
  pub gave : ℕ → ℕ → List ℕ → Type 0

-- byte p of the file, as sectors have it
abbrev pub byte_of : Image → ℕ → ℕ
byte_of image p = slice_index (image (p / 512)) (p % 512)

-- these bytes stand in the file from byte `at` on
abbrev pub HasBytes : Image → ℕ → List ℕ → Type 0
HasBytes image at bytes = (j : ℕ) → j < length bytes
    → byte_of image (at + j) ≡ slice_index bytes j

-- A read from byte `at` on may give these. Where it gave none, the file has ended, and all that
-- follows is zeros.
pub record StandsAt (image : Image) (at : ℕ) (bytes : List ℕ) : Type 0 where
  pub each : HasBytes image at bytes
  pub ended : length bytes ≡ 0 → (p : ℕ) → at ≤ p → byte_of image p ≡ 0

-- A write of whole sectors that is Ok is seen. Of one that failed each sector has happened or not,
-- whatever has of the others.
pub record KeepsWrite (n : ℕ) (bytes : List ℕ) (ok : Bool) (old new : Image)
    (before after : Candidates) : Type 0 where
  pub written : IsTrue ok → IsRunWritten old n bytes new
  pub failed : IsRunPartlyWritten old n bytes new
  pub candidates : NoNewCandidate (with_run_candidates before n bytes) after
  pub keeps : NoNewCandidate after before

-- A sync that is Ok makes what is seen stable, and one that failed makes nothing stable.
pub record KeepsSync (ok : Bool) (old new : Image) (before after : Candidates) : Type 0 where
  pub stable : IsTrue ok → IsStable after new
  pub seen : IsTrue ok → new ≡ old
  pub candidates : NoNewCandidate before after
  pub keeps : ok ≡ false → NoNewCandidate after before

abbrev pub KeepsChange : Change → Image → Image → Candidates → Candidates → Type 0
KeepsChange (Writes at bytes ok) old new before after =
    (n count : ℕ) → at ≡ n * 512 → length bytes ≡ count * 512
    → KeepsWrite n bytes ok old new before after
KeepsChange (Syncs ok) old new before after = KeepsSync ok old new before after

-- The premise on a disk: it keeps each sector whole, returns what was written, and makes what it
-- synced stable, and nobody else writes the file.
pub record IsKept (file_history : FileHistory) : Type 0 where
  pub whole : (t n : ℕ) → length (file_history.seen t n) ≡ 512
  pub may_stay : (t : ℕ) → IsImageOf (file_history.candidate t) (file_history.seen t)
  pub reads : (t at : ℕ) (bytes : List ℕ) → file_history.gave t at bytes
      → StandsAt (file_history.seen t) at bytes
  pub keeps : (t : ℕ) → KeepsChange (file_history.change t) (file_history.seen t)
      (file_history.seen (t + 1)) (file_history.candidate t) (file_history.candidate (t + 1))

-- the images that a stop may leave at a moment from t to now
abbrev pub LeftFrom : (ℕ → Candidates) → ℕ → ℕ → Image → Type 0
LeftFrom candidate now t image = (k : ℕ) × (t ≤ k) × (k ≤ now) × IsImageOf (candidate k) image

pub now_is_left : (candidate : ℕ → Candidates) (now t : ℕ) (image : Image) → t ≤ now
    → IsImageOf (candidate now) image → LeftFrom candidate now t image
now_is_left candidate now t image le is = (now, le, omega arith, is)

pub only_left_now : (candidate : ℕ → Candidates) (now : ℕ) (image : Image)
    → LeftFrom candidate now now image → IsImageOf (candidate now) image
only_left_now candidate now image left =
    subst (λ k. IsImageOf (candidate k) image) (omega (arith, left.1, left.2)) left.3

-- What happens under this file. The body stands for nothing, and no proof can use it.
pub history_of : File → FileHistory
history_of file = record {
  change = λ _. Syncs true;
  seen = λ _ _. [];
  candidate = λ _ _ _.
      Unit {0};
  gave = λ _ _ _. Unit {0};
}

-- The file's history has the changes and the reads that are made, answered as they are. No proof
-- can use the body.
pub RecordsCalls : File → Type 0
RecordsCalls file = ⊥

-- The change at moment t is this one. Only the proof of a function that asks the system for just
-- this may cite it.
pub recorded_change : (file : File) (t : ℕ) (change : Change) → RecordsCalls file
    → (history_of file).change t ≡ change
unfolding RecordsCalls
recorded_change file t change recorded = absurd recorded

-- A read at moment t gave these bytes. Only the proof of a function that is given just these by the
-- system may cite it.
pub recorded_read : (file : File) (t at : ℕ) (bytes : List ℕ) → RecordsCalls file
    → (history_of file).gave t at bytes
unfolding RecordsCalls
recorded_read file t at bytes recorded = absurd recorded

-- the disk under this file keeps what the premise says
pub record IsHonest (file : File) : Type 0 where
  pub recorded : RecordsCalls file
  pub kept : IsKept (history_of file)
