-- What the calls of a sector device do, and what a stop may leave.
use Rattle.std.specs.Prelude.{◌≡◌, ◌⊎◌, ◌+◌, ◌*◌, ◌/◌, ◌<◌, ◌≤◌, ℕ, ◌==◌, if◌then◌else◌, List, length, take, drop, Result, OnErr, ◌-◌, ◌^◌, min, OnOk}
pub use Rattle.dbm_model.specs.FaultCount.{MoreFaults}

-- the content of each sector
abbrev pub Image : Type 0
Image = ℕ → List ℕ

-- the image with this content in that sector
abbrev pub with_sector : Image → ℕ → List ℕ → Image
with_sector image n content = λ m. if m == n then content else image m

-- which contents a sector may have
abbrev pub Candidates : Type 1
Candidates = ℕ → List ℕ → Type 0

-- an image takes one candidate for each sector, independently of the others
abbrev pub IsImageOf : Candidates → Image → Type 0
IsImageOf candidate image = (n : ℕ) → candidate n (image n)

-- no sector has a candidate that it did not have before
abbrev pub NoNewCandidate : Candidates → Candidates → Type 0
NoNewCandidate old new = (m : ℕ) (c : List ℕ) → new m c → old m c

-- the same candidates, and this content for sector n
abbrev pub with_candidate : Candidates → ℕ → List ℕ → Candidates
with_candidate candidate n content = λ m c. candidate m c ⊎ ((m ≡ n) × (c ≡ content))

-- each sector's only candidate is its content in the image
abbrev pub IsStable : Candidates → Image → Type 0
IsStable candidate image = (m : ℕ) (c : List ℕ) → candidate m c → c ≡ image m

-- a failed write has happened or not
abbrev pub IsWrittenOrNot : Image → ℕ → List ℕ → Image → Type 0
IsWrittenOrNot old n content new = (new ≡ old) ⊎ (new ≡ with_sector old n content)

-- A moment of a device, as a number that doesn't fall, and as one that doesn't rise the moment up to
-- which it may go, where it is to stop for good.
pub record Moment : Type 0 where
  pub at : ℕ
  pub until : ℕ

-- a moment of a device that goes on for ever
abbrev pub endless : ℕ → Moment
endless at = record { at = at; until = 0 }

-- Time goes on: a stop since t may have left what it may have left before, or what it may leave
-- now. X is what is left: an image, or what the layers above read in one.
pub record Elapses {X : Type 0} (before now : Moment) (past since : ℕ → X → Type 0)
    (may_leave : X → Type 0) : Type 0 where
  pub later : before.at ≤ now.at
  pub until : now.until ≤ before.until
  pub nothing_else : (t : ℕ) (x : X) → t ≤ before.at → since t x → past t x ⊎ may_leave x
  pub keeps : (t : ℕ) (x : X) → t ≤ before.at → past t x → since t x

-- an `Err` comes only with a fault
pub record HasCause {T E : Type 0} (before now : ℕ) (result : Result T E) : Type 0 where
  pub later : before ≤ now
  pub fault : OnErr result (MoreFaults before now)

-- a call is counted as a fault exactly where it answers `Err`, up to the greatest count
pub record IsCounted {T E : Type 0} (before now : ℕ) (result : Result T E) : Type 0 where
  pub quiet : OnOk result (now ≡ before)
  pub counted : OnErr result (now ≡ min (before + 1) (2 ^ 64 - 1))

-- Whatever a stop at some moment since old may leave has P.
pub record LeavesOnly {D X : Type 0} (moment : D → Moment) (left_since : D → ℕ → X → Type 0)
    (old new : D) (P : X → Type 0) : Type 0 where
  pub later : (moment old).at ≤ (moment new).at
  pub until : (moment new).until ≤ (moment old).until
  pub each : (x : X) → left_since new (moment old).at x → P x
  -- for a run that began earlier
  pub before : (t : ℕ) (x : X) → t ≤ (moment old).at → left_since new t x → left_since old t x ⊎ P x

-- ---- runs of adjacent sectors

-- how many sectors these bytes fill
abbrev pub sector_count : List ℕ → ℕ
sector_count bytes = length bytes / 512

-- sector k of a run's bytes
unfoldable pub part_of : List ℕ → ℕ → List ℕ
part_of bytes k = take 512 (drop (512 * k) bytes)

-- the sectors from n on have these bytes, each its part
abbrev pub HasRun : Image → ℕ → List ℕ → Type 0
HasRun image n bytes = (k : ℕ) → k < sector_count bytes → image (n + k) ≡ part_of bytes k

-- sector m is none of `count` from n on
abbrev pub IsOutsideRun : ℕ → ℕ → ℕ → Type 0
IsOutsideRun n count m = (m < n) ⊎ (n + count ≤ m)

-- Sector m is one of those that these bytes fill from n on, and this content is its part.
pub record IsPart (n : ℕ) (bytes : List ℕ) (m : ℕ) (content : List ℕ) : Type 0 where
  pub k : ℕ
  pub within : k < sector_count bytes
  pub place : m ≡ n + k
  pub same : content ≡ part_of bytes k

-- these bytes are written over the sectors from n on, and no other
pub record IsRunWritten (old : Image) (n : ℕ) (bytes : List ℕ) (new : Image) : Type 0 where
  pub inside : HasRun new n bytes
  pub outside : (m : ℕ) → IsOutsideRun n (sector_count bytes) m → new m ≡ old m

-- of a failed write of a run, each sector has happened or not, independently of the others
abbrev pub IsRunPartlyWritten : Image → ℕ → List ℕ → Image → Type 0
IsRunPartlyWritten old n bytes new = (m : ℕ) → (new m ≡ old m) ⊎ IsPart n bytes m (new m)

-- the same candidates, and for each sector of the run its part
abbrev pub with_run_candidates : Candidates → ℕ → List ℕ → Candidates
with_run_candidates candidate n bytes = λ m c. candidate m c ⊎ IsPart n bytes m c
