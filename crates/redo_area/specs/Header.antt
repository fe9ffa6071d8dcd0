-- The commit sector.
use Rattle.std.specs.Prelude.{◌≡◌, ◌==◌, ◌≤◌, ℕ, ◌+◌, Bool, true, false, ◌&&◌, ◌||◌, nat_eq, nat_le, if◌then◌else◌, List, [], ◌∷◌, ◌++◌, take, drop, replicate}
use Rattle.std.specs.Cmp.Lexicographic.{pointwise}
use Rattle.sect_dev.specs.Sector.{zeros}
use Rattle.page_model.specs.Bytes.{u32_at, u32_bytes}
use Rattle.redo_area.specs.declared.header.CommitKind.{CommitKind}
use Rattle.redo_area.specs.declared.header.CommitKind.TheVariants.{Images, Log}
use Rattle.redo_area.specs.declared.header.Header.{Header}
use Rattle.redo_area.specs.declared.header.Header.TheVariants.{Blank, Clear, Armed, Logging, NotOurs, Damaged}

-- a digit that tells how the file's commits are made: `1` or `2`
unfoldable pub digit : CommitKind → ℕ
digit Images = 49
digit Log = 50

-- `DBMREDO`, and the digit
unfoldable pub magic : CommitKind → List ℕ
magic kind = 68 ∷ 66 ∷ 77 ∷ 82 ∷ 69 ∷ 68 ∷ 79 ∷ digit kind ∷ []

-- the fields of a commit sector
unfoldable pub fields : CommitKind → ℕ → ℕ → ℕ → ℕ → List ℕ
fields kind state end start count =
    (((magic kind ++ u32_bytes state) ++ u32_bytes end) ++ u32_bytes start) ++ u32_bytes count

-- the bytes of a commit sector
unfoldable pub spelled : CommitKind → ℕ → ℕ → ℕ → ℕ → List ℕ
spelled kind state end start count = fields kind state end start count ++ replicate 488 0

abbrev pub is_magic : CommitKind → List ℕ → Bool
is_magic kind sector = pointwise nat_eq (magic kind) (take 8 sector)

abbrev pub has_magic : List ℕ → Bool
has_magic sector = is_magic Images sector || is_magic Log sector

-- how the file's commits are made
abbrev pub kind_of : List ℕ → CommitKind
kind_of sector = if is_magic Log sector then Log else Images

-- what the numbers of a commit sector say, on a device of so many pages; only a file whose commits
-- may be in a log names one
abbrev pub header_by : ℕ → Bool → ℕ → ℕ → ℕ → ℕ → Header
header_by capacity may_log state end start count =
    if nat_le 4 end && nat_le end capacity then
    (if state == 0 && start == 0 && count == 0 then Clear end else
    (if state == 1 && nat_le 1 count && nat_le end start && nat_le (start + count) capacity
    then Armed end start count else
    (if state == 2 && may_log && count == 0 && nat_le end start && nat_le (start + 32) capacity
    then Logging start else Damaged)))
    else Damaged

-- what a commit sector says
unfoldable pub header_of : ℕ → List ℕ → Header
header_of capacity sector =
    if pointwise nat_eq sector zeros then Blank else
    (if has_magic sector then
    (if pointwise nat_eq (replicate 488 0) (drop 24 sector)
    then header_by capacity (is_magic Log sector) (u32_at sector 8) (u32_at sector 12)
    (u32_at sector 16) (u32_at sector 20) else Damaged)
    else NotOurs)

-- the file of a clear or an armed sector fits the device
abbrev pub IsInRange : ℕ → Header → Type 0
IsInRange capacity Blank = Unit {0}
IsInRange capacity (Clear end) = (4 ≤ end) × (end ≤ capacity)
IsInRange capacity (Armed end start count) = (4 ≤ end) × (end ≤ start) × (start + count ≤ capacity)
IsInRange capacity (Logging start) = (4 ≤ start) × (start + 32 ≤ capacity)
IsInRange capacity NotOurs = Unit {0}
IsInRange capacity Damaged = Unit {0}

-- only a file whose commits may be in a log names one
abbrev pub MayLog : Bool → Header → Type 0
MayLog may_log Blank = Unit {0}
MayLog may_log (Clear end) = Unit {0}
MayLog may_log (Armed end start count) = Unit {0}
MayLog may_log (Logging start) = may_log ≡ true
MayLog may_log NotOurs = Unit {0}
MayLog may_log Damaged = Unit {0}

-- a sector with the right magic, or with another
abbrev pub AgreesWithMagic : Bool → Header → Type 0
AgreesWithMagic ours Blank = Unit {0}
AgreesWithMagic ours (Clear end) = ours ≡ true
AgreesWithMagic ours (Armed end start count) = ours ≡ true
AgreesWithMagic ours (Logging start) = ours ≡ true
AgreesWithMagic ours NotOurs = ours ≡ false
AgreesWithMagic ours Damaged = ours ≡ true
