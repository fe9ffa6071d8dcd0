-- What a rehearsal counts, and how it is told.
use Rattle.std.specs.Prelude.{◌≤◌, ◌<◌, ◌↔◌, ℕ, min, List, ◌∷◌, ◌++◌, Option, Some, None, IsSome, codes}
use Rattle.std.specs.Fmt.{decimal}
use Rattle.dbm_lines.specs.Lines.{with_line_feed}
use Rattle.dbm_rehearse.specs.declared.report.Rehearsed.{Rehearsed}

-- `name count`
abbrev pub count_line : List ℕ → ℕ → List ℕ
count_line name count = with_line_feed (name ++ 32 ∷ decimal count)

-- each count behind its name, one a line
abbrev pub counts_text : Rehearsed → List ℕ
counts_text counts =
    count_line (codes "calls") counts.calls
    ++ count_line (codes "device calls") counts.device_calls
    ++ count_line (codes "stops") counts.stops
    ++ count_line (codes "reopened") counts.reopened
    ++ count_line (codes "kept") counts.kept

-- how many stops are made
abbrev pub stops_of : Option ℕ → ℕ → ℕ
stops_of None device_calls = device_calls
stops_of (Some most) device_calls = min device_calls most

-- a stop that was kept was reopened, and where one was not kept the first of them is named
pub record AreCounted (counts : Rehearsed) : Type 0 where
  pub kept : counts.kept ≤ counts.reopened
  pub reopened : counts.reopened ≤ counts.stops
  pub named : IsSome counts.first_lost ↔ (counts.kept < counts.stops)
