-- The bounds of lines are wide enough, and a load passes over no line of a dump.
use Rattle.std.specs.Prelude.{◌≡◌, List, flat_map}
use Rattle.std.specs.List.{All}
use Rattle.dbm_model.specs.Bounds.{V2}
use Rattle.dbm_model.specs.Pairs.{Pair, IsAllowed}
use Rattle.page_model.specs.PairLists.{HasBytes}
use Rattle.dbm_lines.specs.Lines.{lines_of}
use Rattle.dbm_lines.specs.Forms.{pair_in, line_in, lines_said}
use Rattle.dbm_lines.specs.PairLines.{Say}
use Rattle.dbm_lines.specs.declared.forms.TextForm.{TextForm}

-- the lines of pairs that a file may have say these pairs, in either form
abbrev pub DumpsReadBack : Type 0
DumpsReadBack = (form : TextForm) (pairs : List Pair) → All HasBytes pairs
    → All (IsAllowed V2) pairs → Say (pair_in form) (lines_of (flat_map (line_in form) pairs)) pairs

-- and a load passes over none of them
abbrev pub DumpsAreRead : Type 0
DumpsAreRead = (form : TextForm) (pairs : List Pair) → All HasBytes pairs
    → lines_said form (lines_of (flat_map (line_in form) pairs))
    ≡ lines_of (flat_map (line_in form) pairs)
