-- Help that was asked for, mistakes, want of memory, and words that name no plan.
use Rattle.std.specs.Prelude.{◌≡◌, ◌≢◌, ◌⊎◌}
use Rattle.clap.specs.Words.{kind_of}
use Rattle.clap.specs.declared.error.kind.ErrorKind.TheVariants.{DisplayHelp, DisplayVersion, OutOfMemory}
use Rattle.dbm_command_line.specs.declared.words.WordsError.{WordsError}
use Rattle.dbm_command_line.specs.declared.words.WordsError.TheVariants.{Memory, Help, Usage, ScriptSource, RehearsalSource, VersionSource, ReadSource, LoadLimit, NoPlan}

-- what is told as help was asked for, and what is told as a mistake is one
abbrev pub IsSorted : WordsError → Type 0
IsSorted Memory = Unit {0}
IsSorted (Help text) = (kind_of text ≡ DisplayHelp) ⊎ (kind_of text ≡ DisplayVersion)
IsSorted (Usage text) = (kind_of text ≢ OutOfMemory) × (kind_of text ≢ DisplayHelp)
    × (kind_of text ≢ DisplayVersion)
IsSorted ScriptSource = Unit {0}
IsSorted RehearsalSource = Unit {0}
IsSorted VersionSource = Unit {0}
IsSorted ReadSource = Unit {0}
IsSorted LoadLimit = Unit {0}
IsSorted NoPlan = Unit {0}

-- the parser took the words, and they name no plan
abbrev pub IsOfChoice : WordsError → Type 0
IsOfChoice e =
    (e ≡ NoPlan) ⊎ ((e ≡ ScriptSource) ⊎ ((e ≡ RehearsalSource)
    ⊎ ((e ≡ VersionSource) ⊎ ((e ≡ ReadSource) ⊎ (e ≡ LoadLimit)))))
