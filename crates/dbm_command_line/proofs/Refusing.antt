-- Why words gave no plan.
use Rattle.std.proofs.Common.{◌≡◌, ◌≢◌, ◌⊎◌, inl, inr, false, Option, Some, None, Result, Ok, Err, IfErr, sym, subst, arith}
use Rattle.std.specs.Bool.{IsTrue}
use Rattle.std.specs.Option.{ok_or}
use Rattle.clap.specs.declared.error.Error.{Error}
use Rattle.clap.specs.declared.error.kind.ErrorKind.{ErrorKind}
use Rattle.clap.specs.declared.error.kind.ErrorKind.TheVariants.{DisplayHelp, DisplayVersion}
use Rattle.dbm_command_line.specs.Sorting.{IsOfChoice, IsSorted}
use Rattle.dbm_command_line.specs.declared.words.WordsError.{WordsError}
use Rattle.dbm_command_line.specs.declared.words.WordsError.TheVariants.{Memory, Help, Usage, ScriptSource, RehearsalSource, VersionSource, ReadSource, LoadLimit, NoPlan}

-- ---- the faults of a script and of a rehearsal with no source, or with the version of a file that
-- ---- is there, and of a load with a limit, are none of the others

pub memory_is_other : (Memory ≢ ScriptSource) × (Memory ≢ RehearsalSource)
    × (Memory ≢ VersionSource) × (Memory ≢ ReadSource)
    × (Memory ≢ LoadLimit)
memory_is_other = ((λ is. cc), (λ is. cc), (λ is. cc), (λ is. cc), (λ is. cc))

pub help_is_other : (text : Error) → (Help text ≢ ScriptSource) × (Help text ≢ RehearsalSource)
    × (Help text ≢ VersionSource) × (Help text ≢ ReadSource)
    × (Help text ≢ LoadLimit)
help_is_other text = ((λ is. cc), (λ is. cc), (λ is. cc), (λ is. cc), (λ is. cc))

pub usage_is_other : (text : Error) → (Usage text ≢ ScriptSource) × (Usage text ≢ RehearsalSource)
    × (Usage text ≢ VersionSource) × (Usage text ≢ ReadSource)
    × (Usage text ≢ LoadLimit)
usage_is_other text = ((λ is. cc), (λ is. cc), (λ is. cc), (λ is. cc), (λ is. cc))

pub no_plan_is_other : (NoPlan ≢ ScriptSource) × (NoPlan ≢ RehearsalSource)
    × (NoPlan ≢ VersionSource) × (NoPlan ≢ ReadSource)
    × (NoPlan ≢ LoadLimit)
no_plan_is_other = ((λ is. cc), (λ is. cc), (λ is. cc), (λ is. cc), (λ is. cc))

-- what the choice of a source is told by
pub version_is_other : (VersionSource ≢ ScriptSource) × (VersionSource ≢ RehearsalSource)
version_is_other = ((λ is. cc), (λ is. cc))

-- ---- what is told of a result

-- where nothing was found, which is no plan
pub no_plan_or : {T : Type 0} (Q : WordsError → Type 0) (found : Option T)
    (result : Result T WordsError) → result ≡ ok_or found NoPlan → Q NoPlan → IfErr result Q
no_plan_or {T} Q found result is q =
    subst (λ (r : Result T WordsError). IfErr r Q) (sym is) (of_found found)
  where
    of_found : (o : Option T) → IfErr (ok_or o NoPlan) Q
    of_found None = q
    of_found (Some x) = tt

-- none of these is the parser's
pub choice_is_sorted : {T : Type 0} (result : Result T WordsError) → IfErr result IsOfChoice
    → IfErr result IsSorted
choice_is_sorted (Ok x) is = tt
choice_is_sorted (Err e) (inl is) = subst IsSorted (sym is) tt
choice_is_sorted (Err e) (inr (inl is)) = subst IsSorted (sym is) tt
choice_is_sorted (Err e) (inr (inr (inl is))) = subst IsSorted (sym is) tt
choice_is_sorted (Err e) (inr (inr (inr (inl is)))) = subst IsSorted (sym is) tt
choice_is_sorted (Err e) (inr (inr (inr (inr (inl is))))) = subst IsSorted (sym is) tt
choice_is_sorted (Err e) (inr (inr (inr (inr (inr is))))) = subst IsSorted (sym is) tt

pub choice_passes : {T : Type 0} (result : Result T WordsError) → IfErr result IsOfChoice
    → IfErr result (λ e. (e ≡ Memory) ⊎ IsOfChoice e)
choice_passes (Ok x) is = tt
choice_passes (Err e) is = inr is

-- what isn't told on standard error was asked for
pub was_asked_for : (kind : ErrorKind)
    → ((kind ≢ DisplayHelp) × (kind ≢ DisplayVersion) → IsTrue false)
    → (kind ≡ DisplayHelp) ⊎ (kind ≡ DisplayVersion)
was_asked_for kind otherwise = grind arith
