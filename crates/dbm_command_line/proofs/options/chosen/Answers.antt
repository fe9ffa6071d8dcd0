use Rattle.std.proofs.Common.{◌≡◌, inl, codes, refl}
use Rattle.clap.specs.Words.{found_of, rows_of, subcommand_rows_of}
use Rattle.dbm_command_line.specs.Asking.{NamesNoFile, NamesNoMemory, NamesNoReplace, NamesNoSource}
use Rattle.dbm_command_line.specs.declared.plan.Plan.TheVariants.{Faults}
use Rattle.dbm_command_line.specs.Sorting.{IsOfChoice}
use Rattle.dbm_command_line.specs.declared.words.WordsError.TheVariants.{LoadLimit, ReadSource, RehearsalSource, ScriptSource, VersionSource}
use Rattle.dbm_command_line.proofs.Naming.{is_name, names_found, names_plan}
use Rattle.dbm_command_line.proofs.Refusing.{no_plan_is_other, no_plan_or}
use Rattle.dbm_command_line.proofs.options.chosen.Goals as goal

pub returns-in_default-clause-source : goal.returns-in_default-clause-source
returns-in_default-clause-source c = λ is. absurd (no_plan_is_other.0 is)

pub returns-in_default-clause-device : goal.returns-in_default-clause-device
returns-in_default-clause-device c = λ is. absurd (no_plan_is_other.1 is)

pub returns-in_default-clause-version : goal.returns-in_default-clause-version
returns-in_default-clause-version c = λ is. absurd (no_plan_is_other.2 is)

pub returns-in_default-clause-read : goal.returns-in_default-clause-read
returns-in_default-clause-read c = λ is. absurd (no_plan_is_other.3 is)

pub returns-in_default-clause-limit : goal.returns-in_default-clause-limit
returns-in_default-clause-limit c = λ is. absurd (no_plan_is_other.4 is)

pub returns-in_default-clause-others : goal.returns-in_default-clause-others
returns-in_default-clause-others c = inl refl

pub returns-then-eq-2-clause-plan : goal.returns-then-eq-2-clause-plan
returns-then-eq-2-clause-plan c =
    names_plan c.args.matches.now c.in-Some.name.now (rows_of (found_of c.in-Some.options.now))
    c.in-Some.ensures.name c.in-Some.ensures.rows Faults
    (is_name c.in-Some.name.now (codes "faults") c.eq-2.result c.eq-2.ensures c.if-eq-2.true)

pub returns-clause-plan : goal.returns-clause-plan
returns-clause-plan c = names_found c.args.matches.now c.in-Some.name.now
    (rows_of (found_of c.in-Some.options.now)) c.in-Some.ensures.name c.in-Some.ensures.rows
    c.of_file.result c.ok_or.result c.ok_or.ensures.value c.of_file.ensures

pub returns-clause-source : goal.returns-clause-source
returns-clause-source c =
    no_plan_or (λ e. e ≡ ScriptSource
    → NamesNoSource (codes "script") (subcommand_rows_of c.args.matches.now))
    c.of_file.result c.ok_or.result c.ok_or.ensures.value (λ is. absurd (no_plan_is_other.0 is))

pub returns-clause-others : goal.returns-clause-others
returns-clause-others c = no_plan_or IsOfChoice c.of_file.result
    c.ok_or.result c.ok_or.ensures.value (inl refl)

pub returns-clause-device : goal.returns-clause-device
returns-clause-device c =
    no_plan_or (λ e. e ≡ RehearsalSource
    → NamesNoSource (codes "rehearse") (subcommand_rows_of c.args.matches.now))
    c.of_file.result c.ok_or.result c.ok_or.ensures.value (λ is. absurd (no_plan_is_other.1 is))

pub returns-clause-version : goal.returns-clause-version
returns-clause-version c =
    no_plan_or (λ e. e ≡ VersionSource → NamesNoMemory (subcommand_rows_of c.args.matches.now))
    c.of_file.result c.ok_or.result c.ok_or.ensures.value (λ is. absurd (no_plan_is_other.2 is))

pub returns-clause-read : goal.returns-clause-read
returns-clause-read c =
    no_plan_or (λ e. e ≡ ReadSource → NamesNoFile (subcommand_rows_of c.args.matches.now))
    c.of_file.result c.ok_or.result c.ok_or.ensures.value (λ is. absurd (no_plan_is_other.3 is))

pub returns-clause-limit : goal.returns-clause-limit
returns-clause-limit c =
    no_plan_or (λ e. e ≡ LoadLimit → NamesNoReplace (subcommand_rows_of c.args.matches.now))
    c.of_file.result c.ok_or.result c.ok_or.ensures.value (λ is. absurd (no_plan_is_other.4 is))
