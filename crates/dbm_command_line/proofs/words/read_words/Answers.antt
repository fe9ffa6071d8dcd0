use Rattle.std.proofs.Common.{◌≡◌, ◌∙◌, IfErr, IfOk, inl, map, ap, refl, codes}
use Rattle.clap.specs.Words.{app_of, takes}
use Rattle.dbm_command_line.specs.Asking.{AreOptions, Names, NamesNoFile, NamesNoMemory, NamesNoReplace, NamesNoSource}
use Rattle.dbm_command_line.specs.declared.words.WordsError.TheVariants.{LoadLimit, ReadSource, RehearsalSource, ScriptSource, VersionSource}
use Rattle.dbm_command_line.proofs.Reading.{of_words, rows_of_words}
use Rattle.dbm_command_line.proofs.Refusing.{choice_is_sorted, choice_passes, memory_is_other}
use Rattle.dbm_command_line.proofs.words.read_words.Goals as goal

pub returns-in-Ok-try_get_matches_from-clause-plan : goal.returns-in-Ok-try_get_matches_from-clause-plan
returns-in-Ok-try_get_matches_from-clause-plan c =
    of_words c.in-Ok-try_get_matches_from.matches (app_of c.in-Ok.command)
    (map (λ word. word.now) c.args.words.now) (λ entered. IfOk c.read_request.result (λ r. Names entered r.plan))
    c.in-Ok.ensures.shape c.in-Ok-try_get_matches_from.ensures.matches c.read_request.ensures.plan

pub returns-in-Ok-try_get_matches_from-clause-options : goal.returns-in-Ok-try_get_matches_from-clause-options
returns-in-Ok-try_get_matches_from-clause-options c =
    rows_of_words c.in-Ok-try_get_matches_from.matches (app_of c.in-Ok.command)
    (map (λ word. word.now) c.args.words.now)
    (λ rows. IfOk c.read_request.result (AreOptions rows))
    c.in-Ok.ensures.shape c.in-Ok-try_get_matches_from.ensures.matches c.read_request.ensures.options

pub returns-in-Ok-try_get_matches_from-clause-source : goal.returns-in-Ok-try_get_matches_from-clause-source
returns-in-Ok-try_get_matches_from-clause-source c =
    of_words c.in-Ok-try_get_matches_from.matches (app_of c.in-Ok.command)
    (map (λ word. word.now) c.args.words.now)
    (λ entered. IfErr c.read_request.result
    (λ e. e ≡ ScriptSource → NamesNoSource (codes "script") entered))
    c.in-Ok.ensures.shape c.in-Ok-try_get_matches_from.ensures.matches c.read_request.ensures.source

pub returns-in-Ok-try_get_matches_from-clause-device : goal.returns-in-Ok-try_get_matches_from-clause-device
returns-in-Ok-try_get_matches_from-clause-device c =
    of_words c.in-Ok-try_get_matches_from.matches (app_of c.in-Ok.command)
    (map (λ word. word.now) c.args.words.now)
    (λ entered. IfErr c.read_request.result
    (λ e. e ≡ RehearsalSource → NamesNoSource (codes "rehearse") entered))
    c.in-Ok.ensures.shape c.in-Ok-try_get_matches_from.ensures.matches c.read_request.ensures.device

pub returns-in-Ok-try_get_matches_from-clause-version : goal.returns-in-Ok-try_get_matches_from-clause-version
returns-in-Ok-try_get_matches_from-clause-version c =
    of_words c.in-Ok-try_get_matches_from.matches (app_of c.in-Ok.command)
    (map (λ word. word.now) c.args.words.now)
    (λ entered. IfErr c.read_request.result (λ e. e ≡ VersionSource → NamesNoMemory entered))
    c.in-Ok.ensures.shape c.in-Ok-try_get_matches_from.ensures.matches c.read_request.ensures.version

pub returns-in-Ok-try_get_matches_from-clause-read : goal.returns-in-Ok-try_get_matches_from-clause-read
returns-in-Ok-try_get_matches_from-clause-read c =
    of_words c.in-Ok-try_get_matches_from.matches (app_of c.in-Ok.command)
    (map (λ word. word.now) c.args.words.now)
    (λ entered. IfErr c.read_request.result (λ e. e ≡ ReadSource → NamesNoFile entered))
    c.in-Ok.ensures.shape c.in-Ok-try_get_matches_from.ensures.matches c.read_request.ensures.read

pub returns-in-Ok-try_get_matches_from-clause-limit : goal.returns-in-Ok-try_get_matches_from-clause-limit
returns-in-Ok-try_get_matches_from-clause-limit c =
    of_words c.in-Ok-try_get_matches_from.matches (app_of c.in-Ok.command)
    (map (λ word. word.now) c.args.words.now)
    (λ entered. IfErr c.read_request.result (λ e. e ≡ LoadLimit → NamesNoReplace entered))
    c.in-Ok.ensures.shape c.in-Ok-try_get_matches_from.ensures.matches c.read_request.ensures.limit

pub returns-in-Err-clause-source : goal.returns-in-Err-clause-source
returns-in-Err-clause-source c = λ is. absurd (c.words_error.ensures.source.0 is)

pub returns-in-Err-clause-device : goal.returns-in-Err-clause-device
returns-in-Err-clause-device c = λ is. absurd (c.words_error.ensures.source.1 is)

pub returns-in-Err-clause-version : goal.returns-in-Err-clause-version
returns-in-Err-clause-version c = λ is. absurd (c.words_error.ensures.source.2 is)

pub returns-in-Err-clause-read : goal.returns-in-Err-clause-read
returns-in-Err-clause-read c = λ is. absurd (c.words_error.ensures.source.3 is)

pub returns-in-Err-clause-limit : goal.returns-in-Err-clause-limit
returns-in-Err-clause-limit c = λ is. absurd (c.words_error.ensures.source.4 is)

pub returns-in-Err-clause-passes : goal.returns-in-Err-clause-passes
returns-in-Err-clause-passes c = λ taken.
    inl (c.words_error.ensures.memory (c.in-Err.ensures.passes
    (ap (λ a. takes a (map (λ word. word.now) c.args.words.now))
    c.in-Ok.ensures.shape ∙ taken)))

pub returns-in_default-clause-source : goal.returns-in_default-clause-source
returns-in_default-clause-source c = λ is. absurd (memory_is_other.0 is)

pub returns-in_default-clause-device : goal.returns-in_default-clause-device
returns-in_default-clause-device c = λ is. absurd (memory_is_other.1 is)

pub returns-in_default-clause-version : goal.returns-in_default-clause-version
returns-in_default-clause-version c = λ is. absurd (memory_is_other.2 is)

pub returns-in_default-clause-read : goal.returns-in_default-clause-read
returns-in_default-clause-read c = λ is. absurd (memory_is_other.3 is)

pub returns-in_default-clause-limit : goal.returns-in_default-clause-limit
returns-in_default-clause-limit c = λ is. absurd (memory_is_other.4 is)

pub returns-in_default-clause-passes : goal.returns-in_default-clause-passes
returns-in_default-clause-passes c = λ _. inl refl

pub returns-in-Ok-try_get_matches_from-clause-sorted : goal.returns-in-Ok-try_get_matches_from-clause-sorted
returns-in-Ok-try_get_matches_from-clause-sorted c =
    choice_is_sorted c.read_request.result c.read_request.ensures.others

pub returns-in-Ok-try_get_matches_from-clause-passes : goal.returns-in-Ok-try_get_matches_from-clause-passes
returns-in-Ok-try_get_matches_from-clause-passes c = λ _.
    choice_passes c.read_request.result c.read_request.ensures.others

pub returns-in-Err-clause-sorted : goal.returns-in-Err-clause-sorted
returns-in-Err-clause-sorted c = c.words_error.ensures.sorted
