use Rattle.std.proofs.Common.{◌∙◌, refl}
use Rattle.std.proofs.lemmas.Bool.{false≢true}
use Rattle.clap.specs.Words.{kind_of}
use Rattle.dbm_command_line.proofs.Refusing.{help_is_other, memory_is_other, usage_is_other, was_asked_for}
use Rattle.dbm_command_line.proofs.words.words_error.Goals as goal

pub returns-then-eq-clause-source : goal.returns-then-eq-clause-source
returns-then-eq-clause-source c = memory_is_other

pub returns-then-eq-clause-memory : goal.returns-then-eq-clause-memory
returns-then-eq-clause-memory c = λ _. refl

pub returns-then-use_stderr-clause-sorted : goal.returns-then-use_stderr-clause-sorted
returns-then-use_stderr-clause-sorted c =
    let told = c.if-use_stderr.ensures.0 refl in
    (λ is. absurd (false≢true (c.if-eq.ensures ∙ rw (c.kind.ensures ∙ is))), told.0, told.1)

pub returns-then-use_stderr-clause-source : goal.returns-then-use_stderr-clause-source
returns-then-use_stderr-clause-source c = usage_is_other c.args.refusal

pub returns-then-use_stderr-clause-memory : goal.returns-then-use_stderr-clause-memory
returns-then-use_stderr-clause-memory c = λ is.
    absurd (false≢true (c.if-eq.ensures ∙ rw (c.kind.ensures ∙ is)))

pub returns-else-use_stderr-clause-sorted : goal.returns-else-use_stderr-clause-sorted
returns-else-use_stderr-clause-sorted c =
    was_asked_for (kind_of c.args.refusal) c.if-use_stderr.ensures.1

pub returns-else-use_stderr-clause-source : goal.returns-else-use_stderr-clause-source
returns-else-use_stderr-clause-source c = help_is_other c.args.refusal

pub returns-else-use_stderr-clause-memory : goal.returns-else-use_stderr-clause-memory
returns-else-use_stderr-clause-memory c = λ is.
    absurd (false≢true (c.if-eq.ensures ∙ rw (c.kind.ensures ∙ is)))
