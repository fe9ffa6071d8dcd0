use Rattle.std.proofs.Common.{◌∙◌, Some, ap, inl, inr, is_some, refl}
use Rattle.clap.specs.Words.{found_of, rows_of}
use Rattle.dbm_command_line.specs.Asking.{IsVersion}
use Rattle.dbm_command_line.specs.declared.plan.Version.TheVariants.{V1, V2}
use Rattle.dbm_command_line.proofs.Naming.{if_some}
use Rattle.dbm_command_line.proofs.Refusing.{no_plan_is_other, version_is_other}
use Rattle.dbm_command_line.proofs.options.source.Goals as goal

pub returns-in-V1-clause-source : goal.returns-in-V1-clause-source
returns-in-V1-clause-source c = (
  c.in-Some-None.ensures,
  c.in-Some-None.ensures',
  if_some c.version.result V1 (IsVersion (rows_of (found_of c.args.options.now)))
      (c.in_ok-version.ensures.ok_part ∙ ap Some c.in-V1.is) c.version.ensures,
)

pub returns-in-V2-clause-version : goal.returns-in-V2-clause-version
returns-in-V2-clause-version c = λ _. (
  ap is_some c.in-Some-None.ensures,
  c.in-Some-None.ensures',
  if_some c.version.result V2 (IsVersion (rows_of (found_of c.args.options.now)))
      (c.in_ok-version.ensures.ok_part ∙ ap Some c.in-V2.is) c.version.ensures,
)

pub returns-in-V2-clause-lacks : goal.returns-in-V2-clause-lacks
returns-in-V2-clause-lacks c = λ is. absurd (version_is_other.0 is)

pub returns-in-V2-clause-others : goal.returns-in-V2-clause-others
returns-in-V2-clause-others c = inr (inr refl)

pub returns-in-Some-clause-source : goal.returns-in-Some-clause-source
returns-in-Some-clause-source c = (
  c.in-None-Some.ensures,
  c.in-Some.ensures,
  if_some c.version.result c.in_ok-version.version
      (IsVersion (rows_of (found_of c.args.options.now))) c.in_ok-version.ensures.ok_part
      c.version.ensures,
)

pub returns-in-None-clause-lacks : goal.returns-in-None-clause-lacks
returns-in-None-clause-lacks c = λ is. absurd (no_plan_is_other.0 is)

pub returns-in-None-clause-version : goal.returns-in-None-clause-version
returns-in-None-clause-version c = λ is. absurd (no_plan_is_other.2 is)

pub returns-in-None-clause-others : goal.returns-in-None-clause-others
returns-in-None-clause-others c = inl refl

-- no source is told there
pub returns-in-Some-Some-clause-source : goal.returns-in-Some-Some-clause-source
returns-in-Some-Some-clause-source c = tt
