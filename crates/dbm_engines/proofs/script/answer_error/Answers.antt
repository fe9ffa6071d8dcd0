use Rattle.std.proofs.Common.{pos, refl, ◌∙◌}
use Rattle.dbm_model.specs.States.{error_number}
use Rattle.dbm_file.specs.Database.{error_of}
use Rattle.dbm_file.specs.declared.calls.Call.TheVariants as call
use Rattle.dbm_file.specs.declared.calls.Reply.TheVariants.{Number}
use Rattle.dbm_file.proofs.Runs.{same_number}
use Rattle.dbm_engines.proofs.script.answer_error.Goals as goal

pub returns-clause-line : goal.returns-clause-line
returns-clause-line g c form honest h at = (
  _,
  c.error.ensures.step honest h at,
  c.write_number.ensures _ (same_number c.error.result c.error.type_inv
      ∙ c.error.ensures.number),
)

-- on any device
pub returns-clause-tells : goal.returns-clause-tells
returns-clause-tells g c form = (
  call.Error,
  refl,
  Number (pos (error_number (error_of c.args.db.now))),
  (refl, refl),
  c.write_number.ensures _ (same_number c.error.result c.error.type_inv ∙ c.error.ensures.number),
)
