use Rattle.std.proofs.Common.{pos, refl, ◌∙◌}
use Rattle.dbm_file.specs.declared.calls.Call.TheVariants as call
use Rattle.dbm_file.specs.declared.calls.Reply.TheVariants.{Number}
use Rattle.dbm_file.proofs.Runs.{same_number}
use Rattle.dbm_engines.proofs.script.answer_clear.Goals as goal

-- on any device
pub returns-clause-tells : goal.returns-clause-tells
returns-clause-tells g c form = (
  call.Clear,
  refl,
  Number (pos 0),
  record {
    zero = refl;
    cleared = c.clearerr.ensures.clear;
    still = c.clearerr.ensures.still.0;
    kept = c.clearerr.ensures.still.1;
    pass = c.clearerr.ensures.still.2;
  },
  c.write_number.ensures _
      (same_number c.clearerr.result c.clearerr.type_inv ∙ c.clearerr.ensures.zero),
)
