use Rattle.std.proofs.Common.{ap, subst, refl, ◌∙◌, Ok, rules}
use Rattle.dbm_model.specs.Calls as model
use Rattle.dbm_file.specs.Answers.{IsStep}
use Rattle.dbm_file.specs.Calls.{delete_reply}
use Rattle.dbm_file.specs.Replies.{told_of_delete}
use Rattle.dbm_file.specs.declared.calls.Call.TheVariants.{Delete}
use Rattle.dbm_fault.specs.Faults.{fault_of}
use Rattle.dbm_file.proofs.Answered.{delete_answered, delete_is_told}
use Rattle.dbm_engines.proofs.script.answer_delete.Goals.{After-delete}
use Rattle.dbm_engines.proofs.script.answer_delete.Goals as goal

pub returns-in-Ok-Absent-clause-line : goal.returns-in-Ok-Absent-clause-line
returns-in-Ok-Absent-clause-line g c = search rules

pub returns-in-Err-clause-line : goal.returns-in-Err-clause-line
returns-in-Err-clause-line g c form honest h at = (
  model.Refused (fault_of c.in-Err.fault),
  subst (λ r. IsStep c.args.db.now c.delete.new.self h (model.Delete c.args.key.now) r)
      (ap delete_reply c.in-Err.is) (c.delete.ensures.step honest h at),
  c.write_fault.ensures,
)

-- on any device
pub returns-in-Ok-Deleted-clause-tells : goal.returns-in-Ok-Deleted-clause-tells
returns-in-Ok-Deleted-clause-tells g c form = (
  Delete c.args.key.now,
  refl,
  told_of_delete c.delete.result,
  delete_answered c.delete.result _ c.args.key.now c.args.key.now refl refl
      c.delete.ensures.absent c.delete.ensures.deleted c.delete.ensures.only c.delete.ensures.keeps,
  rw (delete_is_told c.delete.result _ refl ∙ ap delete_reply (c.in-Ok-Deleted.is ∙ ap Ok c.in-Ok-Deleted.field-0-is))
      c.write_deleted.ensures,
)

pub returns-in-Ok-Absent-clause-tells : goal.returns-in-Ok-Absent-clause-tells
returns-in-Ok-Absent-clause-tells g c form = (
  Delete c.args.key.now,
  refl,
  told_of_delete c.delete.result,
  delete_answered c.delete.result _ c.args.key.now c.args.key.now refl refl
      c.delete.ensures.absent c.delete.ensures.deleted c.delete.ensures.only c.delete.ensures.keeps,
  rw (delete_is_told c.delete.result _ refl ∙ ap delete_reply (c.in-Ok-Absent.is ∙ ap Ok c.in-Ok-Absent.field-0-is))
      c.write_absent.ensures,
)

pub returns-in-Err-clause-tells : goal.returns-in-Err-clause-tells
returns-in-Err-clause-tells g c form = (
  Delete c.args.key.now,
  refl,
  told_of_delete c.delete.result,
  delete_answered c.delete.result _ c.args.key.now c.args.key.now refl refl
      c.delete.ensures.absent c.delete.ensures.deleted c.delete.ensures.only c.delete.ensures.keeps,
  rw (delete_is_told c.delete.result _ refl ∙ ap delete_reply c.in-Err.is)
      c.write_fault.ensures,
)
