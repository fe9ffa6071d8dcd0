use Rattle.std.proofs.Common.{ap, subst, refl, ◌∙◌, Ok}
use Rattle.dbm_model.specs.Calls as model
use Rattle.dbm_file.specs.Answers.{IsStep}
use Rattle.dbm_file.specs.Calls.{mode_of, store_reply}
use Rattle.dbm_file.specs.Replies.{told_of_store}
use Rattle.dbm_file.specs.declared.calls.Call.TheVariants as call
use Rattle.dbm_fault.specs.Faults.{fault_of}
use Rattle.dbm_file.proofs.Answered.{store_answered, store_is_told}
use Rattle.dbm_engines.proofs.script.answer_store.Goals.{After-store}
use Rattle.dbm_engines.proofs.script.answer_store.Goals as goal

pub returns-in-Err-clause-line : goal.returns-in-Err-clause-line
returns-in-Err-clause-line g c form honest h at = (
  model.Refused (fault_of c.in-Err.fault),
  subst (λ r. IsStep c.args.db.now c.store.new.self h
      (model.Store c.args.key.now c.args.content.now (mode_of c.args.mode)) r)
      (ap store_reply c.in-Err.is) (c.store.ensures.step honest h at),
  c.write_fault.ensures,
)

-- on any device
pub returns-in-Ok-Stored-clause-tells : goal.returns-in-Ok-Stored-clause-tells
returns-in-Ok-Stored-clause-tells g c form = (
  call.Store c.args.key.now c.args.content.now c.args.mode,
  refl,
  told_of_store c.store.result,
  store_answered c.store.result _ c.args.key.now c.args.key.now c.args.content.now
      c.args.content.now c.args.mode refl refl refl c.store.ensures.kept c.store.ensures.stored
      c.store.ensures.only c.store.ensures.keeps,
  rw (store_is_told c.store.result _ refl
      ∙ ap store_reply (c.in-Ok-Stored.is ∙ ap Ok c.in-Ok-Stored.field-0-is))
      c.write_stored.ensures,
)

pub returns-in-Ok-Kept-clause-tells : goal.returns-in-Ok-Kept-clause-tells
returns-in-Ok-Kept-clause-tells g c form = (
  call.Store c.args.key.now c.args.content.now c.args.mode,
  refl,
  told_of_store c.store.result,
  store_answered c.store.result _ c.args.key.now c.args.key.now c.args.content.now
      c.args.content.now c.args.mode refl refl refl c.store.ensures.kept c.store.ensures.stored
      c.store.ensures.only c.store.ensures.keeps,
  rw (store_is_told c.store.result _ refl
      ∙ ap store_reply (c.in-Ok-Kept.is ∙ ap Ok c.in-Ok-Kept.field-0-is)) c.write_kept.ensures,
)

pub returns-in-Err-clause-tells : goal.returns-in-Err-clause-tells
returns-in-Err-clause-tells g c form = (
  call.Store c.args.key.now c.args.content.now c.args.mode,
  refl,
  told_of_store c.store.result,
  store_answered c.store.result _ c.args.key.now c.args.key.now c.args.content.now
      c.args.content.now c.args.mode refl refl refl c.store.ensures.kept c.store.ensures.stored
      c.store.ensures.only c.store.ensures.keeps,
  rw (store_is_told c.store.result _ refl ∙ ap store_reply c.in-Err.is) c.write_fault.ensures,
)
