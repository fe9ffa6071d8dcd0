use Rattle.std.proofs.Common.{inl, inr, ap, sym, ◌∙◌, Some}
use Rattle.page_io.proofs.Exits.{exit_is}
use Rattle.file_opening.specs.declared.open_how.Access.TheVariants.{ReadWrite}
use Rattle.dbm_tool.specs.Files.{there}
use Rattle.dbm_tool.proofs.Carrying.{not_taken, was_closed}
use Rattle.dbm_tool.proofs.calls.insert.Goals as goal

pub returns-in_err-content-clause-carried : goal.returns-in_err-content-clause-carried
returns-in_err-content-clause-carried g c = inl (
  c.in_ok-key.key.items,
  c.in_ok-key.ensures.spelled,
  inr (not_taken c.args.spelling c.args.content.now c.in_err-content.field-0.0 _
      (exit_is _ _ c.from_residual-in_err-content.ensures.1) c.in_err-content.ensures.not_hex
      c.in_err-content.ensures.only),
)

pub returns-clause-carried : goal.returns-clause-carried
returns-clause-carried g c = inl (
  c.deref.result.now,
  c.in_ok-key.ensures.spelled ∙ ap Some (sym c.deref.ensures.value),
  inl (
    c.deref-2.result.now,
    c.in_ok-content.ensures.spelled ∙ ap Some (sym c.deref-2.ensures.value),
    was_closed _ (there ReadWrite) _ _ c.in_ok-db.db c.store-done.new.db c.store-done.result
        c.in_ok-db.ensures.opens c.in_ok-db.ensures.fresh c.store-done.ensures
        c.close.ensures.closed,
  ),
)
