use Rattle.std.proofs.Common.{inl, ap, sym, ◌∙◌, Some}
use Rattle.file_opening.specs.declared.open_how.Access.TheVariants.{ReadWrite}
use Rattle.dbm_tool.specs.Files.{there}
use Rattle.dbm_tool.proofs.Carrying.{was_closed}
use Rattle.dbm_tool.proofs.calls.delete.Goals as goal

pub returns-clause-carried : goal.returns-clause-carried
returns-clause-carried g c = inl (
  c.deref.result.now,
  c.in_ok-key.ensures.spelled ∙ ap Some (sym c.deref.ensures.value),
  was_closed _ (there ReadWrite) _ _ c.in_ok-db.db c.delete-done.new.db c.delete-done.result
      c.in_ok-db.ensures.opens c.in_ok-db.ensures.fresh c.delete-done.ensures
      c.close.ensures.closed,
)
