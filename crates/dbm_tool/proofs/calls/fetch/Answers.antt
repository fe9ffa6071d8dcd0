use Rattle.std.proofs.Common.{inl, ap, sym, ◌∙◌, Some}
use Rattle.file_opening.specs.declared.open_how.Access.TheVariants.{ReadOnly}
use Rattle.dbm_tool.specs.Files.{there}
use Rattle.dbm_tool.proofs.Carrying.{was_closed}
use Rattle.dbm_tool.proofs.calls.fetch.Goals as goal

pub returns-clause-carried : goal.returns-clause-carried
returns-clause-carried g c = inl (
  c.deref.result.now,
  c.in_ok-key.ensures.spelled ∙ ap Some (sym c.deref.ensures.value),
  was_closed _ (there ReadOnly) _ _ c.in_ok-db.db c.fetch-done.new.db c.fetch-done.result
      c.in_ok-db.ensures.opens c.in_ok-db.ensures.fresh c.fetch-done.ensures.call
      c.close.ensures.closed,
)
