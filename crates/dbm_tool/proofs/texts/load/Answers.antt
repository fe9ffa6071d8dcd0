use Rattle.file_opening.specs.declared.open_how.Access.TheVariants.{ReadWrite}
use Rattle.dbm_tool.specs.Files.{there}
use Rattle.dbm_tool.proofs.Carrying.{was_closed}
use Rattle.dbm_tool.proofs.texts.load.Goals as goal

pub returns-clause-carried : goal.returns-clause-carried
returns-clause-carried g c =
    was_closed _ (there ReadWrite) _ _ c.in_ok-db.db c.load_pairs-loaded.new.db c.load_outcome.result
    c.in_ok-db.ensures.opens c.in_ok-db.ensures.fresh (record {
      ended = c.load_pairs-loaded.result;
      loads = c.load_pairs-loaded.ensures.loads;
      is_told = c.load_outcome.ensures;
    }) c.close.ensures.closed
