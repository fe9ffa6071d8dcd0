-- A plan that is known by its parts.
use Rattle.std.proofs.Common.{◌≡◌, ℕ, List, Option, Result, sym, subst}
use Rattle.sect_dev.specs.declared.device.SectorDev as device
use Rattle.page_io.specs.declared.store.PageStore as store
use Rattle.redo_area.specs.declared.pager.Pager.{Pager}
use Rattle.page_cache.specs.declared.cached_pages.CachedPages.{CachedPages}
use Rattle.dbm_commands.specs.declared.outcomes.Outcome.{Outcome}
use Rattle.dbm_commands.specs.declared.outcomes.Failure.{Failure}
use Rattle.dbm_command_line.specs.declared.plan.Plan.{Plan}
use Rattle.dbm_tool.specs.Plans.{CarriesOut}

-- what is said of a plan is said of the one that it is
pub carried_as : {D : Type 0} {bound : device.Ghosts D} {p : store.Ghosts (Pager D bound)}
    (s : store.Ghosts (CachedPages (Pager D bound) p)) (told plan : Plan)
    (result : Result Outcome Failure) (input old new : Option (List ℕ)) → told ≡ plan
    → CarriesOut s plan result input old new → CarriesOut s told result input old new
carried_as s told plan result input old new same carried =
    subst (λ (one : Plan). CarriesOut s one result input old new) (sym same) carried
