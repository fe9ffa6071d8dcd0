use Rattle.std.proofs.Common.{Result, subst}
use Rattle.dbm_fault.specs.declared.engine_fault.EngineFault.{EngineFault}
use Rattle.dbm_aside.specs.Stops.{Ends}
use Rattle.dbm_engines.specs.LoadRefusals.{as_engine}
use Rattle.dbm_aside.proofs.Endings.{load_ended, loaded_well, done_well}
use Rattle.dbm_aside.proofs.replacing.replace.Goals as goal

pub returns-clause-read : goal.returns-clause-read
returns-clause-read g c =
    done_well _ (as_engine c.fill-filled.result) c.end.result
    (loaded_well _ c.fill-filled.result c.fill-filled.ensures.read)
    (subst (λ (e : Result Unit EngineFault). Ends e c.end.result) c.as_engine.ensures c.end.ensures)

pub returns-clause-size : goal.returns-clause-size
returns-clause-size g c =
    done_well _ (as_engine c.fill-filled.result) c.end.result
    (loaded_well _ c.fill-filled.result c.fill-filled.ensures.size)
    (subst (λ (e : Result Unit EngineFault). Ends e c.end.result) c.as_engine.ensures c.end.ensures)

pub returns-clause-only : goal.returns-clause-only
returns-clause-only g c =
    load_ended c.fill-filled.result c.end.result c.fill-filled.ensures.faults
    (subst (λ (e : Result Unit EngineFault). Ends e c.end.result) c.as_engine.ensures c.end.ensures)
