-- How an operation ends behind what was done in it.
use Rattle.std.proofs.Common.{inl, inr, Result, Ok, Err, IfErr, OnOk, sym, subst}
use Rattle.dbm_fault.specs.Among.{IsAmong}
use Rattle.dbm_fault.specs.declared.engine_fault.EngineFault.{EngineFault}
use Rattle.dbm_fault.specs.declared.engine_fault.EngineFault.TheVariants.{Memory, Read, Write, Line, Db}
use Rattle.dbm_engines.specs.LoadRefusals.{MayStopLoad, StopsByFault, as_engine, stop_fault}
use Rattle.dbm_engines.specs.declared.load_stop.LoadStop.{LoadStop}
use Rattle.dbm_engines.specs.declared.load_stop.LoadStop.TheVariants as load
use Rattle.dbm_aside.specs.Copying.{copy_faults}
use Rattle.dbm_aside.specs.Stops.{IsOfDatabase, IsOfLoad, Ends}
use Rattle.dbm_aside.specs.declared.stop.Stop.{Stop}

pub as_load : (fault : EngineFault) → IsOfDatabase fault → IsOfLoad fault
as_load Memory is = tt
as_load (Db fault) is = tt
as_load Read is = absurd is
as_load Write is = absurd is
as_load (Line n) is = absurd is

may_stop : (stop : LoadStop) → MayStopLoad stop → IsOfLoad (stop_fault stop)
may_stop load.Memory may = tt
may_stop load.Read may = tt
may_stop (load.Bad n why) may = tt
may_stop (load.Refused n fault) may = tt

of_copy : (fault : EngineFault) → IsAmong fault copy_faults → IsOfDatabase fault
of_copy fault (inl e) = subst IsOfDatabase (sym e) tt
of_copy fault (inr (inl e)) = subst IsOfDatabase (sym e) tt
of_copy fault (inr (inr (inl e))) = subst IsOfDatabase (sym e) tt
of_copy fault (inr (inr (inr (inl e)))) = subst IsOfDatabase (sym e) tt
of_copy fault (inr (inr (inr (inr (inl e))))) = subst IsOfDatabase (sym e) tt
of_copy fault (inr (inr (inr (inr (inr (inl e)))))) = subst IsOfDatabase (sym e) tt
of_copy fault (inr (inr (inr (inr (inr (inr (inl e))))))) = subst IsOfDatabase (sym e) tt
of_copy fault (inr (inr (inr (inr (inr (inr (inr (inl e)))))))) = subst IsOfDatabase (sym e) tt
of_copy fault (inr (inr (inr (inr (inr (inr (inr (inr (inl e))))))))) = subst IsOfDatabase (sym e) tt
of_copy fault (inr (inr (inr (inr (inr (inr (inr (inr (inr e))))))))) = subst IsOfDatabase (sym e) tt

-- of a load
pub load_ended : {T : Type 0} (filled : Result Unit LoadStop) (result : Result T Stop)
    → StopsByFault filled → Ends (as_engine filled) result
    → IfErr result (λ stop. IsOfLoad stop.fault)
load_ended (Ok done) (Ok answer) stops ends = tt
load_ended (Ok done) (Err stop) stops ends = as_load stop.fault ends
load_ended (Err fault) (Ok answer) stops ends = tt
load_ended (Err fault) (Err stop) stops ends = subst IsOfLoad (sym ends) (may_stop fault stops)

pub loaded_well : (P : Type 0) (filled : Result Unit LoadStop) → OnOk filled P
    → OnOk (as_engine filled) P
loaded_well P (Ok done) is = is
loaded_well P (Err stop) is = tt

-- of a copy
pub copy_ended : {T : Type 0} (filled : Result Unit EngineFault) (result : Result T Stop)
    → IfErr filled (λ fault. IsAmong fault copy_faults) → Ends filled result
    → IfErr result (λ stop. IsOfDatabase stop.fault)
copy_ended (Ok done) (Ok answer) among ends = tt
copy_ended (Ok done) (Err stop) among ends = ends
copy_ended (Err fault) (Ok answer) among ends = tt
copy_ended (Err fault) (Err stop) among ends = subst IsOfDatabase (sym ends) (of_copy fault among)

-- where it ends well, so did what was done
pub done_well : {T : Type 0} (P : Type 0) (filled : Result Unit EngineFault) (result : Result T Stop)
    → OnOk filled P → Ends filled result → OnOk result P
done_well P (Ok done) (Ok answer) is ends = is
done_well P (Ok done) (Err stop) is ends = tt
done_well P (Err fault) (Ok answer) is ends = absurd ends
done_well P (Err fault) (Err stop) is ends = tt
