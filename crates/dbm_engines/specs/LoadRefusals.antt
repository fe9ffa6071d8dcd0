-- By what a load may be stopped, on any device.
use Rattle.std.specs.Prelude.{IfErr, Result, Ok, Err}
use Rattle.dbm_fault.specs.Among.{IsAmong}
use Rattle.dbm_fault.specs.declared.engine_fault.EngineFault.{EngineFault}
use Rattle.dbm_fault.specs.declared.engine_fault.EngineFault.TheVariants as engine
use Rattle.dbm_file.specs.Replies.{store_faults}
use Rattle.dbm_engines.specs.declared.load_stop.LoadStop.{LoadStop}
use Rattle.dbm_engines.specs.declared.load_stop.LoadStop.TheVariants.{Memory, Read, Bad, Refused}

-- by want of memory, by reading, by a bad line, or by a fault that a store may meet
abbrev pub MayStopLoad : LoadStop → Type 0
MayStopLoad Memory = Unit {0}
MayStopLoad Read = Unit {0}
MayStopLoad (Bad line why) = Unit {0}
MayStopLoad (Refused line fault) = IsAmong fault store_faults

abbrev pub StopsByFault : {T : Type 0} → Result T LoadStop → Type 0
StopsByFault result = IfErr result MayStopLoad

-- as the fault of an engine
abbrev pub stop_fault : LoadStop → EngineFault
stop_fault Memory = engine.Memory
stop_fault Read = engine.Read
stop_fault (Bad line why) = engine.Line line
stop_fault (Refused line fault) = engine.Db fault

-- how a load ended, as an engine
abbrev pub as_engine : Result Unit LoadStop → Result Unit EngineFault
as_engine (Ok done) = Ok done
as_engine (Err stop) = Err (stop_fault stop)
