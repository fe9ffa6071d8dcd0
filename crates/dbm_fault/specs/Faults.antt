-- The program's faults as those of the definitions.
use Rattle.dbm_model.specs.Calls as model
use Rattle.page_io.specs.declared.store.PageFault.{PageFault}
use Rattle.page_io.specs.declared.store.PageFault.TheVariants as page
use Rattle.dbm_fault.specs.declared.fault.Fault.{Fault}
use Rattle.dbm_fault.specs.declared.fault.Fault.TheVariants.{Memory, Device, Broken, ReadOnly, TooLong, Full, NoPass, NoRoom, Damaged, NotADatabase, Version, TooSmall, BadLimit, Missing, Exists}

abbrev pub fault_of : Fault → model.Fault
fault_of Memory = model.Memory
fault_of Device = model.Device
fault_of Broken = model.Broken
fault_of ReadOnly = model.ReadOnly
fault_of TooLong = model.TooLong
fault_of Full = model.Full
fault_of NoPass = model.NoPass
fault_of NoRoom = model.NoRoom
fault_of Damaged = model.Damaged
fault_of NotADatabase = model.NotADatabase
fault_of Version = model.Version
fault_of TooSmall = model.TooSmall
fault_of BadLimit = model.BadLimit
fault_of Missing = model.Missing
fault_of Exists = model.Exists

-- as which fault a store's is told
abbrev pub fault_from : PageFault → Fault
fault_from page.Memory = Memory
fault_from page.Device = Device
fault_from page.Broken = Broken
fault_from page.ReadOnly = ReadOnly
fault_from page.NoRoom = NoRoom
fault_from page.Damaged = Damaged
