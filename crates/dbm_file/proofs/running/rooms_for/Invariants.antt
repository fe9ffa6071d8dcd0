use Rattle.std.proofs.Common.{take}
use Rattle.dbm_file.specs.Rooms.{AreRoomsFor}
use Rattle.dbm_file.proofs.running.rooms_for.Given as goal

abbrev pub invariant-loop-call : goal.invariant-loop-call
invariant-loop-call l =
    AreRoomsFor l.longest (take l.call-index l.calls) l.rooms
