use Rattle.std.proofs.Common.{◌≡◌, ◌≤◌, ◌+◌, ◌/◌, All, map, take}
use Rattle.sect_dev.specs.contracts.mem.MemDevSectorDev.TheImpl.{ghosts as MemDevGhosts}
use Rattle.dbm_model.specs.Members.{Members, AllHaveRoom}
use Rattle.dbm_model.specs.SessionRoom.{AsksForRoom}
use Rattle.rehearsal.specs.Members.{AllStandFor}
use Rattle.rehearsal.specs.Rehearsals.{planned, endings_in, SessionsLeave, AreNeverShort, AreOpenedBut, AsksForALimit, FindOrMake, IsSpared, AreCutAsAsked, most_changes}
use Rattle.rehearsal.proofs.rehearsing.rehearse.Given as goal

abbrev pub invariant-loop-stage : goal.invariant-loop-stage
invariant-loop-stage l = record {
  left : (before : Members)
      → AllStandFor before (MemDevGhosts.sectors l.initial.dev / 4)
      (MemDevGhosts.candidate l.initial.dev)
      → SessionsLeave before (map planned (take l.stage-index l.stages)) (endings_in l.endings.items)
      (MemDevGhosts.sectors l.dev / 4) (MemDevGhosts.candidate l.dev);
  size : MemDevGhosts.sectors l.dev / 4 ≡ MemDevGhosts.sectors l.initial.dev / 4;
  short : (before : Members)
      → AllStandFor before (MemDevGhosts.sectors l.initial.dev / 4)
      (MemDevGhosts.candidate l.initial.dev)
      → AllHaveRoom (MemDevGhosts.sectors l.initial.dev / 4) before
      → All (AsksForRoom (MemDevGhosts.sectors l.initial.dev / 4)) (map planned l.stages)
      → AreNeverShort (endings_in l.endings.items);
  opened : (before : Members)
      → AllStandFor before (MemDevGhosts.sectors l.initial.dev / 4)
      (MemDevGhosts.candidate l.initial.dev)
      → AllHaveRoom (MemDevGhosts.sectors l.initial.dev / 4) before
      → All (AsksForRoom (MemDevGhosts.sectors l.initial.dev / 4)) (map planned l.stages)
      → All AsksForALimit (map planned l.stages) → FindOrMake before (map planned l.stages)
      → AreOpenedBut (map planned (take l.stage-index l.stages)) (endings_in l.endings.items);
  cut : AreCutAsAsked (take l.stage-index l.stages) l.endings.items;
  spared : (before : Members)
      → AllStandFor before (MemDevGhosts.sectors l.initial.dev / 4)
      (MemDevGhosts.candidate l.initial.dev) → All IsSpared l.endings.items;
  stops : (before : Members)
      → AllStandFor before (MemDevGhosts.sectors l.initial.dev / 4)
      (MemDevGhosts.candidate l.initial.dev)
      → (MemDevGhosts.moment l.dev).at
      ≤ (MemDevGhosts.moment l.initial.dev).at + most_changes (take l.stage-index l.stages);
}
