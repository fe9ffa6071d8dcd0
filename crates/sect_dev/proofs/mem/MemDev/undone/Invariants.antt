use Rattle.std.proofs.Common.{take}
use Rattle.sect_dev.specs.History.{content_in}
use Rattle.sect_dev.specs.Mem.{history}
use Rattle.sect_dev.proofs.Undoing.{IsBack}
use Rattle.sect_dev.proofs.mem.MemDev.undone.Given as goal

-- the writes from i on are undone
abbrev pub invariant-loop-i : goal.invariant-loop-i
invariant-loop-i l =
    IsBack (take l.i l.self.unsynced.items) (content_in l.contents) (history l.self)
