use Rattle.std.proofs.Common.{◌≡◌, ◌≤◌, ◌+◌, ◌++◌, take, map, reverse, length}
use Rattle.sect_dev.specs.History.{content_after, kept}
use Rattle.sect_dev.specs.Mem.{history, IsSameButRecord}
use Rattle.sect_dev.specs.Unsynced.{event_of}
use Rattle.sect_dev.proofs.mem.MemDev.add_marked.Given as goal

-- what is there is what is kept of the writes so far
abbrev pub invariant-loop-i : goal.invariant-loop-i
invariant-loop-i l = record {
  kept_so_far : content_after (history l.self)
      ≡ kept (reverse (take l.i (map event_of l.writes)) ++ history l.fn.self) l.keep;
  most : length (history l.self) ≤ length (history l.fn.self) + l.i;
  rest : IsSameButRecord l.fn.self l.self;
}
