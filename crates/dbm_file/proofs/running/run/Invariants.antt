use Rattle.std.proofs.Common.{◌≡◌, ◌≤◌, length, map, take, drop, vec_len, vec_capacity}
use Rattle.dbm_model.specs.States.{Handle}
use Rattle.dbm_file.specs.Answers.{IsSameUnder}
use Rattle.dbm_file.specs.Calls.{call_of, reply_of}
use Rattle.dbm_file.specs.Database.{store_of, meta_kept, IsAt}
use Rattle.dbm_file.specs.Replies.{AreAnswered, bounds_behind}
use Rattle.dbm_file.specs.Rooms.{AreRoomsFor, longest_content}
use Rattle.dbm_file.specs.Runs.{IsRun, IsMadeInSteps}
use Rattle.dbm_file.proofs.running.run.Given as goal

abbrev pub invariant-loop-call : goal.invariant-loop-call
invariant-loop-call g l = record {
  ran : g.S.PageStore.honest (store_of l.initial.db) → (h : Handle) → IsAt l.initial.db h
      → IsRun l.initial.db l.db h (map call_of (take l.call-index l.calls))
      (map reply_of l.replies.items);
  stepped : g.S.PageStore.honest (store_of l.initial.db) → (h : Handle) → IsAt l.initial.db h
      → IsMadeInSteps l.initial.db l.db h (map call_of (take l.call-index l.calls))
      (map reply_of l.replies.items);
  answered : AreAnswered l.initial.db l.db (take l.call-index l.calls) l.replies.items;
  goes : IsSameUnder (bounds_behind (meta_kept l.initial.db).bounds (take l.call-index l.calls)
      l.replies.items) l.initial.db l.db;
  many : vec_len l.replies ≡ l.call-index;
  fits : length l.calls ≤ vec_capacity l.replies;
  small : longest_content (meta_kept l.db).bounds.version ≤ l.longest;
  rooms : AreRoomsFor l.longest (drop l.call-index l.calls) l.rooms;
}
