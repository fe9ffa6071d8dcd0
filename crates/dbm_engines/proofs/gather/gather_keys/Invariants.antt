use Rattle.std.proofs.Common.{◌≡◌, ◌≤◌, true, length, Ok}
use Rattle.dbm_model.specs.States.{Handle}
use Rattle.dbm_file.specs.Database.{store_of, IsAt}
use Rattle.dbm_engines.specs.Dumping.{Reads, bytes_of_keys}
use Rattle.dbm_engines.proofs.DumpingKeys.{IsPassing}
use Rattle.dbm_engines.proofs.gather.gather_keys.Given as goal

abbrev pub invariant-loop-step : goal.invariant-loop-step
invariant-loop-step g l = record {
  reads : Reads {T = Unit {0}} l.fn.db l.db (Ok (tt {0}));
  many : length l.keys.keys ≤ l._step;
  passing : g.S.PageStore.honest (store_of l.fn.db) → (h : Handle) → IsAt l.fn.db h
      → h.state.usable ≡ true → IsPassing l.db h.state.map (bytes_of_keys l.keys) l.given l._step;
}
