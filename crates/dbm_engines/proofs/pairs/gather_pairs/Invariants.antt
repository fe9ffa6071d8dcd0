use Rattle.std.proofs.Common.{◌≡◌, ◌≤◌, true, Ok}
use Rattle.std.specs.BTreeMap.{btree_map_len}
use Rattle.dbm_model.specs.States.{Handle}
use Rattle.dbm_file.specs.Database.{store_of, IsAt}
use Rattle.dbm_engines.specs.Dumping.{Reads, bytes_of_pairs}
use Rattle.dbm_engines.proofs.DumpingPairs.{IsFetching}
use Rattle.dbm_engines.proofs.pairs.gather_pairs.Given as goal

abbrev pub invariant-loop-step : goal.invariant-loop-step
invariant-loop-step g l = record {
  reads : Reads {T = Unit {0}} l.fn.db l.db (Ok (tt {0}));
  many : btree_map_len l.pairs ≤ l._step;
  passing : g.S.PageStore.honest (store_of l.fn.db) → (h : Handle) → IsAt l.fn.db h
      → h.state.usable ≡ true → IsFetching l.db h.state.map (bytes_of_pairs l.pairs) l.given l._step;
}
