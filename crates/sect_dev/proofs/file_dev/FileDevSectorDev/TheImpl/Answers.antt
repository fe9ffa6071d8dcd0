use Rattle.std.proofs.Common.{◌*◌, ◌%◌, ℕ, is_ok, inr, ap}
use Rattle.std.proofs.lemmas.Result.{on_ok_weaker, on_err_weaker}
use Rattle.sect_dev.specs.FileHistory.{history_of}
use Rattle.sect_dev.specs.FileHistory.Change.{Writes, Syncs}
use Rattle.sect_dev.proofs.FileHistory.{honesty, time, same_seen, none_added, none_removed, change_time, one_change_more, run_seen, run_failed, run_adds, run_removes_none, sync_is_stable, sync_seen, sync_adds_none, sync_failed}
use Rattle.sect_dev.proofs.OneSector.{one_candidate, one_written, one_failed}
use Rattle.sect_dev.proofs.file_dev.FileDevSectorDev.TheImpl.Goals as goal

pub read-tells : goal.read-tells
read-tells c =
    let same = c.ensures.same in
    let old = c.args.self.now in
    let new = c.new.self.now in
    record {
      read = c.ensures.content;
      seen = λ honest. same_seen old.file new.file old.changes new.changes same.file same.changes;
      candidates = λ honest. none_added old.file new.file old.changes new.changes
          same.file same.changes;
      keeps = λ honest. none_removed old.file new.file old.changes new.changes
          same.file same.changes;
      time = λ honest. time old.file new.file old.changes new.changes same.file (inr same.changes);
      still = same.changes;
      honesty = honesty old.file new.file old.changes new.changes same.file;
      cause = c.ensures.cause;
      quiet = c.ensures.count.quiet;
      size = same.capacity;
    }

pub write-tells : goal.write-tells
write-tells c =
    let goes = c.ensures.goes in
    let old = c.args.self.now in
    let new = c.new.self.now in
    let n = c.args.n in
    let from = c.args.from.now in
    let long = c.ensures.whole in
    let whole = ap (λ (size : ℕ). size % 512) long in
    let before = (history_of old.file).seen old.changes in
    let now = (history_of new.file).seen new.changes in
    record {
      written = λ honest. on_ok_weaker c.result (one_written n from long before now)
          (run_seen c.result old.file new.file old.changes new.changes n from whole goes.file
          goes.answered honest);
      failed = λ honest. on_err_weaker c.result (one_failed n from long before now)
          (run_failed c.result old.file new.file old.changes new.changes n from whole goes.file
          goes.answered honest);
      candidates = λ honest. one_candidate n from long
          ((history_of old.file).candidate old.changes)
          ((history_of new.file).candidate new.changes)
          (run_adds c.result old.file new.file old.changes new.changes n from whole goes.file
          goes.answered honest);
      keeps = run_removes_none c.result old.file new.file old.changes new.changes n from whole
          goes.file goes.answered;
      time = λ honest. change_time c.result old.file new.file old.changes new.changes
          (Writes (n * 512) from (is_ok c.result)) goes.file goes.answered;
      step = one_change_more old.changes new.changes goes.answered;
      honesty = honesty old.file new.file old.changes new.changes goes.file;
      cause = c.ensures.cause;
      quiet = c.ensures.count.quiet;
      size = c.ensures.size;
    }

pub read_run-tells : goal.read_run-tells
read_run-tells c =
    let same = c.ensures.same in
    let old = c.args.self.now in
    let new = c.new.self.now in
    record {
      read = c.ensures.content;
      seen = λ honest. same_seen old.file new.file old.changes new.changes same.file same.changes;
      candidates = λ honest. none_added old.file new.file old.changes new.changes
          same.file same.changes;
      keeps = λ honest. none_removed old.file new.file old.changes new.changes
          same.file same.changes;
      time = λ honest. time old.file new.file old.changes new.changes same.file (inr same.changes);
      still = same.changes;
      honesty = honesty old.file new.file old.changes new.changes same.file;
      cause = c.ensures.cause;
      quiet = c.ensures.count.quiet;
      size = same.capacity;
    }

pub write_run-tells : goal.write_run-tells
write_run-tells c =
    let goes = c.ensures.goes in
    let old = c.args.self.now in
    let new = c.new.self.now in
    let n = c.args.n in
    let from = c.args.from.now in
    let whole = c.ensures.whole in
    record {
      written = run_seen c.result old.file new.file old.changes new.changes n from whole goes.file
          goes.answered;
      failed = run_failed c.result old.file new.file old.changes new.changes n from whole
          goes.file goes.answered;
      candidates = run_adds c.result old.file new.file old.changes new.changes n from whole
          goes.file goes.answered;
      keeps = run_removes_none c.result old.file new.file old.changes new.changes n from whole
          goes.file goes.answered;
      time = λ honest. change_time c.result old.file new.file old.changes new.changes
          (Writes (n * 512) from (is_ok c.result)) goes.file goes.answered;
      honesty = honesty old.file new.file old.changes new.changes goes.file;
      cause = c.ensures.cause;
      quiet = c.ensures.count.quiet;
      size = c.ensures.size;
    }

pub sync-tells : goal.sync-tells
sync-tells c =
    let goes = c.ensures.goes in
    let old = c.args.self.now in
    let new = c.new.self.now in
    record {
      stable = sync_is_stable c.result old.file new.file old.changes new.changes
          goes.file goes.answered;
      seen = sync_seen c.result old.file new.file old.changes new.changes goes.file goes.answered;
      candidates = sync_adds_none c.result old.file new.file old.changes new.changes
          goes.file goes.answered;
      keeps = sync_failed c.result old.file new.file old.changes new.changes
          goes.file goes.answered;
      time = λ honest. change_time c.result old.file new.file old.changes new.changes
          (Syncs (is_ok c.result)) goes.file goes.answered;
      step = one_change_more old.changes new.changes goes.answered;
      honesty = honesty old.file new.file old.changes new.changes goes.file;
      cause = c.ensures.cause;
      quiet = c.ensures.count.quiet;
      size = c.ensures.size;
    }
