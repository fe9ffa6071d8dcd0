use Rattle.std.proofs.Common.{refl, is_ok}
use Rattle.sect_dev.specs.FileHistory.{recorded_change}
use Rattle.sect_dev.specs.FileHistory.Change.{Syncs}
use Rattle.sect_dev.proofs.file_dev.FileDev.fdatasync.Goals as goal

pub returns : goal.returns
returns c = record {
  file = refl;
  changes = refl;
  capacity = refl;
  faults = refl;
  next = recorded_change c.args.self.now.file c.args.self.now.changes
      (Syncs (is_ok c.sync_data.result));
}
