use Rattle.std.proofs.Common.{◌∙◌, ℕ, is_ok, subst}
use Rattle.sect_dev.specs.Device.{IsCounted}
use Rattle.sect_dev.proofs.Asking.{asked_to_sync, cause_since}
use Rattle.sect_dev.proofs.file_dev.FileDevSectorDev.sync.Goals as goal

pub returns : goal.returns
returns c =
    let old = c.args.self.now in
    let mid = c.fdatasync-answer.new.self in
    let done = c.fdatasync-answer.ensures in
    let told = c.note.ensures in
    record {
      goes = asked_to_sync old mid c.note.new.self (is_ok c.note.result)
          (is_ok c.fdatasync-answer.result) told.answer told.same done;
      cause = cause_since c.note.result old.faults mid.faults c.note.new.self.faults
          done.faults told.cause;
      count = subst (λ (n : ℕ). IsCounted n c.note.new.self.faults c.note.result) done.faults
          told.count;
      size = told.same.capacity ∙ done.capacity;
    }
