use Rattle.std.proofs.Common.{◌*◌, ◌∙◌, ℕ, is_ok, subst}
use Rattle.sect_dev.specs.Device.{IsCounted}
use Rattle.sect_dev.proofs.Asking.{asked_to_write, cause_since}
use Rattle.sect_dev.proofs.file_dev.FileDevSectorDev.write_run.Goals as goal

pub returns : goal.returns
returns c =
    let old = c.args.self.now in
    let mid = c.pwrite-answer.new.self in
    let done = c.pwrite-answer.ensures in
    let told = c.note.ensures in
    record {
      goes = asked_to_write old mid c.note.new.self (is_ok c.note.result)
          (is_ok c.pwrite-answer.result) told.answer told.same
          c.offset_of.result (c.args.n * 512) c.args.from.now c.offset_of.ensures done;
      whole = c.requires.whole;
      cause = cause_since c.note.result old.faults mid.faults c.note.new.self.faults
          done.faults told.cause;
      count = subst (λ (n : ℕ). IsCounted n c.note.new.self.faults c.note.result) done.faults
          told.count;
      size = told.same.capacity ∙ done.capacity;
    }
