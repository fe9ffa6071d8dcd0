use Rattle.std.proofs.Common.{◌∙◌, ℕ, ◌/◌, ap, sym}
use Rattle.dbm_file.proofs.EnoughRoom.{file_has_room}
use Rattle.ndbm_c.proofs.Opened.{same_number, is_device, opened_so, refused_so, early_so}
use Rattle.ndbm_c.proofs.handle.Open.open.Goals as goal

pub returns-in-Ok : goal.returns-in-Ok
returns-in-Ok c =
    let done = c.in-Ok.ensures in
    let db = c.in-Ok.db in
    opened_so c.args.how c.args.self.now c.in-Some.dev record { db = db; group = c.new.result }
    (is_device c.args.self.now c.in-Some.dev (sym c.in-Some.ensures.taken)) record {
      fresh = done.fresh;
      stands = λ stable all. done.stands tt stable all;
      any_moment = done.any_moment tt;
      keeps = done.opened tt;
      only_reads = λ reads. done.only_reads reads tt;
      room = λ size. file_has_room db db.valid
          (done.fresh.capacity ∙ ap (λ (n : ℕ). n / 4) size);
      group = c.new.ensures;
    }

pub returns-in-Err : goal.returns-in-Err
returns-in-Err c =
    let told = c.in-Err.ensures in
    let refusal = c.refusal-in-Err in
    refused_so c.args.how c.args.self.now c.in-Some.dev c.in-Err.dev c.in-Err.fault _
    (is_device c.args.self.now c.in-Some.dev (sym c.in-Some.ensures.taken))
    (same_number refusal.result refusal.type_inv ∙ refusal.ensures) record {
      early = early_so c.in-Err.dev c.in-Some.dev c.in-Err.fault _ c.open_again.result
          c.open_again.ensures.early c.in-Err.is;
      refused = λ none other. told.refused tt none other;
      allowed = λ none stand allow. told.opens tt none stand allow;
      device = told.device;
      any_moment = told.any_moment tt;
      only_reads = λ reads. told.only_reads reads tt;
      size = told.size.1;
    }
