use Rattle.std.proofs.Common.{◌≡◌, true, is_ok, rules}
use Rattle.std.specs.Io.KnownBytes.{Appends}
use Rattle.dbm_engines.proofs.Answering.{said}
use Rattle.dbm_engines.proofs.Flushing.{line_flushed}
use Rattle.dbm_engines.proofs.Telling.{told_well, told_flushed}
use Rattle.dbm_engines.proofs.script.answer_and_flush.Goals as goal

pub returns-in-End : goal.returns-in-End
returns-in-End g c =
    let wrote : is_ok c.answer_line.result ≡ true = search rules in
    let form = c.args.buffers.now.form in
    let before = g.W.Write.contents c.args.writer.now in
    let mid = g.W.Write.contents c.answer_line.new.writer in
    record {
      line = λ honest h at.
          let answer = c.answer_line.ensures.line honest h at in
          let line =
          said c.answer_line.result form _ _ _ h (λ text. Appends before mid text) wrote answer in
          line_flushed c.flush.result form _ _ _ h before mid _ line c.flush.ensures.bytes;
      tells = told_flushed c.flush.result form _ _ _ before mid _ c.flush.ensures.bytes
          (told_well c.answer_line.result form _ _ _ (λ text. Appends before mid text) wrote
          c.answer_line.ensures.tells);
      goes = c.answer_line.ensures.goes;
      form = c.answer_line.ensures.form;
    }
