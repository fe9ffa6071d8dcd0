use Rattle.std.proofs.Common.{sym, refl, OnOk}
use Rattle.std.specs.Io.KnownBytes.{Appends}
use Rattle.dbm_model.specs.Calls as model
use Rattle.dbm_file.specs.Calls.{lent_reply}
use Rattle.dbm_file.specs.Replies.{told_of_bytes}
use Rattle.dbm_file.specs.declared.calls.Call.TheVariants as call
use Rattle.dbm_file.specs.declared.calls.Reply.TheVariants as code
use Rattle.dbm_file.proofs.Answered.{next_answered, bytes_are_told}
use Rattle.dbm_engines.proofs.Telling.{told_line}
use Rattle.dbm_engines.proofs.script.answer_next.Goals as goal

pub returns-clause-line : goal.returns-clause-line
returns-clause-line g c honest h at = (
  lent_reply model.End c.nextkey.result,
  c.nextkey.follows.holds-at-none.step honest h at,
  c.write_passed.ensures,
)

-- on any device
pub returns-clause-tells : goal.returns-clause-tells
returns-clause-tells g c =
    let ended = c.nextkey.follows.holds-at-none in
    told_line c.args.form c.args.db.now c.nextkey.follows.lender-at-none call.Next
    (told_of_bytes code.End c.nextkey.result) (lent_reply model.End c.nextkey.result)
    (λ text. OnOk c.write_passed.result
    (Appends (g.W.Write.contents c.args.writer.now) (g.W.Write.contents c.write_passed.new.writer) text))
    (next_answered c.nextkey.result _ refl c.nextkey.ensures.passed c.nextkey.ensures.only ended.keeps)
    (sym (bytes_are_told code.End c.nextkey.result _ refl)) c.write_passed.ensures
