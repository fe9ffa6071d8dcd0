use Rattle.std.proofs.Common.{sym, refl, OnOk}
use Rattle.std.specs.Io.KnownBytes.{Appends}
use Rattle.dbm_model.specs.Calls as model
use Rattle.dbm_file.specs.Calls.{lent_reply}
use Rattle.dbm_file.specs.Replies.{told_of_bytes}
use Rattle.dbm_file.specs.declared.calls.Call.TheVariants as call
use Rattle.dbm_file.specs.declared.calls.Reply.TheVariants as code
use Rattle.dbm_file.proofs.Answered.{fetch_answered, bytes_are_told}
use Rattle.dbm_engines.proofs.Telling.{told_line}
use Rattle.dbm_engines.proofs.script.answer_fetch.Goals as goal

pub returns-clause-line : goal.returns-clause-line
returns-clause-line g c honest h at = (
  lent_reply model.NoRecord c.fetch.result,
  c.fetch.follows.holds-at-none.step honest h at,
  c.write_fetched.ensures,
)

-- on any device
pub returns-clause-tells : goal.returns-clause-tells
returns-clause-tells g c =
    let ended = c.fetch.follows.holds-at-none in
    told_line c.args.form c.args.db.now c.fetch.follows.lender-at-none (call.Fetch c.args.key.now)
    (told_of_bytes code.NoRecord c.fetch.result) (lent_reply model.NoRecord c.fetch.result)
    (λ text. OnOk c.write_fetched.result
    (Appends (g.W.Write.contents c.args.writer.now) (g.W.Write.contents c.write_fetched.new.writer) text))
    (fetch_answered c.fetch.result _ _ _ refl refl c.fetch.ensures.searched c.fetch.ensures.only ended.keeps)
    (sym (bytes_are_told code.NoRecord c.fetch.result _ refl)) c.write_fetched.ensures
