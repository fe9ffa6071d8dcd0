use Rattle.std.proofs.Common.{refl}
use Rattle.dbm_file.specs.Replies.{told_of_bytes}
use Rattle.dbm_file.specs.declared.calls.Reply.TheVariants.{NoRecord}
use Rattle.dbm_file.proofs.Answered.{fetch_answered, bytes_are_told}
use Rattle.dbm_file.proofs.Runs.{same_step}
use Rattle.dbm_commands.proofs.pairs.fetch.Goals as goal

pub returns-clause-call : goal.returns-clause-call
returns-clause-call g c =
    let ended = c.fetch.follows.holds-at-none in
    record {
      reply = told_of_bytes NoRecord c.fetch.result;
      told = c.print_fetched.ensures.told;
      step = λ honest h at. same_step refl (bytes_are_told NoRecord c.fetch.result _ refl)
          (ended.step honest h at);
      answered = fetch_answered c.fetch.result _ _ _ refl refl c.fetch.ensures.searched
          c.fetch.ensures.only ended.keeps;
    }
