use Rattle.std.proofs.Common.{◌+◌, ◌*◌, length, arith}
use Rattle.std.proofs.lemmas.List.{length-map, length-take-le}
use Rattle.page_io.specs.Store.{bytes_of}
use Rattle.page_io.specs.declared.page.Page.{Page}
use Rattle.commit_log.proofs.Spellings.{spelled_in_front}
use Rattle.commit_log.proofs.steps.log_next.Goals as goal

pub log_over-requires-clause-spelled : goal.log_over-requires-clause-spelled
log_over-requires-clause-spelled g c =
    spelled_in_front c.args.start (c.args.number + 1) c.args.new_end (bytes_of c.args.pages.now)
    c.spell.new.bytes (512 * (1 + 4 * length c.args.pages.now))
    (omega (arith, length-map c.args.pages.now (λ (p : Page). p.bytes))) c.spell.ensures.spelled

pub log_over-requires-clause-long : goal.log_over-requires-clause-long
log_over-requires-clause-long g c =
    length-take-le (512 * (1 + 4 * length c.args.pages.now)) c.spell.new.bytes
    (omega (arith, c.requires.few))
