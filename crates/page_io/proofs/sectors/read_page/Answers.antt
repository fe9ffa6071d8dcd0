use Rattle.std.proofs.Common.{◌∙◌, sym}
use Rattle.std.proofs.lemmas.Result.{on_ok_weaker}
use Rattle.page_io.proofs.PageLaws.{page_of_run}
use Rattle.page_io.proofs.sectors.read_page.Goals as goal

pub returns-clause-read : goal.returns-clause-read
returns-clause-read g c honest =
    on_ok_weaker c.read_run.result
    (λ run. sym (page_of_run (g.D.SectorDev.seen c.args.dev.now) c.args.n c.read_run.new.out
    (c.read_run.auto.out ∙ c.args.page.now.whole) run))
    (c.read_run.ensures.read honest)
