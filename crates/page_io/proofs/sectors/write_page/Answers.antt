use Rattle.std.proofs.Common.{rules, inl, ◌+◌, ◌*◌}
use Rattle.std.proofs.lemmas.Result.{on_ok_weaker}
use Rattle.sect_dev.specs.Moments.{by_call}
use Rattle.page_io.specs.Page.{IsPartlyWritten}
use Rattle.page_io.proofs.PageLaws.{page_of_run, partly_written}
use Rattle.page_io.proofs.sectors.write_page.Goals as goal

pub returns-clause-written : goal.returns-clause-written
returns-clause-written g c honest =
    let page = c.args.page.now in
    let now = g.D.SectorDev.seen c.write_run.new.self in
    on_ok_weaker c.write_run.result
    (λ run. page_of_run now c.args.n page.bytes page.whole run.inside)
    (c.write_run.ensures.written honest)

pub returns-clause-mid_write : goal.returns-clause-mid_write
returns-clause-mid_write g c honest =
    let dev = g.D.SectorDev in
    let first = c.args.dev.now in
    let bytes = c.args.page.now.bytes in
    let done = c.write_run.ensures in
    by_call dev.moment dev.left_since first c.write_run.new.self
    (IsPartlyWritten (dev.candidate first) c.args.n bytes) _
    (λ image left k within. inl (g.met.D.SectorDev.only_now first image honest left (4 * c.args.n + k)))
    (done.time honest)
    (λ image is. partly_written (dev.candidate first) c.args.n bytes image
    (λ m. done.candidates honest m (image m) (is m)))

pub returns-clause-any_moment : goal.returns-clause-any_moment
returns-clause-any_moment g c = search rules
