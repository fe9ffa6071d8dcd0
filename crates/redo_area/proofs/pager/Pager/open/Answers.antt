use Rattle.std.proofs.Common.{◌/◌, ℕ, true, sym, ◌∙◌, subst}
use Rattle.page_io.specs.Store.{bytes_of}
use Rattle.redo_area.specs.Settling.{SettlesToPages}
use Rattle.redo_area.proofs.Recoveries.{as_before}
use Rattle.redo_area.proofs.pager.Pager.open.Goals as goal

pub invariant_of-result-clause-settles : goal.invariant_of-result-clause-settles
invariant_of-result-clause-settles g c still usable =
    let dev = g.D.SectorDev in
    let new = c.resume.new.dev in
    let file = c.in-Ok.file in
    subst (λ (s : ℕ). SettlesToPages true (s / 4) file.end file.area (bytes_of file.waiting.items)
    (dev.candidate new) (dev.seen new)) (sym c.resume.ensures.size)
    (c.in-Ok.ensures.settles (c.resume.ensures.honesty.0 still))

pub returns-in-Ok-clause-committed : goal.returns-in-Ok-clause-committed
returns-in-Ok-clause-committed g c honest =
    let dev = g.D.SectorDev in
    let met = g.met.D.SectorDev in
    let first = c.args.dev in
    let new = c.resume.new.dev in
    let h1 = c.resume.ensures.honesty.1 honest in
    let run = c.resume.ensures.any_moment honest in
    let now = run.each (dev.seen new)
    (met.counts_now new (dev.moment first).at (dev.seen new) h1 run.later
    (met.seen_may_stay new h1)) in
    record {
      image = now.0;
      is_image = now.1;
      reads = sym now.2 ∙ (c.in-Ok.ensures.settles honest).settles;
    }

pub returns-in-Ok-read_file-clause-any_moment : goal.returns-in-Ok-read_file-clause-any_moment
returns-in-Ok-read_file-clause-any_moment g c honest =
    as_before g.D.SectorDev c.args.dev c.read_file.new.dev
    (c.read_file.ensures.only_reads honest).any_moment

pub returns-in-Err-read_file-clause-any_moment : goal.returns-in-Err-read_file-clause-any_moment
returns-in-Err-read_file-clause-any_moment g c honest =
    as_before g.D.SectorDev c.args.dev c.read_file.new.dev
    (c.read_file.ensures.only_reads honest).any_moment
