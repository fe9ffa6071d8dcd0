use Rattle.std.proofs.Common.{◌/◌, ℕ, true, sym, ◌∙◌, ap, subst}
use Rattle.page_io.specs.Store.{bytes_of}
use Rattle.redo_area.specs.File.{IsAtRest}
use Rattle.redo_area.specs.declared.area.RedoArea.{RedoArea}
use Rattle.redo_area.specs.Settling.{rests_at}
use Rattle.redo_area.proofs.Recoveries.{as_before, read_behind, settled_behind}
use Rattle.redo_area.proofs.resuming.resume.Goals as goal

pub returns-in-Err-clause-any_moment : goal.returns-in-Err-clause-any_moment
returns-in-Err-clause-any_moment g c honest =
    as_before g.D.SectorDev c.args.dev.now c.sync_and_read.new.dev
    (c.sync_and_read.ensures.any_moment honest)

pub returns-in-Ok-Some-clause-any_moment : goal.returns-in-Ok-Some-clause-any_moment
returns-in-Ok-Some-clause-any_moment g c honest =
    let h1 = c.sync_and_read.ensures.device.honesty.1 honest in
    read_behind g.D.SectorDev c.args.dev.now c.sync_and_read.new.dev c.resume_found.new.dev
    (c.sync_and_read.ensures.any_moment honest) (c.sync_and_read.ensures.start honest)
    (c.in-Ok.ensures.stable honest) (c.resume_found.ensures.only_reads h1)

pub returns-in-Err-resume_found-clause-any_moment :
    goal.returns-in-Err-resume_found-clause-any_moment
returns-in-Err-resume_found-clause-any_moment g c honest =
    let h1 = c.sync_and_read.ensures.device.honesty.1 honest in
    read_behind g.D.SectorDev c.args.dev.now c.sync_and_read.new.dev c.resume_found.new.dev
    (c.sync_and_read.ensures.any_moment honest) (c.sync_and_read.ensures.start honest)
    (c.in-Ok.ensures.stable honest) (c.resume_found.ensures.only_reads h1)

pub returns-in_err-rest-in-Ok-None-clause-any_moment :
    goal.returns-in_err-rest-in-Ok-None-clause-any_moment
returns-in_err-rest-in-Ok-None-clause-any_moment g c honest =
    let h1 = c.sync_and_read.ensures.device.honesty.1 honest in
    let h2 = c.resume_found.ensures.device.honesty.1 h1 in
    settled_behind g.D.SectorDev c.args.dev.now c.sync_and_read.new.dev c.resume_found.new.dev
    (c.sync_and_read.ensures.any_moment honest) (c.sync_and_read.ensures.start honest)
    (c.in-Ok.ensures.stable honest) c.settle_found.new.dev (c.resume_found.ensures.only_reads h1)
    c.resume_found.ensures.device.size c.sync_and_read.ensures.device.size
    (c.settle_found.ensures.any_moment h2)

pub returns-in_ok-rest-in-Ok-None-clause-any_moment :
    goal.returns-in_ok-rest-in-Ok-None-clause-any_moment
returns-in_ok-rest-in-Ok-None-clause-any_moment g c honest =
    let h1 = c.sync_and_read.ensures.device.honesty.1 honest in
    let h2 = c.resume_found.ensures.device.honesty.1 h1 in
    settled_behind g.D.SectorDev c.args.dev.now c.sync_and_read.new.dev c.resume_found.new.dev
    (c.sync_and_read.ensures.any_moment honest) (c.sync_and_read.ensures.start honest)
    (c.in-Ok.ensures.stable honest) c.settle_found.new.dev (c.resume_found.ensures.only_reads h1)
    c.resume_found.ensures.device.size c.sync_and_read.ensures.device.size
    (c.settle_found.ensures.any_moment h2)

pub returns-in_ok-rest-in-Ok-None-clause-settles :
    goal.returns-in_ok-rest-in-Ok-None-clause-settles
returns-in_ok-rest-in-Ok-None-clause-settles g c honest =
    let dev = g.D.SectorDev in
    let new = c.settle_found.new.dev in
    let rest = c.in_ok-rest-in-Ok-None.rest in
    let found = c.in_ok-rest-in-Ok-None.ensures in
    let kept = c.new.result.items in
    let h1 = c.sync_and_read.ensures.device.honesty.1 honest in
    let h2 = c.resume_found.ensures.device.honesty.1 h1 in
    let size = c.resume_found.ensures.device.size ∙ c.sync_and_read.ensures.device.size in
    rests_at true (dev.sectors c.args.dev.now / 4) rest.end c.empty.result (bytes_of kept)
    (dev.candidate new) (dev.seen new) (ap (λ (a : RedoArea). a.held) c.empty.ensures)
    (ap (λ (a : RedoArea). a.log) c.empty.ensures) (ap bytes_of c.new.ensures.items)
    (subst (λ (s : ℕ). IsAtRest (s / 4) rest.end (dev.candidate new) (dev.seen new)) size
    (found.rest h2))
    (λ _. found.kind h2 ∙ sym (ap (λ (a : RedoArea). a.kind) c.empty.ensures))
