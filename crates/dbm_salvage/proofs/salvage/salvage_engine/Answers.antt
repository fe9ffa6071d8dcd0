use Rattle.std.proofs.Common.{◌+◌, refl, subst, arith}
use Rattle.sect_dev.specs.Device.{Image, MoreFaults}
use Rattle.page_io.proofs.Exits.{more_later}
use Rattle.dbm_salvage.specs.Laid.{laid}
use Rattle.dbm_salvage.specs.Salvage.{IsPageSalvaged}
use Rattle.dbm_salvage.proofs.FoundPages.{page_salvaged, pages_salvaged}
use Rattle.dbm_salvage.proofs.LookRuns.{looks_then}
use Rattle.dbm_salvage.proofs.salvage.salvage_engine.Goals as goal

pub loop-n-preserved : goal.loop-n-preserved
loop-n-preserved g c =
    let dev = g.D.SectorDev in
    let first = c.args.dev.now in
    let so_far = c.loop-n.invariant in
    let told = c.in_ok-found.ensures in
    let found = c.in_ok-found.found in
    let last = c.salvage_page.new.dev in
    record {
      looks = looks_then dev _ _ _ so_far.looks told.looks;
      capacity = omega (arith, so_far.capacity, told.capacity);
      last = omega (arith, c.loop-n-test.true);
      few_pairs = omega (arith, so_far.few_pairs, c.from.ensures);
      few_troubles = omega (arith, so_far.few_troubles, c.tell.ensures.one);
      done = λ honest.
          let same = (so_far.looks.only_reads honest).seen in
          let old = g.W.Write.contents c.loop-n.writer in
          let new = g.W.Write.contents c.salvage_page.new.writer in
          let page = subst (λ (image : Image). IsPageSalvaged (laid c.args.images.now image)
          c.args.pages (MoreFaults (dev.faults c.loop-n.dev) (dev.faults last)) c.loop-n.n old new
          found.printed found.trouble) same (told.page (so_far.looks.honesty.1 honest)) in
          page_salvaged (laid c.args.images.now (dev.seen first)) c.args.pages
          (MoreFaults (dev.faults first) (dev.faults c.loop-n.dev))
          (MoreFaults (dev.faults c.loop-n.dev) (dev.faults last))
          (MoreFaults (dev.faults first) (dev.faults last)) c.loop-n.n
          (g.W.Write.contents c.args.writer.now) old new
          (g.T.Troubles.told c.args.troubles.now) (g.T.Troubles.told c.loop-n.troubles)
          (g.T.Troubles.told c.tell.new.troubles) c.loop-n.all.pairs c.loop-n.all.troubles
          found.printed c.tell.result (c.loop-n.all.pairs + c.from.result)
          (c.loop-n.all.troubles + c.tell.result) found.trouble c.loop-n.auto.n
          (λ before. omega (arith, before, told.looks.later))
          (more_later _ _ _ so_far.looks.later) (so_far.done honest) page c.tell.ensures.told
          c.tell.ensures.count (omega (arith, c.from.ensures)) refl;
    }

pub returns-clause-salvaged : goal.returns-clause-salvaged
returns-clause-salvaged g c honest =
    let so_far = c.loop-n.invariant in
    pages_salvaged _ _ _ c.loop-n.n c.args.pages _ _ _ _ _ _
    (omega (arith, c.loop-n-test.false, so_far.last)) (so_far.done honest)
