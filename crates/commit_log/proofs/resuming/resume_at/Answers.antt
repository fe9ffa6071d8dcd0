use Rattle.std.proofs.Common.{◌^◌, take, sym, subst, arith}
use Rattle.sect_dev.specs.Device.{Image}
use Rattle.page_io.specs.Store.{bytes_of}
use Rattle.page_io.proofs.StagedPages.{order_wider}
use Rattle.commit_log.specs.Log.{IsLogged}
use Rattle.commit_log.specs.Found.{log_found}
use Rattle.commit_log.proofs.OwnPages.{fit}
use Rattle.commit_log.proofs.Resting.{rests}
use Rattle.commit_log.proofs.resuming.resume_at.Goals as goal

pub are_home-requires-clause-room : goal.are_home-requires-clause-room
are_home-requires-clause-room g c k lt =
    fit (take c.args.older.now.count c.args.older.now.pages) c.args.older.now.end c.args.start
    (g.D.SectorDev.sectors c.args.dev.now) c.requires.older_rising c.requires.above.1
    c.requires.room k lt

pub are_home-requires-clause-order : goal.are_home-requires-clause-order
are_home-requires-clause-order g c =
    order_wider 1 c.args.newest.end (2 ^ 32)
    (bytes_of (take c.args.newest.count c.args.newest.pages))
    (omega (arith, c.requires.above.0, c.ranges.start.fits)) c.requires.rising

pub returns-clause-logged : goal.returns-clause-logged
returns-clause-logged g c honest =
    let dev = g.D.SectorDev in
    let reads = c.are_home.ensures.only_reads honest in
    let newest = c.args.newest in
    subst (λ (seen : Image). IsLogged newest.end c.args.start newest.number c.args.at c.args.beside
    (bytes_of (take newest.count newest.pages)) (dev.candidate c.are_home.new.dev) seen)
    (sym reads.seen)
    (rests c.args.start c.args.at c.args.beside newest.highest c.args.older.now.highest
    (log_found newest) (log_found c.args.older.now)
    (λ m content may. c.requires.stable honest m content (reads.no_new m content may))
    c.requires.places (c.requires.found honest) (c.requires.found_older honest)
    (c.requires.ordered honest) (c.requires.highest honest) (c.requires.highest_older honest)
    (omega (arith, c.if-number-eq0.false)) c.if-newest-number.false
    (omega (arith, c.if-number-older.false)) c.requires.rising
    (c.requires.least (omega (arith, c.if-number-eq0.false))) c.requires.above.0
    (c.in_ok-are_home.ensures.home honest c.if-not-branch.false))
