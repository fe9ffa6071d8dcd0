use Rattle.std.proofs.Common.{◌≡◌, ◌≤◌, ◌+◌, ◌*◌, ℕ, sym, subst, arith}
use Rattle.commit_log.proofs.OwnPages.{own_at}
use Rattle.commit_log.proofs.Rewritten.{AddsNone, none_added, adds_on}
use Rattle.commit_log.proofs.rewriting.write_homes_back.Goals as goal
use Rattle.commit_log.proofs.rewriting.write_homes_back.Goals.{then-not-is_among+in_ok-write_page_back, else-not-is_among}

pub loop-page-init : goal.loop-page-init
loop-page-init g c = record {
  adds = none_added g.D.SectorDev c.args.dev.now
      (λ image h left. g.met.D.SectorDev.only_now c.args.dev.now image h left);
}

pub write_page_back-requires : goal.write_page_back-requires
write_page_back-requires g c =
    let sectors = g.D.SectorDev.sectors c.args.dev.now in
    let fits : 4 * c.own-own.result + 4 ≤ sectors =
    subst (λ (k : ℕ). 4 * k + 4 ≤ sectors)
    (own_at c.args.pages.now c.loop-page.page-index c.page-item.result c.own-own.result
    c.loop-page-test.true c.page-item.is c.own-own.ensures.number)
    (c.requires.room c.loop-page.page-index c.loop-page-test.true) in
    omega (arith, fits, c.loop-page.invariant.adds.size)

pub returns-in_err-write_page_back-clause-any_moment : goal.returns-in_err-write_page_back-clause-any_moment
returns-in_err-write_page_back-clause-any_moment g c =
    let w = c.write_page_back.ensures in
    (adds_on g.D.SectorDev c.args.dev.now c.loop-page.dev c.write_page_back.new.dev
    c.loop-page.invariant.adds
    (record {
      size = w.device.size;
      honesty = w.device.honesty;
      faults = w.device.cause.later;
      any_moment = w.any_moment;
      candidates = w.candidates;
    })).any_moment

pub returns-in_err-write_page_back-clause-candidates : goal.returns-in_err-write_page_back-clause-candidates
returns-in_err-write_page_back-clause-candidates g c =
    let w = c.write_page_back.ensures in
    (adds_on g.D.SectorDev c.args.dev.now c.loop-page.dev c.write_page_back.new.dev
    c.loop-page.invariant.adds
    (record {
      size = w.device.size;
      honesty = w.device.honesty;
      faults = w.device.cause.later;
      any_moment = w.any_moment;
      candidates = w.candidates;
    })).candidates

pub loop-page-preserved : goal.loop-page-preserved
loop-page-preserved g c =
    let dev = g.D.SectorDev in
    let first = c.args.dev.now in
    elim c.if-not-is_among.branch [
      | then-not-is_among+in_ok-write_page_back w ↦
          let told = w.write_page_back.ensures in
          record {
            adds = subst (AddsNone dev first) (sym w.dev-is)
                (adds_on dev first c.loop-page.dev w.write_page_back.new.dev
                c.loop-page.invariant.adds
                (record {
                  size = told.device.size;
                  honesty = told.device.honesty;
                  faults = told.device.cause.later;
                  any_moment = told.any_moment;
                  candidates = told.candidates;
                }));
          }
      | else-not-is_among w ↦ record {
        adds = subst (AddsNone dev first) (sym w.dev-is) c.loop-page.invariant.adds;
      }
    ]
