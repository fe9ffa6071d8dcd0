use Rattle.std.proofs.Common.{◌≡◌, length, sym, ◌∙◌, ap, arith}
use Rattle.sect_dev.specs.Device.{part_of}
use Rattle.page_io.specs.Store.{are_in_order}
use Rattle.commit_log.specs.Log.{Log, slot_of}
use Rattle.commit_log.proofs.Finds.{same_slots, same_disorder}
use Rattle.commit_log.proofs.Redone.{good_log}
use Rattle.commit_log.proofs.recovering.read_slot.Goals as goal

pub returns-clause-found : goal.returns-clause-found
returns-clause-found g c honest =
    let run = c.in_ok-read_run.ensures.read honest in
    let long : length c.read_run.new.out ≡ 31232 = omega arith in
    c.find_log.ensures.found
    ∙ same_slots c.args.start (part_of c.read_run.new.out)
    (slot_of (g.D.SectorDev.seen c.args.dev.now) c.args.at)
    (λ k lt. sym (run k (omega (arith, lt, long))))

pub returns-clause-disordered : goal.returns-clause-disordered
returns-clause-disordered g c honest =
    let run = c.in_ok-read_run.ensures.read honest in
    let long : length c.read_run.new.out ≡ 31232 = omega arith in
    c.find_log.ensures.disordered
    ∙ same_disorder c.args.start (part_of c.read_run.new.out)
    (slot_of (g.D.SectorDev.seen c.args.dev.now) c.args.at)
    (λ k lt. sym (run k (omega (arith, lt, long))))

pub returns-clause-rising : goal.returns-clause-rising
returns-clause-rising g c =
    ap (λ (l : Log). are_in_order 1 l.end l.pages) c.find_log.ensures.found
    ∙ (good_log c.args.start (part_of c.read_run.new.out)).in_order

pub returns-clause-above : goal.returns-clause-above
returns-clause-above g c =
    let same = ap (λ (l : Log). l.end) c.find_log.ensures.found in
    omega (arith, same, (good_log c.args.start (part_of c.read_run.new.out)).above)

pub returns-clause-least : goal.returns-clause-least
returns-clause-least g c =
    let is = c.find_log.ensures.found in
    let number = ap (λ (l : Log). l.number) is in
    let end = ap (λ (l : Log). l.end) is in
    λ some. omega (
      arith,
      end,
      (good_log c.args.start (part_of c.read_run.new.out)).least
          (omega (arith, some, number)),
    )
