use Rattle.std.proofs.Common.{◌≡◌, ◌<◌, ◌≤◌, ◌+◌, ◌*◌, ℕ, List, length, take, sym, ◌∙◌, ap, arith}
use Rattle.std.proofs.lemmas.List.{length-take-le}
use Rattle.sect_dev.specs.Device.{Image, part_of, HasRun}
use Rattle.page_io.specs.Store.{are_in_order}
use Rattle.commit_log.specs.Log.{Log}
use Rattle.commit_log.proofs.Redone.{good_log}
use Rattle.commit_log.proofs.Rewritten.{none_new, leaves_old}
use Rattle.commit_log.proofs.Spellings.{front_part}
use Rattle.commit_log.proofs.rewriting.write_slot_back.Goals as goal

-- the front of what was read stands there
front : (bytes : List ℕ) (size at : ℕ) (seen : Image) → size ≤ length bytes → HasRun seen at bytes
    → HasRun seen at (take size bytes)
front bytes size at seen fits run k lt =
    let long = length-take-le size bytes fits in
    run k (omega (arith, lt, long, fits))
    ∙ sym (front_part bytes size k fits (omega (arith, lt, long)))

pub returns-in_err-write_run-clause-any_moment : goal.returns-in_err-write_run-clause-any_moment
returns-in_err-write_run-clause-any_moment g c honest =
    let dev = g.D.SectorDev in
    let first = c.args.dev.now in
    let h1 = c.read_run.ensures.honesty.1 honest in
    let bytes = c.read_run.new.out in
    let size : ℕ = 512 * (1 + 4 * c.find_log-found.result.count) in
    let fits : size ≤ length bytes = omega (arith, c.find_log-found.ensures.few) in
    leaves_old dev first c.read_run.new.self c.write_run.new.self c.args.at (take size bytes)
    (λ image left. g.met.D.SectorDev.only_now first image honest left)
    (g.met.D.SectorDev.seen_may_stay first honest)
    (front bytes size c.args.at (dev.seen first) fits (c.in_ok-read_run.ensures.read honest))
    (c.read_run.ensures.candidates honest) (c.write_run.ensures.candidates h1)
    (c.read_run.ensures.time honest) (c.write_run.ensures.time h1)

pub returns-in_err-write_run-clause-candidates : goal.returns-in_err-write_run-clause-candidates
returns-in_err-write_run-clause-candidates g c honest =
    let dev = g.D.SectorDev in
    let first = c.args.dev.now in
    let h1 = c.read_run.ensures.honesty.1 honest in
    let bytes = c.read_run.new.out in
    let size : ℕ = 512 * (1 + 4 * c.find_log-found.result.count) in
    let fits : size ≤ length bytes = omega (arith, c.find_log-found.ensures.few) in
    none_new dev first c.read_run.new.self c.write_run.new.self c.args.at (take size bytes)
    (λ image left. g.met.D.SectorDev.only_now first image honest left)
    (g.met.D.SectorDev.seen_may_stay first honest)
    (front bytes size c.args.at (dev.seen first) fits (c.in_ok-read_run.ensures.read honest))
    (c.read_run.ensures.candidates honest) (c.write_run.ensures.candidates h1)

pub returns-clause-any_moment : goal.returns-clause-any_moment
returns-clause-any_moment g c honest =
    let dev = g.D.SectorDev in
    let first = c.args.dev.now in
    let h1 = c.read_run.ensures.honesty.1 honest in
    let bytes = c.read_run.new.out in
    let size : ℕ = 512 * (1 + 4 * c.find_log-found.result.count) in
    let fits : size ≤ length bytes = omega (arith, c.find_log-found.ensures.few) in
    leaves_old dev first c.read_run.new.self c.write_run.new.self c.args.at (take size bytes)
    (λ image left. g.met.D.SectorDev.only_now first image honest left)
    (g.met.D.SectorDev.seen_may_stay first honest)
    (front bytes size c.args.at (dev.seen first) fits (c.in_ok-read_run.ensures.read honest))
    (c.read_run.ensures.candidates honest) (c.write_run.ensures.candidates h1)
    (c.read_run.ensures.time honest) (c.write_run.ensures.time h1)

pub returns-clause-candidates : goal.returns-clause-candidates
returns-clause-candidates g c honest =
    let dev = g.D.SectorDev in
    let first = c.args.dev.now in
    let h1 = c.read_run.ensures.honesty.1 honest in
    let bytes = c.read_run.new.out in
    let size : ℕ = 512 * (1 + 4 * c.find_log-found.result.count) in
    let fits : size ≤ length bytes = omega (arith, c.find_log-found.ensures.few) in
    none_new dev first c.read_run.new.self c.write_run.new.self c.args.at (take size bytes)
    (λ image left. g.met.D.SectorDev.only_now first image honest left)
    (g.met.D.SectorDev.seen_may_stay first honest)
    (front bytes size c.args.at (dev.seen first) fits (c.in_ok-read_run.ensures.read honest))
    (c.read_run.ensures.candidates honest) (c.write_run.ensures.candidates h1)

pub returns-clause-rising : goal.returns-clause-rising
returns-clause-rising g c =
    ap (λ (l : Log). are_in_order 1 l.end l.pages) c.find_log-found.ensures.found
    ∙ (good_log c.args.start (part_of c.read_run.new.out)).in_order

pub returns-clause-above : goal.returns-clause-above
returns-clause-above g c =
    let same = ap (λ (l : Log). l.end) c.find_log-found.ensures.found in
    omega (arith, same, (good_log c.args.start (part_of c.read_run.new.out)).above)
