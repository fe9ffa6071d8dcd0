use Rattle.std.proofs.Common.{◌≡◌, ◌<◌, ◌≤◌, ◌+◌, ◌*◌, ℕ, [], List, length, get_or, true, sym, ◌∙◌, ap, subst, arith}
use Rattle.std.proofs.lemmas.List.{length-map}
use Rattle.sect_dev.specs.Device.{Image}
use Rattle.page_io.specs.Page.{page_at, own_number}
use Rattle.page_io.specs.Store.{file_of, overlaid, bytes_of, are_in_order}
use Rattle.page_io.specs.declared.page.Page.{Page}
use Rattle.page_io.proofs.Overlays.{same_file}
use Rattle.commit_log.proofs.Outside.{below_end}
use Rattle.commit_log.proofs.Results.{if_ok}
use Rattle.commit_log.proofs.Redone.{Same, both_logs, settled_of, same_if, one_redone, two_redone, redone}
use Rattle.commit_log.proofs.redoing.redo.Goals as goal

fits : (pages : List Page) (end start sectors : ℕ)
    → are_in_order 1 end (bytes_of pages) ≡ true → end ≤ start
    → 4 * start ≤ sectors → (k : ℕ) → k < length pages
    → 4 * own_number (get_or (bytes_of pages) k []) + 4 ≤ sectors
fits pages end start sectors rising above room k lt =
    let below = below_end 1 end (bytes_of pages) k rising
    (omega (arith, lt, length-map pages (λ (p : Page). p.bytes))) in
    omega (arith, below, above, room)

pub write_homes-requires : goal.write_homes-requires
write_homes-requires g c k lt =
    fits c.args.older.now c.args.older_end c.args.start (g.D.SectorDev.sectors c.args.dev.now)
    c.requires.older_rising c.requires.older_above c.requires.room k lt

pub write_homes-requires-2 : goal.write_homes-requires-2
write_homes-requires-2 g c k lt =
    fits c.args.newer.now c.args.end c.args.start (g.D.SectorDev.sectors c.write_homes.new.dev)
    c.requires.rising c.requires.above
    (omega (arith, c.requires.room, c.write_homes.ensures.device.size)) k lt

pub returns-in_err-write_homes-clause-any_moment : goal.returns-in_err-write_homes-clause-any_moment
returns-in_err-write_homes-clause-any_moment g c honest =
    let dev = g.D.SectorDev in
    let one = c.write_homes.new.dev in
    one_redone dev c.args.dev.now one one one c.args.start (bytes_of c.args.older.now)
    (bytes_of c.args.newer.now) (c.requires.stable honest) (both_logs (c.requires.logs honest))
    (c.write_homes.ensures.any_moment honest) (c.write_homes.ensures.candidates honest)

pub returns-in_err-write_homes-2-clause-any_moment : goal.returns-in_err-write_homes-2-clause-any_moment
returns-in_err-write_homes-2-clause-any_moment g c honest =
    let dev = g.D.SectorDev in
    let h1 = c.write_homes.ensures.device.honesty.1 honest in
    let two = c.write_homes-2.new.dev in
    two_redone dev c.args.dev.now c.write_homes.new.dev two two c.args.start
    (bytes_of c.args.older.now) (bytes_of c.args.newer.now) (c.requires.stable honest)
    (both_logs (c.requires.logs honest)) (c.write_homes.ensures.any_moment honest)
    (c.write_homes.ensures.candidates honest) (c.write_homes-2.ensures.any_moment h1)
    (c.write_homes-2.ensures.candidates h1)

pub returns-clause-any_moment : goal.returns-clause-any_moment
returns-clause-any_moment g c honest =
    let dev = g.D.SectorDev in
    let h1 = c.write_homes.ensures.device.honesty.1 honest in
    let h2 = c.write_homes-2.ensures.device.honesty.1 h1 in
    redone dev c.args.dev.now c.write_homes.new.dev c.write_homes-2.new.dev c.sync.new.self
    c.args.start (bytes_of c.args.older.now) (bytes_of c.args.newer.now)
    (c.requires.stable honest) (both_logs (c.requires.logs honest))
    (c.write_homes.ensures.any_moment honest) (c.write_homes.ensures.candidates honest)
    (c.write_homes-2.ensures.any_moment h1) (c.write_homes-2.ensures.candidates h1)
    (c.sync.ensures.candidates h2) (c.sync.ensures.time h2)

pub returns-clause-home : goal.returns-clause-home
returns-clause-home g c honest =
    let dev = g.D.SectorDev in
    let h1 = c.write_homes.ensures.device.honesty.1 honest in
    let h2 = c.write_homes-2.ensures.device.honesty.1 h1 in
    let older = bytes_of c.args.older.now in
    let newer = bytes_of c.args.newer.now in
    let first = page_at (dev.seen c.args.dev.now) in
    if_ok c.sync.result (c.sync.ensures.seen h2)
    (λ same. settled_of (c.requires.logs honest)
    ∙ ap file_of (same_file (overlaid newer (overlaid older first))
    (page_at (dev.seen c.sync.new.self)) c.args.end
    (λ n ge lt. sym (ap (λ (s : Image). page_at s n) same
    ∙ c.in_ok-write_homes-2.ensures.written h1 n
    ∙ ap (λ (f : ℕ → List ℕ). overlaid newer f n)
    (λ i k. c.in_ok-write_homes.ensures.written honest k i)))))

pub returns-clause-same : goal.returns-clause-same
returns-clause-same g c honest =
    let dev = g.D.SectorDev in
    let h1 = c.write_homes.ensures.device.honesty.1 honest in
    let h2 = c.write_homes-2.ensures.device.honesty.1 h1 in
    let first = c.args.dev.now in
    let one = c.write_homes.new.dev in
    let two = c.write_homes-2.new.dev in
    let older = bytes_of c.args.older.now in
    let newer = bytes_of c.args.newer.now in
    let stable = c.requires.stable honest in
    let both = both_logs (c.requires.logs honest) in
    if_ok c.sync.result (c.sync.ensures.seen h2)
    (λ same. subst (Same dev first one two two c.args.start older newer stable both) (sym same)
    (same_if dev first one two two c.args.start older newer stable both (dev.seen two)
    (λ m out_a out_b. c.in_ok-write_homes-2.ensures.others h1 m out_b
    ∙ c.in_ok-write_homes.ensures.others honest m out_a)))
