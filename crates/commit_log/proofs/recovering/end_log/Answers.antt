use Rattle.std.proofs.Common.{◌≡◌, ap}
use Rattle.sect_dev.specs.Device.{Image}
use Rattle.sect_dev.specs.Moments.{started}
use Rattle.commit_log.specs.Log.{settled_at}
use Rattle.commit_log.proofs.recovering.end_log.Goals as goal

pub returns-then-newer-eq0-clause-any_moment : goal.returns-then-newer-eq0-clause-any_moment
returns-then-newer-eq0-clause-any_moment g c honest =
    let dev = g.D.SectorDev in
    let first = c.args.dev.now in
    started dev.moment dev.left_since first
    (λ image. (settled_at image c.args.start ≡ settled_at (dev.seen first) c.args.start)
    × (image 0 ≡ dev.seen first 0))
    (λ image left.
    let same : image ≡ dev.seen first = λ i m. c.requires.stable honest m (image m)
    (g.met.D.SectorDev.only_now first image honest left m) i in
    (ap (λ (s : Image). settled_at s c.args.start) same, ap (λ (s : Image). s 0) same))
