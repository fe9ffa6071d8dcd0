use Rattle.std.proofs.Common.{◌≡◌, ◌+◌, ◌/◌, ◌∙◌, ℕ, sym, ap, refl, below_more, arith}
use Rattle.std.proofs.lemmas.Result.{IfOk-from_err}
use Rattle.sect_dev.specs.Device.{Image, sector_count, part_of}
use Rattle.sect_dev.proofs.RunSteps.{before_all, one_more, cause_after}
use Rattle.sect_dev.proofs.device.SectorDev.read_run.Goals as goal

pub loop-k-init : goal.loop-k-init
loop-k-init g c =
    let dev = g.Self.SectorDev in
    record {
      went = before_all dev.sectors dev.faults dev.moment dev.honest dev.candidate dev.left_since
          c.args.self.now;
      quiet = refl;
      still = refl;
      seen = λ h. refl;
      candidates = λ h m x may. may;
      read = λ h j less. absurd (omega (arith, less));
    }

pub read-requires : goal.read-requires
read-requires g c =
    omega (arith, c.requires.fits, c.loop-k-test.true, c.loop-k.invariant.went.size)

pub put_sector-requires : goal.put_sector-requires
put_sector-requires g c =
    let same : sector_count c.loop-k.out ≡ sector_count c.args.out.now =
    ap (λ (size : ℕ). size / 512) c.loop-k.auto.out in
    omega (arith, c.loop-k-test.true, same)

pub loop-k-preserved : goal.loop-k-preserved
loop-k-preserved g c =
    let dev = g.Self.SectorDev in
    let first = c.args.self.now in
    let mid = c.loop-k.self in
    let new = c.read.new.self in
    let inv = c.loop-k.invariant in
    let done = c.read.ensures in
    let still = inv.went.honesty.1 in
    let put = c.put_sector.ensures in
    record {
      went = one_more dev.sectors dev.faults dev.moment dev.honest dev.candidate dev.left_since
          first mid new inv.went done.size done.honesty done.cause.later done.keeps done.time;
      quiet = c.in_ok-read.ensures.quiet ∙ inv.quiet;
      still = done.still ∙ inv.still;
      seen = λ h. done.seen (still h) ∙ inv.seen h;
      candidates = λ h m x may. inv.candidates h m x (done.candidates (still h) m x may);
      read = λ h. below_more (λ j. dev.seen first (c.args.n + j)
          ≡ part_of c.put_sector.new.bytes j) c.loop-k.k
          (λ j less. inv.read h j less ∙ sym (put.before j less))
          (sym (ap (λ (s : Image). s (c.args.n + c.loop-k.k)) (inv.seen h))
          ∙ sym (c.in_ok-read.ensures.read (still h)) ∙ sym put.put);
    }

pub returns-in_err-read : goal.returns-in_err-read
returns-in_err-read g c =
    let dev = g.Self.SectorDev in
    let first = c.args.self.now in
    let mid = c.loop-k.self in
    let new = c.read.new.self in
    let inv = c.loop-k.invariant in
    let done = c.read.ensures in
    let still = inv.went.honesty.1 in
    let went = one_more dev.sectors dev.faults dev.moment dev.honest dev.candidate dev.left_since
    first mid new inv.went done.size done.honesty done.cause.later done.keeps done.time in
    record {
      read = λ h. IfOk-from_err _ _ c.from_residual.ensures.0;
      seen = λ h. done.seen (still h) ∙ inv.seen h;
      candidates = λ h m x may. inv.candidates h m x (done.candidates (still h) m x may);
      keeps = went.keeps;
      time = went.time;
      still = done.still ∙ inv.still;
      quiet = IfOk-from_err _ _ c.from_residual.ensures.0;
      honesty = went.honesty;
      cause = cause_after (dev.faults first) (dev.faults mid) (dev.faults new)
          c.from_residual.result inv.went.later done.cause.later c.in_err-read.ensures.cause.fault;
      size = went.size;
    }

pub returns : goal.returns
returns g c =
    let inv = c.loop-k.invariant in
    let same : sector_count c.loop-k.out ≡ sector_count c.args.out.now =
    ap (λ (size : ℕ). size / 512) c.loop-k.auto.out in
    record {
      read = λ h k within. inv.read h k (omega (arith, within, same, c.loop-k-test.false));
      seen = inv.seen;
      candidates = inv.candidates;
      keeps = inv.went.keeps;
      time = inv.went.time;
      still = inv.still;
      quiet = inv.quiet;
      honesty = inv.went.honesty;
      cause = record { later = inv.went.later; fault = tt };
      size = inv.went.size;
    }
