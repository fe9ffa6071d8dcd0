use Rattle.std.proofs.Common.{inl, inr, arith, refl, ◌∙◌}
use Rattle.std.proofs.lemmas.Result.{IfOk-from_err}
use Rattle.sect_dev.specs.Moments.{outside_run}
use Rattle.sect_dev.proofs.Results.{on_err}
use Rattle.sect_dev.proofs.RunSteps.{before_all, one_more, cause_after, candidates_more, partly_more, written_more}
use Rattle.sect_dev.proofs.device.SectorDev.write_run.Goals as goal

pub loop-k-init : goal.loop-k-init
loop-k-init g c =
    let dev = g.Self.SectorDev in
    record {
      went = before_all dev.sectors dev.faults dev.moment dev.honest dev.candidate dev.left_since
          c.args.self.now;
      quiet = refl;
      written = λ h j less. absurd (omega (arith, less));
      partly = λ h m. inl (λ i. dev.seen c.args.self.now m);
      candidates = λ h m x may. inl may;
    }

pub write-requires : goal.write-requires
write-requires g c =
    omega (arith, c.requires.fits, c.loop-k-test.true, c.loop-k.invariant.went.size)

pub loop-k-preserved : goal.loop-k-preserved
loop-k-preserved g c =
    let dev = g.Self.SectorDev in
    let first = c.args.self.now in
    let mid = c.loop-k.self in
    let new = c.write.new.self in
    let inv = c.loop-k.invariant in
    let done = c.write.ensures in
    let still = inv.went.honesty.1 in
    let written = c.in_ok-write.ensures.written in
    record {
      went = one_more dev.sectors dev.faults dev.moment dev.honest dev.candidate dev.left_since
          first mid new inv.went done.size done.honesty done.cause.later done.keeps done.time;
      quiet = c.in_ok-write.ensures.quiet ∙ inv.quiet;
      written = λ h. written_more c.args.n c.loop-k.k c.args.from.now c.sector_of.result
          c.loop-k-test.true c.sector_of.ensures (dev.seen first) (dev.seen mid) (dev.seen new)
          (inv.written h) (written (still h));
      partly = λ h. partly_more c.args.n c.loop-k.k c.args.from.now c.sector_of.result
          c.loop-k-test.true c.sector_of.ensures (dev.seen first) (dev.seen mid) (dev.seen new)
          (inv.partly h) (inr (written (still h)));
      candidates = λ h. candidates_more c.args.n c.loop-k.k c.args.from.now c.sector_of.result
          c.loop-k-test.true c.sector_of.ensures (dev.candidate first) (dev.candidate mid)
          (dev.candidate new) (inv.candidates h) (done.candidates (still h));
    }

pub returns-in_err-write : goal.returns-in_err-write
returns-in_err-write g c =
    let dev = g.Self.SectorDev in
    let first = c.args.self.now in
    let mid = c.loop-k.self in
    let new = c.write.new.self in
    let inv = c.loop-k.invariant in
    let done = c.write.ensures in
    let still = inv.went.honesty.1 in
    let went = one_more dev.sectors dev.faults dev.moment dev.honest dev.candidate dev.left_since
    first mid new inv.went done.size done.honesty done.cause.later done.keeps done.time in
    record {
      written = λ h. IfOk-from_err _ _ c.from_residual.ensures.0;
      failed = λ h. on_err c.from_residual.result _ (λ failed. partly_more c.args.n c.loop-k.k
          c.args.from.now c.sector_of.result c.loop-k-test.true c.sector_of.ensures
          (dev.seen first) (dev.seen mid) (dev.seen new) (inv.partly h)
          (c.in_err-write.ensures.failed (still h)));
      candidates = λ h. candidates_more c.args.n c.loop-k.k c.args.from.now c.sector_of.result
          c.loop-k-test.true c.sector_of.ensures (dev.candidate first) (dev.candidate mid)
          (dev.candidate new) (inv.candidates h) (done.candidates (still h));
      keeps = went.keeps;
      time = went.time;
      quiet = IfOk-from_err _ _ c.from_residual.ensures.0;
      honesty = went.honesty;
      cause = cause_after (dev.faults first) (dev.faults mid) (dev.faults new)
          c.from_residual.result inv.went.later done.cause.later
          c.in_err-write.ensures.cause.fault;
      size = went.size;
    }

pub returns : goal.returns
returns g c =
    let dev = g.Self.SectorDev in
    let inv = c.loop-k.invariant in
    record {
      written = λ h. record {
        inside = λ k within. inv.written h k (omega (arith, within, c.loop-k-test.false));
        outside = outside_run c.args.n c.args.from.now (dev.seen c.args.self.now)
            (dev.seen c.loop-k.self) (inv.partly h);
      };
      failed = λ h. tt;
      candidates = inv.candidates;
      keeps = inv.went.keeps;
      time = inv.went.time;
      quiet = inv.quiet;
      honesty = inv.went.honesty;
      cause = record { later = inv.went.later; fault = tt };
      size = inv.went.size;
    }
