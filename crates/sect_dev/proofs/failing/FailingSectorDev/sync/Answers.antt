use Rattle.std.proofs.Common.{refl, sym, inl, ◌∙◌, arith}
use Rattle.sect_dev.specs.Failing.{inner_of}
use Rattle.sect_dev.proofs.Results.{on_err}
use Rattle.sect_dev.proofs.Refusing.{no_ok, cause_beside, refused_by_schedule}
use Rattle.sect_dev.proofs.failing.FailingSectorDev.sync.Goals as goal

pub returns-then-count : goal.returns-then-count
returns-then-count g c =
    let D = g.D.SectorDev in
    let dev = inner_of c.args.self.now in
    let refused = c.refuse.ensures in
    record {
      stable = λ _. no_ok c.refuse.result _ refused.fails;
      seen = λ _. no_ok c.refuse.result _ refused.fails;
      candidates = λ _ _ _ is. is;
      keeps = λ _. on_err c.refuse.result _ (λ _ _ _ is. is);
      time = λ _. record {
        later = omega arith;
        until = c.count.ensures.until (D.moment dev).at (D.moment dev).at (omega arith)
            (λ _ _. omega arith);
        nothing_else = λ t x le is. inl is;
        keeps = λ t x le is. is;
      };
      step = omega arith;
      honesty = (λ is. is, λ is. is);
      cause = cause_beside (D.faults dev) c.args.self.now.refused c.refuse.new.refused
          c.refuse.result refused.cause;
      quiet = no_ok c.refuse.result _ refused.fails;
      size = refl;
      schedule = refused_by_schedule g.P.Schedule.fails D.faults c.args.self.now _ c.refuse.result
          (sym c.if-count.true ∙ c.count.ensures.now) refused.fails refused.count
          c.count.ensures.next;
      kept = λ _. refl;
    }
