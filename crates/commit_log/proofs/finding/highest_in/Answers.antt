use Rattle.std.proofs.Common.{◌<◌, ◌≤◌, ◌*◌, ℕ, inl, inr, ◌∙◌, ap, arith}
use Rattle.std.proofs.lemmas.Bool.{cases_eq}
use Rattle.sect_dev.specs.Device.{part_of}
use Rattle.page_model.specs.Bytes.{u32_at}
use Rattle.commit_log.proofs.Finds.{part_field}
use Rattle.commit_log.proofs.finding.highest_in.Goals as goal

pub loop-k-init : goal.loop-k-init
loop-k-init c = record { so_far = λ j lt. absurd (omega (arith, lt)) }

pub loop-k-preserved : goal.loop-k-preserved
loop-k-preserved c = record {
  so_far = λ j lt. elim (cases_eq j c.loop-k.k) [
    | inl here ↦
        let same = ap (λ (i : ℕ). u32_at (part_of c.args.bytes.now i) 0) here
        ∙ part_field c.args.bytes.now c.loop-k.k in
        omega (arith, same, c.number_at.ensures, c.max-highest.ensures)
    | inr before ↦ omega (
      arith,
      c.loop-k.invariant.so_far j (omega (arith, lt, before)),
      c.max-highest.ensures,
    )
  ];
}
