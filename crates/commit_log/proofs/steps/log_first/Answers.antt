use Rattle.std.proofs.Common.{◌+◌, ◌*◌, ℕ, List, inl, inr, length, ap, ◌∙◌, arith}
use Rattle.std.proofs.lemmas.Bool.{cases_lt}
use Rattle.std.proofs.lemmas.List.{length-map}
use Rattle.page_model.specs.Bytes.{u32_at}
use Rattle.page_io.specs.declared.page.Page.{Page}
use Rattle.commit_log.proofs.Begins.{zero_number}
use Rattle.commit_log.proofs.steps.log_first.Goals as goal

pub begin_log-requires-clause-alone : goal.begin_log-requires-clause-alone
begin_log-requires-clause-alone g c k lt = elim (cases_lt k (1 + 4 * length c.args.pages.now)) [
  | inl less ↦
      let is = c.spell.ensures.spelled.stamped k
      (omega (arith, less, length-map c.args.pages.now (λ (p : Page). p.bytes))) in
      omega (arith, is)
  | inr from ↦
      let is = ap (λ (s : List ℕ). u32_at s 0) (c.spell.ensures.behind k lt from)
      ∙ zero_number k lt in
      omega (arith, is)
]
