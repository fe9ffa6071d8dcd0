use Rattle.std.proofs.Common.{rules, sym, ◌∙◌}
use Rattle.std.specs.Cmp.Lexicographic.{same_text}
use Rattle.bucket_chain.proofs.SamePages.{same_bytes}
use Rattle.bucket_chain.proofs.ranked_page.are_same.Goals as goal

pub returns-then-eq : goal.returns-then-eq
returns-then-eq c = (
  λ is. same_bytes _ _ c.requires.page c.requires.other _ _ c.gap_of-from.ensures.from
      c.gap_of-from.ensures.to (same_text _ _ c.if-eq.ensures)
      (same_text _ _ (sym is ∙ c.eq-then-eq.ensures)),
  λ same. search rules,
)
