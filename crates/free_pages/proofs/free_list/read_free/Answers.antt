use Rattle.std.proofs.Common.{Some, ap, sym, ◌∙◌, arith}
use Rattle.page_model.specs.Pages.{FreePage}
use Rattle.page_model.specs.Spelling.{free_spelling}
use Rattle.free_pages.proofs.FreePageTexts.{IsFreePage, free_found, free_said, free_again, said_again, next_again}
use Rattle.free_pages.proofs.free_list.read_free.Goals as goal
use Rattle.free_pages.proofs.free_list.read_free.Goals.{then-not-is_plain-via-then-not-is_plain, then-not-is_plain-via-else-not-is_plain+then-not-is_clear}

-- one of the two tests failed
refused : (c : goal.Joined-then-not-is_plain) → IsFreePage c.args.page.now.bytes c.args.n → ⊥
refused c free = elim c.then-not-is_plain.branch [
  | then-not-is_plain-via-then-not-is_plain w ↦ let passed =
      c.is_plain.ensures.plain.1 free.headed in absurd (cc)
  | then-not-is_plain-via-else-not-is_plain+then-not-is_clear w ↦ let passed =
      w.is_clear.ensures.1 free.clear in absurd (cc)
]

pub returns-then-not-is_plain-clause-spelled : goal.returns-then-not-is_plain-clause-spelled
returns-then-not-is_plain-clause-spelled c next small = (
  λ e. absurd (cc),
  λ e. absurd
      (refused c (free_again c.args.page.now.bytes c.args.n next (omega arith) e)),
)

pub returns-then-not-is_plain-clause-says : goal.returns-then-not-is_plain-clause-says
returns-then-not-is_plain-clause-says c next = (
  λ e. absurd (cc),
  λ e. absurd
      (refused c (said_again c.args.page.now.bytes c.args.n next (omega arith) e)),
)

pub returns-clause-spelled : goal.returns-clause-spelled
returns-clause-spelled c next small =
    let bytes = c.args.page.now.bytes in
    let found = free_found bytes c.args.n (omega arith) c.is_plain.ensures.bytes
    (c.is_plain.ensures.plain.0 (cc)) (c.is_clear.ensures.0 (cc)) in (
      λ e. found ∙ ap (free_spelling c.args.n) (sym c.next.ensures ∙ (cc)),
      λ e.
          ap Some (c.next.ensures ∙ next_again bytes c.args.n next (omega arith) small e),
    )

pub returns-clause-says : goal.returns-clause-says
returns-clause-says c next =
    let bytes = c.args.page.now.bytes in
    let found = free_said bytes c.args.n (omega arith) (omega arith) c.is_plain.ensures.bytes
    (c.is_plain.ensures.plain.0 (cc)) (c.is_clear.ensures.0 (cc)) in
    (λ e. found ∙ ap FreePage (sym c.next.ensures ∙ (cc)), λ e. cc)
