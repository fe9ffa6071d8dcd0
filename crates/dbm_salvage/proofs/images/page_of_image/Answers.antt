use Rattle.std.proofs.Common.{◌≡◌, ◌∙◌, ap, subst, sym, inr, List, ℕ, arith}
use Rattle.page_model.specs.Reading.{own_number}
use Rattle.page_io.proofs.Exits.{not_both}
use Rattle.dbm_salvage.specs.Salvage.{ReadsAs}
use Rattle.dbm_salvage.proofs.LookRuns.{from_test}
use Rattle.dbm_salvage.proofs.images.page_of_image.Goals as goal
use Rattle.dbm_salvage.proofs.images.page_of_image.Goals.{then-own-eq0-via-then-own-eq0, then-own-eq0-via-else-own-eq0+then-own-pages, then-own-eq0-via-else-own-eq0+else-own-pages+then-not-reads_as}

-- a page whose number fits and that reads so would be an image
pub returns-then-own-eq0-clause-none : goal.returns-then-own-eq0-clause-none
returns-then-own-eq0-clause-none g c honest =
    let read = from_test c.read_page.result c.is_err.ensures.value c.if-is_err.false
    (c.read_page.ensures.read honest) in
    inr (λ n is.
    let own : c.own-own.result ≡ n = c.own-own.ensures.field ∙ ap own_number read ∙ is.own in
    elim c.then-own-eq0.branch [
      | then-own-eq0-via-then-own-eq0 w ↦ absurd (omega (arith, own, is.some, w.if-own-eq0.true))
      | then-own-eq0-via-else-own-eq0+then-own-pages w ↦ absurd
          (omega (arith, own, is.below, w.if-own-pages.true))
      | then-own-eq0-via-else-own-eq0+else-own-pages+then-not-reads_as w ↦ not_both
          w.reads_as.result
          (w.reads_as.ensures.1 (subst (λ (k : ℕ). ReadsAs k c.read_page.new.page.bytes) (sym own)
          (subst (λ (bytes : List ℕ). ReadsAs n bytes) (sym read) is.reads)))
          w.if-not-reads_as.true
    ])

pub returns-clause-some : goal.returns-clause-some
returns-clause-some g c honest =
    let read = from_test c.read_page.result c.is_err.ensures.value c.if-is_err.false
    (c.read_page.ensures.read honest) in
    record {
      own = sym (ap own_number read) ∙ sym c.own-own.ensures.field;
      some = omega (arith, c.if-own-eq0.false);
      below = omega (arith, c.if-own-pages.false);
      reads = subst (λ (bytes : List ℕ). ReadsAs c.own-own.result bytes) read
          (c.reads_as.ensures.0 c.if-not-reads_as.false);
    }
