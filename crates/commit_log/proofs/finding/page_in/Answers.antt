use Rattle.std.proofs.Common.{◌≡◌, inl, inr, ◌+◌, ◌*◌, ℕ, List, length, sym, ◌∙◌, ap, arith}
use Rattle.std.proofs.lemmas.Bool.{cases_eq}
use Rattle.sect_dev.specs.Device.{part_of}
use Rattle.commit_log.specs.Log.{unstamped}
use Rattle.commit_log.proofs.Finds.{over_here, over_apart, page_found}
use Rattle.commit_log.proofs.finding.page_in.Goals as goal

pub loop-j-preserved : goal.loop-j-preserved
loop-j-preserved c =
    let old = c.loop-j.page.bytes in
    let whole = c.loop-j.page.whole in
    let j = c.loop-j.j in
    let new = c.restored.result in
    let long : length new ≡ 512 = omega arith in
    let slot = part_of c.args.bytes.now in
    record {
      written = λ k lt. ap (λ (bs : List ℕ). part_of bs k) c.put.ensures ∙ elim (cases_eq k j) [
        | inl same ↦ ap (part_of _) same
            ∙ over_here old new j (omega (arith, whole, c.loop-j-test.true)) long
            ∙ c.restored.ensures
            ∙ ap (λ (i : ℕ). unstamped slot (4 * c.args.i + i)) (sym same)
        | inr other ↦ over_apart old new j (omega (arith, whole, c.loop-j-test.true)) long k
            (omega (arith, whole, lt, c.loop-j-test.true)) other
            ∙ c.loop-j.invariant.written k (omega (arith, lt, other))
      ];
    }

pub returns : goal.returns
returns c =
    page_found (part_of c.args.bytes.now) c.args.i c.loop-j.page.bytes c.loop-j.page.whole
    (λ k lt. c.loop-j.invariant.written k (omega (arith, lt, c.loop-j-test.false)))
