use Rattle.std.proofs.Common.{◌≡◌, ◌/◌, ◌+◌, ℕ, [], length, true, sym, ◌∙◌, ap, arith, subst}
use Rattle.page_io.specs.Store.{bytes_of}
use Rattle.redo_area.specs.declared.area.RedoArea.{RedoArea}
use Rattle.redo_area.specs.File.{IsAtRest}
use Rattle.redo_area.specs.Settling.{rests_at}
use Rattle.redo_area.proofs.Results.{from_test}
use Rattle.redo_area.proofs.Blanks.{blank_candidates}
use Rattle.redo_area.proofs.pager.Pager.format.Goals as goal

pub returns-then-is_err-clause-any_moment : goal.returns-then-is_err-clause-any_moment
returns-then-is_err-clause-any_moment g c honest none =
    let dev = g.D.SectorDev in
    let first = c.args.dev in
    c.format_pages.ensures.any_moment honest
    (blank_candidates (dev.sectors first / 4) (dev.candidate first) (dev.seen first)
    (g.met.D.SectorDev.seen_may_stay first honest) none)

pub invariant_of-result-clause-settles : goal.invariant_of-result-clause-settles
invariant_of-result-clause-settles g c still usable =
    let dev = g.D.SectorDev in
    let new = c.format_pages.new.dev in
    let kept = c.new-2.result.items in
    let none : kept ≡ [] = c.new-2.ensures.items in
    let honest = c.format_pages.ensures.device.honesty.0 still in
    let count = length c.args.pages.now in
    let at_rest = λ (cap end : ℕ). IsAtRest cap end (dev.candidate new) (dev.seen new) in
    let same : dev.sectors c.args.dev / 4 ≡ dev.sectors new / 4 =
    ap (λ (s : ℕ). s / 4) (sym c.format_pages.ensures.device.size) in
    let ends : 1 + count ≡ count + 1 = omega arith in
    let rest = from_test c.format_pages.result c.is_err.ensures.value c.if-is_err.false
    (c.format_pages.ensures.rest honest) in
    rests_at true (dev.sectors new / 4) (count + 1) c.empty.result (bytes_of kept)
    (dev.candidate new) (dev.seen new) (ap (λ (a : RedoArea). a.held) c.empty.ensures)
    (ap (λ (a : RedoArea). a.log) c.empty.ensures) (ap bytes_of none)
    (subst (λ (end : ℕ). at_rest (dev.sectors new / 4) end) ends
    (subst (λ (cap : ℕ). at_rest cap (1 + count)) same rest))
    (λ _. from_test c.format_pages.result c.is_err.ensures.value c.if-is_err.false
    (c.format_pages.ensures.kind honest) ∙ sym (ap (λ (a : RedoArea). a.kind) c.empty.ensures))

pub returns-clause-any_moment : goal.returns-clause-any_moment
returns-clause-any_moment g c honest none =
    let dev = g.D.SectorDev in
    let first = c.args.dev in
    c.format_pages.ensures.any_moment honest
    (blank_candidates (dev.sectors first / 4) (dev.candidate first) (dev.seen first)
    (g.met.D.SectorDev.seen_may_stay first honest) none)
