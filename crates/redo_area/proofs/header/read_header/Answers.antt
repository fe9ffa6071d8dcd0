use Rattle.std.proofs.Common.{ℕ, ◌-◌, sym, ◌∙◌, ap, subst, eqb, Bool, drop, replicate}
use Rattle.std.specs.Cmp.Lexicographic.{pointwise}
use Rattle.sect_dev.specs.Sector.{zeros}
use Rattle.page_model.specs.Bytes.{u32_at}
use Rattle.redo_area.specs.Header.{AgreesWithMagic, MayLog, header_by}
use Rattle.redo_area.proofs.Headers.{says_blank, says_not_ours, says_damaged, by_parts, by_numbers}
use Rattle.redo_area.proofs.header.read_header.Goals as goal

pub returns-then-eq-clause-said : goal.returns-then-eq-clause-said
unfolding zeros
returns-then-eq-clause-said c =
    sym (says_blank c.args.capacity c.args.content.now (sym c.if-eq.ensures))

pub returns-then-not-has_magic-clause-said : goal.returns-then-not-has_magic-clause-said
unfolding zeros
returns-then-not-has_magic-clause-said c =
    sym (says_not_ours c.args.capacity c.args.content.now (sym c.if-eq.ensures)
    (sym c.if-not-has_magic.ensures))

pub returns-then-not-ends_with-clause-said : goal.returns-then-not-ends_with-clause-said
unfolding zeros
returns-then-not-ends_with-clause-said c =
    sym (says_damaged c.args.capacity c.args.content.now (sym c.if-eq.ensures)
    (sym c.if-not-has_magic.ensures)
    (sym (ap (λ (k : ℕ). pointwise eqb (replicate 488 0) (drop (k - 488) c.args.content.now))
    c.told-content) ∙ sym c.if-not-ends_with.ensures.value))

pub returns-clause-said : goal.returns-clause-said
unfolding zeros
returns-clause-said c =
    let sector = c.args.content.now in
    c.header_by.ensures.said
    ∙ sym (by_parts c.args.capacity sector (sym c.if-eq.ensures)
    (sym c.if-not-has_magic.ensures)
    (sym (ap (λ (k : ℕ). pointwise eqb (replicate 488 0) (drop (k - 488) sector)) c.told-content)
    ∙ sym c.if-not-ends_with.ensures.value)
    ∙ ap (λ (b : Bool). header_by c.args.capacity b (u32_at sector 8) (u32_at sector 12)
    (u32_at sector 16) (u32_at sector 20)) (sym c.is_magic-may_log.ensures)
    ∙ by_numbers c.args.capacity c.is_magic-may_log.result sector c.u32_at-state.result c.u32_at-end.result
    c.u32_at-start.result c.u32_at-count.result
    (sym c.u32_at-state.ensures) (sym c.u32_at-end.ensures) (sym c.u32_at-start.ensures)
    (sym c.u32_at-count.ensures))

pub returns-then-not-has_magic-clause-ours : goal.returns-then-not-has_magic-clause-ours
returns-then-not-has_magic-clause-ours c = sym c.if-not-has_magic.ensures

pub returns-then-not-ends_with-clause-ours : goal.returns-then-not-ends_with-clause-ours
returns-then-not-ends_with-clause-ours c = sym c.if-not-has_magic.ensures

pub returns-clause-ours : goal.returns-clause-ours
returns-clause-ours c = subst (λ (b : Bool). AgreesWithMagic b c.header_by.result)
    c.if-not-has_magic.ensures c.header_by.ensures.ours

pub returns-clause-log : goal.returns-clause-log
returns-clause-log c = subst (λ (b : Bool). MayLog b c.header_by.result)
    c.is_magic-may_log.ensures c.header_by.ensures.log
