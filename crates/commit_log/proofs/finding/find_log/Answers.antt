use Rattle.std.proofs.Common.{◌≡◌, ◌≤◌, ◌+◌, ℕ, List, refl, sym, ◌∙◌, arith}
use Rattle.sect_dev.specs.Device.{part_of}
use Rattle.page_model.specs.Bytes.{u32_at}
use Rattle.commit_log.proofs.Words.{front_field}
use Rattle.commit_log.proofs.Finds.{none_if_out, none_if_mixed, none_if_disordered, found_if, few_if, ordered_if_out, ordered_if_mixed, disordered_if, ordered_if_found}
use Rattle.commit_log.proofs.finding.find_log.Goals as goal

field : (bytes : List ℕ) (a n : ℕ) → a + 4 ≤ 512 → n ≡ u32_at bytes a
    → n ≡ u32_at (part_of bytes 0) a
field bytes a n fits is = is ∙ sym (front_field bytes a fits)

pub returns-then-not-are_in_range-clause-found : goal.returns-then-not-are_in_range-clause-found
returns-then-not-are_in_range-clause-found c =
    let bytes = c.args.bytes.now in
    c.no_log.ensures.found
    ∙ none_if_out c.args.start (part_of bytes) c.number_at-number.result
    c.number_at-count.result c.number_at-end.result
    (field bytes 0 c.number_at-number.result (omega arith) c.number_at-number.ensures)
    (field bytes 4 c.number_at-count.result (omega arith) c.number_at-count.ensures)
    (field bytes 8 c.number_at-end.result (omega arith) c.number_at-end.ensures)
    (sym c.are_in_range.ensures ∙ c.if-not-are_in_range.true)

pub returns-then-not-carries-clause-found : goal.returns-then-not-carries-clause-found
returns-then-not-carries-clause-found c =
    let bytes = c.args.bytes.now in
    c.no_log-then-not-carries.ensures.found
    ∙ none_if_mixed c.args.start (part_of bytes) c.number_at-number.result
    c.number_at-count.result c.number_at-end.result
    (field bytes 0 c.number_at-number.result (omega arith) c.number_at-number.ensures)
    (field bytes 4 c.number_at-count.result (omega arith) c.number_at-count.ensures)
    (field bytes 8 c.number_at-end.result (omega arith) c.number_at-end.ensures)
    (sym c.carries.ensures ∙ c.if-not-carries.true)

pub returns-then-not-read_pages-clause-found : goal.returns-then-not-read_pages-clause-found
returns-then-not-read_pages-clause-found c =
    let bytes = c.args.bytes.now in
    c.no_log-then-not-read_pages.ensures.found
    ∙ none_if_disordered c.args.start (part_of bytes) c.number_at-number.result
    c.number_at-count.result c.number_at-end.result
    (field bytes 0 c.number_at-number.result (omega arith) c.number_at-number.ensures)
    (field bytes 4 c.number_at-count.result (omega arith) c.number_at-count.ensures)
    (field bytes 8 c.number_at-end.result (omega arith) c.number_at-end.ensures)
    (sym c.read_pages.ensures.order ∙ c.if-not-read_pages.true)

pub returns-clause-found : goal.returns-clause-found
returns-clause-found c =
    let bytes = c.args.bytes.now in
    found_if c.args.start (part_of bytes) c.number_at-number.result
    c.number_at-count.result c.number_at-end.result
    (field bytes 0 c.number_at-number.result (omega arith) c.number_at-number.ensures)
    (field bytes 4 c.number_at-count.result (omega arith) c.number_at-count.ensures)
    (field bytes 8 c.number_at-end.result (omega arith) c.number_at-end.ensures)
    _ (sym c.are_in_range.ensures ∙ c.if-not-are_in_range.false)
    (sym c.carries.ensures ∙ c.if-not-carries.false)
    (sym c.read_pages.ensures.order ∙ c.if-not-read_pages.false)
    (c.if-not-read_pages.ensures.pages refl)

pub returns-clause-few : goal.returns-clause-few
returns-clause-few c =
    few_if c.args.start c.number_at-number.result c.number_at-count.result c.number_at-end.result
    (sym c.are_in_range.ensures ∙ c.if-not-are_in_range.false)

pub returns-then-not-are_in_range-clause-disordered : goal.returns-then-not-are_in_range-clause-disordered
returns-then-not-are_in_range-clause-disordered c =
    let bytes = c.args.bytes.now in
    c.no_log.ensures.disordered
    ∙ ordered_if_out c.args.start (part_of bytes) c.number_at-number.result
    c.number_at-count.result c.number_at-end.result
    (field bytes 0 c.number_at-number.result (omega arith) c.number_at-number.ensures)
    (field bytes 4 c.number_at-count.result (omega arith) c.number_at-count.ensures)
    (field bytes 8 c.number_at-end.result (omega arith) c.number_at-end.ensures)
    (sym c.are_in_range.ensures ∙ c.if-not-are_in_range.true)

pub returns-then-not-carries-clause-disordered : goal.returns-then-not-carries-clause-disordered
returns-then-not-carries-clause-disordered c =
    let bytes = c.args.bytes.now in
    c.no_log-then-not-carries.ensures.disordered
    ∙ ordered_if_mixed c.args.start (part_of bytes) c.number_at-number.result
    c.number_at-count.result c.number_at-end.result
    (field bytes 0 c.number_at-number.result (omega arith) c.number_at-number.ensures)
    (field bytes 4 c.number_at-count.result (omega arith) c.number_at-count.ensures)
    (field bytes 8 c.number_at-end.result (omega arith) c.number_at-end.ensures)
    (sym c.carries.ensures ∙ c.if-not-carries.true)

pub returns-then-not-read_pages-clause-disordered : goal.returns-then-not-read_pages-clause-disordered
returns-then-not-read_pages-clause-disordered c =
    let bytes = c.args.bytes.now in
    c.no_log-then-not-read_pages.ensures.disordered
    ∙ disordered_if c.args.start (part_of bytes) c.number_at-number.result
    c.number_at-count.result c.number_at-end.result
    (field bytes 0 c.number_at-number.result (omega arith) c.number_at-number.ensures)
    (field bytes 4 c.number_at-count.result (omega arith) c.number_at-count.ensures)
    (field bytes 8 c.number_at-end.result (omega arith) c.number_at-end.ensures)
    (sym c.are_in_range.ensures ∙ c.if-not-are_in_range.false)
    (sym c.carries.ensures ∙ c.if-not-carries.false)
    (sym c.read_pages.ensures.order ∙ c.if-not-read_pages.true)

pub returns-clause-disordered : goal.returns-clause-disordered
returns-clause-disordered c =
    let bytes = c.args.bytes.now in
    ordered_if_found c.args.start (part_of bytes) c.number_at-number.result
    c.number_at-count.result c.number_at-end.result
    (field bytes 0 c.number_at-number.result (omega arith) c.number_at-number.ensures)
    (field bytes 4 c.number_at-count.result (omega arith) c.number_at-count.ensures)
    (field bytes 8 c.number_at-end.result (omega arith) c.number_at-end.ensures)
    (sym c.read_pages.ensures.order ∙ c.if-not-read_pages.false)
