use Rattle.std.proofs.Common.{◌≡◌, ℕ, true, false, Option, None, Some, get_or, refl, sym, ◌∙◌}
use Rattle.std.specs.Prelude.{IfNone, IfSome}
use Rattle.std.specs.Option.{is_some}
use Rattle.page_io.specs.BucketPages.{page_records}
use Rattle.file_check.proofs.ApartRecords.{IsNew, new_if_absent, not_new}
use Rattle.file_check.proofs.BucketRecords.{none_first, first_more, all_of_first, not_all, within_page, whole_page}
use Rattle.file_check.proofs.keys.are_apart.Goals as goal

pub loop-slot-init : goal.loop-slot-init
loop-slot-init c = none_first (IsNew (page_records c.args.other.now.bytes))
    (page_records c.args.page.now.bytes)

pub pair_at-requires-clause-within : goal.pair_at-requires-clause-within
pair_at-requires-clause-within c = within_page c.args.page.now.bytes c.loop-slot.slot
    c.slots-slot-end.result c.requires.page c.slots-slot-end.ensures c.loop-slot-test.true

pub returns-then-is_some : goal.returns-then-is_some
returns-then-is_some c = (
  λ is. absurd (cc),
  λ apart. absurd (found c.find.result (sym c.is_some.ensures ∙ c.if-is_some.true)
      c.find.ensures.found (λ j has.
      not_all (IsNew (page_records c.args.other.now.bytes)) (page_records c.args.page.now.bytes)
      c.loop-slot.slot
      (within_page c.args.page.now.bytes c.loop-slot.slot c.slots-slot-end.result c.requires.page
      c.slots-slot-end.ensures c.loop-slot-test.true)
      (λ d. not_new c.pair_at.result.0.now (page_records c.args.other.now.bytes)
      (get_or (page_records c.args.page.now.bytes) c.loop-slot.slot d) j (c.pair_at.ensures d).0
      has) apart)),
)
  where
    found : {P : ℕ → Type 0} (o : Option ℕ) → is_some o ≡ true → IfSome o P
        → ((j : ℕ) → P j → ⊥) → ⊥
    found None is some none = absurd (cc)
    found (Some j) is some none = none j some

pub loop-slot-preserved : goal.loop-slot-preserved
loop-slot-preserved c =
    first_more (IsNew (page_records c.args.other.now.bytes)) (page_records c.args.page.now.bytes)
    c.loop-slot.slot
    (λ d. new_if_absent c.pair_at.result.0.now (page_records c.args.other.now.bytes)
    (get_or (page_records c.args.page.now.bytes) c.loop-slot.slot d) (c.pair_at.ensures d).0
    (none c.find.result (sym c.is_some.ensures ∙ c.if-is_some.false) c.find.ensures.none))
    c.loop-slot.invariant
  where
    none : {P : Type 0} (o : Option ℕ) → is_some o ≡ false → IfNone o P → P
    none None is here = here
    none (Some j) is here = absurd (cc)

pub returns : goal.returns
returns c = (
  λ is. all_of_first (IsNew (page_records c.args.other.now.bytes))
      (page_records c.args.page.now.bytes) c.loop-slot.slot
      (whole_page c.args.page.now.bytes c.loop-slot.slot c.slots-slot-end.result c.requires.page
      c.slots-slot-end.ensures c.loop-slot-test.false)
      c.loop-slot.invariant,
  λ apart. refl,
)
