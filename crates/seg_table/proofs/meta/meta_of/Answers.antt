use Rattle.std.proofs.Common.{refl, ap, ◌∙◌}
use Rattle.page_model.specs.Address as address
use Rattle.page_model.specs.Numbers.{numbers_at}
use Rattle.page_io.specs.Versions.{model_version}
use Rattle.seg_table.proofs.Metas.{told_version, fields_read, layout_read}
use Rattle.seg_table.proofs.meta.meta_of.Goals as goal

pub returns-clause-found : goal.returns-clause-found
returns-clause-found c =
    let bytes = c.args.page.now.bytes in
    let shape = c.in_ok-shape.ensures.found in
    fields_read bytes c.segments_of.result.items (model_version c.args.version) c.u32_at-3.result c.u32_at-4.result
    c.in_ok-shape.shape.level c.in_ok-shape.shape.split c.u32_at-5.result c.u32_at-6.result
    c.u32_at-3.ensures c.u32_at-4.ensures
    (ap (λ (s : address.Shape). s.level) shape ∙ c.u32_at.ensures)
    (ap (λ (s : address.Shape). s.split) shape ∙ c.u32_at-2.ensures)
    c.u32_at-5.ensures c.u32_at-6.ensures
    (c.segments_of.ensures ∙ ap (numbers_at bytes 64) c.u32_at-count.ensures)
    (told_version (model_version c.args.version) _ c.requires)

pub returns-clause-only : goal.returns-clause-only
returns-clause-only c = (
  λ some. layout_read c.args.page.now.bytes c.u32_at.result c.u32_at-2.result c.u32_at-count.result
      c.u32_at.ensures c.u32_at-2.ensures c.u32_at-count.ensures (c.in_ok-shape.ensures.only.0 refl)
      c.if-count-gt-MAX_SEGMENTS.false (c.is_clear.ensures.0 c.if-not-is_clear.false)
      (c.is_clear-else-not-is_clear.ensures.0 c.if-not-is_clear-2.false),
  λ laid. refl,
)
