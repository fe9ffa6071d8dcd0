use Rattle.std.proofs.Common.{◌≡◌, refl, sym, ap, ◌∙◌}
use Rattle.page_model.specs.Address.{address}
use Rattle.page_model.specs.Placement.{key_bucket}
use Rattle.lin_addr.specs.Shapes.{shape_of}
use Rattle.page_io.specs.BucketPages.{page_records}
use Rattle.file_check.proofs.BucketRecords.{none_first, first_more, all_of_first, not_all, within_page, whole_page}
use Rattle.file_check.proofs.buckets.are_in_bucket.Goals as goal

pub loop-slot-init : goal.loop-slot-init
loop-slot-init c = none_first (λ r. key_bucket (shape_of c.args.shape) r.key ≡ c.args.bucket)
    (page_records c.args.page.now.bytes)

pub pair_at-requires-clause-within : goal.pair_at-requires-clause-within
pair_at-requires-clause-within c = within_page c.args.page.now.bytes c.loop-slot.slot
    c.slots-slot-end.result c.requires c.slots-slot-end.ensures c.loop-slot-test.true

pub returns-then-bucket : goal.returns-then-bucket
returns-then-bucket c = (
  λ is. absurd (cc),
  λ all. absurd (not_all (λ r. key_bucket (shape_of c.args.shape) r.key ≡ c.args.bucket)
      (page_records c.args.page.now.bytes) c.loop-slot.slot
      (within_page c.args.page.now.bytes c.loop-slot.slot c.slots-slot-end.result c.requires
      c.slots-slot-end.ensures c.loop-slot-test.true)
      (λ d is. c.if-bucket.true (c.bucket.ensures.address
      ∙ ap (address (shape_of c.args.shape)) c.hash.ensures
      ∙ sym (ap (key_bucket (shape_of c.args.shape)) (c.pair_at.ensures d).0) ∙ is)) all),
)

pub loop-slot-preserved : goal.loop-slot-preserved
loop-slot-preserved c =
    first_more (λ r. key_bucket (shape_of c.args.shape) r.key ≡ c.args.bucket)
    (page_records c.args.page.now.bytes) c.loop-slot.slot
    (λ d. ap (key_bucket (shape_of c.args.shape)) (c.pair_at.ensures d).0
    ∙ sym (ap (address (shape_of c.args.shape)) c.hash.ensures) ∙ sym c.bucket.ensures.address
    ∙ c.if-bucket.false)
    c.loop-slot.invariant

pub returns : goal.returns
returns c = (
  λ is. all_of_first (λ r. key_bucket (shape_of c.args.shape) r.key ≡ c.args.bucket)
      (page_records c.args.page.now.bytes) c.loop-slot.slot
      (whole_page c.args.page.now.bytes c.loop-slot.slot c.slots-slot-end.result c.requires
      c.slots-slot-end.ensures c.loop-slot-test.false)
      c.loop-slot.invariant,
  λ all. refl,
)
