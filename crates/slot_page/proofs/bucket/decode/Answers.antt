use Rattle.std.proofs.Common.{length, ap, refl, sym, ◌∙◌}
use Rattle.std.proofs.lemmas.List.{length-map}
use Rattle.page_io.specs.Versions.{model_version}
use Rattle.page_model.proofs.Buckets.{length-slots_ending, bucket_again}
use Rattle.page_io.specs.BucketPages.{page_records}
use Rattle.slot_page.specs.Slots.{as_spelled}
use Rattle.slot_page.proofs.Pages.{spelled_of_version, slots_read}
use Rattle.slot_page.proofs.bucket.decode.Goals as goal

pub returns-then-not-is_bucket_page-clause-every : goal.returns-then-not-is_bucket_page-clause-every
returns-then-not-is_bucket_page-clause-every c b is of e =
    let yes = c.is_bucket_page.ensures.exact.1
    (spelled_of_version (model_version c.args.version) c.args.page.now.bytes b is of e) in
    absurd cc

pub returns-clause-every : goal.returns-clause-every
returns-clause-every c b is of e = (refl, bucket_again c.args.page.now.bytes b is e)

pub returns-clause-count : goal.returns-clause-count
returns-clause-count c =
    let bytes = c.args.page.now.bytes in
    let slots = c.read_slots.result.items in
    sym (length-map slots as_spelled)
    ∙ ap length (slots_read bytes c.counts-count.result.0 slots
    (c.is_bucket_page.ensures.exact.0 c.if-not-is_bucket_page.false).page
    c.counts-count.ensures.count c.read_slots.ensures)
    ∙ length-slots_ending 2048 (page_records bytes)

pub returns-clause-slots : goal.returns-clause-slots
returns-clause-slots c =
    slots_read c.args.page.now.bytes c.counts-count.result.0 c.read_slots.result.items
    (c.is_bucket_page.ensures.exact.0 c.if-not-is_bucket_page.false).page
    c.counts-count.ensures.count c.read_slots.ensures
