use Rattle.std.proofs.Common.{◌+◌, ◌<◌, length, arith}
use Rattle.std.specs.Prelude.{remove}
use Rattle.std.proofs.lemmas.List.Edits.{length-remove}
use Rattle.page_io.specs.BucketPages.{page_records}
use Rattle.slot_page.specs.Contents.{record_of}
use Rattle.slot_page.proofs.Pages.{kept_by}
use Rattle.slot_page.proofs.Removing.{begins, kind_is, next_kept, fits_next, goes_on, ends}
use Rattle.slot_page.proofs.bucket.remove.Goals as goal

pub empty-rebuilt-requires : goal.empty-rebuilt-requires
empty-rebuilt-requires c = kind_is c.args.page.now.bytes c.requires.page

pub loop-j-init : goal.loop-j-init
loop-j-init c = begins c.args.page.now.bytes c.empty-rebuilt.result.bytes c.u32_at.result
    c.u32_at-2.result c.u32_at.ensures c.u32_at-2.ensures c.empty-rebuilt.ensures.page
    c.empty-rebuilt.ensures.says

pub add_record-requires-clause-fits : goal.add_record-requires-clause-fits
add_record-requires-clause-fits c =
    let bytes = c.args.page.now.bytes in
    let j = c.loop-j.j in
    let inside : j + 1 < length (page_records bytes) = omega arith in
    let r = c.record_at-far.result in
    let p = record_of r.0.now r.1.now r.2 in
    let next = next_kept bytes c.args.i j c.skipping.result p c.requires.page c.requires.within
    inside c.skipping.ensures.below c.skipping.ensures.above c.record_at-far.ensures in
    fits_next bytes c.loop-j.rebuilt.bytes (remove (page_records bytes) c.args.i) j p next
    c.loop-j.invariant

pub add_record-requires-clause-may : goal.add_record-requires-clause-may
add_record-requires-clause-may c =
    let bytes = c.args.page.now.bytes in
    let j = c.loop-j.j in
    let inside : j + 1 < length (page_records bytes) = omega arith in
    let r = c.record_at-far.result in
    let p = record_of r.0.now r.1.now r.2 in
    let next = next_kept bytes c.args.i j c.skipping.result p c.requires.page c.requires.within
    inside c.skipping.ensures.below c.skipping.ensures.above c.record_at-far.ensures in
    next.may

pub loop-j-preserved : goal.loop-j-preserved
loop-j-preserved c =
    let bytes = c.args.page.now.bytes in
    let j = c.loop-j.j in
    let inside : j + 1 < length (page_records bytes) = omega arith in
    let r = c.record_at-far.result in
    let p = record_of r.0.now r.1.now r.2 in
    let next = next_kept bytes c.args.i j c.skipping.result p c.requires.page c.requires.within
    inside c.skipping.ensures.below c.skipping.ensures.above c.record_at-far.ensures in
    goes_on bytes c.loop-j.rebuilt.bytes c.add_record.new.page.bytes
    (remove (page_records bytes) c.args.i) j p next c.loop-j.invariant c.add_record.ensures.holds

pub returns : goal.returns
returns c =
    let bytes = c.args.page.now.bytes in
    let h = ends bytes c.loop-j.rebuilt.bytes (remove (page_records bytes) c.args.i) c.loop-j.j
    (omega (arith, length-remove (page_records bytes) c.args.i c.requires.within))
    c.loop-j.invariant in
    record {
      holds = h;
      header = kept_by bytes c.loop-j.rebuilt.bytes
          (remove (page_records bytes) c.args.i) h;
    }
