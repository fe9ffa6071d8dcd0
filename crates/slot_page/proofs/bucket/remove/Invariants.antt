use Rattle.std.proofs.Common.{take}
use Rattle.std.specs.Prelude.{remove}
use Rattle.page_io.specs.BucketPages.{page_records}
use Rattle.slot_page.specs.Contents.{HasRecords}
use Rattle.slot_page.proofs.bucket.remove.Given as goal

abbrev pub invariant-loop-j : goal.invariant-loop-j
invariant-loop-j l = HasRecords l.page.bytes l.rebuilt.bytes
    (take l.j (remove (page_records l.page.bytes) l.i))
