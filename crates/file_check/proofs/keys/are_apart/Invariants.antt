use Rattle.page_io.specs.BucketPages.{page_records}
use Rattle.file_check.proofs.ApartRecords.{IsNew}
use Rattle.file_check.proofs.BucketRecords.{AreFirst}
use Rattle.file_check.proofs.keys.are_apart.Given as goal

abbrev pub invariant-loop-slot : goal.invariant-loop-slot
invariant-loop-slot l =
    AreFirst (IsNew (page_records l.other.bytes)) (page_records l.page.bytes) l.slot
