use Rattle.std.proofs.Common.{◌≡◌, ◌++◌, map, take}
use Rattle.page_io.specs.BucketPages.{page_records}
use Rattle.bucket_chain.specs.Pairs.{record_as}
use Rattle.bucket_chain.proofs.loads.load_page.Given as goal

abbrev pub invariant-loop-slot : goal.invariant-loop-slot
invariant-loop-slot l = map record_as l.pairs.items ≡ map record_as l.initial.pairs.items
    ++ take l.slot (page_records l.page.bytes)
