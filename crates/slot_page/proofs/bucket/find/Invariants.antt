use Rattle.std.proofs.Common.{◌≢◌, ℕ, ◌<◌, get_or}
use Rattle.page_model.specs.Pages.{Record}
use Rattle.page_io.specs.BucketPages.{page_records}
use Rattle.slot_page.proofs.bucket.find.Given as goal

abbrev pub invariant-loop-i : goal.invariant-loop-i
invariant-loop-i l =
    (k : ℕ) (d : Record) → k < l.i → (get_or (page_records l.page.bytes) k d).key ≢ l.key
