use Rattle.std.proofs.Common.{◌≢◌, ◌<◌, ℕ}
use Rattle.page_model.specs.Reading.{key_of, slot_of}
use Rattle.slot_page.proofs.reading.is_new_key.Given as goal

abbrev pub invariant-loop-i : goal.invariant-loop-i
invariant-loop-i l =
    (k : ℕ) → k < l.i → key_of l.page.bytes (slot_of l.page.bytes k) ≢ l.key
