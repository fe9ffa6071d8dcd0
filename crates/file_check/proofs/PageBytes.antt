-- The bytes of the records of a page are bytes of the page.
use Rattle.std.proofs.Common.{ℕ, zero, suc, ◌+◌, ◌<◌, List, [], ◌∷◌, map, take, drop, arith}
use Rattle.std.specs.List.{AllByRecursion}
use Rattle.page_model.specs.Pages.{Record}
use Rattle.page_model.specs.PairLists.{AreBytes, HasBytes}
use Rattle.page_model.specs.Slots.{Slot, key_size, bytes_size}
use Rattle.page_model.specs.Reading.{slot_count, slots_from, slot_record, bucket_of}
use Rattle.page_io.specs.BucketPages.{page_records}
use Rattle.bucket_chain.specs.Chains.{record_pair}

pub bytes_of_take : (n : ℕ) (bytes : List ℕ) → AreBytes bytes → AreBytes (take n bytes)
bytes_of_take zero bytes are i = omega arith
bytes_of_take (suc n) [] are i = omega arith
bytes_of_take (suc n) (b ∷ bytes) are zero = are 0
bytes_of_take (suc n) (b ∷ bytes) are (suc i) = bytes_of_take n bytes (λ k. are (suc k)) i

pub bytes_of_drop : (n : ℕ) (bytes : List ℕ) → AreBytes bytes → AreBytes (drop n bytes)
bytes_of_drop zero bytes are i = are i
bytes_of_drop (suc n) [] are i = omega arith
bytes_of_drop (suc n) (b ∷ bytes) are i = bytes_of_drop n bytes (λ k. are (suc k)) i

-- byte by byte
pub all_bytes : (bytes : List ℕ) → AreBytes bytes → AllByRecursion (λ byte. byte < 256) bytes
all_bytes [] are = tt
all_bytes (b ∷ bytes) are = (are 0, all_bytes bytes (λ k. are (suc k)))

pub are_bytes : (bytes : List ℕ) → AllByRecursion (λ byte. byte < 256) bytes → AreBytes bytes
are_bytes [] all i = omega arith
are_bytes (b ∷ bytes) all zero = all.0
are_bytes (b ∷ bytes) all (suc i) = are_bytes bytes all.1 i

abbrev pub RecordHasBytes : Record → Type 0
RecordHasBytes r = HasBytes (record_pair r)

in_slots : (bytes : List ℕ) (slots : List Slot) → AreBytes bytes
    → AllByRecursion RecordHasBytes (map (slot_record bytes) slots)
in_slots bytes [] are = tt
in_slots bytes (s ∷ slots) are = (
  (
    bytes_of_take (key_size s) (drop s.offset bytes) (bytes_of_drop s.offset bytes are),
    bytes_of_take (bytes_size s) (drop (s.offset + key_size s) bytes)
        (bytes_of_drop (s.offset + key_size s) bytes are),
  ),
  in_slots bytes slots are,
)

pub record_bytes : (bytes : List ℕ) → AreBytes bytes
    → AllByRecursion RecordHasBytes (page_records bytes)
unfolding bucket_of
record_bytes bytes are = in_slots bytes (slots_from bytes 0 (slot_count bytes)) are
