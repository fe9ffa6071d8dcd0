-- A page that is laid out as a bucket page is the spelling of what it says.
use Rattle.std.proofs.Common.{◌≡◌, ◌≢◌, ℕ, zero, suc, ◌+◌, ◌-◌, ◌*◌, ◌≤◌, ◌<◌, List, [], ◌∷◌, ◌++◌, length, map, replicate, get_or, drop, refl, sym, ap, subst, ◌∙◌, arith}
use Rattle.std.specs.Prelude.{AllPairs}
use Rattle.std.proofs.lemmas.List.{append-nil, length-drop, length-take-le, length-map, get_or-map, drop_all}
use Rattle.std.proofs.lemmas.List.FromFn.{length-map-range_with_len}
use Rattle.page_model.specs.Bytes.{u16_at, u32_at, u16_bytes, u32_bytes}
use Rattle.page_model.specs.Pages.{Record}
use Rattle.page_model.specs.Slots.{Slot, key_size, bytes_size, key_number, content_number, told_far, room_of, size, total_size, slot_ending, slots_ending, slot_bytes, slots_bytes, records, taken}
use Rattle.page_model.specs.Spelling.{bucket_header, bucket_spelling}
use Rattle.page_model.specs.Reading.{slot_count, low, slot_of, slots_from, key_of, bytes_of, slot_record, records_from, bucket_of}
use Rattle.page_model.specs.Valid.{IsRecord, IsBucket}
use Rattle.slot_page.specs.Layout.{end_of, AreInPlace, IsLaidOut}
use Rattle.slot_page.proofs.Held.{SpelledDistinct, distinct_spelled}
use Rattle.slot_page.proofs.Tellings.{numbers_again, each_record}
use Rattle.slot_page.proofs.Layouts.{end_of-more, end_le, ends_inside}
use Rattle.page_model.proofs.Texts.{IsBytes, IsText, text_then, byte_text, two_text, four_text, zeros_text, part_text}

-- the record of slot i lies in the page
length-record : (bytes : List ℕ) (s : Slot)
    → s.offset + key_size s + bytes_size s ≤ length bytes
    → (length (key_of bytes s) ≡ key_size s) × (length (bytes_of bytes s) ≡ bytes_size s)
length-record bytes s le = (
  length-take-le (key_size s) (drop s.offset bytes) (omega (arith, length-drop s.offset bytes)),
  length-take-le (bytes_size s) (drop (s.offset + key_size s) bytes)
      (omega (arith, length-drop (s.offset + key_size s) bytes)),
)

-- the size of the record of a slot
size_is : (bytes : List ℕ) (s : Slot) → s.offset + key_size s + bytes_size s ≤ length bytes
    → size (slot_record bytes s) ≡ key_size s + bytes_size s
size_is bytes s le = let both = length-record bytes s le in omega (arith, both.0, both.1)

-- the slot of the record of a slot
slot_ending_is : (bytes : List ℕ) (s : Slot) (end : ℕ) → end ≤ length bytes
    → s.offset + key_size s + bytes_size s ≡ end → slot_ending end (slot_record bytes s) ≡ s
slot_ending_is bytes s end le e =
    let both = length-record bytes s (omega arith) in
    let sized = size_is bytes s (omega arith) in
    let at : end - size (slot_record bytes s) ≡ s.offset = omega (arith, sized) in
    let numbers = numbers_again s in
    let key : key_number (length (key_of bytes s)) (told_far s) ≡ s.key_len =
    ap (λ n. key_number n (told_far s)) both.0 ∙ numbers.0 in
    let content : content_number (length (bytes_of bytes s)) (told_far s) ≡ s.content_len =
    ap (λ n. content_number n (told_far s)) both.1 ∙ numbers.1 in
    λ i. record { offset = at i; key_len = key i; content_len = content i }

-- the slots of the records that are read are those that are read
pub table_is : (bytes : List ℕ) (n : ℕ) → length bytes ≡ 2048 → AreInPlace bytes n → (k i : ℕ)
    → i + k ≤ n → slots_ending (end_of bytes i) (records_from bytes i k) ≡ slots_from bytes i k
table_is bytes n len chain zero i le = refl
table_is bytes n len chain (suc k) i le =
    let s = slot_of bytes i in
    let here = chain i (omega arith) in
    let most = ends_inside bytes n chain i (omega arith) in
    let first = slot_ending_is bytes s (end_of bytes i) (omega (arith, here, most)) here in
    let next : end_of bytes i - size (slot_record bytes s) ≡ end_of bytes (i + 1) = let sized =
    size_is bytes s (omega (arith, most)) in omega (arith, sized, here, end_of-more bytes i) in
    let others = table_is bytes n len chain k (i + 1) (omega arith) in
    ap (λ (t : Slot). t ∷ slots_ending (end_of bytes i - size (slot_record bytes s))
    (records_from bytes (i + 1) k)) first
    ∙ ap (λ (e : ℕ). s ∷ slots_ending e (records_from bytes (i + 1) k)) next
    ∙ ap (λ (ts : List Slot). s ∷ ts) others

-- the sizes of the records add up to what lies between the ends
pub total_is : (bytes : List ℕ) (n : ℕ) → length bytes ≡ 2048 → AreInPlace bytes n → (k i m : ℕ)
    → i + k ≤ n → i + k ≡ m → end_of bytes m + total_size (records_from bytes i k) ≡ end_of bytes i
total_is bytes n len chain zero i m le e =
    ap (λ (j : ℕ). end_of bytes j + 0) (let at : m ≡ i = omega arith in at) ∙ omega arith
total_is bytes n len chain (suc k) i m le e =
    let s = slot_of bytes i in
    let here = chain i (omega arith) in
    let most = ends_inside bytes n chain i (omega arith) in
    let sized = size_is bytes s (omega (arith, most)) in
    let others = total_is bytes n len chain k (i + 1) m (omega arith) (omega arith) in
    omega (arith, sized, here, end_of-more bytes i, others)

-- the records stand one after the other, the first one last
records_text : (bytes : List ℕ) (n : ℕ) → length bytes ≡ 2048 → AreInPlace bytes n → (k i m : ℕ)
    → i + k ≤ n → i + k ≡ m → IsText bytes (end_of bytes m) (records (records_from bytes i k))
    (end_of bytes i)
records_text bytes n len chain zero i m le e =
    ap (λ (j : ℕ). drop (end_of bytes j) bytes) (omega arith)
records_text bytes n len chain (suc k) i m le e =
    let s = slot_of bytes i in
    let here = chain i (omega arith) in
    let others = records_text bytes n len chain k (i + 1) m (omega arith) (omega arith) in
    let key = part_text bytes s.offset (key_size s) (s.offset + key_size s) refl in
    let content = part_text bytes (s.offset + key_size s) (bytes_size s) (end_of bytes i) here in
    let pair = text_then bytes s.offset (key_of bytes s) (s.offset + key_size s) (bytes_of bytes s)
    (end_of bytes i) key content in
    let pair' : IsText bytes (end_of bytes (i + 1)) (key_of bytes s ++ bytes_of bytes s)
    (end_of bytes i) = ap (λ (j : ℕ). drop j bytes) (end_of-more bytes i) ∙ pair in
    text_then bytes (end_of bytes m) (records (records_from bytes (i + 1) k)) (end_of bytes (i + 1))
    (key_of bytes s ++ bytes_of bytes s) (end_of bytes i) others pair'

-- the bytes of the slots that are read
slots_text : (bytes : List ℕ) → IsBytes bytes → (k i b : ℕ) → 16 + 6 * (i + k) ≡ b
    → b ≤ length bytes → IsText bytes (16 + 6 * i) (slots_bytes (slots_from bytes i k)) b
slots_text bytes fits zero i b e le = ap (λ (j : ℕ). drop j bytes) (omega arith)
slots_text bytes fits (suc k) i b e le =
    let a = 16 + 6 * i in
    let one = two_text bytes a (a + 2) fits (omega arith) refl in
    let two = two_text bytes (a + 2) (a + 4) fits (omega arith) (omega arith) in
    let three = two_text bytes (a + 4) (16 + 6 * (i + 1)) fits (omega arith) (omega arith) in
    let front = text_then bytes a (u16_bytes (u16_at bytes a)) (a + 2)
    (u16_bytes (u16_at bytes (a + 2))) (a + 4) one two in
    let slot = text_then bytes a (u16_bytes (u16_at bytes a) ++ u16_bytes (u16_at bytes (a + 2)))
    (a + 4) (u16_bytes (u16_at bytes (a + 4))) (16 + 6 * (i + 1)) front three in
    text_then bytes a (slot_bytes (slot_of bytes i)) (16 + 6 * (i + 1))
    (slots_bytes (slots_from bytes (i + 1) k)) b slot
    (slots_text bytes fits k (i + 1) b (omega arith) le)

-- distinct keys of slots are distinct keys of records
pub distinct_records : (bytes : List ℕ) (ss : List Slot) → SpelledDistinct bytes ss
    → AllPairs (λ p q. p.key ≢ q.key) (map (slot_record bytes) ss)
distinct_records bytes ss h i j d less lt =
    let blank : Slot = record { offset = 0; key_len = 0; content_len = 0 } in
    let inside : j < length ss = omega (arith, length-map ss (slot_record bytes)) in
    let first = get_or-map (slot_record bytes) ss i blank d (omega arith) in
    let second = get_or-map (slot_record bytes) ss j blank d inside in
    λ same. h i j blank less inside
    (ap (λ (p : Record). p.key) (sym first) ∙ same ∙ ap (λ (p : Record). p.key) second)

-- a record for each slot
pub length-records_from : (bytes : List ℕ) (n : ℕ) → length (records_from bytes 0 n) ≡ n
length-records_from bytes n = length-map (slots_from bytes 0 n) (slot_record bytes)
    ∙ length-map-range_with_len (slot_of bytes) 0 n

-- the bytes of the header
header_text : (bytes : List ℕ) → length bytes ≡ 2048 → IsBytes bytes → IsLaidOut bytes
    → IsText bytes 0 (bucket_header (bucket_of bytes)) 16
unfolding bucket_of
header_text bytes len fits h =
    let n = slot_count bytes in
    let ps = records_from bytes 0 n in
    let total = total_is bytes n len h.in_place n 0 n (omega arith) (omega arith) in
    let low_is : 2048 - total_size ps ≡ u16_at bytes 12 = omega (arith, total, h.low_is) in
    let f0 = four_text bytes 0 4 fits (omega arith) refl in
    let f4 = byte_text bytes 4 (get_or bytes 4 0) (omega arith) refl in
    let f5 = byte_text bytes 5 0 (omega arith) (sym h.header.zero5) in
    let f6 = two_text bytes 6 8 fits (omega arith) refl in
    let f8 = four_text bytes 8 12 fits (omega arith) refl in
    let f12 = two_text bytes 12 14 fits (omega arith) refl in
    let f14 = byte_text bytes 14 0 (omega arith) (sym h.header.zero14) in
    let f15 = byte_text bytes 15 0 (omega arith) (sym h.header.zero15) in
    let end = text_then bytes 14 (0 ∷ []) 15 (0 ∷ []) 16 f14 f15 in
    let kinds = text_then bytes 4 (get_or bytes 4 0 ∷ []) 5 (0 ∷ []) 6 f4 f5 in
    let t6 = text_then bytes 0 (u32_bytes (u32_at bytes 0)) 4
    (get_or bytes 4 0 ∷ 0 ∷ []) 6 f0 kinds in
    let t8 = text_then bytes 0 (u32_bytes (u32_at bytes 0) ++ get_or bytes 4 0 ∷ 0 ∷ []) 6
    (u16_bytes n) 8 t6 f6 in
    let t12 = text_then bytes 0 (u32_bytes (u32_at bytes 0) ++ get_or bytes 4 0 ∷ 0 ∷ []
    ++ u16_bytes n) 8 (u32_bytes (u32_at bytes 8)) 12 t8 f8 in
    let t14 = text_then bytes 0 (u32_bytes (u32_at bytes 0) ++ get_or bytes 4 0 ∷ 0 ∷ []
    ++ u16_bytes n ++ u32_bytes (u32_at bytes 8)) 12
    (u16_bytes (u16_at bytes 12)) 14 t12 f12 in
    let t16 = text_then bytes 0 (u32_bytes (u32_at bytes 0) ++ get_or bytes 4 0 ∷ 0 ∷ []
    ++ u16_bytes n ++ u32_bytes (u32_at bytes 8) ++ u16_bytes (u16_at bytes 12)) 14
    (0 ∷ 0 ∷ []) 16 t14 end in
    rw (low_is, length-records_from bytes n) t16

-- header, slots, zeros and records in one
pub spelled_if_laid_out : (bytes : List ℕ) → length bytes ≡ 2048 → IsBytes bytes → IsLaidOut bytes
    → IsBucket (bucket_of bytes) × (bytes ≡ bucket_spelling (bucket_of bytes))
unfolding bucket_of bucket_spelling
spelled_if_laid_out bytes len fits h =
    let n = slot_count bytes in
    let ps = records_from bytes 0 n in
    let total = total_is bytes n len h.in_place n 0 n (omega arith) (omega arith) in
    let many = length-records_from bytes n in
    let t0 = header_text bytes len fits h in
    let t1 = slots_text bytes fits n 0 (16 + 6 * n) (omega arith)
    (omega (arith, h.room, h.low_is, end_le bytes n h.in_place)) in
    let table_same : slots_from bytes 0 n ≡ slots_ending 2048 ps =
    sym (table_is bytes n len h.in_place n 0 (omega arith)) in
    let t1' : IsText bytes 16 (slots_bytes (slots_ending 2048 ps)) (16 + 6 * n) =
    subst (λ (ss : List Slot). IsText bytes 16 (slots_bytes ss) (16 + 6 * n)) table_same t1 in
    let t2 = zeros_text bytes (2032 - taken ps) (16 + 6 * n) (low bytes)
    (omega (arith, many, total, h.low_is, h.room))
    (omega (arith, h.low_is, end_le bytes n h.in_place)) h.gap in
    let t3 = records_text bytes n len h.in_place n 0 n (omega arith) (omega arith) in
    let t3' : IsText bytes (low bytes) (records ps) 2048 =
    ap (λ (j : ℕ). drop j bytes) h.low_is ∙ t3 in
    let zeros = text_then bytes (16 + 6 * n) (replicate (room_of ps) 0) (low bytes)
    (records ps) 2048 t2 t3' in
    let body = text_then bytes 16 (slots_bytes (slots_ending 2048 ps)) (16 + 6 * n)
    (replicate (room_of ps) 0 ++ records ps) 2048 t1' zeros in
    let whole = text_then bytes 0 (bucket_header (bucket_of bytes)) 16
    (slots_bytes (slots_ending 2048 ps) ++ (replicate (room_of ps) 0 ++ records ps))
    2048 t0 body in
    let rest : drop 2048 bytes ≡ [] = drop_all 2048 bytes (omega arith) in (
      record {
        own = omega (arith, fits 0, fits 1, fits 2, fits 3);
        kind = h.header.kind;
        next = omega (arith, fits 8, fits 9, fits 10, fits 11);
        fits = omega (arith, many, total, h.low_is, h.room);
        distinct = distinct_records bytes (slots_from bytes 0 n)
            (distinct_spelled bytes n h.distinct);
        records = each_record IsRecord bytes n 0 (λ j from to. h.records j (omega arith));
      },
      whole ∙ ap (λ (t : List ℕ). bucket_spelling (bucket_of bytes) ++ t) rest
          ∙ append-nil (bucket_spelling (bucket_of bytes)),
    )
