-- What is spelled as a page of records is read back.
use Rattle.std.proofs.Common.{◌≡◌, ℕ, suc, ◌+◌, ◌-◌, ◌*◌, ◌/◌, ◌%◌, ◌^◌, ◌≤◌, ◌<◌, List, [], ◌∷◌, ◌++◌, length, map, replicate, get_or, take, drop, refl, sym, ap, ◌∙◌, append_assoc, arith, Option, Some, None, true, false, cond}
use Rattle.std.specs.Prelude.{nat_le}
use Rattle.std.specs.List.{AllByRecursion}
use Rattle.std.proofs.lemmas.Bool.{lt-leb, le-leb}
use Rattle.std.proofs.lemmas.List.{append-nil, length-append, take_at, length-replicate}
use Rattle.page_model.specs.Bytes.{u16_at, u32_at}
use Rattle.page_model.specs.Pages.{Record, Bucket}
use Rattle.page_model.specs.Slots.{Slot, size, total_size, key_number, content_number, key_size, bytes_size, told_far, slot_ending, slots_ending, slot_bytes, slots_bytes, records, taken, room_of}
use Rattle.page_model.specs.Spelling.{header, bucket_spelling}
use Rattle.page_model.specs.Reading.{slot_count, low, slot_of, slots_from, slot_record, records_from, bucket_of, IsClear}
use Rattle.page_model.specs.Valid.{MayTell, IsRecord, IsBucket}
use Rattle.page_model.proofs.Texts.{at_front, skip, clear_again}

-- two bytes that stand at place k of a text
two_again : (bytes t : List ℕ) (a k at x : ℕ) → drop a bytes ≡ t → a + k ≡ at → x < 2 ^ 16
    → get_or t k 0 ≡ x / 256 % 256 → get_or t (k + 1) 0 ≡ x % 256 → u16_at bytes at ≡ x
two_again bytes t a k at x h e lt high lower =
    let first = at_front bytes t a k at h e in
    let second = at_front bytes t a (k + 1) (at + 1) h (omega arith) in
    omega (arith, first, second, high, lower)

-- a slot for each pair
pub length-slots_ending : (end : ℕ) (ps : List Record) → length (slots_ending end ps) ≡ length ps
length-slots_ending end [] = refl
length-slots_ending end (p ∷ ps) = ap suc (length-slots_ending (end - size p) ps)

-- six bytes for each slot
pub length-slots_bytes : (ss : List Slot) → length (slots_bytes ss) ≡ 6 * length ss
length-slots_bytes [] = refl
length-slots_bytes (s ∷ ss) = omega (arith, length-slots_bytes ss)

-- the bytes of the records
pub length-records : (ps : List Record) → length (records ps) ≡ total_size ps
length-records [] = refl
length-records (p ∷ ps) = omega
    (arith, length-append (records ps) (p.key ++ p.bytes), length-append p.key p.bytes, length-records ps)

-- a slot that is spelled at its place is read there
slot_again : (bytes rest : List ℕ) (s : Slot) (i : ℕ) → s.offset < 2 ^ 16 → s.key_len < 2 ^ 16
    → s.content_len < 2 ^ 16 → drop (16 + 6 * i) bytes ≡ slot_bytes s ++ rest → slot_of bytes i ≡ s
slot_again bytes rest s i f g k h =
    let offset = two_again bytes (slot_bytes s ++ rest) (16 + 6 * i) 0 (16 + 6 * i) s.offset h
    (omega arith) f refl refl in
    let key_len = two_again bytes (slot_bytes s ++ rest) (16 + 6 * i) 2 (16 + 6 * i + 2) s.key_len h
    (omega arith) g refl refl in
    let content_len = two_again bytes (slot_bytes s ++ rest) (16 + 6 * i) 4 (16 + 6 * i + 4)
    s.content_len h (omega arith) k refl refl in
    rw (offset, key_len, content_len) refl

-- the numbers of a slot that may be told
record Numbers (r : Record) (far : Option ℕ) : Type 0 where
  pub key : key_number (length r.key) far < 65536
  pub content : content_number (length r.bytes) far < 65536
  pub bytes : (long : ℕ) → far ≡ Some long → length r.bytes ≡ 4

numbers_of : (r : Record) (far : Option ℕ) → size r ≤ 2048 → MayTell r far → Numbers r far
numbers_of r None small may = record {
  key = omega arith;
  content = omega arith;
  bytes = λ long is. absurd (let x = is in cc);
}
numbers_of r (Some long) small may = record {
  key = omega (arith, may.short);
  content = omega (arith, may.long_enough.1);
  bytes = λ other is. may.number.0;
}

-- slots that are spelled from slot i on are read there
pub slots_again : (bytes rest : List ℕ) (ps : List Record) (i end : ℕ) → total_size ps ≤ end
    → end ≤ 2048 → AllByRecursion IsRecord ps
    → drop (16 + 6 * i) bytes ≡ slots_bytes (slots_ending end ps) ++ rest
    → slots_from bytes i (length ps) ≡ slots_ending end ps
slots_again bytes rest [] i end le most all h = refl
slots_again bytes rest (p ∷ ps) i end le most all h =
    let s = slot_ending end p in
    let numbers = numbers_of p p.far (omega arith) all.0 in
    let h' : drop (16 + 6 * i) bytes ≡ slot_bytes s
    ++ (slots_bytes (slots_ending (end - size p) ps) ++ rest) = h in
    let first = slot_again bytes (slots_bytes (slots_ending (end - size p) ps) ++ rest) s i
    (omega arith) numbers.key numbers.content h' in
    let after = skip bytes (slot_bytes s) (slots_bytes (slots_ending (end - size p) ps) ++ rest)
    (16 + 6 * i) (16 + 6 * (i + 1)) h' (omega arith) in
    let others = slots_again bytes rest ps (i + 1) (end - size p) (omega arith)
    (omega arith) all.1 after in
    ap (λ (t : Slot). t ∷ slots_from bytes (i + 1) (length ps)) first
    ∙ ap (λ (ts : List Slot). s ∷ ts) others

-- the slot of a record tells how long its key and the bytes behind it are, and whether it is far
record Told (s : Slot) (key bytes : ℕ) (far : Option ℕ) : Type 0 where
  pub key_is : key_size s ≡ key
  pub bytes_are : bytes_size s ≡ bytes
  pub far_is : told_far s ≡ far

told : (offset key bytes : ℕ) (far : Option ℕ) → key < 32768
    → ((long : ℕ) → far ≡ Some long → bytes ≡ 4)
    → Told (record {
      offset = offset;
      key_len = key_number key far;
      content_len = content_number bytes far;
    }) key bytes far
told offset key bytes None short four =
    let near : nat_le 32768 key ≡ false = lt-leb 32768 key short in
    record {
      key_is = ap (λ b. cond b (key - 32768) key) near;
      bytes_are = ap (λ b. cond b 4 bytes) near;
      far_is = ap (λ b. cond b (Some bytes) None) near;
    }
told offset key bytes (Some long) short four =
    let far : nat_le 32768 (32768 + key) ≡ true = le-leb 32768 (32768 + key) (omega arith) in
    record {
      key_is = ap (λ b. cond b (32768 + key - 32768) (32768 + key)) far ∙ omega arith;
      bytes_are = ap (λ b. cond b 4 long) far ∙ sym (four long refl);
      far_is = ap (λ b. cond b (Some long) None) far;
    }

-- records that are spelled from `lo` on are read
pub records_again : (bytes rest : List ℕ) (ps : List Record) (end lo : ℕ) → lo + total_size ps ≡ end
    → end ≤ 2048 → AllByRecursion IsRecord ps
    → drop lo bytes ≡ records ps ++ rest → map (slot_record bytes) (slots_ending end ps) ≡ ps
records_again bytes rest [] end lo e most all h = refl
records_again bytes rest (p ∷ ps) end lo e most all h =
    let offset = end - size p in
    let numbers = numbers_of p p.far (omega arith) all.0 in
    let is = told offset (length p.key) (length p.bytes) p.far (omega arith) numbers.bytes in
    let h' : drop lo bytes ≡ records ps ++ ((p.key ++ p.bytes) ++ rest) =
    h ∙ append_assoc (records ps) (p.key ++ p.bytes) rest in
    let here : drop offset bytes ≡ p.key ++ (p.bytes ++ rest) =
    skip bytes (records ps) ((p.key ++ p.bytes) ++ rest) lo offset h'
    (omega (arith, length-records ps)) ∙ append_assoc p.key p.bytes rest in
    let after : drop (offset + length p.key) bytes ≡ p.bytes ++ rest =
    skip bytes p.key (p.bytes ++ rest) offset (offset + length p.key) here refl in
    let key : take (length p.key) (drop offset bytes) ≡ p.key =
    ap (take (length p.key)) here ∙ take_at p.key (p.bytes ++ rest) (length p.key) refl in
    let content : take (length p.bytes) (drop (offset + length p.key) bytes) ≡ p.bytes =
    ap (take (length p.bytes)) after ∙ take_at p.bytes rest (length p.bytes) refl in
    let first : slot_record bytes (slot_ending end p) ≡ p =
    record_is bytes (slot_ending end p) p is.key_is is.bytes_are is.far_is key content in
    let others = records_again bytes ((p.key ++ p.bytes) ++ rest) ps offset lo (omega arith)
    (omega arith) all.1 h' in
    ap (λ (q : Record). q ∷ map (slot_record bytes) (slots_ending offset ps)) first
    ∙ ap (λ (qs : List Record). p ∷ qs) others
  where
    record_is : (bytes : List ℕ) (s : Slot) (r : Record) → key_size s ≡ length r.key
        → bytes_size s ≡ length r.bytes → told_far s ≡ r.far
        → take (length r.key) (drop s.offset bytes) ≡ r.key
        → take (length r.bytes) (drop (s.offset + length r.key) bytes) ≡ r.bytes
        → slot_record bytes s ≡ r
    record_is bytes s r a b c k d =
        let key : take (key_size s) (drop s.offset bytes) ≡ r.key =
        ap (λ n. take n (drop s.offset bytes)) a ∙ k in
        let rest : take (bytes_size s) (drop (s.offset + key_size s) bytes) ≡ r.bytes =
        ap (λ n. take (bytes_size s) (drop (s.offset + n) bytes)) a
        ∙ ap (λ n. take n (drop (s.offset + length r.key) bytes)) b ∙ d in
        λ i. record { key = key i; bytes = rest i; far = c i }

-- a spelled page of pairs is a whole page
pub length-bucket_spelling : (b : Bucket) → IsBucket b → length (bucket_spelling b) ≡ 2048
unfolding bucket_spelling
length-bucket_spelling b is =
    let ps = b.held in
    let slots = slots_bytes (slots_ending 2048 ps) in
    let zeros : List ℕ = replicate (room_of ps) 0 in
    omega (
      arith,
      is.fits,
      length-append slots (zeros ++ records ps),
      length-append zeros (records ps),
      length-slots_bytes (slots_ending 2048 ps),
      length-slots_ending 2048 ps,
      length-replicate {A = ℕ} (room_of ps) 0,
      length-records ps,
    )

-- the header's fields
pub record Says (bytes : List ℕ) (o k c n l : ℕ) : Type 0 where
  pub own : u32_at bytes 0 ≡ o
  pub kind : get_or bytes 4 0 ≡ k
  pub zero5 : get_or bytes 5 0 ≡ 0
  pub count : u16_at bytes 6 ≡ c
  pub next : u32_at bytes 8 ≡ n
  pub low : u16_at bytes 12 ≡ l
  pub zero14 : get_or bytes 14 0 ≡ 0
  pub zero15 : get_or bytes 15 0 ≡ 0

-- a number that four bytes hold, put together of these
pub four_is : (n : ℕ) → n < 2 ^ 32
    → (n / 16777216 % 256 * 256 + n / 65536 % 256) * 65536 + (n / 256 % 256 * 256 + n % 256) ≡ n
four_is n lt = omega arith

-- a number that two bytes hold, put together of these
two_is : (n : ℕ) → n < 2 ^ 16 → n / 256 % 256 * 256 + n % 256 ≡ n
two_is n lt = omega arith

-- a header that is spelled is read
pub header_again : (bytes rest : List ℕ) (own kind count next low : ℕ) → own < 2 ^ 32
    → count < 2 ^ 16 → next < 2 ^ 32 → low < 2 ^ 16 → bytes ≡ header own kind count next low ++ rest
    → Says bytes own kind count next low
header_again bytes rest own kind count next low a b c d e = record {
  own = ap (λ (x : List ℕ). u32_at x 0) e ∙ four_is own a;
  kind = ap (λ (x : List ℕ). get_or x 4 0) e;
  zero5 = ap (λ (x : List ℕ). get_or x 5 0) e;
  count = ap (λ (x : List ℕ). u16_at x 6) e ∙ two_is count b;
  next = ap (λ (x : List ℕ). u32_at x 8) e ∙ four_is next c;
  low = ap (λ (x : List ℕ). u16_at x 12) e ∙ two_is low d;
  zero14 = ap (λ (x : List ℕ). get_or x 14 0) e;
  zero15 = ap (λ (x : List ℕ). get_or x 15 0) e;
}

-- a bucket's parts, where its bytes stand
pub record Stands (bytes : List ℕ) (b : Bucket) : Type 0 where
  pub says : Says bytes b.own b.kind (length b.held) b.next (2048 - total_size b.held)
  pub slots : slots_from bytes 0 (length b.held) ≡ slots_ending 2048 b.held
  pub held : map (slot_record bytes) (slots_ending 2048 b.held) ≡ b.held
  pub clear : IsClear bytes (16 + 6 * length b.held) (2048 - total_size b.held)

-- the parts of a spelled page of pairs stand in their places
pub stands : (bytes : List ℕ) (b : Bucket) → IsBucket b → bytes ≡ bucket_spelling b → Stands bytes b
unfolding bucket_spelling
stands bytes b is e =
    let ps = b.held in
    let n = length ps in
    let lo = 2048 - total_size ps in
    let text = slots_bytes (slots_ending 2048 ps) in
    let zeros : List ℕ = replicate (room_of ps) 0 in
    let fits = is.fits in
    let long : 16 + length text ≡ 16 + 6 * n =
    omega (arith, length-slots_bytes (slots_ending 2048 ps), length-slots_ending 2048 ps) in
    let d16 : drop 16 bytes ≡ text ++ (zeros ++ records ps) = ap (drop 16) e in
    let dn : drop (16 + 6 * n) bytes ≡ zeros ++ records ps =
    skip bytes text (zeros ++ records ps) 16 (16 + 6 * n) d16 long in
    let dlow : drop lo bytes ≡ records ps =
    skip bytes zeros (records ps) (16 + 6 * n) lo dn
    (omega (arith, length-replicate {A = ℕ} (2032 - taken ps) 0)) in
    record {
      says = header_again bytes (text ++ (zeros ++ records ps)) b.own b.kind n b.next lo is.own
          (omega arith) is.next (omega arith) e;
      slots = slots_again bytes (zeros ++ records ps) ps 0 2048 (omega arith) (omega arith) is.records d16;
      held = records_again bytes [] ps 2048 lo (omega arith) (omega arith) is.records
          (dlow ∙ sym (append-nil (records ps)));
      clear = clear_again bytes (records ps) (16 + 6 * n) (2032 - taken ps) lo dn (omega arith);
    }

-- what a spelled page says
pub bucket_again : (bytes : List ℕ) (b : Bucket) → IsBucket b → bytes ≡ bucket_spelling b
    → bucket_of bytes ≡ b
unfolding bucket_of
bucket_again bytes b is e =
    let s = stands bytes b is e in
    let held : records_from bytes 0 (slot_count bytes) ≡ b.held =
    ap (records_from bytes 0) s.says.count ∙ ap (map (slot_record bytes)) s.slots ∙ s.held in
    let own = s.says.own in let kind = s.says.kind in let next = s.says.next in
    rw (own, kind, next, held) refl
