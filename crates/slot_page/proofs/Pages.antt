-- What is known of a bucket page.
use Rattle.std.specs.Bool.{Decides}
use Rattle.std.proofs.lemmas.Bool.{cases_lt}
use Rattle.std.proofs.Common.{◌≡◌, ◌≢◌, ◌↔◌, Bool, false, Option, Some, None, inl, inr, ℕ, ◌+◌, ◌-◌, ◌*◌, ◌≤◌, ◌<◌, List, [], ◌++◌, length, map, replicate, get_or, sym, ap, ◌∙◌, subst, arith}
use Rattle.std.specs.List.{HoldsAt, AllByRecursion}
use Rattle.dbm_model.specs.Bounds.{Version}
use Rattle.std.proofs.lemmas.List.{get_or-map}
use Rattle.std.proofs.lemmas.List.FromFn.{length-map-range_with_len, get_or-map-range_with_len}
use Rattle.page_model.specs.Pages.{Record, Bucket, HeadPage, OverflowPage, bucket}
use Rattle.page_model.specs.Slots.{Slot, key_size, bytes_size, told_far, total_size, taken, slots_ending, slots_bytes, records, room_of}
use Rattle.page_model.specs.Spelling.{bucket_spelling}
use Rattle.page_model.specs.Valid.{IsRecord, IsBucket, IsOf}
use Rattle.page_model.specs.Reading.{own_number, kind_of, next_of, slot_count, low, key_of, bytes_of, slot_of, slots_from, slot_record, bucket_of, body_of}
use Rattle.slot_page.specs.declared.slot.Slot.{Slot as Held}
use Rattle.slot_page.specs.Layout.{AreSlotsOf, IsLaidOut}
use Rattle.slot_page.specs.Slots.{as_spelled, first_slots}
use Rattle.slot_page.proofs.Held.{first_are}
use Rattle.page_io.specs.BucketPages.{IsBucketPage, IsPageOf, page_records}
use Rattle.slot_page.specs.Contents.{HasRecords, KeepsHeader, HasKeyAt, record_of, with_records, with_next}
use Rattle.page_model.proofs.Buckets.{length-bucket_spelling, header_again, bucket_again}
use Rattle.page_model.proofs.Bodies.{body_is}
use Rattle.slot_page.proofs.Tellings.{each_record, each_slot, four_bytes, holds_there}
use Rattle.slot_page.proofs.Layouts.{ends_inside}
use Rattle.page_model.proofs.Texts.{IsBytes}
use Rattle.slot_page.proofs.Found.{spelled_if_laid_out, total_is, table_is, length-records_from}
use Rattle.slot_page.proofs.Laid.{laid_out_if_spelled}

-- a bucket page passes each test
pub laid_out : (bytes : List ℕ) → IsBucketPage bytes → IsLaidOut bytes
laid_out bytes h = laid_out_if_spelled bytes (bucket_of bytes) h.sound h.spelled

-- what passes each test is a bucket page
pub is_page : (bytes : List ℕ) → length bytes ≡ 2048 → IsBytes bytes → IsLaidOut bytes
    → IsBucketPage bytes
is_page bytes len fits h = let both = spelled_if_laid_out bytes len fits h in
    record { sound = both.0; spelled = both.1 }

-- in a version
pub page_of_version : (version : Version) (bytes : List ℕ) → length bytes ≡ 2048 → IsBytes bytes
    → IsLaidOut bytes → AreSlotsOf version bytes (slot_count bytes) → IsPageOf version bytes
unfolding bucket_of
page_of_version version bytes len fits h of = record {
  page = is_page bytes len fits h;
  of_version = each_record (IsOf version) bytes (slot_count bytes) 0
      (λ j from to. of j (omega arith));
}

-- and back
pub version_of_page : (version : Version) (bytes : List ℕ) → IsPageOf version bytes
    → IsLaidOut bytes × AreSlotsOf version bytes (slot_count bytes)
unfolding bucket_of
version_of_page version bytes h = (
  laid_out bytes h.page,
  λ j lt. each_slot (IsOf version) bytes (slot_count bytes) 0 h.of_version j (omega arith)
      (omega arith),
)

-- what the fields of a bucket page say of its records
pub record Counted (bytes : List ℕ) : Type 0 where
  pub count_is : slot_count bytes ≡ length (page_records bytes)
  pub low_is : low bytes + total_size (page_records bytes) ≡ 2048
  pub room_is : 16 + 6 * slot_count bytes ≤ low bytes
  pub inside : (i : ℕ) → i < slot_count bytes
      → (slot_of bytes i).offset + key_size (slot_of bytes i) + bytes_size (slot_of bytes i) ≤ 2048

-- a bucket page is a whole page
pub length-page : (bytes : List ℕ) → IsBucketPage bytes → length bytes ≡ 2048
length-page bytes h = ap length h.spelled ∙ length-bucket_spelling (bucket_of bytes) h.sound

-- the fields say so
pub counted : (bytes : List ℕ) → IsBucketPage bytes → Counted bytes
unfolding bucket_of
counted bytes h =
    let len = length-page bytes h in
    let l = laid_out bytes h in
    let n = slot_count bytes in
    let total = total_is bytes n len l.in_place n 0 n (omega arith) (omega arith) in
    record {
      count_is = sym (length-records_from bytes n);
      low_is = omega (arith, total, l.low_is);
      room_is = l.room;
      inside = ends_inside bytes n l.in_place;
    }

-- record i is that of slot i
pub record_is : (bytes : List ℕ) (i : ℕ) → i < slot_count bytes
    → HoldsAt (λ p. p ≡ slot_record bytes (slot_of bytes i)) (page_records bytes) i
unfolding bucket_of
record_is bytes i lt d =
    let n = slot_count bytes in
    let blank : Slot = record { offset = 0; key_len = 0; content_len = 0 } in
    get_or-map (slot_record bytes) (slots_from bytes 0 n) i blank d
    (omega (arith, length-map-range_with_len (slot_of bytes) 0 n))
    ∙ ap (slot_record bytes) (get_or-map-range_with_len (slot_of bytes) 0 n i i blank
    lt (omega arith))

-- the slots that are read are those of the records
pub table_of : (bytes : List ℕ) → length bytes ≡ 2048 → IsLaidOut bytes
    → slots_ending 2048 (page_records bytes) ≡ slots_from bytes 0 (slot_count bytes)
unfolding bucket_of
table_of bytes len h = table_is bytes (slot_count bytes) len h.in_place (slot_count bytes)
    0 (omega arith)

-- what is spelled as one is a bucket page
pub spelled_page : (bytes : List ℕ) (b : Bucket) → IsBucket b → bytes ≡ bucket_spelling b
    → IsBucketPage bytes
spelled_page bytes b is e =
    let again = bucket_again bytes b is e in record {
      sound = subst IsBucket (sym again) is;
      spelled = e ∙ ap bucket_spelling (sym again);
    }

-- in a version
pub spelled_of_version : (version : Version) (bytes : List ℕ) (b : Bucket) → IsBucket b
    → AllByRecursion (IsOf version) b.held → bytes ≡ bucket_spelling b → IsPageOf version bytes
spelled_of_version version bytes b is of e = record {
  page = spelled_page bytes b is e;
  of_version = subst (λ (x : Bucket). AllByRecursion (IsOf version) x.held)
      (sym (bucket_again bytes b is e)) of;
}

-- the slots of the code are those of the records
pub slots_read : (bytes : List ℕ) (n : ℕ) (slots : List Held) → IsBucketPage bytes
    → n ≡ length (page_records bytes) → slots ≡ first_slots bytes n
    → map as_spelled slots ≡ slots_ending 2048 (page_records bytes)
slots_read bytes n slots h count e =
    let many : n ≡ slot_count bytes = count ∙ sym (counted bytes h).count_is in
    ap (map as_spelled) e ∙ first_are bytes n ∙ ap (slots_from bytes 0) many
    ∙ sym (table_of bytes (length-page bytes h) (laid_out bytes h))

-- the record of slot i lies in the page
pub record_inside : (bytes : List ℕ) (i : ℕ) (s : Slot) → Counted bytes
    → i < length (page_records bytes) → s ≡ slot_of bytes i
    → s.offset + key_size s + bytes_size s ≤ 2048
record_inside bytes i s c lt e =
    subst (λ (t : Slot). t.offset + key_size t + bytes_size t ≤ 2048) (sym e)
    (c.inside i (omega (arith, c.count_is)))

-- key, bytes and length that are read by a slot are the record
pub record_read : (bytes : List ℕ) (i : ℕ) (s : Slot) (k t : List ℕ) (far : Option ℕ)
    → Counted bytes → i < length (page_records bytes) → s ≡ slot_of bytes i → k ≡ key_of bytes s
    → t ≡ bytes_of bytes s → far ≡ told_far s
    → HoldsAt (λ r. r ≡ record_of k t far) (page_records bytes) i
record_read bytes i s k t far c lt e f g h d =
    record_is bytes i (omega (arith, c.count_is)) d ∙ ap (slot_record bytes) (sym e)
    ∙ λ j. record { key = sym f j; bytes = sym g j; far = sym h j }

-- a far record has four bytes behind its key
pub far_bytes : (bytes k t : List ℕ) (i long : ℕ) (far : Option ℕ) → IsBucketPage bytes
    → i < length (page_records bytes)
    → HoldsAt (λ r. r ≡ record_of k t far) (page_records bytes) i → far ≡ Some long
    → length t ≡ 4
far_bytes bytes k t i long far h lt is e =
    let r = record_of k t far in
    let may : IsRecord r = subst IsRecord (is r)
    (holds_there IsRecord (page_records bytes) i r h.sound.records lt) in
    four_bytes r far may long e

-- a place with this key
pub found_at : (bytes key got rest : List ℕ) (i : ℕ) → i < length (page_records bytes)
    → HoldsAt (λ r. (r.key ≡ got) × (r.bytes ≡ rest)) (page_records bytes) i → got ≡ key
    → HasKeyAt key (page_records bytes) i
found_at bytes key got rest i lt h e = (lt, λ d. (h d).0 ∙ e)

-- one more record has another key
pub differs_here : (ps : List Record) (key got rest : List ℕ) (i : ℕ) (r : Bool)
    → HoldsAt (λ r. (r.key ≡ got) × (r.bytes ≡ rest)) ps i → Decides r (got ≡ key) → r ≡ false
    → ((k : ℕ) (d : Record) → k < i → (get_or ps k d).key ≢ key) → (k : ℕ) (d : Record) → k < i + 1
    → (get_or ps k d).key ≢ key
differs_here ps key got rest i r h says was_false before k d lt =
    elim (cases_lt k i) [
      | inl less ↦ before k d less
      | inr ge ↦ λ same.
          let at : k ≡ i = omega arith in
          let was_true = says.1 (sym (h d).0
          ∙ ap (λ (j : ℕ). (get_or ps j d).key) (sym at) ∙ same) in
          absurd cc
    ]

-- no two records have one key
pub only_one : (bytes key : List ℕ) (i k : ℕ) → IsBucketPage bytes
    → HasKeyAt key (page_records bytes) i → HasKeyAt key (page_records bytes) k → k ≡ i
only_one bytes key i k h a b =
    let blank : Record = record { key = []; bytes = []; far = None } in
    elim (cases_lt k i) [
      | inl lt ↦ absurd (h.sound.distinct k i blank lt a.0 (b.1 blank ∙ sym (a.1 blank)))
      | inr ge ↦ elim (cases_lt i k) [
        | inl lt ↦ absurd (h.sound.distinct i k blank lt b.0 (a.1 blank ∙ sym (b.1 blank)))
        | inr le ↦ omega arith
      ]
    ]

-- two pages that say the same have the same bytes
pub same_bytes : (x y : List ℕ) → IsBucketPage x → IsBucketPage y → own_number x ≡ own_number y
    → kind_of x ≡ kind_of y → next_of x ≡ next_of y → page_records x ≡ page_records y → x ≡ y
unfolding bucket_of
same_bytes x y h g own kind next held =
    let same : bucket_of x ≡ bucket_of y =
    ap (λ (n : ℕ). bucket n (kind_of x) (next_of x) (page_records x)) own
    ∙ ap (λ (n : ℕ). bucket (own_number y) n (next_of x) (page_records x)) kind
    ∙ ap (λ (n : ℕ). bucket (own_number y) (kind_of y) n (page_records x)) next
    ∙ ap (bucket (own_number y) (kind_of y) (next_of y)) held in
    h.spelled ∙ ap bucket_spelling same ∙ sym g.spelled

-- a page of records that is spelled anew with others
pub kept : (old new : List ℕ) (ps : List Record) → IsBucketPage old → taken ps ≤ 2032
    → new ≡ bucket_spelling (with_records (bucket_of old) ps) → KeepsHeader old new
unfolding bucket_of bucket_spelling
kept old new ps h le e =
    let b = bucket_of old in
    let s = header_again new (slots_bytes (slots_ending 2048 ps)
    ++ (replicate (room_of ps) 0 ++ records ps)) b.own b.kind (length ps) b.next
    (2048 - total_size ps) h.sound.own (omega arith) h.sound.next (omega arith) e in
    record { own = s.own; kind = s.kind; next = s.next }

-- a page that holds other records keeps its header
pub kept_by : (old new : List ℕ) (ps : List Record) → HasRecords old new ps → KeepsHeader old new
unfolding bucket_of
kept_by old new ps h = record {
  own = ap (λ (b : Bucket). b.own) h.says;
  kind =
      ap (λ (b : Bucket). b.kind) h.says;
  next = ap (λ (b : Bucket). b.next) h.says;
}

-- another next page keeps the own number
pub own_kept : (old new : List ℕ) (n : ℕ) → bucket_of new ≡ with_next (bucket_of old) n
    → own_number new ≡ own_number old
unfolding bucket_of
own_kept old new n e = ap (λ (b : Bucket). b.own) e

-- a page that has a bucket's spelling
pub is_page_of : (bytes : List ℕ) (b : Bucket) → IsBucket b → bytes ≡ bucket_spelling b
    → IsBucketPage bytes × (bucket_of bytes ≡ b)
is_page_of bytes b is e =
    let says = bucket_again bytes b is e in (
      record { sound = subst IsBucket (sym says) is; spelled = e ∙ ap bucket_spelling (sym says) },
      says,
    )

-- read as a head page
pub is_head : (n next : ℕ) (rs : List Record) (bytes : List ℕ) → IsBucket (bucket n 3 next rs)
    → (body_of n bytes ≡ HeadPage next rs)
    ↔ (IsBucketPage bytes × (bucket_of bytes ≡ bucket n 3 next rs))
is_head n next rs bytes is =
    let b = bucket n 3 next rs in
    let exact = body_is n bytes (HeadPage next rs) is in
    (λ e. is_page_of bytes b is (exact.1 e), λ h. exact.0 (h.0.spelled ∙ ap bucket_spelling h.1))

-- read as an overflow page
pub is_overflow : (n next : ℕ) (rs : List Record) (bytes : List ℕ)
    → IsBucket (bucket n 4 next rs)
    → (body_of n bytes ≡ OverflowPage next rs)
    ↔ (IsBucketPage bytes × (bucket_of bytes ≡ bucket n 4 next rs))
is_overflow n next rs bytes is =
    let b = bucket n 4 next rs in
    let exact = body_is n bytes (OverflowPage next rs) is in
    (λ e. is_page_of bytes b is (exact.1 e), λ h. exact.0 (h.0.spelled ∙ ap bucket_spelling h.1))
