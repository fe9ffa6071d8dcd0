-- What a slot tells of its record.
use Rattle.std.proofs.Common.{◌≡◌, ℕ, zero, suc, ◌+◌, ◌-◌, ◌≤◌, ◌<◌, List, [], ◌∷◌, length, get_or, true, false, cond, Option, Some, None, refl, sym, ap, subst, ◌∙◌, arith, inl, inr}
use Rattle.std.specs.Prelude.{nat_le}
use Rattle.std.specs.List.{AllByRecursion}
use Rattle.std.proofs.lemmas.Bool.{cases_lt, lt-leb, le-leb}
use Rattle.page_model.specs.Pages.{Record}
use Rattle.page_model.specs.Slots.{Slot, size, key_number, content_number, key_size, bytes_size, told_far, slot_ending}
use Rattle.page_model.specs.Reading.{slot_of, slot_record, records_from}
use Rattle.page_model.specs.Valid.{MayTell, IsRecord}

-- how long the key and the bytes behind it are, and whether the content is far
pub record Told (s : Slot) (key bytes : ℕ) (far : Option ℕ) : Type 0 where
  pub key_is : key_size s ≡ key
  pub bytes_are : bytes_size s ≡ bytes
  pub far_is : told_far s ≡ far

-- a near slot
pub told_near : (s : Slot) → s.key_len < 32768 → Told s s.key_len s.content_len None
told_near s lt =
    let near : nat_le 32768 s.key_len ≡ false = lt-leb 32768 s.key_len lt in
    record {
      key_is = ap (λ b. cond b (s.key_len - 32768) s.key_len) near;
      bytes_are = ap (λ b. cond b 4 s.content_len) near;
      far_is = ap (λ b. cond b (Some s.content_len) None) near;
    }

-- a far one
pub told_far_slot : (s : Slot) → 32768 ≤ s.key_len
    → Told s (s.key_len - 32768) 4 (Some s.content_len)
told_far_slot s le =
    let far : nat_le 32768 s.key_len ≡ true = le-leb 32768 s.key_len le in
    record {
      key_is = ap (λ b. cond b (s.key_len - 32768) s.key_len) far;
      bytes_are = ap (λ b. cond b 4 s.content_len) far;
      far_is = ap (λ b. cond b (Some s.content_len) None) far;
    }

-- the numbers of a slot are those of what it tells
pub numbers_again : (s : Slot) → (key_number (key_size s) (told_far s) ≡ s.key_len)
    × (content_number (bytes_size s) (told_far s) ≡ s.content_len)
numbers_again s =
    elim (cases_lt s.key_len 32768) [
      | inl lt ↦
          let t = told_near s lt in (
            ap (λ n. key_number n (told_far s)) t.key_is ∙ ap (key_number s.key_len) t.far_is,
            ap (λ n. content_number n (told_far s)) t.bytes_are
                ∙ ap (content_number s.content_len) t.far_is,
          )
      | inr ge ↦
          let t = told_far_slot s ge in (
            ap (λ n. key_number n (told_far s)) t.key_is
                ∙ ap (key_number (s.key_len - 32768)) t.far_is ∙ omega arith,
            ap (λ n. content_number n (told_far s)) t.bytes_are ∙ ap (content_number 4) t.far_is,
          )
    ]

-- the slot of parts
told_parts : (offset key bytes : ℕ) (far : Option ℕ) → key < 32768
    → ((long : ℕ) → far ≡ Some long → bytes ≡ 4)
    → Told (record {
      offset = offset;
      key_len = key_number key far;
      content_len = content_number bytes far;
    }) key bytes far
told_parts offset key bytes None short four =
    told_near (record { offset = offset; key_len = key; content_len = bytes }) short
told_parts offset key bytes (Some long) short four =
    let t = told_far_slot
    (record { offset = offset; key_len = 32768 + key; content_len = long }) (omega arith) in
    record {
      key_is = t.key_is ∙ omega arith;
      bytes_are = t.bytes_are ∙ sym (four long refl);
      far_is = t.far_is;
    }

-- four bytes stand behind the key of a far record
pub four_bytes : (r : Record) (far : Option ℕ) → MayTell r far → (long : ℕ) → far ≡ Some long
    → length r.bytes ≡ 4
four_bytes r None may long is = absurd cc
four_bytes r (Some other) may long is = may.number.0

-- the slot that is spelled for a record
pub told_again : (end : ℕ) (r : Record) → size r ≤ 2048 → IsRecord r
    → Told (slot_ending end r) (length r.key) (length r.bytes) r.far
told_again end r small may = told_parts (end - size r) (length r.key) (length r.bytes) r.far
    (omega arith) (four_bytes r r.far may)

-- what holds of the record of each slot holds of each record
pub each_record : (P : Record → Type 0) (bytes : List ℕ) (k i : ℕ)
    → ((j : ℕ) → i ≤ j → j < i + k → P (slot_record bytes (slot_of bytes j)))
    → AllByRecursion P (records_from bytes i k)
each_record P bytes zero i h = tt
each_record P bytes (suc k) i h = (
  h i (omega arith) (omega arith),
  each_record P bytes k (i + 1) (λ j from to. h j (omega arith) (omega arith)),
)

-- and back
pub each_slot : (P : Record → Type 0) (bytes : List ℕ) (k i : ℕ)
    → AllByRecursion P (records_from bytes i k) → (j : ℕ) → i ≤ j → j < i + k
    → P (slot_record bytes (slot_of bytes j))
each_slot P bytes zero i all j from to = absurd (omega arith)
each_slot P bytes (suc k) i all j from to =
    elim (cases_lt i j) [
      | inl lt ↦ each_slot P bytes k (i + 1) all.1 j (omega arith) (omega arith)
      | inr ge ↦ subst (λ n. P (slot_record bytes (slot_of bytes n)))
          (let at : i ≡ j = omega arith in at) all.0
    ]

-- what holds of each record holds of the one at a place
pub holds_there : (P : Record → Type 0) (ps : List Record) (i : ℕ) (d : Record)
    → AllByRecursion P ps → i < length ps → P (get_or ps i d)
holds_there P [] i d all lt = absurd (omega arith)
holds_there P (p ∷ ps) zero d all lt = all.0
holds_there P (p ∷ ps) (suc i) d all lt = holds_there P ps i d all.1 (omega arith)
