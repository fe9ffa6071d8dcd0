-- Keys with two marks are two keys.
use Rattle.std.proofs.Common.{◌≡◌, ℕ, ◌+◌, ◌<◌, List, Bool, true, false, length, get_or, set, sym, ap, ◌∙◌, arith, inl, inr, get_or-set_same, get_or-set_other}
use Rattle.std.proofs.lemmas.Bool.{cases_lt, cases_eq}
use Rattle.page_model.specs.Reading.{slot_of, key_of}
use Rattle.slot_page.specs.declared.slot.Slot.{Slot}
use Rattle.slot_page.specs.Slots.{as_spelled, slot_at}
use Rattle.slot_page.specs.Marks.{mark_of}
use Rattle.slot_page.specs.Layout.{HasNewKey, HaveDistinctKeys}

-- the mark of the key of slot i
abbrev pub mark_at : List ℕ → ℕ → ℕ
mark_at bytes i = mark_of (key_of bytes (slot_of bytes i))

-- the marks of the first n slots are noted
abbrev pub AreNoted : List ℕ → List Bool → ℕ → Type 0
AreNoted bytes seen n = (i : ℕ) → i < n → get_or seen (mark_at bytes i) false ≡ true

-- the mark of the key that was read
pub mark_is : (bytes key : List ℕ) (j mark : ℕ) (s : Slot) → s ≡ slot_at bytes j
    → key ≡ key_of bytes (as_spelled s) → mark ≡ mark_of key → mark ≡ mark_at bytes j
mark_is bytes key j mark s slot_is key_is is =
    is ∙ ap mark_of (key_is ∙ ap (λ (t : Slot). key_of bytes (as_spelled t)) slot_is)

-- a key whose mark was not noted is a new one
pub new_by_mark : (bytes : List ℕ) (seen : List Bool) (j mark : ℕ) → mark ≡ mark_at bytes j
    → AreNoted bytes seen j → get_or seen mark false ≡ false → HasNewKey bytes j
new_by_mark bytes seen j mark is noted unseen i lt same =
    let was = noted i lt in
    let one : mark_at bytes i ≡ mark = ap mark_of same ∙ sym is in
    let both : get_or seen (mark_at bytes i) false ≡ get_or seen mark false =
    ap (λ (m : ℕ). get_or seen m false) one in
    absurd cc

-- one more mark is noted
pub noted_more : (bytes : List ℕ) (seen : List Bool) (j mark : ℕ) → mark ≡ mark_at bytes j
    → mark < length seen → AreNoted bytes seen j → AreNoted bytes (set seen mark true) (j + 1)
noted_more bytes seen j mark is inside noted i lt =
    elim (cases_eq (mark_at bytes i) mark) [
      | inl same ↦ ap (λ (m : ℕ). get_or (set seen mark true) m false) same
          ∙ get_or-set_same seen mark true false inside
      | inr other ↦
          let less : i < j = elim (cases_lt i j) [
            | inl below ↦ below
            | inr above ↦ let at : i ≡ j = omega arith in absurd (other (ap (mark_at bytes) at
                ∙ sym is))
          ] in
          get_or-set_other seen mark (mark_at bytes i) true false other ∙ noted i less
    ]

-- one more key is a new one
pub distinct_more : (bytes : List ℕ) (j : ℕ) → HaveDistinctKeys bytes j → HasNewKey bytes j
    → HaveDistinctKeys bytes (j + 1)
distinct_more bytes j before new i k less lt =
    elim (cases_lt k j) [
      | inl below ↦ before i k less below
      | inr above ↦
          let at : k ≡ j = omega arith in
          λ same. new i (omega (arith, at))
          (same ∙ ap (λ (n : ℕ). key_of bytes (slot_of bytes n)) at)
    ]
