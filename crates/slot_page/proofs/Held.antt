-- The slots of the code and the slots that are spelled.
use Rattle.std.proofs.Common.{◌≡◌, ◌≢◌, ℕ, ◌<◌, List, [], ◌∷◌, map, get_or, refl, sym, ap, ◌∙◌, arith}
use Rattle.std.specs.Prelude.{AllPairs}
use Rattle.std.specs.List.{range_with_len}
use Rattle.std.proofs.lemmas.List.FromFn.{length-map-range_with_len, get_or-map-range_with_len}
use Rattle.page_model.specs.Slots.{Slot as Spelled}
use Rattle.page_model.specs.Reading.{slot_of, slots_from, key_of}
use Rattle.slot_page.specs.Slots.{as_spelled, slot_at, first_slots}
use Rattle.slot_page.specs.Layout.{HaveDistinctKeys}

-- no two of the slots have one key
abbrev pub SpelledDistinct : List ℕ → List Spelled → Type 0
SpelledDistinct bytes slots = AllPairs (λ s t. key_of bytes s ≢ key_of bytes t) slots

-- place by place
slots_at : (bytes places : List ℕ)
    → map as_spelled (map (slot_at bytes) places) ≡ map (slot_of bytes) places
slots_at bytes [] = refl
slots_at bytes (i ∷ places) =
    ap (λ (ss : List Spelled). slot_of bytes i ∷ ss) (slots_at bytes places)

-- the first n slots
pub first_are : (bytes : List ℕ) (n : ℕ)
    → map as_spelled (first_slots bytes n) ≡ slots_from bytes 0 n
first_are bytes n = slots_at bytes (range_with_len 0 n)

-- slot i of those that are spelled
spelled_at : (bytes : List ℕ) (n i : ℕ) (d : Spelled) → i < n
    → get_or (slots_from bytes 0 n) i d ≡ slot_of bytes i
spelled_at bytes n i d lt = get_or-map-range_with_len (slot_of bytes) 0 n i i d lt (omega arith)

-- distinct keys, slot by slot
pub distinct_spelled : (bytes : List ℕ) (n : ℕ) → HaveDistinctKeys bytes n
    → SpelledDistinct bytes (slots_from bytes 0 n)
distinct_spelled bytes n h i j d less lt =
    let inside : j < n = omega (arith, length-map-range_with_len (slot_of bytes) 0 n) in
    λ same. h i j less inside
    (ap (key_of bytes) (sym (spelled_at bytes n i d (omega arith)))
    ∙ same ∙ ap (key_of bytes) (spelled_at bytes n j d inside))

-- and back
pub distinct_held : (bytes : List ℕ) (n : ℕ) → SpelledDistinct bytes (slots_from bytes 0 n)
    → HaveDistinctKeys bytes n
distinct_held bytes n h i j less lt =
    let d : Spelled = slot_of bytes 0 in
    λ same. h i j d less (omega (arith, length-map-range_with_len (slot_of bytes) 0 n))
    (ap (key_of bytes) (spelled_at bytes n i d (omega arith))
    ∙ same ∙ ap (key_of bytes) (sym (spelled_at bytes n j d lt)))
