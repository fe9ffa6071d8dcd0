-- What the slots of a page say, one step on.
use Rattle.std.proofs.Common.{◌≡◌, ◌≢◌, ℕ, zero, suc, ◌+◌, ◌≤◌, ◌<◌, List, [], ◌∷◌, ◌++◌, sym, ap, ◌∙◌, add-one, arith, subst}
use Rattle.std.proofs.lemmas.List.FromFn.{map-range_with_len_more}
use Rattle.page_model.specs.Slots.{key_size, bytes_size}
use Rattle.page_model.specs.Reading.{slot_of, slot_count, low, key_of}
use Rattle.slot_page.specs.declared.slot.Slot.{Slot}
use Rattle.slot_page.specs.Slots.{as_spelled, slot_at, first_slots}
use Rattle.slot_page.specs.Layout.{end_of, AreInPlace, IsLaidOut}

-- the next record ends where this one begins
pub end_of-more : (bytes : List ℕ) (i : ℕ) → end_of bytes (i + 1) ≡ (slot_of bytes i).offset
end_of-more bytes i = ap (end_of bytes) (add-one i)

-- one more slot
pub slots_more : (bytes : List ℕ) (i : ℕ) (ss new : List Slot) (s : Slot) → ss ≡ first_slots bytes i
    → s ≡ slot_at bytes i → new ≡ ss ++ s ∷ [] → new ≡ first_slots bytes (i + 1)
slots_more bytes i ss new s e f g =
    g ∙ ap (λ (xs : List Slot). xs ++ s ∷ []) e ∙ ap (λ (x : Slot). first_slots bytes i ++ x ∷ []) f
    ∙ sym (map-range_with_len_more (slot_at bytes) 0 i i (omega arith))

-- a record ends at its page's end at most
pub end_le : (bytes : List ℕ) (n : ℕ) → AreInPlace bytes n → end_of bytes n ≤ 2048
end_le bytes zero h = omega arith
end_le bytes (suc n) h =
    let here = h n (omega arith) in
    let below = end_le bytes n (λ i lt. h i (omega arith)) in
    omega (arith, here, below)

-- low is inside the page
pub not_laid_out : (bytes : List ℕ) → 2048 < low bytes → IsLaidOut bytes → ⊥
not_laid_out bytes lt h = let most = end_le bytes (slot_count bytes) h.in_place in let is =
    h.low_is in omega arith

-- each record lies in the page
pub ends_inside : (bytes : List ℕ) (n : ℕ) → AreInPlace bytes n → (i : ℕ) → i < n
    → (slot_of bytes i).offset + key_size (slot_of bytes i) + bytes_size (slot_of bytes i) ≤ 2048
ends_inside bytes n h i lt =
    let here = h i lt in
    let most = end_le bytes i (λ j less. h j (omega arith)) in
    omega (arith, here, most)

-- the key of a slot lies in the page
pub key_inside : (bytes : List ℕ) (n i : ℕ) (s : Slot) → AreInPlace bytes n → i < n
    → s ≡ slot_at bytes i → s.offset + key_size (as_spelled s) ≤ 2048
key_inside bytes n i s h lt e =
    let inside = ends_inside bytes n h i lt in
    subst (λ (t : Slot). t.offset + key_size (as_spelled t) ≤ 2048) (sym e) (omega (arith, inside))

-- a slot whose key was read and differs
pub another_key : (bytes found key : List ℕ) (i : ℕ) (s : Slot) → s ≡ slot_at bytes i
    → found ≡ key_of bytes (as_spelled s) → found ≢ key → key_of bytes (slot_of bytes i) ≢ key
another_key bytes found key i s e f differs same =
    differs (f ∙ ap (λ (t : Slot). key_of bytes (as_spelled t)) e ∙ same)
