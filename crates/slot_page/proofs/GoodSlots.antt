-- The tests of one slot.
use Rattle.std.proofs.Common.{◌≡◌, ℕ, ◌+◌, List, below_more, subst}
use Rattle.dbm_model.specs.Bounds.{Version}
use Rattle.page_model.specs.Reading.{slot_of}
use Rattle.slot_page.specs.declared.slot.Slot.{Slot}
use Rattle.slot_page.specs.Slots.{as_spelled, slot_at}
use Rattle.slot_page.specs.Layout.{end_of, IsGoodSlot, AreGoodSlots}

-- one more slot
pub one_good_more : (version : Version) (bytes : List ℕ) (i end : ℕ) (s : Slot)
    → s ≡ slot_at bytes i → end ≡ end_of bytes i
    → IsGoodSlot version bytes (as_spelled s) end → AreGoodSlots version bytes i
    → AreGoodSlots version bytes (i + 1)
one_good_more version bytes i end s e f g h =
    let good : IsGoodSlot version bytes (slot_of bytes i) (end_of bytes i) =
    subst (IsGoodSlot version bytes (slot_of bytes i)) f
    (subst (λ (t : Slot). IsGoodSlot version bytes (as_spelled t) end) e g) in
    record {
      in_place = below_more _ _ h.in_place good.good.ends;
      records = below_more _ _ h.records good.good.tells;
      of_version = below_more _ _ h.of_version good.of_version;
    }
