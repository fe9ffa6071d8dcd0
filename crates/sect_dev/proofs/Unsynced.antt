-- The writes that a device in memory keeps, beside its record.
use Rattle.std.proofs.Common.{◌≡◌, ◌∙◌, List, [], ◌∷◌, ◌++◌, length, map, reverse, refl, sym, ap, arith}
use Rattle.std.proofs.lemmas.List.{map-append, reverse-append, length-map, length-reverse}
use Rattle.sect_dev.specs.declared.mem.Write.{Write}
use Rattle.sect_dev.specs.declared.past.Event.{Event}
use Rattle.sect_dev.specs.declared.past.Event.TheVariants.{Wrote, Synced}
use Rattle.sect_dev.specs.History.{pending_of, at_last_sync}
use Rattle.sect_dev.specs.Unsynced.{event_of, unsynced_of, overwritten}

pub pending_counts : (events : List Event) → length (unsynced_of events) ≡ pending_of events
pending_counts [] = refl
pending_counts (Wrote n bytes ∷ earlier) = omega (arith, pending_counts earlier)
pending_counts (Synced ∷ earlier) = refl

pub in_two : (events : List Event) → unsynced_of events ++ at_last_sync events ≡ events
in_two [] = refl
in_two (Wrote n bytes ∷ earlier) = ap (λ (l : List Event). Wrote n bytes ∷ l) (in_two earlier)
in_two (Synced ∷ earlier) = refl

-- at a sync there are none
pub none_since : (events : List Event) → unsynced_of (at_last_sync events) ≡ []
none_since [] = refl
none_since (Wrote n bytes ∷ earlier) = none_since earlier
none_since (Synced ∷ earlier) = refl

pub none_overwritten : (events : List Event) → overwritten (at_last_sync events) ≡ []
none_overwritten [] = refl
none_overwritten (Wrote n bytes ∷ earlier) = none_overwritten earlier
none_overwritten (Synced ∷ earlier) = refl

-- one more at the end is the newest
pub one_newer : {A : Type 0} (of : Write → A) (writes : List Write) (write : Write) (all : List A)
    → reverse (map of writes) ≡ all
    → reverse (map of (writes ++ write ∷ [])) ≡ of write ∷ all
one_newer of writes write all are =
    ap reverse (map-append of writes (write ∷ []))
    ∙ reverse-append (map of writes) (of write ∷ [])
    ∙ ap (λ l. of write ∷ l) are

-- the writes, the oldest first, that a record has since its last sync
module _ (writes : List Write) (events : List Event)
    (are : reverse (map event_of writes) ≡ unsynced_of events) where
  pub all_counted : length writes ≡ pending_of events
  all_counted =
      sym (length-map writes event_of) ∙ sym (length-reverse (map event_of writes))
      ∙ ap length are ∙ pending_counts events

  -- behind what there was at the sync they are the record
  pub joined : (given : List Write) (base : List Event) → given ≡ writes
      → base ≡ at_last_sync events → reverse (map event_of given) ++ base ≡ events
  joined given base same is =
      ap (λ (l : List Write). reverse (map event_of l) ++ base) same
      ∙ ap (λ (l : List Event). l ++ base) are
      ∙ ap (λ (l : List Event). unsynced_of events ++ l) is ∙ in_two events
