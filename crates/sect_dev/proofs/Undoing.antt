-- Writes undone, from the newest to the oldest.
use Rattle.std.proofs.Common.{◌≡◌, ◌∙◌, ℕ, ◌==◌, if◌then◌else◌, List, [], ◌∷◌, ◌++◌, map, reverse, refl, sym, ap, rules, inl, inr}
use Rattle.std.proofs.lemmas.Bool.{cases_eq}
use Rattle.std.proofs.lemmas.Bool.Decides.{nat_tests}
use Rattle.sect_dev.specs.declared.mem.Write.{Write}
use Rattle.sect_dev.specs.declared.past.Event.{Event}
use Rattle.sect_dev.specs.declared.past.Event.TheVariants.{Wrote, Synced}
use Rattle.sect_dev.specs.Device.{Image}
use Rattle.sect_dev.specs.History.{content_after, at_last_sync}
use Rattle.sect_dev.specs.Unsynced.{event_of, before_of, unsynced_of, overwritten}
use Rattle.sect_dev.proofs.Unsynced.{one_newer}

-- These are the contents that a record gave its sectors as far back as some moment since its last
-- sync, when there had been these writes, the oldest first.
pub record IsBack (writes : List Write) (contents : Image) (past : List Event) : Type 0 where
  pub events : List Event
  pub writes_are : reverse (map event_of writes) ≡ unsynced_of events
  pub before_are : reverse (map before_of writes) ≡ overwritten events
  pub same : at_last_sync events ≡ at_last_sync past
  pub contents_are : (n : ℕ) → contents n ≡ content_after events n

abbrev first_of : {A : Type 0} → A → List A → A
first_of other [] = other
first_of other (x ∷ xs) = x

abbrev rest_of : {A : Type 0} → List A → List A
rest_of [] = []
rest_of (x ∷ xs) = xs

abbrev sector_of : Event → ℕ
sector_of (Wrote n bytes) = n
sector_of Synced = 0

-- with what it found in its sector, a write is undone
module _ (old new : Image) (write : Write) (earlier : List Event) (n : ℕ) (bytes : List ℕ)
    (same : write.sector ≡ n) (before : write.before ≡ content_after earlier n)
    (were : (m : ℕ) → old m ≡ content_after (Wrote n bytes ∷ earlier) m)
    (put : (m : ℕ) → new m ≡ (if write.sector == m then write.before else old m)) where
  undone_at : (m : ℕ) → new m ≡ content_after earlier m
  undone_at m = elim (cases_eq m n) [
    | inl is ↦ put m ∙ here m is
    | inr other ↦ put m ∙ search (rules, nat_tests)
  ]
    where
      here : (m : ℕ) → m ≡ n
          → (if write.sector == m then write.before else old m) ≡ content_after earlier m
      here m is = search (rules, nat_tests)

module _ (front : List Write) (write : Write) (old new : Image) (past : List Event)
    (put : (m : ℕ) → new m ≡ (if write.sector == m then write.before else old m)) where
  step : (events : List Event)
      → event_of write ∷ reverse (map event_of front) ≡ unsynced_of events
      → write.before ∷ reverse (map before_of front) ≡ overwritten events
      → at_last_sync events ≡ at_last_sync past → ((m : ℕ) → old m ≡ content_after events m)
      → IsBack front new past
  step [] are before same were = absurd (cc are)
  step (Wrote n bytes ∷ earlier) are before same were = record {
    events = earlier;
    writes_are = ap rest_of are;
    before_are = ap rest_of before;
    same = same;
    contents_are = undone_at old new write earlier n bytes
        (ap (λ l. sector_of (first_of Synced l)) are) (ap (first_of []) before) were put;
  }
  step (Synced ∷ earlier) are before same were = absurd (cc are)

  -- one more
  pub one_undone : IsBack (front ++ write ∷ []) old past → IsBack front new past
  one_undone back =
      step back.events
      (sym (one_newer event_of front write (reverse (map event_of front)) refl) ∙ back.writes_are)
      (sym (one_newer before_of front write (reverse (map before_of front)) refl) ∙ back.before_are)
      back.same back.contents_are

none_left : (events : List Event) → [] ≡ unsynced_of events → events ≡ at_last_sync events
none_left [] are = refl
none_left (Wrote n bytes ∷ earlier) are = absurd (cc are)
none_left (Synced ∷ earlier) are = refl

-- all of them
pub all_undone : (contents : Image) (past : List Event) → IsBack [] contents past → (n : ℕ)
    → contents n ≡ content_after (at_last_sync past) n
all_undone contents past back n =
    back.contents_are n
    ∙ ap (λ events. content_after events n) (none_left back.events back.writes_are ∙ back.same)
