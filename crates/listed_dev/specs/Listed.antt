-- What a device lists and knows.
use Rattle.std.specs.Prelude.{◌≡◌, ◌∷◌, ℕ, Bool, true, is_some, List, Option, reverse, nat_eq}
use Rattle.std.specs.HashMap.{get}
use Rattle.sect_dev.specs.declared.past.Event.{Event}
use Rattle.sect_dev.specs.declared.served.Told.{Told}
use Rattle.sect_dev.specs.declared.served.Told.TheVariants.{Sector, CarriedOut}
use Rattle.listed_dev.specs.declared.listed_dev.ListedDev.{ListedDev}

-- what happened to the file, the newest first: what is listed, what was carried out, and what was
-- before
abbrev pub history : ListedDev → List Event
history dev = dev.past.events

-- what is to be carried out, the newest first
abbrev pub list_of : ListedDev → List Event
list_of dev = reverse dev.listed.items

-- the sector that the last read lacked which failed, until the device is told something
abbrev pub lacked_by : ListedDev → Option ℕ
lacked_by dev = dev.lacked

-- one event more is listed
pub record Lists (old new : ListedDev) (event : Event) : Type 0 where
  pub history : history new ≡ event ∷ history old
  pub listed : list_of new ≡ event ∷ list_of old

-- nothing more is listed
pub record ListsNothing (old new : ListedDev) : Type 0 where
  pub history : history new ≡ history old
  pub listed : list_of new ≡ list_of old

-- whether it can read the sector
abbrev pub knows : ListedDev → ℕ → Bool
knows dev n = is_some (get nat_eq dev.known n)

-- it can read what it could, and this sector
pub record KnowsToo (old new : ListedDev) (n : ℕ) : Type 0 where
  pub this : knows new n ≡ true
  pub still : (m : ℕ) → knows old m ≡ true → knows new m ≡ true

-- it can read what it was told
abbrev pub HasLearnt : Told → ListedDev → ListedDev → Type 0
HasLearnt (Sector n content) old new = KnowsToo old new n
HasLearnt CarriedOut old new = Unit

-- all but what it lists and knows is as it was
pub record IsSameBeside (old new : ListedDev) : Type 0 where
  pub sectors : new.sectors ≡ old.sectors
  pub faults : new.faults ≡ old.faults
  pub lacked : new.lacked ≡ old.lacked
