-- Small chains, worked out by hand.
use Rattle.std.specs.Prelude.{◌≡◌, ◌⊎◌, ℕ, nat_lt, Bool, true, false, List, [], ◌∷◌}
use Rattle.std.specs.FinMap.{empty, insert, remove}
use Rattle.dbm_model.specs.Bounds.{in_v1}
use Rattle.dbm_model.specs.Calls.{Delete, First, Next, Error, Reply, Stored, Deleted, Bytes, NoRecord, End, Number, Refused, Device, NoPass}
use Rattle.dbm_model.specs.Examples.{one}
use Rattle.dbm_model.specs.Pairs.{Contents}
use Rattle.dbm_model.specs.SessionExamples.{store, fetch}
use Rattle.dbm_sharing.specs.Handles.{just_opened, Shared}
use Rattle.dbm_sharing.specs.Periods.{Period, Answered, CutByDevice, CutByDeath, Opened, Replaced, Chain}

-- this map with a limit of eight pairs; handles 0 and 1 were just opened for changes, and all
-- others for reading
abbrev pub start : Contents → Shared
start map = record { map = map; bounds = in_v1 8; own = λ who. just_opened (nat_lt who 2) }

-- from this map the periods may come so
pub record MayHappen (map : Contents) (periods : List Period) : Type 0 where
  pub pages : ℕ
  pub after : Shared
  pub chain : Chain pages (start map) periods after

abbrev pub NeverHappens : Contents → List Period → Type 0
NeverHappens map periods = MayHappen map periods → ⊥

-- a alone, with the content 1, and b beside it, which a pass gives behind a
abbrev pub with_a : Contents
with_a = insert empty (one 0x61) (one 0x01)

abbrev pub with_both : Contents
with_both = insert with_a (one 0x62) (one 0x01)

-- what one handle has stored another one fetches, and nothing else
pub record StoreIsSeen : Type 0 where
  pub may : MayHappen empty (Answered 0 store Stored ∷ Answered 2 fetch (Bytes (one 0x01)) ∷ [])
  pub only : (reply : Reply)
      → MayHappen empty (Answered 0 store Stored ∷ Answered 2 fetch reply ∷ [])
      → (reply ≡ Bytes (one 0x01)) ⊎ (reply ≡ Refused Device)

-- a pass goes on over what another handle deletes and stores: b, which is deleted before its turn,
-- is not given
abbrev pub PassOverDelete : Type 0
PassOverDelete = MayHappen with_both
    (Answered 2 First (Bytes (one 0x61)) ∷ Answered 0 (Delete (one 0x62)) Deleted
    ∷ Answered 2 Next End ∷ [])

-- a program dies within a store: it has happened, or it hasn't
pub record DeathInStore : Type 0 where
  pub happened : MayHappen empty
      (CutByDeath 0 store true ∷ Answered 1 fetch (Bytes (one 0x01)) ∷ [])
  pub not_happened : MayHappen empty
      (CutByDeath 0 store false ∷ Answered 1 fetch NoRecord ∷ [])

-- the device breaks a handle within a store that has happened: the handle has its error, and
-- another one has none; both fetch what was stored
abbrev pub StoreIsBroken : Type 0
StoreIsBroken = MayHappen empty
    (CutByDevice 0 store true ∷ Answered 0 fetch (Bytes (one 0x01)) ∷ Answered 0 Error (Number 2)
    ∷ Answered 1 Error (Number 0) ∷ Answered 1 fetch (Bytes (one 0x01)) ∷ [])

-- a pass goes on in the table that takes the place of the one that it was begun in
abbrev pub PassOverReplacement : Type 0
PassOverReplacement = MayHappen with_a
    (Answered 2 First (Bytes (one 0x61)) ∷ Replaced (remove with_both (one 0x61)) (in_v1 8)
    ∷ Answered 2 Next (Bytes (one 0x62)) ∷ [])

-- a handle that is opened in the place of another one has begun no pass
abbrev pub OpenedAnew : Type 0
OpenedAnew = MayHappen with_a
    (Answered 1 First (Bytes (one 0x61)) ∷ Opened 1 false ∷ Answered 1 Next (Refused NoPass) ∷ [])

-- what no chain has: a store is lost to another handle, a change that was cut short is there for
-- one handle and not for another, a pass or an error of one handle is that of another, a handle for
-- reading stores, a fetch that was cut short has changed something, a pass gives what another
-- handle has deleted, a handle goes on with a pass of the one before it
pub record WrongChains : Type 0 where
  pub lost : NeverHappens empty (Answered 0 store Stored ∷ Answered 1 fetch NoRecord ∷ [])
  pub halved : (made : Bool) → NeverHappens empty
      (CutByDeath 0 store made ∷ Answered 1 fetch (Bytes (one 0x01))
      ∷ Answered 2 fetch NoRecord ∷ [])
  pub pass_of_another : NeverHappens with_a
      (Answered 0 First (Bytes (one 0x61)) ∷ Answered 1 Next End ∷ [])
  pub error_of_another : NeverHappens empty
      (Answered 0 Next (Refused NoPass) ∷ Answered 1 Error (Number 7) ∷ [])
  pub stored_for_reading : NeverHappens empty (Answered 2 store Stored ∷ [])
  pub changed_by_fetch : NeverHappens with_a (CutByDeath 0 fetch true ∷ [])
  pub given_though_deleted : NeverHappens with_both (Answered 2 First (Bytes (one 0x61))
      ∷ Answered 0 (Delete (one 0x62)) Deleted ∷ Answered 2 Next (Bytes (one 0x62)) ∷ [])
  pub pass_of_the_dead : NeverHappens with_a
      (Answered 1 First (Bytes (one 0x61)) ∷ CutByDeath 1 Next false ∷ Answered 1 Next End ∷ [])
