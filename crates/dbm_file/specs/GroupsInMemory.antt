-- The database in memory in which a group of pairs is stored before its commit.
use Rattle.std.specs.Prelude.{◌≡◌, ◌⊎◌, ◌↔◌, ◌≤◌, ℕ, true, false, Bool, List, map, Result, OnOk, OnErr, IfOk, IfErr}
use Rattle.std.specs.FinMap.{insert}
use Rattle.sect_dev.specs.Device.{MoreFaults}
use Rattle.dbm_model.specs.Calls.{Stored}
use Rattle.dbm_model.specs.Changes.{replacing, with_pairs}
use Rattle.dbm_model.specs.Pairs.{Pair, Contents}
use Rattle.dbm_model.specs.States.{Handle}
use Rattle.dbm_model.specs.Steps.{Step, Run}
use Rattle.page_model.specs.Pages.{Meta}
use Rattle.page_model.specs.Valid.{IsMeta, meta_buckets}
use Rattle.page_io.specs.Views.{ReadsOnly}
use Rattle.page_io.specs.declared.store.PageStore.{Ghosts}
use Rattle.page_io.specs.declared.store.PageFault.{PageFault}
use Rattle.page_io.specs.declared.store.PageFault.TheVariants as page
use Rattle.seg_table.specs.declared.meta.Meta as kept
use Rattle.dbm_fault.specs.declared.fault.Fault.{Fault}
use Rattle.dbm_fault.specs.declared.fault.Fault.TheVariants.{Device}
use Rattle.dbm_file.specs.Database.{store_of, meta_kept, page_state, handle_of, IsAt, AtEachHandle}
use Rattle.dbm_file.specs.Groups.{GroupEnds}
use Rattle.dbm_file.specs.Trying.{with_error_of}
use Rattle.dbm_file.specs.declared.database.Database.{Database}

-- it has begun over this store, to which this meta page belongs
pub record IsBegun {S G : Type 0} {g : Ghosts G} (s : Ghosts S) (base : S) (meta : Meta)
    (group : Database G g) : Type 0 where
  pub honesty : g.honest (store_of group) ↔ s.honest base
  pub faults : g.faults (store_of group) ≡ s.faults base
  pub end : (page_state group).end ≡ (s.state base).end
  pub capacity : (page_state group).capacity ≡ (s.state base).capacity
  pub usable : (page_state group).usable ≡ true
  pub meta_is : meta_kept group ≡ meta

-- and is at the map of the database that this is the store of
abbrev pub BeginsAt : {S G : Type 0} {g : Ghosts G} (s : Ghosts S) → S → Meta → Database G g
    → Type 0
BeginsAt {S} s base meta group = (db : Database S s) → store_of db ≡ base → meta_kept db ≡ meta
    → (page_state db).usable ≡ true
    → AtEachHandle db (λ h. IsAt group (handle_of group h.state.map))

-- where its file is no other than at `old`
pub record IsSameGroup {G : Type 0} {g : Ghosts G} (old new : Database G g) : Type 0 where
  pub meta : meta_kept new ≡ meta_kept old
  pub end : (page_state new).end ≡ (page_state old).end
  pub stays : g.honest (store_of old) → (contents : Contents)
      → IsAt old (handle_of old contents) → IsAt new (handle_of new contents)

-- the handle that a database has from this one on, once its file is that of the group
abbrev pub handle_in : {G : Type 0} {g : Ghosts G} → Handle → ℕ → Database G g → Contents → Handle
handle_in before faults group contents = record {
  state = record before.state { map = contents };
  faults = faults;
  pages = (page_state group).end;
  capacity = before.capacity;
  buckets = meta_buckets (meta_kept group);
}

-- a database in whose place the group may stand
pub record IsAlike {G : Type 0} {g : Ghosts G} (before : Handle)
    (group : Database G g) : Type 0 where
  pub usable : before.state.usable ≡ true
  pub writable : before.state.writable ≡ true
  pub bounds : before.state.bounds ≡ (meta_kept group).bounds
  pub capacity : before.capacity ≡ (page_state group).capacity

-- the pair was stored in it, as by a call on a database that it is like
pub record IsStoredIn {G : Type 0} {g : Ghosts G} (old new : Database G g) (contents : Contents)
    (pair : Pair) : Type 0 where
  pub step : (before : Handle) (faults : ℕ) → IsAlike before old
      → Step (handle_in before faults old contents) (replacing pair) Stored
      (handle_in before faults new (insert contents pair.0 pair.1))
  pub is_at : IsAt new (handle_of new (insert contents pair.0 pair.1))

-- or it wasn't, and nothing has changed
abbrev pub StoresOne : {G : Type 0} {g : Ghosts G} → Database G g → Database G g → Pair → Bool
    → Type 0
StoresOne {G} {g} old new pair true =
    g.honest (store_of old) → (contents : Contents) → IsAt old (handle_of old contents)
    → IsStoredIn old new contents pair
StoresOne old new pair false = IsSameGroup old new

-- or the device below failed, and the group isn't broken
abbrev pub IsDeviceEnd : {G : Type 0} {g : Ghosts G} → Database G g → Database G g → PageFault
    → Type 0
IsDeviceEnd {G} {g} old new fault = (fault ≡ page.Device) × ((page_state new).usable ≡ true)
    × MoreFaults (g.faults (store_of old)) (g.faults (store_of new))

-- these pairs were stored in it, one after another
pub record HasStored {G : Type 0} {g : Ghosts G} (old new : Database G g) (contents : Contents)
    (pairs : List Pair) : Type 0 where
  pub run : (before : Handle) (faults : ℕ) → IsAlike before old
      → Run (handle_in before faults old contents) (map replacing pairs) (map (λ _. Stored) pairs)
      (handle_in before faults new (with_pairs contents pairs))
  pub is_at : IsAt new (handle_of new (with_pairs contents pairs))

abbrev pub StoresMany : {G : Type 0} {g : Ghosts G} → Database G g → Database G g → List Pair
    → Type 0
StoresMany {G} {g} old new pairs =
    g.honest (store_of old) → (contents : Contents) → IsAt old (handle_of old contents)
    → HasStored old new contents pairs

-- what a group leaves of the store that was lent to it, and of the meta page
pub record IsLeft {S : Type 0} (s : Ghosts S) (old new : S) (before after : Meta) (count : ℕ)
    (result : Result ℕ Fault) : Type 0 where
  pub state : OnOk result (s.state new ≡ record (s.state old) { end = (s.state new).end })
  pub within : IfOk result (λ stored. stored ≤ count)
  pub valid : IsMeta after
  pub bounds : after.bounds ≡ before.bounds
  pub refused : OnErr result ((after ≡ before)
      × (ReadsOnly s old new ⊎ (s.state new ≡ record (s.state old) { usable = false })))
  pub only : IfErr result (λ fault. fault ≡ Device)
  pub honesty : s.honest new ↔ s.honest old
  pub later : s.faults old ≤ s.faults new
  pub fault : OnErr result (MoreFaults (s.faults old) (s.faults new))

-- a database before a group and after it, whose store was lent to it
pub record HasLent {S : Type 0} {s : Ghosts S} (old new : Database S s) (first last : S)
    (before after : kept.Meta) : Type 0 where
  pub was : store_of old ≡ first
  pub is : store_of new ≡ last
  pub meta_was : old.meta ≡ before
  pub meta_is : new.meta ≡ after
  pub error_is : new.error ≡ old.error
  pub pass_is : new.pass ≡ old.pass

-- how the group ends for that database
abbrev pub EndsLent : {S : Type 0} (s : Ghosts S) → S → S → kept.Meta → kept.Meta → List Pair
    → Result ℕ Fault → Type 0
EndsLent {S} s first last before after pairs result = (old new : Database S s)
    → HasLent old new first last before after → (page_state old).usable ≡ true
    → (page_state old).writable ≡ true
    → AtEachHandle old (λ h. GroupEnds old (with_error_of new result) h pairs result)
