-- What reading a whole database gives and leaves.
use Rattle.std.specs.Prelude.{◌≡◌, ◌⊎◌, ℕ, true, false, List, [], ◌∷◌, length, map, flat_map, Option, Some, None, Result, Ok, Err, OnOk, IfErr, IsErrOf}
use Rattle.std.specs.Global.{Vec}
use Rattle.std.specs.BTreeMap.{BTreeMap}
use Rattle.std.specs.BTreeSet.{BTreeSet}
use Rattle.std.specs.FinMap.{get}
use Rattle.std.specs.Io.KnownBytes.{Appends}
use Rattle.sect_dev.specs.Device.{MoreFaults}
use Rattle.dbm_model.specs.Bounds.{V2}
use Rattle.dbm_model.specs.Calls.{Call, Reply}
use Rattle.dbm_model.specs.Pairs.{Key, Pair, Contents}
use Rattle.dbm_model.specs.States.{State, Handle, first_fault}
use Rattle.dbm_model.specs.Steps.{holds_far}
use Rattle.page_io.specs.declared.store.PageStore.{Ghosts}
use Rattle.dbm_file.specs.Answers.{IsStep, Survives, IsSameDatabase}
use Rattle.dbm_file.specs.Calls.{Lent, lent_reply}
use Rattle.dbm_file.specs.Held.{held_by}
use Rattle.dbm_file.specs.Database.{store_of, meta_kept, page_state, error_of, IsAt, AtEachHandle}
use Rattle.dbm_fault.specs.Among.{IsErrAmong}
use Rattle.dbm_fault.specs.Faults.{fault_of}
use Rattle.dbm_file.specs.declared.database.Database.{Database}
use Rattle.dbm_fault.specs.declared.fault.Fault.{Fault}
use Rattle.dbm_fault.specs.declared.fault.Fault.TheVariants.{Device, Broken}
use Rattle.dbm_fault.specs.declared.fault.Fault.TheVariants as call
use Rattle.dbm_fault.specs.declared.engine_fault.EngineFault.{EngineFault}
use Rattle.dbm_fault.specs.declared.engine_fault.EngineFault.TheVariants.{Memory, Write, Db}

-- the same map, bounds and marks: the error number and the pass may differ
pub record KeepsMap (before after : State) : Type 0 where
  pub map : after.map ≡ before.map
  pub bounds : after.bounds ≡ before.bounds
  pub writable : after.writable ≡ before.writable
  pub usable : after.usable ≡ before.usable

-- The database is at a handle of the same map, and every image of every moment since stands for
-- that map.
pub record Stays {S : Type 0} {s : Ghosts S} (old new : Database S s)
    (before : Handle) : Type 0 where
  pub after : Handle
  pub is_at : IsAt new after
  pub keeps : KeepsMap before.state after.state
  pub survives : (page_state old).usable ≡ true → Survives old new (λ left. left ≡ held_by before.state)

-- What any number of calls that read leave on any device, and on an honest one.
pub record Reads {S T : Type 0} {s : Ghosts S} (old new : Database S s)
    (result : Result T EngineFault) : Type 0 where
  pub stays : s.honest (store_of old) → (h : Handle) → IsAt old h → Stays old new h
  pub goes : IsSameDatabase old new
  pub device : IsErrOf result (Db Device)
      → MoreFaults (s.faults (store_of old)) (s.faults (store_of new))
  pub broken : IsErrOf result (Db Broken) → (page_state old).usable ≡ false
  pub usable : OnOk result ((page_state new).usable ≡ (page_state old).usable)
  -- the first fault is kept, and that of a refused call is one
  pub error : (error_of new ≡ error_of old)
      ⊎ ((fault : Fault) × IsErrOf result (Db fault)
      × (error_of new ≡ first_fault (error_of old) (fault_of fault)))

-- what may hinder the reading of a usable database on an honest device
abbrev pub IsChance : EngineFault → Type 0
IsChance fault = (fault ≡ Memory) ⊎ (fault ≡ Db Device)

-- some pair of the map has a content in pages of its own
abbrev pub HasFar : Contents → Type 0
HasFar map = (key : Key) × (holds_far key (get map key) ≡ true)

-- what may hinder the reading of its pairs: a content in pages of its own is read into memory
abbrev pub IsPairChance : Contents → EngineFault → Type 0
IsPairChance map fault = IsChance fault ⊎ ((fault ≡ Db call.Memory) × HasFar map)

-- the bytes of keys
abbrev pub bytes_of_keys : BTreeSet (Vec ℕ) → List Key
bytes_of_keys keys = map (λ key. key.items) keys.keys

-- the bytes of pairs
abbrev pub bytes_of_pairs : BTreeMap (Vec ℕ) (Vec ℕ) → List Pair
bytes_of_pairs pairs = map (λ pair. (pair.0.items, pair.1.items)) pairs.entries

-- the lent bytes are copied, where there are some
abbrev pub IsCopied : Lent → Result (Option (Vec ℕ)) EngineFault → Type 0
IsCopied (Ok None) (Ok None) = Unit {0}
IsCopied (Ok (Some bytes)) (Ok (Some copy)) = copy.items ≡ bytes.now
IsCopied (Ok (Some bytes)) (Err fault) = fault ≡ Memory
IsCopied (Err fault) (Err told) = told ≡ Db fault
IsCopied _ _ = ⊥

-- the call was made, and what it lent is copied
abbrev pub CopiesStep : {S : Type 0} {s : Ghosts S} → Database S s → Database S s → Handle → Call
    → Reply → Result (Option (Vec ℕ)) EngineFault → Type 0
CopiesStep old new start call none result =
    (lent : Lent) × IsCopied lent result × IsStep old new start call (lent_reply none lent)

-- the lines of so many pairs were written
abbrev pub WritesPairs : (Pair → List ℕ) → ℕ → Option (List ℕ) → Option (List ℕ) → Type 0
WritesPairs line_of count before after =
    (pairs : List Pair) × (length pairs ≡ count) × Appends before after (flat_map line_of pairs)

-- the same of keys
abbrev pub WritesKeys : (Key → List ℕ) → ℕ → Option (List ℕ) → Option (List ℕ) → Type 0
WritesKeys line_of count before after =
    (keys : List Key) × (length keys ≡ count) × Appends before after (flat_map line_of keys)

-- What a dump has written, and by what it may be refused. `text_of` is the text of a map, and
-- `line_of` the line of a pair.
pub record Dumps {S W T : Type 0} {s : Ghosts S} (text_of : Contents → List ℕ)
    (line_of : Pair → List ℕ) (contents : W → Option (List ℕ)) (before after : W)
    (old new : Database S s) (result : Result T EngineFault) : Type 0 where
  -- of a usable database exactly the text of its map, unless something hindered it
  pub dump : AtEachHandle old (λ h. h.state.usable ≡ true
      → OnOk result (Appends (contents before) (contents after) (text_of h.state.map)))
  pub whole : AtEachHandle old (λ h. h.state.usable ≡ true
      → IfErr result (λ fault. (fault ≡ Write) ⊎ IsPairChance h.state.map fault))
  -- whatever it answers, the map stays
  pub reads : Reads old new result
  -- on any device
  pub lines : OnOk result
      (WritesPairs line_of (meta_kept old).pairs (contents before) (contents after))
  pub broken : (page_state old).usable ≡ false → result ≡ Err (Db Broken)
  pub unwritten : IfErr result (λ fault. (fault ≡ Write) ⊎ (after ≡ before))
  pub memory : result ≡ Err (Db call.Memory) → (meta_kept old).bounds.version ≡ V2
  pub only : IsErrAmong result (Memory ∷ Write ∷ Db Broken ∷ Db call.NoPass ∷ Db Device
      ∷ Db call.Damaged ∷ Db call.Memory ∷ [])

-- The same of a list, where `text_of` is the text of a map's keys, and `line_of` the line of a key.
pub record Lists {S W T : Type 0} {s : Ghosts S} (text_of : Contents → List ℕ)
    (line_of : Key → List ℕ) (contents : W → Option (List ℕ)) (before after : W)
    (old new : Database S s) (result : Result T EngineFault) : Type 0 where
  pub list : AtEachHandle old (λ h. h.state.usable ≡ true
      → OnOk result (Appends (contents before) (contents after) (text_of h.state.map)))
  pub whole : AtEachHandle old (λ h. h.state.usable ≡ true
      → IfErr result (λ fault. (fault ≡ Write) ⊎ IsChance fault))
  pub reads : Reads old new result
  pub lines : OnOk result
      (WritesKeys line_of (meta_kept old).pairs (contents before) (contents after))
  pub broken : (page_state old).usable ≡ false → result ≡ Err (Db Broken)
  pub unwritten : IfErr result (λ fault. (fault ≡ Write) ⊎ (after ≡ before))
  pub only : IsErrAmong result (Memory ∷ Write ∷ Db Broken ∷ Db call.NoPass ∷ Db Device
      ∷ Db call.Damaged ∷ [])
