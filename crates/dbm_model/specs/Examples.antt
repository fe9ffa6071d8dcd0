-- Small runs, worked out by hand.
use Rattle.std.specs.Prelude.{ℕ, true, List, [], ◌∷◌}
use Rattle.std.specs.FinMap.{empty}
use Rattle.dbm_model.specs.Bounds.{Bounds, in_v1}
use Rattle.dbm_model.specs.Calls.{Insert, Replace, Call, Store, Fetch, Delete, First, Next, Error, Reply, Stored, Kept, Deleted, Absent, Bytes, NoRecord, End, Number, Refused, NoPass, Full}
use Rattle.dbm_model.specs.States.{Handle, fresh}
use Rattle.dbm_model.specs.Steps.{Run}

-- a new database of those bounds over a device that has not failed
abbrev pub new_database : Bounds → Handle
new_database bounds = record {
  state = fresh empty bounds true;
  faults = 0;
  pages = 4;
  capacity = 8;
  buckets = 1;
}

-- a new database may answer the calls so
pub record MayAnswer (bounds : Bounds) (calls : List Call) (replies : List Reply) : Type 0 where
  pub after : Handle
  pub run : Run (new_database bounds) calls replies after

abbrev pub one : ℕ → List ℕ
one byte = byte ∷ []

-- a content is stored and fetched, an insert keeps it, no bytes are a key too, and what is deleted
-- is gone
abbrev pub StoresAndDeletes : Type 0
StoresAndDeletes = MayAnswer (in_v1 100)
    (Store (one 0x6b) (one 0x76) Replace ∷ Fetch (one 0x6b) ∷ Store (one 0x6b) (one 0x77) Insert
    ∷ Fetch (one 0x6b) ∷ Store [] [] Replace ∷ Fetch [] ∷ Fetch (one 0x00)
    ∷ Delete (one 0x6b) ∷ Delete (one 0x6b) ∷ Error ∷ [])
    (Stored ∷ Bytes (one 0x76) ∷ Kept ∷ Bytes (one 0x76) ∷ Stored ∷ Bytes [] ∷ NoRecord ∷ Deleted
    ∷ Absent ∷ Number 0 ∷ [])

-- at the limit a new key is refused, and a key that is there is not; the first fault is kept
abbrev pub StopsAtLimit : Type 0
StopsAtLimit = MayAnswer (in_v1 1)
    (Store (one 0x61) (one 0x01) Replace ∷ Store (one 0x62) (one 0x01) Replace
    ∷ Store (one 0x61) (one 0x03) Insert ∷ Store (one 0x61) (one 0x02) Replace
    ∷ Fetch (one 0x61) ∷ Next ∷ Error ∷ [])
    (Stored ∷ Refused Full ∷ Kept ∷ Stored ∷ Bytes (one 0x02) ∷ Refused NoPass ∷ Number 6 ∷ [])

-- a pass has to be begun, ends at once where there is no key, and its fault is told
abbrev pub PassesOverNothing : Type 0
PassesOverNothing = MayAnswer (in_v1 100) (Next ∷ First ∷ Next ∷ Error ∷ [])
    (Refused NoPass ∷ End ∷ End ∷ Number 7 ∷ [])

-- neither a fetch nor an insert that keeps the content ends a pass
abbrev pub PassesOn : Type 0
PassesOn = MayAnswer (in_v1 100)
    (Store (one 0x61) (one 0x01) Replace ∷ First ∷ Fetch (one 0x61)
    ∷ Store (one 0x61) (one 0x02) Insert ∷ Next ∷ Next ∷ [])
    (Stored ∷ Bytes (one 0x61) ∷ Bytes (one 0x01) ∷ Kept ∷ End ∷ End ∷ [])

-- a pass goes on over changes: a key behind its place comes no more, one before it comes
abbrev pub PassesOverChanges : Type 0
PassesOverChanges = MayAnswer (in_v1 100)
    (Store (one 0x61) (one 0x01) Replace ∷ Store (one 0x62) (one 0x01) Replace ∷ First
    ∷ Delete (one 0x61) ∷ Store (one 0x67) (one 0x01) Replace ∷ Next
    ∷ Store (one 0x61) (one 0x01) Replace ∷ Next ∷ Next ∷ [])
    (Stored ∷ Stored ∷ Bytes (one 0x61) ∷ Deleted ∷ Stored ∷ Bytes (one 0x67) ∷ Stored
    ∷ Bytes (one 0x62) ∷ End ∷ [])

-- a new database never answers the calls so
abbrev pub NeverAnswers : Bounds → List Call → List Reply → Type 0
NeverAnswers bounds calls replies = MayAnswer bounds calls replies → ⊥

-- replies that no run has: a content is invented, a pair is lost, a content is another one, an
-- insert replaces, the limit is passed, a pass ends with a key left, begins by itself, is ended by
-- a store, gives a key twice, or begins with a later one
pub record WrongReplies : Type 0 where
  pub invented : NeverAnswers (in_v1 100) (Fetch (one 0x61) ∷ []) (Bytes (one 0x01) ∷ [])
  pub lost : NeverAnswers (in_v1 100) (Store (one 0x61) (one 0x01) Replace ∷ Fetch (one 0x61) ∷ [])
      (Stored ∷ NoRecord ∷ [])
  pub another : NeverAnswers (in_v1 100) (Store (one 0x61) (one 0x01) Replace ∷ Fetch (one 0x61) ∷ [])
      (Stored ∷ Bytes (one 0x02) ∷ [])
  pub replaced : NeverAnswers (in_v1 100)
      (Store (one 0x61) (one 0x01) Replace ∷ Store (one 0x61) (one 0x02) Insert ∷ [])
      (Stored ∷ Stored ∷ [])
  pub beyond : NeverAnswers (in_v1 1) (Store (one 0x61) (one 0x01) Replace
      ∷ Store (one 0x62) (one 0x01) Replace ∷ []) (Stored ∷ Stored ∷ [])
  pub ended : NeverAnswers (in_v1 100) (Store (one 0x61) (one 0x01) Replace ∷ First ∷ [])
      (Stored ∷ End ∷ [])
  pub unbegun : NeverAnswers (in_v1 100) (Next ∷ []) (End ∷ [])
  pub ended_by_a_store : NeverAnswers (in_v1 100) (Store (one 0x61) (one 0x01) Replace ∷ First
      ∷ Store (one 0x61) (one 0x02) Replace ∷ Next ∷ [])
      (Stored ∷ Bytes (one 0x61) ∷ Stored ∷ Refused NoPass ∷ [])
  pub twice : NeverAnswers (in_v1 100) (Store (one 0x61) (one 0x01) Replace ∷ First ∷ Next ∷ [])
      (Stored ∷ Bytes (one 0x61) ∷ Bytes (one 0x61) ∷ [])
  pub later_one : NeverAnswers (in_v1 100) (Store (one 0x61) (one 0x01) Replace
      ∷ Store (one 0x62) (one 0x01) Replace ∷ First ∷ [])
      (Stored ∷ Stored ∷ Bytes (one 0x62) ∷ [])
