-- Small lists of sessions, worked out by hand.
use Rattle.std.specs.Prelude.{◌≡◌, ◌⊎◌, ℕ, true, false, List, [], ◌∷◌, Contains}
use Rattle.std.specs.FinMap.{empty, insert}
use Rattle.dbm_model.specs.Bounds.{in_v1}
use Rattle.dbm_model.specs.Calls.{Replace, Call, Store, Fetch, Next, Stored, Bytes, NoRecord, Refused, Device, BadLimit}
use Rattle.dbm_model.specs.Examples.{one}
use Rattle.dbm_model.specs.Pairs.{Pair}
use Rattle.dbm_model.specs.Members.{Member, NoDatabase, Holding, Members}
use Rattle.dbm_model.specs.Sessions.{Plan, Ending, NotOpened, StoppedOpening, Rested, StoppedCall, Broke, Grouped, StoppedGroup, BrokeGroup, Sessions}

abbrev pub creates : ℕ → List Call → Plan
creates limit calls = record {
  how = record { create = true; truncate = false; bounds = in_v1 limit };
  calls = calls;
  group = [];
}

abbrev pub empties : ℕ → List Call → Plan
empties limit calls = record {
  how = record { create = false; truncate = true; bounds = in_v1 limit };
  calls = calls;
  group = [];
}

-- opens what is there, and stores a group behind the calls
abbrev pub groups : List Call → List Pair → Plan
groups calls group = record {
  how = record { create = false; truncate = false; bounds = in_v1 0 };
  calls = calls;
  group = group;
}

abbrev pub reopens : List Call → Plan
reopens calls = groups calls []

-- a, with the content 1
abbrev pub store : Call
store = Store (one 0x61) (one 0x01) Replace

abbrev pub fetch : Call
fetch = Fetch (one 0x61)

-- a database with no pair, and one with this pair alone
abbrev pub nothing : ℕ → Member
nothing limit = Holding empty (in_v1 limit)

abbrev pub pair : ℕ → Member
pair limit = Holding (insert empty (one 0x61) (one 0x01)) (in_v1 limit)

-- these sessions may end so, and the file may then stand for this member
pub record MayLeave (before : Members) (plans : List Plan) (endings : List Ending) (member : Member)
    : Type 0 where
  pub pages : ℕ
  pub after : Members
  pub sessions : Sessions pages before plans endings after
  pub among : Contains after member

-- where these sessions end so, the file stands for this member and no other
abbrev pub LeavesOnly : Members → List Plan → List Ending → (Member → Type 0) → Type 0
LeavesOnly before plans endings Left =
    (member : Member) → MayLeave before plans endings member → Left member

-- a store was acknowledged and then came a stop: the pair is there, also after a reopening that was
-- refused and one that was stopped
pub record StoreAcknowledged : Type 0 where
  pub may : MayLeave (NoDatabase ∷ []) (creates 9 (store ∷ fetch ∷ []) ∷ [])
      (Rested (Stored ∷ []) ∷ []) (pair 9)
  pub stays : LeavesOnly (NoDatabase ∷ [])
      (creates 9 (store ∷ fetch ∷ []) ∷ reopens [] ∷ reopens [] ∷ [])
      (StoppedCall (Stored ∷ []) ∷ NotOpened Device ∷ StoppedOpening ∷ [])
      (λ member. member ≡ pair 9)

-- a store was in doubt: it has happened, or it hasn't, and what a later session has told stays so
pub record StoreInDoubt : Type 0 where
  pub happened : MayLeave (nothing 9 ∷ []) (reopens (store ∷ []) ∷ reopens (fetch ∷ []) ∷ [])
      (StoppedCall [] ∷ Rested (Bytes (one 0x01) ∷ []) ∷ []) (pair 9)
  pub not_happened : MayLeave (nothing 9 ∷ []) (reopens (store ∷ []) ∷ reopens (fetch ∷ []) ∷ [])
      (StoppedCall [] ∷ Rested (NoRecord ∷ []) ∷ []) (nothing 9)
  pub broken : MayLeave (nothing 9 ∷ []) (reopens (store ∷ []) ∷ [])
      (Broke (Refused Device ∷ []) ∷ []) (pair 9)
  pub settled : LeavesOnly (nothing 9 ∷ []) (reopens (store ∷ []) ∷ reopens (fetch ∷ []) ∷ [])
      (StoppedCall [] ∷ Rested (NoRecord ∷ []) ∷ []) (λ member. member ≡ nothing 9)

-- a creation was cut short, and then one with another limit wasn't: the database has either limit
pub record CreationInDoubt : Type 0 where
  pub none : MayLeave (NoDatabase ∷ []) (creates 9 [] ∷ []) (StoppedOpening ∷ []) NoDatabase
  pub first : MayLeave (NoDatabase ∷ []) (creates 9 [] ∷ creates 5 [] ∷ [])
      (StoppedOpening ∷ Rested [] ∷ []) (nothing 9)
  pub second : MayLeave (NoDatabase ∷ []) (creates 9 [] ∷ creates 5 [] ∷ [])
      (StoppedOpening ∷ Rested [] ∷ []) (nothing 5)
  pub only : LeavesOnly (NoDatabase ∷ []) (creates 9 [] ∷ creates 5 [] ∷ [])
      (StoppedOpening ∷ Rested [] ∷ []) (λ member. (member ≡ nothing 9) ⊎ (member ≡ nothing 5))

-- an emptying was cut short: what there was, or nothing with the limit that was asked for; it was
-- refused by that limit: what there was
pub record EmptyingInDoubt : Type 0 where
  pub kept : MayLeave (pair 9 ∷ []) (empties 5 [] ∷ []) (NotOpened Device ∷ []) (pair 9)
  pub emptied : MayLeave (pair 9 ∷ []) (empties 5 [] ∷ []) (NotOpened Device ∷ []) (nothing 5)
  pub only : LeavesOnly (pair 9 ∷ []) (empties 5 [] ∷ []) (NotOpened Device ∷ [])
      (λ member. (member ≡ pair 9) ⊎ (member ≡ nothing 5))
  pub refused : LeavesOnly (pair 9 ∷ []) (empties 5 [] ∷ []) (NotOpened BadLimit ∷ [])
      (λ member. member ≡ pair 9)

-- sessions that never end so: a database is opened that is not there, a pair is found that was
-- never stored, a pass is on at the start
pub record WrongSessions : Type 0 where
  pub absent : (member : Member)
      → MayLeave (NoDatabase ∷ []) (reopens [] ∷ []) (Rested [] ∷ []) member → ⊥
  pub invented : (member : Member) → MayLeave (nothing 9 ∷ []) (reopens (fetch ∷ []) ∷ [])
      (Rested (Bytes (one 0x01) ∷ []) ∷ []) member → ⊥
  pub passes : (member : Member) → MayLeave (pair 9 ∷ []) (reopens (Next ∷ []) ∷ [])
      (Rested (Bytes (one 0x61) ∷ []) ∷ []) member → ⊥

-- ---- groups

-- a and b, with the content 1 each
abbrev pub both : List Pair
both = (one 0x61, one 0x01) ∷ (one 0x62, one 0x01) ∷ []

-- a twice, with the content 1 and then with 2
abbrev pub twice : List Pair
twice = (one 0x61, one 0x01) ∷ (one 0x61, one 0x02) ∷ []

-- a database with both pairs
abbrev pub pairs : ℕ → Member
pairs limit = Holding (insert (insert empty (one 0x61) (one 0x01)) (one 0x62) (one 0x01)) (in_v1 limit)

-- and one with a alone, with the content 2
abbrev pub later : ℕ → Member
later limit = Holding (insert empty (one 0x61) (one 0x02)) (in_v1 limit)

-- a group of two pairs was acknowledged and then came a stop: both are there, also after a
-- reopening that was refused and one that was stopped; where it was acknowledged with its first
-- pair only, that one is there
pub record GroupAcknowledged : Type 0 where
  pub may : MayLeave (nothing 9 ∷ []) (groups [] both ∷ []) (Grouped [] 2 ∷ []) (pairs 9)
  pub stays : LeavesOnly (nothing 9 ∷ []) (groups [] both ∷ reopens [] ∷ reopens [] ∷ [])
      (Grouped [] 2 ∷ NotOpened Device ∷ StoppedOpening ∷ []) (λ member. member ≡ pairs 9)
  pub shorter : MayLeave (nothing 9 ∷ []) (groups [] both ∷ []) (Grouped [] 1 ∷ []) (pair 9)

-- a stop fell in the commit of a group of two pairs, or the device failed in it: there is none of
-- them, or both
pub record GroupInDoubt : Type 0 where
  pub none : MayLeave (nothing 9 ∷ []) (groups [] both ∷ []) (StoppedGroup [] 2 ∷ []) (nothing 9)
  pub all : MayLeave (nothing 9 ∷ []) (groups [] both ∷ []) (StoppedGroup [] 2 ∷ []) (pairs 9)
  pub only : LeavesOnly (nothing 9 ∷ []) (groups [] both ∷ []) (StoppedGroup [] 2 ∷ [])
      (λ member. (member ≡ nothing 9) ⊎ (member ≡ pairs 9))
  pub broken : MayLeave (nothing 9 ∷ []) (groups [] both ∷ []) (BrokeGroup [] 2 ∷ []) (pairs 9)

-- a key stands twice in a group: the later content is left
pub record GroupOfOneKey : Type 0 where
  pub may : MayLeave (nothing 9 ∷ []) (groups [] twice ∷ []) (Grouped [] 2 ∷ []) (later 9)
  pub only : LeavesOnly (nothing 9 ∷ []) (groups [] twice ∷ []) (Grouped [] 2 ∷ [])
      (λ member. member ≡ later 9)

-- no session ends so: the first pair of a group whose commit was stopped is there alone, a group is
-- stored with a call still to come, or stopped, or its commit was stopped though the limit is one
pub record WrongGroups : Type 0 where
  pub alone : MayLeave (nothing 9 ∷ []) (groups [] both ∷ []) (StoppedGroup [] 2 ∷ []) (pair 9) → ⊥
  pub early : (member : Member) → MayLeave (nothing 9 ∷ []) (groups (store ∷ []) both ∷ [])
      (Grouped [] 2 ∷ []) member → ⊥
  pub stopped_early : (member : Member) → MayLeave (nothing 9 ∷ [])
      (groups (store ∷ []) both ∷ []) (StoppedGroup [] 2 ∷ []) member → ⊥
  pub past_limit : (member : Member) → MayLeave (nothing 1 ∷ []) (groups [] both ∷ [])
      (StoppedGroup [] 2 ∷ []) member → ⊥
