-- A group that is stored behind the calls of a session, and what a stop within its commit leaves.
use Rattle.std.proofs.Common.{◌≡◌, ◌≢◌, ◌⊎◌, inl, inr, ⊎_elim, ℕ, ◌≤◌, true, false, List, [], ◌∷◌, take, map, Result, Ok, Err, refl, sym, ◌∙◌, ap, ap₂, subst, arith, IfErr, IsErrOf}
use Rattle.std.specs.Result.{result_unwrap_or}
use Rattle.std.proofs.lemmas.Bool.{false≢true}
use Rattle.sect_dev.specs.Device.{LeavesOnly}
use Rattle.sect_dev.specs.Moments.{weaker}
use Rattle.dbm_model.specs.Calls.{Call, Reply, Stored}
use Rattle.dbm_model.specs.Changes.{replacing, with_pairs}
use Rattle.dbm_model.specs.Bounds.{Bounds}
use Rattle.dbm_model.specs.Pairs.{Pair, Contents}
use Rattle.dbm_model.specs.States.{State, Handle}
use Rattle.dbm_model.specs.Steps.{with_map, Run}
use Rattle.dbm_model.proofs.StoreLemmas.{stores_put_all}
use Rattle.page_io.specs.Store.{Settled}
use Rattle.page_io.specs.Meaning.{ImageStandsFor}
use Rattle.page_io.specs.declared.store.PageStore.{Ghosts}
use Rattle.dbm_model.specs.Members.{Holding, Members, held}
use Rattle.dbm_model.specs.Sessions as model
use Rattle.dbm_model.specs.Sessions.{StoppedGroup, Groups, GroupCutShort}
use Rattle.dbm_model.proofs.Lists.{is_first, is_later}
use Rattle.dbm_model.proofs.SessionRooms.{bounds_stay}
use Rattle.dbm_fault.specs.Among.{IsErrAmong}
use Rattle.dbm_fault.specs.declared.fault.Fault.{Fault}
use Rattle.dbm_fault.specs.declared.fault.Fault.TheVariants.{Device, Broken, ReadOnly}
use Rattle.dbm_file.specs.Answers.{StandsForSome, Survives}
use Rattle.dbm_file.specs.Database.{store_of, page_state, IsAt}
use Rattle.dbm_file.specs.Groups.{IsCommitBroken, GroupEnds}
use Rattle.dbm_file.specs.Held.{Held, held_by}
use Rattle.dbm_file.specs.declared.database.Database.{Database}
use Rattle.rehearsal.specs.Members.{StandsForOne}
use Rattle.rehearsal.specs.Sessions.{IsLeftByCalls}
use Rattle.rehearsal.proofs.Endings.{all_go}
use Rattle.rehearsal.proofs.Moments.{left_made}

-- ---- the group itself

-- where the database is usable behind it, so many of its pairs are stored
pub record IsStoredGroup {S : Type 0} {s : Ghosts S} (new : Database S s) (before : Handle)
    (pairs : List Pair) : Type 0 where
  pub done : Handle
  pub run : Run (record before { faults = done.faults }) (map replacing pairs)
      (map (λ _. Stored) pairs) done
  pub shown : Handle
  pub is_at : IsAt new shown
  pub same : held_by shown.state ≡ held_by done.state
  pub counts : (before.faults ≤ shown.faults) × (done.faults ≤ shown.faults)

-- where its commit broke the database, each image has none of the pairs or the first ones
pub record IsBrokenGroup {S : Type 0} {s : Ghosts S} (old new : Database S s) (before : Handle)
    (pairs : List Pair) : Type 0 where
  pub count : ℕ
  pub after : Handle
  pub is_at : IsAt new after
  pub broken : IsCommitBroken before after (take count pairs) Device
  pub survives : Survives old new (λ left. (left ≡ held_by before.state)
      ⊎ (left ≡ held_by (with_map before.state (with_pairs before.state.map (take count pairs)))))

module _ {S : Type 0} (s : Ghosts S) (old new : Database S s) (before : Handle)
    (pairs : List Pair) where
  pub stored_group : (stored : Result ℕ Fault) → GroupEnds old new before pairs stored
      → (page_state new).usable ≡ true → IsStoredGroup new before (take (result_unwrap_or stored 0) pairs)
  stored_group (Ok count) ends usable = record {
    done = ends.after;
    run = ends.run;
    shown = ends.after;
    is_at = ends.is_at;
    same = refl;
    counts = (ends.counts, omega arith);
  }
  stored_group (Err fault) ends usable = record {
    done = before;
    run = refl;
    shown = ends.after;
    is_at = ends.is_at;
    same = ⊎_elim
        (λ refused. ap held_by refused)
        (λ broken. absurd (false≢true (sym (ap (λ (x : State). x.usable) broken.breaks.4)
        ∙ ap (λ (x : Handle). x.state.usable) ends.is_at.shows ∙ usable))) ends.ends;
    counts = (ends.counts, ends.counts);
  }

  pub broken_group : (stored : Result ℕ Fault) → GroupEnds old new before pairs stored
      → ((page_state new).usable ≡ (page_state old).usable)
      ⊎ (IsErrOf stored Device × ((page_state new).usable ≡ false))
      → (page_state old).usable ≡ true → before.state.usable ≡ true
      → (page_state new).usable ≡ false → IsBrokenGroup old new before pairs
  broken_group (Ok count) ends (inl still) was sound now =
      absurd (false≢true (sym now ∙ still ∙ was))
  broken_group (Ok count) ends (inr device) was sound now = absurd (let e = device.0 in cc)
  broken_group (Err fault) ends (inl still) was sound now =
      absurd (false≢true (sym now ∙ still ∙ was))
  broken_group (Err fault) ends (inr device) was sound now = record {
    count = ends.count;
    after = ends.after;
    is_at = ends.is_at;
    broken = ⊎_elim
        (λ refused. absurd (false≢true (sym now
        ∙ sym (ap (λ (x : Handle). x.state.usable) ends.is_at.shows)
        ∙ ap (λ (x : State). x.usable) refused ∙ sound)))
        (λ broken. subst (λ (f : Fault). IsCommitBroken before ends.after (take ends.count pairs) f)
        (let e = device.0 in cc) broken) ends.ends;
    survives = weaker s.moment s.settled_since (store_of old) (store_of new) _ _
        (ends.survives was) (λ y some. (
          some.0,
          ⊎_elim (λ none. inl none)
              (λ first. inr first.1) some.1,
          some.2,
        ));
  }

-- a usable database for writing refuses a group only by a fault of the device
pub by_device : {X : Type 0} (stored : Result ℕ Fault)
    → IsErrAmong stored (Broken ∷ ReadOnly ∷ Device ∷ []) → stored ≢ Err Broken
    → stored ≢ Err ReadOnly → (IsErrOf stored Device → X)
    → IfErr stored (λ fault. (fault ≡ Device) × X)
by_device (Ok count) only sound written cause = tt
by_device (Err fault) (inl is) sound written cause = absurd (sound (ap Err is))
by_device (Err fault) (inr (inl is)) sound written cause = absurd (written (ap Err is))
by_device (Err fault) (inr (inr is)) sound written cause = (is, cause (ap Err is))

-- a store that is as it was settles as it did
pub same_settles : {S : Type 0} (s : Ghosts S) (old new : Database S s) (y : Settled)
    → store_of new ≡ store_of old → s.settles_to (store_of new) y → s.settles_to (store_of old) y
same_settles s old new y same left = subst (λ store. s.settles_to store y) same left

-- ---- what images stand for in whose group the pairs are stored

-- one of two states
pub one_of_two : (a b : State) (y : Settled)
    → StandsForSome (λ left. (left ≡ held_by a) ⊎ (left ≡ held_by b)) y
    → StandsForOne (held a ∷ held b ∷ []) y
one_of_two a b y (left, may, stands) = (
  Holding left.map left.bounds,
  ⊎_elim
      (λ one. is_first (held a) (held b ∷ []) (Holding left.map left.bounds)
      (ap (λ (h : Held). Holding h.map h.bounds) one))
      (λ other. is_later (held a) (held b ∷ []) (Holding left.map left.bounds)
      (is_first (held b) [] (Holding left.map left.bounds)
      (ap (λ (h : Held). Holding h.map h.bounds) other))) may,
  stands,
)

-- what was held before these pairs were stored, or is with them
abbrev pub HoldsNoneOrAll : State → List Pair → Held → Type 0
HoldsNoneOrAll before pairs left = (left ≡ held_by before)
    ⊎ (left ≡ held_by (with_map before (with_pairs before.map pairs)))

pub none_or_all : (last stored : Handle) (pairs : List Pair)
    → Run (record last { faults = stored.faults }) (map replacing pairs) (map (λ _. Stored) pairs)
    stored → (y : Settled) → StandsForSome (HoldsNoneOrAll last.state pairs) y
    → StandsForOne (held last.state ∷ held stored.state ∷ []) y
none_or_all last stored pairs steps y (left, may, stands) =
    let all : held_by (with_map last.state (with_pairs last.state.map pairs))
    ≡ held_by stored.state =
    ap₂ (λ (m : Contents) (b : Bounds). record { map = m; bounds = b })
    (sym (stores_put_all (record last { faults = stored.faults }) stored pairs steps))
    (sym (bounds_stay (record last { faults = stored.faults }) stored pairs steps)) in
    one_of_two last.state stored.state y
    (left, ⊎_elim (λ none. inl none) (λ some. inr (some ∙ all)) may, stands)

-- a group that left the database usable, at any moment: none of its pairs is stored, or those are
-- that it tells
pub group_stands : {S : Type 0} (s : Ghosts S) (old new : Database S s) (last : Handle)
    (group : List Pair) (stored : Result ℕ Fault) (ends : GroupEnds old new last group stored)
    → (page_state old).usable ≡ true → (now : (page_state new).usable ≡ true)
    → LeavesOnly s.moment s.settled_since (store_of old) (store_of new)
    (StandsForOne (held last.state
    ∷ held (stored_group s old new last group stored ends now).done.state ∷ []))
unfolding stored_group
group_stands s old new last group (Ok count) ends was now =
    weaker s.moment s.settled_since (store_of old) (store_of new) _ _ (ends.survives was)
    (one_of_two last.state ends.after.state)
group_stands s old new last group (Err fault) ends was now =
    weaker s.moment s.settled_since (store_of old) (store_of new) _ _ (ends.survives was)
    (λ y some. one_of_two last.state last.state y (
      some.0,
      ⊎_elim
          (λ none. inl none)
          (λ broken. absurd (false≢true (sym broken.0
          ∙ ap (λ (x : Handle). x.state.usable) ends.is_at.shows ∙ now))) some.1,
      some.2,
    ))

-- ---- behind the calls of a session

module _ (most : ℕ) (first last : Handle) (calls : List Call) (group : List Pair)
    (replies : List Reply) (run : Run first calls replies last)
    (usable : last.state.usable ≡ true) (counts : last.faults ≤ most) where
  pub grouped : (stored : List Pair) (done : Handle)
      → Run (record last { faults = done.faults }) (map replacing stored) (map (λ _. Stored) stored)
      done → done.faults ≤ most → Groups most first calls replies stored (held done.state ∷ [])
  grouped stored done steps few = record {
    goes = all_go most first last calls replies run usable counts;
    all = refl;
    last = done;
    run = steps;
    counts = few;
    left = refl;
  }

  -- the commit of the first pairs of the group was cut short, which would have left this handle
  module _ (count : ℕ) (stored : Handle)
      (steps : Run (record last { faults = stored.faults }) (map replacing (take count group))
      (map (λ _. Stored) (take count group)) stored) (few : stored.faults ≤ most) where
    -- what there was, or that with these pairs
    abbrev pub doubted : Members
    doubted = held last.state ∷ held stored.state ∷ []

    pub cut_short : GroupCutShort most first calls replies (take count group) doubted
    cut_short = record {
      goes = all_go most first last calls replies run usable counts;
      all = refl;
      stored = stored;
      run = steps;
      counts = few;
      left = refl;
    }

    -- what was held before it, or is with those pairs
    abbrev pub MayBeHeld : Held → Type 0
    MayBeHeld = HoldsNoneOrAll last.state (take count group)

    -- an image that stands for one of them
    pub doubted_one : (y : Settled) → StandsForSome MayBeHeld y → StandsForOne doubted y
    doubted_one = none_or_all last stored (take count group) steps

    -- a stop within a commit that broke the database
    pub left_in_group : (y : Settled) → StandsForSome MayBeHeld y
        → IsLeftByCalls most first calls group (model.BrokeGroup replies count) y
    left_in_group y some = record {
      stop = StoppedGroup replies count;
      is_stop = inr refl;
      after = doubted;
      goes = cut_short;
      stands = doubted_one y some;
    }

  -- a stop behind it
  pub left_grouped : (stored : ℕ) (done : Handle) (y : Settled)
      → Run (record last { faults = done.faults }) (map replacing (take stored group))
      (map (λ _. Stored) (take stored group)) done → done.faults ≤ most
      → ImageStandsFor y done.state.map done.state.bounds
      → IsLeftByCalls most first calls group (model.Grouped replies stored) y
  left_grouped stored done y steps few stands = record {
    stop = model.Grouped replies stored;
    is_stop = refl;
    after = held done.state ∷ [];
    goes = grouped (take stored group) done steps few;
    stands = (held done.state, is_first (held done.state) [] (held done.state) refl, stands);
  }

  -- and a stop at any moment of a group that left the database usable
  pub group_moments : {S : Type 0} (s : Ghosts S) (old new : Database S s)
      (stored : Result ℕ Fault) → GroupEnds old new last group stored
      → (page_state old).usable ≡ true → (page_state new).usable ≡ true
      → s.faults (store_of new) ≤ most
      → LeavesOnly s.moment s.settled_since (store_of old) (store_of new)
      (IsLeftByCalls most first calls group (model.Grouped replies (result_unwrap_or stored 0)))
  group_moments s old new (Ok count) ends was now few =
      weaker s.moment s.settled_since (store_of old) (store_of new) _ _ (ends.survives was)
      (λ y some. ⊎_elim
      (λ none. left_made most first last calls group replies (model.Grouped replies count) refl run
      usable counts y (subst (λ (h : Held). ImageStandsFor y h.map h.bounds) none some.2))
      (λ all. left_grouped count ends.after y ends.run
      (omega (arith, few, ap (λ (x : Handle). x.faults) ends.is_at.shows))
      (subst (λ (h : Held). ImageStandsFor y h.map h.bounds) all some.2)) some.1)
  group_moments s old new (Err fault) ends was now few =
      weaker s.moment s.settled_since (store_of old) (store_of new) _ _ (ends.survives was)
      (λ y some. ⊎_elim
      (λ none. left_made most first last calls group replies (model.Grouped replies 0) refl run
      usable counts y (subst (λ (h : Held). ImageStandsFor y h.map h.bounds) none some.2))
      (λ broken. absurd (false≢true (sym broken.0
      ∙ ap (λ (x : Handle). x.state.usable) ends.is_at.shows ∙ now))) some.1)
