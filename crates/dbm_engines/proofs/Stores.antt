-- Stores of pairs, one after another and until one is refused.
use Rattle.std.proofs.Common.{◌≡◌, inl, inr, ◌+◌, ◌<◌, ◌≤◌, ℕ, suc, List, [], ◌∷◌, ◌++◌, length, map, take, drop, get_or, add-one, length-drop, ◌-◌, refl, sym, ap, subst, ◌∙◌, arith, append-nil, append_assoc, length-append}
use Rattle.std.proofs.lemmas.List.{map-append, length-take-le, drop-map, length-map, take_rest, take_all, take-append-drop}
use Rattle.std.proofs.Math.Seq.{drop-cons, take-add}
use Rattle.dbm_model.specs.Calls.{Call, Reply, Stored, Refused}
use Rattle.dbm_model.specs.Changes.{replacing}
use Rattle.dbm_model.specs.Pairs.{Pair}
use Rattle.dbm_model.specs.States.{Handle}
use Rattle.page_io.specs.Store.{Settled}
use Rattle.page_io.specs.declared.store.PageStore.{Ghosts}
use Rattle.dbm_fault.specs.Faults.{fault_of}
use Rattle.dbm_fault.specs.declared.fault.Fault.{Fault}
use Rattle.dbm_file.specs.Answers.{IsStep, IsSameDatabase}
use Rattle.dbm_file.specs.Database.{store_of, AtEachHandle}
use Rattle.dbm_file.specs.Groups.{IsGroup, IsGroupRefused}
use Rattle.dbm_file.specs.Runs.{IsRun}
use Rattle.dbm_file.specs.declared.database.Database.{Database}
use Rattle.dbm_file.proofs.Breaks.{CountsNow}
use Rattle.dbm_file.proofs.Runs.{goes_on_with, goes_nowhere, still_goes}
use Rattle.dbm_engines.specs.Storing.{StoresAll, StoresBefore, StoresThenGroup, IsRefused, StopsBehind}
use Rattle.dbm_engines.proofs.GroupRuns.{group_runs, step_after_none}
use Rattle.dbm_engines.proofs.RunsOn.{no_calls, runs_as}

-- since this moment there is no other
abbrev pub OnlyNow : {S : Type 0} {s : Ghosts S} → Database S s → Type 0
OnlyNow {S} {s} db = (x : Settled) → s.honest (store_of db)
    → s.settled_since (store_of db) (s.moment (store_of db)).at x → s.settles_to (store_of db) x

-- an image that a stop may leave of an honest store counts
abbrev pub Counts : {S : Type 0} {s : Ghosts S} → Database S s → Type 0
Counts {S} {s} db = s.honest (store_of db) → CountsNow db

pub stores_none : {S : Type 0} (s : Ghosts S) (db : Database S s) → OnlyNow db
    → StoresAll db db []
stores_none s db only honest h at = (no_calls s db h at (λ x left. only x honest left)).0

module _ {S : Type 0} (s : Ghosts S) (old new : Database S s) (only : OnlyNow old)
    (counts : Counts new) (goes : IsSameDatabase old new) where
  one_runs : (call : Call) (reply : Reply) → AtEachHandle old (λ h. IsStep old new h call reply)
      → AtEachHandle old (λ h. IsRun old new h (call ∷ []) (reply ∷ []))
  one_runs call reply step honest h at =
      let none = no_calls s old h at (λ x left. only x honest left) in
      goes_on_with s old old new h [] [] call reply goes none.0
      (subst (λ (x : Handle). IsStep old new x call reply) (sym none.1) (step honest h at))
      (counts (goes.honesty.1 honest)) (call ∷ []) (reply ∷ []) refl refl

  -- a store of one pair
  pub stores_one : (pair : Pair) → AtEachHandle old (λ h. IsStep old new h (replacing pair) Stored)
      → StoresAll old new (pair ∷ [])
  stores_one pair step = one_runs (replacing pair) Stored step

  -- its refusal
  pub refused_first : (pair : Pair) (fault : Fault)
      → AtEachHandle old (λ h. IsStep old new h (replacing pair) (Refused (fault_of fault)))
      → IsRefused old new [] (pair ∷ []) fault
  refused_first pair fault step =
      inl (pair, refl, one_runs (replacing pair) (Refused (fault_of fault)) step)

  -- of the first of some pairs
  pub stops_at : (pair : Pair) (later : List Pair) (fault : Fault)
      → AtEachHandle old (λ h. IsStep old new h (replacing pair) (Refused (fault_of fault)))
      → StopsBehind old new (pair ∷ later) 0 fault
  stops_at pair later fault step = (
    record {
      stored = [];
      refused = pair ∷ [];
      later = later;
      pairs_are = refl;
      how = refused_first pair fault step;
    },
    refl,
  )

-- a store of a group
pub stores_group : {S : Type 0} (s : Ghosts S) (old new : Database S s) (pairs : List Pair) (n : ℕ)
    → 0 < n → n ≤ length pairs → AtEachHandle old (λ h. IsGroup old new h (take n pairs))
    → StoresAll old new (take n pairs)
stores_group s old new pairs n some within group honest h at =
    group_runs s old new h (take n pairs) (omega (arith, some, length-take-le n pairs within))
    (group honest h at)

-- its refusal
pub stops_group : {S : Type 0} (s : Ghosts S) (old new : Database S s) (pairs : List Pair)
    (fault : Fault) → OnlyNow old → 0 < length pairs
    → AtEachHandle old (λ h. IsGroupRefused old new h pairs fault)
    → StopsBehind old new pairs 0 fault
stops_group s old new pairs fault only some refused = (
  record {
    stored = [];
    refused = pairs;
    later = [];
    pairs_are = sym (append-nil pairs);
    how = inr (
      some,
      λ honest h at. let none = no_calls s old h at (λ x left. only x honest left) in record {
        mid = old;
        goes = goes_nowhere old;
        run = none.0;
        refused = subst (λ (x : Handle). IsGroupRefused old new x pairs fault) (sym none.1)
            (refused honest h at);
      },
    );
  },
  refl,
)

-- a call after a group that took no pair
pub after_none : {S : Type 0} (s : Ghosts S) (old mid new : Database S s) (call : Call)
    (reply : Reply) → IsSameDatabase old mid → AtEachHandle old (λ h. IsGroup old mid h [])
    → AtEachHandle mid (λ h. IsStep mid new h call reply)
    → AtEachHandle old (λ h. IsStep old new h call reply)
after_none s old mid new call reply goes none step honest h at =
    let group = none honest h at in
    step_after_none s old mid new h call reply at group
    (step (goes.honesty.1 honest) group.after group.is_at)

module _ {S : Type 0} (s : Ghosts S) (old mid : Database S s) (goes : IsSameDatabase old mid)
    (pairs : List Pair) (stores : StoresAll old mid pairs) where
  -- more are stored
  pub stores_more : (new : Database S s) (more : List Pair) → IsSameDatabase mid new
      → StoresAll mid new more → StoresAll old new (pairs ++ more)
  stores_more new more rest stored honest h at =
      let run = stores honest h at in
      let second = stored (goes.honesty.1 honest) run.after run.is_at in
      (runs_as s old mid new h (map replacing pairs) (map replacing more)
      (map (λ _. Stored) pairs) (map (λ _. Stored) more) rest run second
      (map replacing (pairs ++ more)) (map (λ _. Stored) (pairs ++ more))
      (sym (map-append replacing pairs more)) (sym (map-append (λ _. Stored) pairs more))).0

  pub refused_later : (new : Database S s) (stored refused : List Pair) (fault : Fault)
      → IsSameDatabase mid new → IsRefused mid new stored refused fault
      → IsRefused old new (pairs ++ stored) refused fault
  refused_later new stored refused fault rest (inl (pair, is, before)) = inl (pair, is, told)
    where
      last : {X : Type 0} (f : Pair → X) (x : X)
          → map f pairs ++ (map f stored ++ x ∷ []) ≡ map f (pairs ++ stored) ++ x ∷ []
      last f x = sym (append_assoc (map f pairs) (map f stored) (x ∷ []))
          ∙ ap (λ (xs : List _). xs ++ x ∷ []) (sym (map-append f pairs stored))

      told : StoresBefore old new (pairs ++ stored) pair (fault_of fault)
      told honest h at =
          let run = stores honest h at in
          let second = before (goes.honesty.1 honest) run.after run.is_at in
          (runs_as s old mid new h (map replacing pairs)
          (map replacing stored ++ replacing pair ∷ []) (map (λ _. Stored) pairs)
          (map (λ _. Stored) stored ++ Refused (fault_of fault) ∷ []) rest run second
          (map replacing (pairs ++ stored) ++ replacing pair ∷ [])
          (map (λ _. Stored) (pairs ++ stored) ++ Refused (fault_of fault) ∷ [])
          (last replacing (replacing pair)) (last (λ _. Stored) (Refused (fault_of fault)))).0
  refused_later new stored refused fault rest (inr (some, then)) = inr (some, told)
    where
      told : AtEachHandle old (λ h. StoresThenGroup old new h (pairs ++ stored) refused fault)
      told honest h at =
          let run = stores honest h at in
          let second = then (goes.honesty.1 honest) run.after run.is_at in
          let whole = runs_as s old mid second.mid h (map replacing pairs) (map replacing stored)
          (map (λ _. Stored) pairs) (map (λ _. Stored) stored) second.goes run second.run
          (map replacing (pairs ++ stored)) (map (λ _. Stored) (pairs ++ stored))
          (sym (map-append replacing pairs stored))
          (sym (map-append (λ _. Stored) pairs stored)) in
          record {
            mid = second.mid;
            goes = still_goes old mid second.mid goes second.goes;
            run = whole.0;
            refused = subst (λ (x : Handle). IsGroupRefused second.mid new x refused fault)
                (sym whole.1) second.refused;
          }

  -- or some of them, until one is refused
  pub stops_later : (new : Database S s) (more : List Pair) (count : ℕ) (fault : Fault)
      → IsSameDatabase mid new → StopsBehind mid new more count fault
      → StopsBehind old new (pairs ++ more) (length pairs + count) fault
  stops_later new more count fault rest (stops, is) = (
    record {
      stored = pairs ++ stops.stored;
      refused = stops.refused;
      later = stops.later;
      pairs_are = ap (λ (xs : List Pair). pairs ++ xs) stops.pairs_are
          ∙ sym (append_assoc pairs stops.stored (stops.refused ++ stops.later));
      how = refused_later new stops.stored stops.refused fault rest stops.how;
    },
    length-append pairs stops.stored ∙ ap (λ (n : ℕ). length pairs + n) is,
  )

-- the pairs of the rest of a list
pub rest_of : {X Y : Type 0} (f : X → Y) (n : ℕ) (xs ys : List X) → ys ≡ xs
    → map f (take (length ys - n) (drop n ys)) ≡ drop n (map f xs)
rest_of {X} f n xs ys same =
    ap (map f) (take_rest ys n) ∙ ap (λ (zs : List X). map f (drop n zs)) same
    ∙ sym (drop-map f n xs)

pub rest_length : {X : Type 0} (n : ℕ) (xs : List X)
    → length (take (length xs - n) (drop n xs)) ≡ length xs - n
rest_length n xs = ap length (take_rest xs n) ∙ length-drop n xs

pub some_mapped : {X Y : Type 0} (f : X → Y) (xs : List X) → 0 < length xs
    → 0 < length (map f xs)
some_mapped f xs lt = simp length-map lt

-- the next of them, before the others
pub next_of : {X Y : Type 0} (f : X → Y) (n : ℕ) (xs : List X) (x : X) → n < length xs
    → x ≡ get_or xs n x → drop n (map f xs) ≡ f x ∷ drop (n + 1) (map f xs)
next_of {X} {Y} f n xs x lt is =
    drop-map f n xs ∙ ap (map f) (drop-cons xs n x lt)
    ∙ ap (λ (y : X). f y ∷ map f (drop (suc n) xs)) (sym is)
    ∙ ap (λ (ys : List Y). f x ∷ ys) (sym (drop-map f (suc n) xs))
    ∙ ap (λ (m : ℕ). f x ∷ drop m (map f xs)) (sym (add-one n))

pub none_taken : {S : Type 0} (s : Ghosts S) (old mid : Database S s) (pairs : List Pair) (n : ℕ)
    → n ≤ 0 → AtEachHandle old (λ h. IsGroup old mid h (take n pairs))
    → AtEachHandle old (λ h. IsGroup old mid h [])
none_taken s old mid pairs n le group honest h at =
    let zero : n ≡ 0 = omega (arith, le) in
    subst (λ (ps : List Pair). IsGroup old mid h ps) (ap (λ (m : ℕ). take m pairs) zero)
    (group honest h at)

module _ {S : Type 0} (s : Ghosts S) (old mid new : Database S s) (was : IsSameDatabase old mid)
    (goes : IsSameDatabase mid new) (pairs : List Pair) (n : ℕ)
    (stores : StoresAll old mid (take n pairs)) where
  -- some of the rest
  pub stored_on : (m : ℕ) → StoresAll mid new (take m (drop n pairs))
      → StoresAll old new (take (n + m) pairs)
  stored_on m more = subst (λ (ps : List Pair). StoresAll old new ps) (sym (take-add n m pairs))
      (stores_more s old mid was (take n pairs) stores new (take m (drop n pairs)) goes more)

  -- or until one is refused
  pub stopped_on : (fault : Fault) → n ≤ length pairs → StopsBehind mid new (drop n pairs) 0 fault
      → StopsBehind old new pairs n fault
  stopped_on fault le stops =
      let count : length (take n pairs) + 0 ≡ n = omega (arith, length-take-le n pairs le) in
      subst (λ (ps : List Pair). StopsBehind old new ps n fault) (take-append-drop n pairs)
      (subst (λ (m : ℕ). StopsBehind old new (take n pairs ++ drop n pairs) m fault) count
      (stops_later s old mid was (take n pairs) stores new (drop n pairs) 0 fault goes stops))

pub stored_all : {S : Type 0} (s : Ghosts S) (old new : Database S s) (pairs : List Pair) (n : ℕ)
    → length pairs ≤ n → StoresAll old new (take n pairs) → StoresAll old new pairs
stored_all s old new pairs n le stores =
    subst (λ (ps : List Pair). StoresAll old new ps) (take_all n pairs le) stores
