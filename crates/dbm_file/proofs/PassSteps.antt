-- Calls of a pass, as steps.
use Rattle.std.proofs.Common.{◌≡◌, ◌≢◌, ⊎_elim, inl, inr, IfErr, ℕ, zero, suc, ◌+◌, ◌<◌, ◌≤◌, List, [], ◌∷◌, length, Bool, true, false, cond, is_some, Option, Some, None, Result, Ok, Err, IsErrOf, slice_index_or, refl, sym, ◌∙◌, ap, subst, arith}
use Rattle.std.specs.Prelude.{◌↔◌, IfOk, IsTrue}
use Rattle.std.specs.Borrow.{Bor}
use Rattle.std.specs.List.{HoldsAt}
use Rattle.std.specs.FinMap as finmap
use Rattle.sect_dev.specs.Moments.{started}
use Rattle.dbm_model.specs.Bounds.{Bounds}
use Rattle.dbm_model.specs.Calls as model
use Rattle.dbm_model.specs.Pairs.{Key, Contents}
use Rattle.dbm_model.specs.States.{State, Pass, NotBegun, Begun, Behind, Handle, error_number}
use Rattle.dbm_model.specs.Steps.{Case, Passes, IsNextKey, GivesKey, Suffers, buckets_added, case_of, Answers}
use Rattle.page_model.specs.Placement.{Placement}
use Rattle.page_model.specs.Placement as placement
use Rattle.page_model.specs.Pages.{Record}
use Rattle.page_model.specs.Slots.{taken}
use Rattle.page_model.specs.Valid.{IsMeta}
use Rattle.page_io.specs.Store.{Settled}
use Rattle.page_io.specs.Answers.{HasDeviceCause}
use Rattle.page_io.specs.Views.{body_at}
use Rattle.page_io.specs.declared.store.PageStore.{Ghosts}
use Rattle.page_io.specs.declared.store.PageFault.{PageFault}
use Rattle.page_io.specs.declared.store.PageFault.TheVariants as page
use Rattle.page_io.specs.BucketPages.{IsBucketPage, page_records}
use Rattle.bucket_chain.specs.WalkAnswers.{IsWalkAnswer}
use Rattle.bucket_chain.specs.Leasts.{IsLeast}
use Rattle.linear_hash.specs.Tables.{IsTable, ForEachTable}
use Rattle.linear_hash.proofs.Tables.{placed, is_table, map_placed}
use Rattle.dbm_fault.specs.Faults.{fault_of, fault_from}
use Rattle.dbm_fault.specs.declared.fault.Fault.{Fault}
use Rattle.dbm_fault.specs.declared.fault.Fault.TheVariants.{Device, Broken, NoPass}
use Rattle.dbm_file.specs.Held.{Held, held_by}
use Rattle.dbm_file.specs.Answers.{MayBeLeft, StandsForSome, Survives, IsStep, IsCallEnded, IsCallEndedWith}
use Rattle.dbm_file.specs.Calls.{Lent, lent_reply}
use Rattle.dbm_file.specs.Database.{store_of, meta_kept, page_state, error_of, handle_of, IsAt}
use Rattle.dbm_file.specs.Lending.{Lends}
use Rattle.dbm_file.specs.Passing.{pass_of, pass_from, pass_at, pass_after, key_in}
use Rattle.dbm_file.specs.Trying.{with_fault, IsRead, slot_reply}
use Rattle.dbm_file.specs.declared.database.Database.{Database}
use Rattle.dbm_file.specs.declared.pass.Pass as code
use Rattle.dbm_file.proofs.Cases.{first_rule, next_rule, no_pass_rule, passes_fail, error_rule, clear_rule}
use Rattle.dbm_file.proofs.Lends.{kept_error, flagged_step}
use Rattle.dbm_file.proofs.PassKeys.{next_of_map, over_the_map}
use Rattle.dbm_file.proofs.Searches.{blank}
use Rattle.dbm_file.proofs.ReadSteps.{at_own, from_own, same_state, no_more_pages, no_more_buckets, still_buckets, still_bounds, still_capacity, still_end, still_writable, still_usable, still_holds, still_rests, still_survives, no_read, rejected_step, refused_keeps, walk_failed_step}

-- the same database with its pass elsewhere
abbrev pub with_pass : {S : Type 0} {s : Ghosts S} → Database S s → code.Pass → Database S s
with_pass db pass = record db { pass = pass }

-- a key that is given, or the end, adds no bucket
none_opened : (before : Handle) (from : Pass) (reply : model.Reply) (after : State) (pairs : ℕ)
    → GivesKey before.state from reply after → buckets_added before reply pairs ≡ 0
none_opened before from reply after pairs (inl end) =
    ap (λ (r : model.Reply). buckets_added before r pairs) end.1
none_opened before from reply after pairs (inr given) =
    ap (λ (r : model.Reply). buckets_added before r pairs) given.2

-- a call that goes on from there
module _ {S : Type 0} (s : Ghosts S) (old new : Database S s) (h : Handle) (at : IsAt old h)
    (call : model.Call) (from : Pass) (read : IsRead old (with_pass new old.pass))
    (honest : s.honest (store_of old)) (usable : (page_state old).usable ≡ true)
    (falls : case_of h call ≡ Passes from) where
  abbrev map : Contents
  map = h.state.map

  abbrev before : Handle
  before = handle_of old map

  abbrev mid : Database S s
  mid = with_pass new old.pass

  falls_own : case_of before call ≡ Passes from
  falls_own = ap (λ (x : Handle). case_of x call) (sym at.shows) ∙ falls

  state_after : (handle_of new map).state ≡ record before.state { pass = pass_of new }
  state_after = ap (λ (x : State). record x { pass = pass_of new })
      (same_state s old mid map read.pass_is (still_bounds s old mid read) read.error_is
      (still_writable s old mid read) (still_usable s old mid read))

  moved : (reply : model.Reply)
      → GivesKey before.state from reply (record before.state { pass = pass_of new })
      → IsStep old new h call reply
  moved reply given = from_own at record {
    after = handle_of new map;
    step = record {
      counts = read.reads.stages_only.later;
      capacity = still_capacity s old mid read;
      pages = no_more_pages before (handle_of new map) reply (still_end s old mid read);
      bounded = inl (still_end s old mid read);
      buckets = no_more_buckets before (handle_of new map) reply (finmap.len map)
          (still_buckets s old mid read) (none_opened before from reply _ (finmap.len map) given);
      answers = inl (subst (λ (c : Case).
          Answers before.state c reply (handle_of new map).state) (sym falls_own)
          (subst (GivesKey before.state from reply) (sym state_after) given));
    };
    is_at = at_own new map (λ u. still_holds s old mid map read honest (at.map usable))
        (λ u. still_rests s old mid map read honest (at.rests usable));
    survives = λ u. still_survives s old mid map read honest (at.rests usable)
        (MayBeLeft before (handle_of new map) call) (inl refl);
  }

  module _ (p : Placement) (is : placement.contents p ≡ map) (bytes : List ℕ)
      (found : Option ℕ) (least : IsLeast (placement.pairs_of p) from bytes found) where
    -- no key is before it, and it stays
    pub ended_step : found ≡ None → pass_of new ≡ from → IsStep old new h call model.End
    ended_step none stays = moved model.End (inl (
      over_the_map p map is from
          (subst (λ (o : Option ℕ). IsLeast (placement.pairs_of p) from bytes o) none least),
      refl,
      ap (λ (x : Pass). record before.state { pass = x }) stays,
    ))

    -- the next key is given, and it stands behind that
    pub given_step : (slot : ℕ) (key : Key) → found ≡ Some slot
        → key_in bytes slot ≡ key
        → pass_of new ≡ Behind key
        → IsStep old new h call (slot_reply bytes (Ok (Some slot)))
    given_step slot key some reads stands =
        let next = subst (λ (o : Option ℕ). IsLeast (placement.pairs_of p) from bytes o) some
        least in
        let same : next.key ≡ key = sym (next.has.1 blank) ∙ reads in
        moved _ (inr (
          key,
          subst (IsNextKey map from) same (next_of_map p map is from next.key next.least),
          ap model.Bytes reads,
          ap (λ (x : Pass). record before.state { pass = x }) stands,
        ))

-- the pages of a usable database at a handle say a placement of its map
pub table_at : {S : Type 0} (s : Ghosts S) (db : Database S s) (h : Handle) (at : IsAt db h)
    (usable : (page_state db).usable ≡ true)
    → length (s.committed (store_of db)) + 1 ≡ (page_state db).end
    → IsTable (body_at s (store_of db)) (meta_kept db) (page_state db).end
    (placed s (store_of db) (meta_kept db) h.state.map (at.map usable))
table_at s db h at usable ends =
    is_table s (store_of db) (meta_kept db) h.state.map (at.map usable) ends db.idle

-- the least of its keys, by a placement of its map
pub record IsLeastOfMap (map : Contents) (from : Pass) (bytes : List ℕ)
    (found : Option ℕ) : Type 0 where
  pub pages : Placement
  pub map_is : placement.contents pages ≡ map
  pub least : IsLeast (placement.pairs_of pages) from bytes found

-- what was looked for behind the key that the pass gave, or from the start, is the next of the pass
pub least_of_map : {S : Type 0} (s : Ghosts S) (db : Database S s) (h : Handle) → IsAt db h
    → s.honest (store_of db) → (page_state db).usable ≡ true
    → length (s.committed (store_of db)) + 1 ≡ (page_state db).end
    → (behind from : Pass) → behind ≡ from → (bytes : List ℕ) (found : Option ℕ)
    → ForEachTable s (store_of db) (meta_kept db)
    (λ p. IsLeast (placement.pairs_of p) behind bytes found)
    → IsLeastOfMap h.state.map from bytes found
least_of_map s db h at honest usable ends behind from is bytes found exact = record {
  pages = p;
  map_is = map_placed s (store_of db) (meta_kept db) h.state.map (at.map usable);
  least = subst (λ (x : Pass). IsLeast (placement.pairs_of p) x bytes found) is
      (exact honest p (table_at s db h at usable ends));
}
  where
    p : Placement
    p = placed s (store_of db) (meta_kept db) h.state.map (at.map usable)

pub begins_so : {S : Type 0} {s : Ghosts S} (begins : Bool) (db : Database S s) → begins ≡ true
    → Begun ≡ pass_from begins db
begins_so begins db is = sym (ap (λ (b : Bool). pass_from b db) is)

pub goes_on_so : {S : Type 0} {s : Ghosts S} (begins : Bool) (db : Database S s)
    → begins ≡ false → pass_of db ≡ pass_from begins db
goes_on_so begins db is = sym (ap (λ (b : Bool). pass_from b db) is)

-- a pass that failed
pub pass_failed : {S : Type 0} (s : Ghosts S) (old new : Database S s) (h : Handle) → IsAt old h
    → (call : model.Call) (from : Pass) → case_of h call ≡ Passes from → IsRead old new
    → s.honest (store_of old) → (page_state old).usable ≡ true
    → (T : Type 0) (e : PageFault) → IsWalkAnswer {T = T} (page_state old) (Err e)
    → HasDeviceCause {T = T} (s.faults (store_of old)) (s.faults (store_of new)) (Err e)
    → (IsErrOf {T = T} (Err e) page.Damaged → ⊥)
    → IsStep old (with_fault new (fault_from e)) h call
    (model.Refused (fault_of (fault_from e)))
pass_failed s old new h at call from falls read honest usable T e answer cause whole =
    let map = h.state.map in
    let falls_own = ap (λ (x : Handle). case_of x call) (sym at.shows) ∙ falls in
    from_own at (walk_failed_step s old new map call read honest (at.map usable)
    (at.rests usable) T e usable answer cause whole
    (λ reply after fails. subst (λ (rule : Case). Suffers (handle_of old map) call rule reply after)
    (sym falls_own) (passes_fail (handle_of old map) call reply after fails from)))

-- and whose fault was then kept as the first one
pub pass_flagged : {S : Type 0} (s : Ghosts S) (old db : Database S s) (h : Handle)
    (idle : (page_state db).staged ≡ []) (access : (page_state db).writable ≡ db.writable)
    (valid : IsMeta (meta_kept db)) (call : model.Call) (error : Option Fault)
    (fault told_as : Fault)
    → error ≡ cond (is_some db.error) db.error (Some fault) → fault ≡ told_as
    → (bytes : List ℕ) (r : Result (Option ℕ) Fault) → r ≡ Err fault
    → IsStep old (with_fault db told_as) h call (model.Refused (fault_of told_as))
    → IsStep old (kept_error s db idle access valid error) h call (slot_reply bytes r)
pass_flagged s old db h idle access valid call error fault told_as flag same bytes r is step =
    subst (λ (x : Result (Option ℕ) Fault).
    IsStep old (kept_error s db idle access valid error) h call (slot_reply bytes x))
    (sym is)
    (flagged_step s old db h idle access valid call error fault flag
    (model.Refused (fault_of fault))
    (subst (λ (f : Fault). IsStep old (with_fault db f) h call (model.Refused (fault_of f)))
    (sym same) step))

-- what is kept does not depend on what is given
pub keeps_as : {S T U : Type 0} {s : Ghosts S} {wanted : Bounds} {old new : Database S s} (value : T)
    (other : U) → IsCallEndedWith wanted old new (Ok value) → IsCallEndedWith wanted old new (Ok other)
keeps_as value other k = record {
  goes = k.goes;
  fault = λ is. absurd (let e = is in cc);
  no_error = k.no_error;
  error = tt;
  refused = tt;
  kept = λ honest. tt;
  breaks = ⊎_elim (λ same. inl same)
      (λ broke. let e = broke.0 in absurd (let x = e in cc)) k.breaks;
  broken = (
    λ is. absurd (let e = is in cc),
    λ broken. let e = k.broken.1 broken in
        absurd (let x = e in cc),
  );
}

pub keeps_err : {S T U : Type 0} {s : Ghosts S} {wanted : Bounds} {old new : Database S s}
    (fault : Fault) → IsCallEndedWith {T = T} wanted old new (Err fault)
    → IsCallEndedWith {T = U} wanted old new (Err fault)
keeps_err fault k = record {
  goes = k.goes;
  fault = λ is. k.fault (let e = is in ap Err (let f : fault ≡ Device = cc in f));
  no_error = tt;
  error = k.error;
  refused = k.refused;
  kept = k.kept;
  breaks = ⊎_elim (λ same. inl same)
      (λ broke. inr (let e = broke.0 in ap Err (let f : fault ≡ Device = cc in f), broke.1))
      k.breaks;
  broken = (
    λ is. k.broken.0 (let e = is in ap Err (let f : fault ≡ Broken = cc in f)),
    λ broken.
        let e = k.broken.1 broken in ap Err (let f : fault ≡ Broken = cc in f),
  );
}

-- what an Ok leaves, with the pass elsewhere
pub keeps_passed : {S T : Type 0} {s : Ghosts S} (old new : Database S s) (value : T)
    → IsCallEnded old (with_pass new old.pass) (Ok value) → IsCallEnded old new (Ok value)
keeps_passed old new value k = record {
  goes = record {
    honesty = k.goes.honesty;
    later = k.goes.later;
    bounds = k.goes.bounds;
    capacity =
        k.goes.capacity;
    writable = k.goes.writable;
    base = k.goes.base;
    still = λ broken. k.goes.still broken;
    reading = λ honest access. k.goes.reading honest access;
  };
  fault = λ is. k.fault is;
  no_error = k.no_error;
  error = tt;
  refused = tt;
  kept = λ honest. tt;
  breaks = k.breaks;
  broken = k.broken;
}

-- the key that is lent
pub lent_key : (bytes : List ℕ) (slot : ℕ) (pair : Bor (List ℕ) × Bor (List ℕ))
    → HoldsAt (λ r. (r.key ≡ pair.0.now) × (r.bytes ≡ pair.1.now)) (page_records bytes) slot
    → slot_reply bytes (Ok (Some slot)) ≡ lent_reply model.End (Ok (Some pair.0))
lent_key bytes slot pair read = ap model.Bytes (read blank).0

-- what needs no page: the error number is told, or cleared
module _ {S : Type 0} (s : Ghosts S) (old : Database S s) (h : Handle) (at : IsAt old h)
    (now : (x : Settled) → s.settled_since (store_of old) (s.moment (store_of old)).at x
    → s.settles_to (store_of old) x) where
  -- no device call is made
  stays : (Left : Held → Type 0) → Left (held_by (handle_of old h.state.map).state)
      → (page_state old).usable ≡ true
      → Survives old old Left
  stays Left left usable = started s.moment s.settled_since (store_of old)
      (StandsForSome Left)
      (λ x is. (held_by (handle_of old h.state.map).state, left, at.rests usable x (now x is)))

  pub error_step : IsStep old old h model.Error (model.Number (error_number (error_of old)))
  error_step =
      let own = handle_of old h.state.map in
      from_own at record {
        after = own;
        step = record {
          counts = omega arith;
          capacity = refl;
          pages = no_more_pages own own (model.Number (error_number (error_of old))) refl;
          bounded = inl refl;
          buckets = no_more_buckets own own (model.Number (error_number (error_of old)))
              (finmap.len h.state.map) refl refl;
          answers = inl (subst (λ (c : Case).
              Answers own.state c (model.Number (error_number (error_of old))) own.state)
              (sym (error_rule own)) (refl, refl));
        };
        is_at = at_own old h.state.map at.map at.rests;
        survives = λ usable. stays (MayBeLeft own own model.Error) (inl refl) usable;
      }

  pub cleared_step : (idle : (page_state old).staged ≡ [])
      (access : (page_state old).writable ≡ old.writable) (valid : IsMeta (meta_kept old))
      → IsStep old (kept_error s old idle access valid None) h model.Clear (model.Number 0)
  cleared_step idle access valid =
      let new = kept_error s old idle access valid None in
      let own = handle_of old h.state.map in
      from_own at record {
        after = handle_of new h.state.map;
        step = record {
          counts = omega arith;
          capacity = refl;
          pages = no_more_pages own (handle_of new h.state.map) (model.Number 0) refl;
          bounded = inl refl;
          buckets = no_more_buckets own (handle_of new h.state.map)
              (model.Number 0) (finmap.len h.state.map) refl refl;
          answers = inl (subst (λ (c : Case).
              Answers own.state c (model.Number 0)
              (handle_of new h.state.map).state)
              (sym (clear_rule own)) (refl, refl));
        };
        is_at = at_own new h.state.map (λ usable. at.map usable)
            (λ usable. at.rests usable);
        survives = λ usable. stays (MayBeLeft own (handle_of new h.state.map)
            model.Clear) (inl refl) usable;
      }

-- the handle of a usable database is usable
pub own_usable : {S : Type 0} {s : Ghosts S} (db : Database S s) (h : Handle) → IsAt db h
    → (page_state db).usable ≡ true → h.state.usable ≡ true
own_usable db h at usable = ap (λ (x : Handle). x.state.usable) at.shows ∙ usable

-- a call that lends a key of the page
pub passed_lends : {S : Type 0} (s : Ghosts S) (old new : Database S s) (call : model.Call)
    (bytes : List ℕ) (r : Result (Option ℕ) Fault) (lent : Lent)
    → (s.honest (store_of old) → (h : Handle) → IsAt old h
    → IsStep old new h call (slot_reply bytes r))
    → slot_reply bytes r ≡ lent_reply model.End lent → IsCallEnded old new lent
    → IfOk lent (λ found. pass_of new ≡ pass_after call found (pass_of old))
    → Lends call (lent_reply model.End) old lent new
passed_lends s old new call bytes r lent step same keeps stands =
    record {
      step = λ honest h at.
          subst (λ (reply : model.Reply). IsStep old new h call reply) same (step honest h at);
      keeps = keeps;
      stands = stands;
    }

-- a pass that found a slot stands behind its key
pub stands_behind : (new from : Pass) (bytes : List ℕ) (found : Option ℕ) (slot : ℕ)
    (pair : Bor (List ℕ) × Bor (List ℕ)) → new ≡ pass_at from bytes found → found ≡ Some slot
    → HoldsAt (λ r. (r.key ≡ pair.0.now) × (r.bytes ≡ pair.1.now)) (page_records bytes) slot
    → new ≡ Behind pair.0.now
stands_behind new from bytes found slot pair stands some read =
    stands ∙ ap (pass_at from bytes) some ∙ ap Behind (read blank).0

-- one that found none stands where it was
pub stands_still : (new from : Pass) (bytes : List ℕ) (found : Option ℕ)
    → new ≡ pass_at from bytes found → found ≡ None → new ≡ from
stands_still new from bytes found stands none = stands ∙ ap (pass_at from bytes) none

-- a first key, by the step of a pass that begins
pub first_step : {S : Type 0} (s : Ghosts S) (db new : Database S s) (reply : model.Reply)
    → (page_state db).usable ≡ true → (h : Handle) → IsAt db h
    → ((call : model.Call) → case_of h call ≡ Passes (pass_from true db)
    → IsStep db new h call reply)
    → IsStep db new h model.First reply
first_step s db new reply usable h at step =
    step model.First (first_rule h (own_usable db h at usable))

-- a next key, by the step of the pass that was begun
pub next_step : {S : Type 0} (s : Ghosts S) (db new : Database S s) (reply : model.Reply)
    → (pass_of db ≢ NotBegun) → (page_state db).usable ≡ true → (h : Handle) → IsAt db h
    → ((call : model.Call) → case_of h call ≡ Passes (pass_from false db)
    → IsStep db new h call reply) → IsStep db new h model.Next reply
next_step s db new reply begun usable h at step =
    let shown : h.state.pass ≡ pass_of db = ap (λ (x : Handle). x.state.pass) at.shows in
    step model.Next (next_rule h (own_usable db h at usable)
    (λ none. begun (sym shown ∙ none)) ∙ ap Passes shown)

-- whether one was begun, by a test of it
pub was_begun : (pass : Pass) (test : Bool) → IsTrue test ↔ (pass ≢ NotBegun) → test ≡ true
    → pass ≢ NotBegun
was_begun pass test exact is = exact.0 is

pub was_not_begun : (pass : Pass) (test : Bool) → IsTrue test ↔ (pass ≢ NotBegun)
    → test ≡ false → pass ≡ NotBegun
was_not_begun NotBegun test exact is = refl
was_not_begun Begun test exact is =
    absurd (let on = exact.1 (λ none. absurd (let e = none in cc)) in let e = sym is ∙ on in cc)
was_not_begun (Behind last) test exact is =
    absurd (let on = exact.1 (λ none. absurd (let e = none in cc)) in let e = sym is ∙ on in cc)

-- no pass was begun
pub no_pass_lends : {S : Type 0} (s : Ghosts S) (db : Database S s) → pass_of db ≡ NotBegun
    → (page_state db).usable ≡ true
    → ((y : Settled) → s.honest (store_of db)
    → s.settled_since (store_of db) (s.moment (store_of db)).at y → s.settles_to (store_of db) y)
    → Lends model.Next (lent_reply model.End) db (Err NoPass) (with_fault db NoPass)
no_pass_lends s db off usable now = record {
  step = λ honest h at.
      let map = h.state.map in
      from_own at (rejected_step s db db map model.Next (no_read s db now) honest
      (at.map usable) (at.rests usable) NoPass
      (no_pass_rule (handle_of db map) usable off));
  keeps = refused_keeps s db db (no_read s db now) usable (Option (Bor (List ℕ))) NoPass
      (λ is. absurd (let e = is in cc)) (λ is. absurd (let e = is in cc));
  stands = tt;
}

short_key_at : (rs : List Record) (i : ℕ) → i < length rs → taken rs ≤ 2032
    → length (slice_index_or rs i blank).key ≤ 2026
short_key_at [] i lt fits = absurd (omega (arith, lt))
short_key_at (r ∷ rs) zero lt fits = omega (arith, fits)
short_key_at (r ∷ rs) (suc i) lt fits =
    short_key_at rs i (omega (arith, lt)) (omega (arith, fits))

-- a key in a page is short
pub short_key : (bytes key content : List ℕ) (slot : ℕ) → IsBucketPage bytes
    → slot < length (page_records bytes)
    → HoldsAt (λ r. (r.key ≡ key) × (r.bytes ≡ content)) (page_records bytes) slot
    → length key ≤ 2026
short_key bytes key content slot page lt read =
    omega (
      arith,
      short_key_at (page_records bytes) slot lt page.sound.fits,
      ap (λ (k : List ℕ). length k) (read blank).0,
    )

-- what a refused call answers
pub refused_by : (P : Fault → Type 0) (r : Lent) (fault : Fault) → r ≡ Err fault
    → P fault → IfErr r P
refused_by P r fault is p = subst (λ (x : Lent). IfErr x P) (sym is) p
