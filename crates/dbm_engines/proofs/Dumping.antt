-- What calls that read leave, one after another.
use Rattle.std.proofs.Common.{◌≡◌, ◌⊎◌, inl, inr, ⊎_elim, ℕ, List, true, false, cond, Option, Some, None, Result, Ok, Err, MatchResult, OnOk, IfErr, IsErrOf, refl, sym, ◌∙◌, ap, subst}
use Rattle.std.specs.Global.{Vec}
use Rattle.sect_dev.specs.Device.{LeavesOnly}
use Rattle.sect_dev.specs.Moments.{followed_by, weaker}
use Rattle.dbm_model.specs.Calls.{Call, Reply, Fetch, First, Next}
use Rattle.dbm_model.specs.Calls as model
use Rattle.dbm_model.specs.Pairs.{Key}
use Rattle.dbm_model.specs.States.{State, Pass, NotBegun, Begun, Behind, Handle, flagged, first_fault}
use Rattle.dbm_model.specs.Steps.{Case, Tells, Refuses, Declines, Finds, Passes, Changes, usable_case, broken_case, case_of, Answers, Suffers}
use Rattle.dbm_model.specs.Steps.{fetched, passed}
use Rattle.std.specs.FinMap.{get}
use Rattle.page_io.specs.declared.store.PageStore.{Ghosts}
use Rattle.page_io.proofs.Exits.{no_err, more_later}
use Rattle.dbm_file.specs.Answers.{MayBeLeft, StandsForSome, Survives, IsStep, IsSameDatabase}
use Rattle.dbm_file.specs.Calls.{Lent}
use Rattle.dbm_file.specs.Held.{Held, held_by}
use Rattle.dbm_file.specs.Database.{store_of, page_state, error_of}
use Rattle.dbm_fault.specs.Faults.{fault_of}
use Rattle.dbm_file.specs.Lending.{Lends}
use Rattle.dbm_file.specs.declared.database.Database.{Database}
use Rattle.dbm_fault.specs.declared.fault.Fault.{Fault}
use Rattle.dbm_fault.specs.declared.fault.Fault.TheVariants.{Device, Broken, Damaged}
use Rattle.dbm_file.proofs.Breaks.{alike}
use Rattle.dbm_file.proofs.Runs.{still_goes}
use Rattle.dbm_engines.specs.Dumping.{KeepsMap, Stays, Reads, IsCopied}
use Rattle.dbm_fault.specs.declared.engine_fault.EngineFault.{EngineFault}
use Rattle.dbm_fault.specs.declared.engine_fault.EngineFault.TheVariants.{Memory, Db}

-- a rule by which nothing changes but the error number and the pass
abbrev pub IsReading : Case → Type 0
IsReading (Tells said told) = ⊥
IsReading (Refuses fault) = Unit {0}
IsReading (Declines fault) = Unit {0}
IsReading (Finds found) = Unit {0}
IsReading (Passes left) = Unit {0}
IsReading (Changes said next) = ⊥

pub reads_first : (h : Handle) → IsReading (case_of h First)
reads_first h = elim h.state.usable as
    (λ b. IsReading (cond b (usable_case h.capacity h.state First) (broken_case h.capacity h.state First))) [ true ↦ tt | false ↦ tt ]

reads_passed : (pass : Pass) → IsReading (passed pass)
reads_passed NotBegun = tt
reads_passed Begun = tt
reads_passed (Behind last) = tt

pub reads_next : (h : Handle) → IsReading (case_of h Next)
reads_next h = elim h.state.usable as
    (λ b. IsReading (cond b (usable_case h.capacity h.state Next) (broken_case h.capacity h.state Next))) [
      | true ↦
          reads_passed h.state.pass
      | false ↦ tt
    ]

reads_fetched : (found : Option (List ℕ)) → IsReading (fetched found)
reads_fetched None = tt
reads_fetched (Some content) = tt

pub reads_content : (key : Key) (h : Handle) → IsReading (case_of h (Fetch key))
reads_content key h = elim h.state.usable as
    (λ b. IsReading (cond b (usable_case h.capacity h.state (Fetch key))
    (broken_case h.capacity h.state (Fetch key)))) [
      | true ↦
          reads_fetched (get h.state.map key)
      | false ↦ tt
    ]

keeps_all : (s after : State) → after ≡ s → KeepsMap s after
keeps_all s after is = record {
  map = ap (λ (x : State). x.map) is;
  bounds = ap (λ (x : State). x.bounds) is;
  writable = ap (λ (x : State). x.writable) is;
  usable =
      ap (λ (x : State). x.usable) is;
}

keeps_flagged : (s after : State) (fault : model.Fault) → after ≡ flagged fault s → KeepsMap s after
keeps_flagged s after fault is =
    record {
      map = ap (λ (x : State). x.map) is;
      bounds = ap (λ (x : State). x.bounds) is;
      writable =
          ap (λ (x : State). x.writable) is;
      usable = ap (λ (x : State). x.usable) is;
    }

keeps_passed : (s after : State) (pass : Pass) → after ≡ record s { pass = pass }
    → KeepsMap s after
keeps_passed s after pass is =
    record {
      map = ap (λ (x : State). x.map) is;
      bounds = ap (λ (x : State). x.bounds) is;
      writable =
          ap (λ (x : State). x.writable) is;
      usable = ap (λ (x : State). x.usable) is;
    }

-- a step of such a rule keeps the map
pub keeps_map : (before after : Handle) (call : Call) (case : Case) (reply : Reply)
    → IsReading case
    → Answers before.state case reply after.state ⊎ Suffers before call case reply after
    → KeepsMap before.state after.state
keeps_map before after call (Tells said told) reply reads h = absurd reads
keeps_map before after call (Refuses fault) reply reads h =
    ⊎_elim (λ x. keeps_flagged before.state after.state fault x.1) (λ x. absurd x) h
keeps_map before after call (Declines fault) reply reads h =
    ⊎_elim (λ x. keeps_flagged before.state after.state fault x.1)
    (λ x. keeps_flagged before.state after.state model.Device x.2) h
keeps_map before after call (Finds found) reply reads h =
    ⊎_elim (λ x. keeps_all before.state after.state x.1)
    (⊎_elim (λ x. keeps_flagged before.state after.state model.Device x.2)
    (λ x. keeps_flagged before.state after.state model.Memory x.1)) h
keeps_map before after call (Passes left) reply reads h = ⊎_elim
    (λ given. ⊎_elim (λ x. keeps_passed before.state after.state _ x.2)
    (λ x. keeps_passed before.state after.state _ x.3) given)
    (λ x. keeps_flagged before.state after.state model.Device x.2) h
keeps_map before after call (Changes said next) reply reads h = absurd reads

-- what a stop within it may leave is what was held
left_is : (before after : Handle) (call : Call) (held : Held)
    → IsReading (case_of before call) → KeepsMap before.state after.state
    → MayBeLeft before after call held → held ≡ held_by before.state
left_is before after call held reads keeps left =
    ⊎_elim (λ is. is) (λ other. ⊎_elim (λ is. is ∙ alike keeps.map keeps.bounds)
    (λ asked. absurd (subst IsReading asked.1.2 reads)) other) left

module _ {S : Type 0} (s : Ghosts S) where
  -- one call
  pub stays_by : (old new : Database S s) (before : Handle) (call : Call) (reply : Reply)
      → IsReading (case_of before call) → IsStep old new before call reply
      → Stays old new before
  stays_by old new before call reply reads step =
      let keeps = keeps_map before step.after call (case_of before call) reply reads
      step.step.answers in
      record {
        after = step.after;
        is_at = step.is_at;
        keeps = keeps;
        survives = λ usable.
            weaker s.moment s.settled_since (store_of old) (store_of new)
            (StandsForSome (λ left. left ≡ held_by before.state))
            (StandsForSome (MayBeLeft before step.after call))
            (step.survives usable)
            (λ x is. (is.0, left_is before step.after call is.0 reads keeps is.1, is.2));
      }

  -- some calls after others
  module _ (old mid new : Database S s) (before : Handle) (first : IsSameDatabase old mid)
      (second : IsSameDatabase mid new) (earlier : Stays old mid before)
      (later : Stays mid new earlier.after) where
    goes_on : (page_state old).usable ≡ true → (page_state mid).usable ≡ true
        → Survives old new (λ left. left ≡ held_by before.state)
    goes_on was usable =
        followed_by s.moment s.settled_since (store_of old) (store_of mid) (store_of new)
        (StandsForSome (λ left. left ≡ held_by before.state))
        (StandsForSome (λ left. left ≡ held_by earlier.after.state))
        (earlier.survives was) (later.survives usable)
        (λ x is. (
          is.0,
          is.1 ∙ alike earlier.keeps.map earlier.keeps.bounds,
          is.2,
        ))

    -- a broken one makes no device call
    stays_broken : (page_state old).usable ≡ true → (page_state mid).usable ≡ false
        → Survives old new (λ left. left ≡ held_by before.state)
    stays_broken was broken =
        subst (λ (store : S). LeavesOnly s.moment s.settled_since (store_of old) store
        (StandsForSome (λ left. left ≡ held_by before.state)))
        (sym (second.still broken)) (earlier.survives was)

    stays_on : Stays old new before
    stays_on = record {
      after = later.after;
      is_at = later.is_at;
      keeps = record {
        map = later.keeps.map ∙ earlier.keeps.map;
        bounds = later.keeps.bounds ∙ earlier.keeps.bounds;
        writable = later.keeps.writable ∙ earlier.keeps.writable;
        usable = later.keeps.usable ∙ earlier.keeps.usable;
      };
      survives = λ was. elim (page_state mid).usable as
          (λ u. (page_state mid).usable ≡ u → Survives old new (λ left. left ≡ held_by before.state)) [
            | true ↦ goes_on was
            | false ↦ stays_broken was
          ] refl;
    }

  -- a refused copy is a refused call
  pub refused : (lent : Lent) (result : Result (Option (Vec ℕ)) EngineFault) (fault : Fault)
      → IsCopied lent result → IsErrOf result (Db fault) → IsErrOf lent fault
  refused (Ok None) (Ok None) fault copied is = cc
  refused (Ok None) (Ok (Some copy)) fault copied is = absurd copied
  refused (Ok None) (Err told) fault copied is = absurd copied
  refused (Ok (Some bytes)) (Ok None) fault copied is = absurd copied
  refused (Ok (Some bytes)) (Ok (Some copy)) fault copied is = cc
  refused (Ok (Some bytes)) (Err told) fault copied is = cc
  refused (Err why) (Ok None) fault copied is = absurd copied
  refused (Err why) (Ok (Some copy)) fault copied is = absurd copied
  refused (Err why) (Err told) fault copied is = cc

  -- a copy comes of a call that was answered
  answered : (lent : Lent) (result : Result (Option (Vec ℕ)) EngineFault) (fault : Fault)
      (P : Type 0) → IsCopied lent result → (IsErrOf lent fault → OnOk result P)
  answered (Ok None) (Ok None) fault P copied is = cc
  answered (Ok None) (Ok (Some copy)) fault P copied is = absurd copied
  answered (Ok None) (Err told) fault P copied is = tt
  answered (Ok (Some bytes)) (Ok None) fault P copied is = absurd copied
  answered (Ok (Some bytes)) (Ok (Some copy)) fault P copied is = cc
  answered (Ok (Some bytes)) (Err told) fault P copied is = tt
  answered (Err why) (Ok None) fault P copied is = absurd copied
  answered (Err why) (Ok (Some copy)) fault P copied is = absurd copied
  answered (Err why) (Err told) fault P copied is = tt

  -- the error number after a copy
  errors : (lent : Lent) (result : Result (Option (Vec ℕ)) EngineFault) (A : Type 0)
      (B : Fault → Type 0) → IsCopied lent result → OnOk lent A → IfErr lent B
      → A ⊎ ((fault : Fault) × IsErrOf result (Db fault) × B fault)
  errors (Ok given) result A B copied same kept = inl same
  errors (Err why) (Ok given) A B copied same kept = absurd (none given copied)
    where
      none : (given : Option (Vec ℕ)) → IsCopied (Err why) (Ok given) → ⊥
      none None copied = absurd copied
      none (Some copy) copied = absurd copied
  errors (Err why) (Err told) A B copied same kept = inr (why, ap Err copied, kept)

  on_ok : {T : Type 0} (result : Result T EngineFault) (P : Type 0) → P → OnOk result P
  on_ok (Ok value) P p = p
  on_ok (Err fault) P p = tt

  -- a call whose bytes are copied
  pub reads_by : (call : Call) (reply_of : Lent → Reply) (old new : Database S s) (lent : Lent)
      (result : Result (Option (Vec ℕ)) EngineFault)
      → ((h : Handle) → IsReading (case_of h call)) → Lends call reply_of old lent new
      → IsCopied lent result → Reads old new result
  reads_by call reply_of old new lent result reads lends copied = record {
    stays = λ honest h at. stays_by old new h call (reply_of lent) (reads h)
        (lends.step honest h at);
    goes = lends.keeps.goes;
    device = λ is. lends.keeps.fault (refused lent result Device copied is);
    broken = λ is. lends.keeps.broken.0 (refused lent result Broken copied is);
    usable = ⊎_elim (λ same. on_ok result _ same)
        (λ broke. answered lent result Device _ copied broke.0) lends.keeps.breaks;
    error = errors lent result _ (λ fault.
        error_of new ≡ first_fault (error_of old) (fault_of fault)) copied lends.keeps.no_error
        lends.keeps.error;
  }

  -- more is read after what was read well
  module _ {T U : Type 0} (old mid new : Database S s) (value : T)
      (earlier : Reads old mid (Ok value)) where
    pub reads_on : (result : Result U EngineFault) → Reads mid new result → Reads old new result
    reads_on result later = record {
      stays = λ honest h at.
          let first = earlier.stays honest h at in
          stays_on old mid new h earlier.goes later.goes first
          (later.stays (earlier.goes.honesty.1 honest) first.after first.is_at);
      goes = still_goes old mid new earlier.goes later.goes;
      device = λ is. more_later (s.faults (store_of old)) (s.faults (store_of mid))
          (s.faults (store_of new)) earlier.goes.later (later.device is);
      broken = λ is. sym earlier.usable ∙ later.broken is;
      usable = both result later.usable;
      error = ⊎_elim
          (λ same. ⊎_elim (λ still. inl (still ∙ same))
          (λ refused. inr (
            refused.0,
            refused.1,
            refused.2 ∙ ap (λ (e : Option model.Fault).
                first_fault e (fault_of refused.0)) same,
          )) later.error)
          (λ refused. no_err value (Db refused.0) refused.1) earlier.error;
    }
      where
        both : (result : Result U EngineFault)
            → OnOk result ((page_state new).usable ≡ (page_state mid).usable)
            → OnOk result ((page_state new).usable ≡ (page_state old).usable)
        both (Ok value) same = same ∙ earlier.usable
        both (Err fault) same = tt

  -- what was read well, whatever came of it
  pub reads_well : {T : Type 0} (old new : Database S s) (result : Result T EngineFault) (value : T)
      → result ≡ Ok value → Reads old new result → Reads {T = Unit {0}} old new (Ok (tt {0}))
  reads_well {T} old new result value is h = record {
    stays = h.stays;
    goes = h.goes;
    device = λ is. cc;
    broken = λ is. cc;
    usable = subst (λ (r : Result T EngineFault).
        OnOk r ((page_state new).usable ≡ (page_state old).usable)) is h.usable;
    error = ⊎_elim (λ same. inl same)
        (λ refused. no_err value (Db refused.0) (sym is ∙ refused.1)) h.error;
  }

  -- and whatever is told of it
  pub reads_told : {T : Type 0} (old new : Database S s) (result : Result T EngineFault)
      → Reads {T = Unit {0}} old new (Ok (tt {0})) → (IsErrOf result (Db Device) → ⊥)
      → (IsErrOf result (Db Broken) → ⊥) → Reads old new result
  reads_told old new result h no_device no_break = record {
    stays = h.stays;
    goes = h.goes;
    device = λ is. absurd (no_device is);
    broken = λ is. absurd (no_break is);
    usable = on_ok result _ h.usable;
    error = ⊎_elim (λ same. inl same) (λ refused. no_err (tt {0}) (Db refused.0) refused.1) h.error;
  }

  -- a value, and two refusals that no call gave
  pub reads_gave : {T : Type 0} (old new : Database S s) (value : T)
      → Reads {T = Unit {0}} old new (Ok (tt {0})) → Reads {T = T} old new (Ok value)
  reads_gave old new value h = reads_told old new (Ok value) h (λ is. cc) (λ is. cc)

  pub reads_damaged : {T : Type 0} (old new : Database S s)
      → Reads {T = Unit {0}} old new (Ok (tt {0})) → Reads {T = T} old new (Err (Db Damaged))
  reads_damaged {T} old new h =
      reads_told {T = T} old new (Err (Db Damaged)) h (λ is. cc) (λ is. cc)

  pub reads_no_memory : {T : Type 0} (old new : Database S s) (result : Result T EngineFault)
      → result ≡ Err Memory → Reads {T = Unit {0}} old new (Ok (tt {0})) → Reads old new result
  reads_no_memory old new result told h = reads_told old new result h (λ is. cc) (λ is. cc)

  -- the same refusal of another call
  pub reads_refused : {T U : Type 0} (old new : Database S s) (result : Result T EngineFault)
      (other : Result U EngineFault) (fault : EngineFault) → result ≡ Err fault → other ≡ Err fault
      → Reads old new result → Reads old new other
  reads_refused {T} {U} old new result other fault is told h = record {
    stays = h.stays;
    goes = h.goes;
    device = λ why. h.device (is ∙ ap Err (one_fault fault (Db Device) (sym told ∙ why)));
    broken = λ why. h.broken (is ∙ ap Err (one_fault fault (Db Broken) (sym told ∙ why)));
    usable = subst (λ (r : Result U EngineFault).
        OnOk r ((page_state new).usable ≡ (page_state old).usable)) (sym told) tt;
    error = ⊎_elim (λ same. inl same)
        (λ refused. inr (
          refused.0,
          told
              ∙ ap Err (same_fault fault (Db refused.0) (sym is ∙ refused.1)),
          refused.2,
        ))
        h.error;
  }
    where
      same_fault : (a b : EngineFault) → ◌≡◌ {A = Result T EngineFault} (Err a) (Err b) → a ≡ b
      same_fault a b e = cc

      one_fault : (a b : EngineFault) → ◌≡◌ {A = Result U EngineFault} (Err a) (Err b) → a ≡ b
      one_fault a b e = cc

pub chance_told : {T : Type 0} (Chance : EngineFault → Type 0) (result : Result T EngineFault)
    (fault : EngineFault) (P : T → Type 0) → result ≡ Err fault → Chance fault
    → MatchResult result P Chance
chance_told {T} Chance result fault P is chance =
    subst (λ (r : Result T EngineFault). MatchResult r P Chance) (sym is) chance
