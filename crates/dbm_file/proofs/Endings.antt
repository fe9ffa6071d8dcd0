-- What holds at each exit of a store and of a delete, on any device.
use Rattle.std.proofs.Common.{◌≡◌, inl, inr, ℕ, ◌+◌, ◌*◌, List, [], Bool, true, false, cond, Option, Some, is_some, Result, Ok, Err, refl, sym, ◌∙◌, ap, subst, arith}
use Rattle.std.specs.Prelude.{◌↔◌, IsErrAnd, IsErrOf}
use Rattle.std.specs.Option.{option_map}
use Rattle.std.proofs.lemmas.Bool.{le-ltb}
use Rattle.dbm_model.specs.Bounds.{Bounds, V2}
use Rattle.dbm_model.specs.Pairs.{is_allowed}
use Rattle.page_model.specs.Address.{grown}
use Rattle.page_model.specs.Pages.{Meta}
use Rattle.page_model.specs.Valid.{IsMeta, meta_buckets}
use Rattle.page_io.specs.Answers.{HasDeviceCause}
use Rattle.page_io.specs.Store.{StoreState}
use Rattle.page_io.specs.declared.store.PageStore.{Ghosts}
use Rattle.page_io.specs.declared.store.PageFault.{PageFault}
use Rattle.page_io.specs.declared.store.PageFault.TheVariants as page
use Rattle.page_io.proofs.Exits.{both_ways}
use Rattle.dbm_fault.specs.Among.{IsAmong}
use Rattle.dbm_fault.specs.Faults.{fault_of, fault_from}
use Rattle.dbm_fault.specs.declared.fault.Fault.{Fault}
use Rattle.dbm_fault.specs.declared.fault.Fault.TheVariants.{Memory, Broken, ReadOnly, TooLong, Full, Damaged}
use Rattle.linear_hash.specs.Tables.{shape_in, shape_for}
use Rattle.bucket_chain.specs.WalkAnswers.{IsWalkAnswer}
use Rattle.bucket_chain.specs.Walks.{EndsWithout}
use Rattle.dbm_file.specs.Answers.{IsCallEnded, IsCallEndedWith}
use Rattle.dbm_file.specs.Changing.{WasDeleted, WasStored, MayNeedMemory}
use Rattle.dbm_file.specs.Database.{store_of, meta_kept, page_state}
use Rattle.dbm_file.specs.Replies.{store_faults, delete_faults}
use Rattle.dbm_file.specs.Searches.{Searched, EndsWith}
use Rattle.dbm_file.specs.Trying.{with_fault, with_error_of, IsRead, IsStoreEnd, IsDeleteEnd}
use Rattle.dbm_file.specs.declared.calls.StoreMode.{StoreMode}
use Rattle.dbm_file.specs.declared.calls.StoreMode.TheVariants.{Insert}
use Rattle.dbm_file.specs.declared.calls.StoreReply.{StoreReply}
use Rattle.dbm_file.specs.declared.calls.StoreReply.TheVariants as stored
use Rattle.dbm_file.specs.declared.calls.DeleteReply.{DeleteReply}
use Rattle.dbm_file.specs.declared.calls.DeleteReply.TheVariants as deleted
use Rattle.dbm_file.specs.declared.database.Database.{Database}
use Rattle.dbm_file.proofs.ChangeSteps.{IsDone}
use Rattle.dbm_file.proofs.RefusedChanges.{told_device, told_broken}
use Rattle.dbm_file.proofs.Lends.{kept_error}
use Rattle.dbm_file.proofs.Refused.{IsOfChange, told_other, told_by, told_is, told_memory, told_no_value, among_store, among_delete, not_read_only, never_too_long}
use Rattle.dbm_file.proofs.ReadSteps.{broken_keeps, read_keeps, refused_keeps, still_meta, still_writable, still_usable}

-- neither of two things holds, or both do
neither : {A B : Type 0} → (A → ⊥) → (B → ⊥) → A ↔ B
neither no_a no_b = (λ a. absurd (no_a a), λ b. absurd (no_b b))

both : {A B : Type 0} → A → B → A ↔ B
both a b = (λ _. b, λ _. a)

-- a file that counts no more pairs than its buckets allow keeps its shape
stays : (m : Meta) → IsMeta m → shape_in m ≡ shape_for m.pairs (shape_in m)
stays m valid = sym (ap (λ (more : Bool). cond more (grown (shape_in m)) (shape_in m))
    (le-ltb (8 * meta_buckets m) m.pairs valid.few_pairs.1))

stays_as : (old new : Meta) → IsMeta old → new ≡ old
    → shape_in new ≡ shape_for new.pairs (shape_in old)
stays_as old new valid same =
    subst (λ (m : Meta). shape_in m ≡ shape_for m.pairs (shape_in old)) (sym same) (stays old valid)

module _ {S : Type 0} {s : Ghosts S} where
  module _ (old : Database S s) (key : List ℕ) where
    -- a broken database
    module _ (broken : (page_state old).usable ≡ false) where
      pub unusable_store : (content : List ℕ) (mode : StoreMode)
          → IsStoreEnd old old (with_fault old Broken) key content mode (Err Broken)
      unusable_store content mode = record {
        shape = stays (meta_kept old) old.valid;
        read_only = neither (λ is. absurd (let x = is in cc))
            (λ all. absurd (let x = sym broken ∙ all.0 in cc));
        kept = λ is. absurd (let x = is in cc);
        stored = λ is. absurd (let x = is in cc);
        memory = λ is. absurd (let x = is in cc);
        too_long = neither (λ is. absurd (let x = is in cc))
            (λ all. absurd (let x = sym broken ∙ all.0 in cc));
        keeps = broken_keeps StoreReply s old broken;
        only = inl refl;
      }

      pub unusable_delete : IsDeleteEnd old old (with_fault old Broken) key (Err Broken)
      unusable_delete = record {
        shape = refl;
        read_only = neither (λ is. absurd (let x = is in cc))
            (λ all. absurd (let x = sym broken ∙ all.0 in cc));
        absent = λ is. absurd (let x = is in cc);
        counted = λ is. absurd (let x = is in cc);
        deleted = λ is. absurd (let x = is in cc);
        memory = λ is. absurd (let x = is in cc);
        keeps = broken_keeps DeleteReply s old broken;
        only = inl refl;
      }

    -- one that is open for reading
    module _ (usable : (page_state old).usable ≡ true) (reading : (page_state old).writable ≡ false)
        (still : IsRead old old) where
      pub unwritable_store : (content : List ℕ) (mode : StoreMode)
          → IsStoreEnd old old (with_fault old ReadOnly) key content mode (Err ReadOnly)
      unwritable_store content mode = record {
        shape = stays (meta_kept old) old.valid;
        read_only = both refl (usable, reading);
        kept = λ is. absurd (let x = is in cc);
        stored = λ is. absurd (let x = is in cc);
        memory = λ is. absurd (let x = is in cc);
        too_long = neither (λ is. absurd (let x = is in cc))
            (λ all. absurd (let x = sym reading ∙ all.1 in cc));
        keeps = refused_keeps s old old still usable StoreReply ReadOnly
            (λ is. absurd (let x = is in cc)) (λ is. absurd (let x = is in cc));
        only = inr (inl refl);
      }

      pub unwritable_delete : IsDeleteEnd old old (with_fault old ReadOnly) key (Err ReadOnly)
      unwritable_delete = record {
        shape = refl;
        read_only = both refl (usable, reading);
        absent = λ is. absurd (let x = is in cc);
        counted = λ is. absurd (let x = is in cc);
        deleted = λ is. absurd (let x = is in cc);
        memory = λ is. absurd (let x = is in cc);
        keeps = refused_keeps s old old still usable DeleteReply ReadOnly
            (λ is. absurd (let x = is in cc)) (λ is. absurd (let x = is in cc));
        only = inr (inl refl);
      }

    module _ (usable : (page_state old).usable ≡ true)
        (writable : (page_state old).writable ≡ true) where
      may_write : ((page_state old).usable ≡ true) × ((page_state old).writable ≡ false) → ⊥
      may_write all = absurd (let x = sym writable ∙ all.1 in cc)

      -- a pair that is too long
      pub long_store : (content : List ℕ) (mode : StoreMode) → IsRead old old
          → is_allowed (meta_kept old).bounds.version (key, content) ≡ false
          → IsStoreEnd old old (with_fault old TooLong) key content mode (Err TooLong)
      long_store content mode still long = record {
        shape = stays (meta_kept old) old.valid;
        read_only = neither (λ is. absurd (let x = is in cc)) may_write;
        kept = λ is. absurd (let x = is in cc);
        stored = λ is. absurd (let x = is in cc);
        memory = λ is. absurd (let x = is in cc);
        too_long = both refl (usable, writable, long);
        keeps = refused_keeps s old old still usable StoreReply TooLong
            (λ is. absurd (let x = is in cc)) (λ is. absurd (let x = is in cc));
        only = inr (inr (inl refl));
      }

      module _ (new : Database S s) where
        -- a store of an allowed pair
        module _ (content : List ℕ) (mode : StoreMode)
            (short : is_allowed (meta_kept old).bounds.version (key, content) ≡ true) where
          not_long : ((page_state old).usable ≡ true) × ((page_state old).writable ≡ true)
              × (is_allowed (meta_kept old).bounds.version (key, content) ≡ false) → ⊥
          not_long all = absurd (let x = sym short ∙ all.2 in cc)

          -- refused by the pages below, as a `?` answers it
          pub told_store : (r : Result StoreReply Fault) (e : PageFault)
              → IsErrAnd r (λ fault. fault ≡ fault_from e) → IsOfChange e
              → (e ≡ page.Memory → MayNeedMemory (meta_kept old) (key, content) mode)
              → meta_kept new ≡ meta_kept old
              → IsCallEnded old (with_error_of new r) r
              → IsStoreEnd old new (with_error_of new r) key content mode r
          told_store r e told one full meta keeps = record {
            shape = stays_as (meta_kept old) (meta_kept new) old.valid meta;
            read_only = neither (told_other r e ReadOnly told (not_read_only e one)) may_write;
            kept = λ is. absurd (told_no_value r e stored.Kept told is);
            stored = λ is. absurd (told_no_value r e stored.Stored told is);
            memory = λ is. full (told_memory e (told_is r e Memory told is));
            too_long = neither (told_other r e TooLong told (never_too_long e)) not_long;
            keeps = keeps;
            only = told_by (λ fault. IsAmong fault store_faults) r e told (among_store e one);
          }

          -- the key was there, and its content stays
          pub kept_store : IsRead old new → mode ≡ Insert → Searched old key (EndsWith key)
              → IsStoreEnd old new new key content mode (Ok stored.Kept)
          kept_store read inserts searched = record {
            shape = stays_as (meta_kept old) (meta_kept new) old.valid (still_meta s old new read);
            read_only = neither (λ is. absurd (let x = is in cc)) may_write;
            kept = λ _. (inserts, searched);
            stored = λ is. absurd (let x = is in cc);
            memory = λ is. absurd (let x = is in cc);
            too_long = neither (λ is. absurd (let x = is in cc)) not_long;
            keeps = read_keeps s old new read usable stored.Kept;
            only = tt;
          }

          -- the limit is reached
          pub full_store : IsRead old new
              → IsStoreEnd old new (with_fault new Full) key content mode (Err Full)
          full_store read = record {
            shape = stays_as (meta_kept old) (meta_kept new) old.valid (still_meta s old new read);
            read_only = neither (λ is. absurd (let x = is in cc)) may_write;
            kept = λ is. absurd (let x = is in cc);
            stored = λ is. absurd (let x = is in cc);
            memory = λ is. absurd (let x = is in cc);
            too_long = neither (λ is. absurd (let x = is in cc)) not_long;
            keeps = refused_keeps s old new read usable StoreReply Full
                (λ is. absurd (let x = is in cc)) (λ is. absurd (let x = is in cc));
            only = inr (inr (inr (inl refl)));
          }

          -- the pair is there
          pub done_store : shape_in (meta_kept new)
              ≡ shape_for (meta_kept new).pairs (shape_in (meta_kept old))
              → WasStored old new (key, content) → IsCallEnded old new (Ok stored.Stored)
              → IsStoreEnd old new new key content mode (Ok stored.Stored)
          done_store shape put keeps = record {
            shape = shape;
            read_only = neither (λ is. absurd (let x = is in cc)) may_write;
            kept = λ is. absurd (let x = is in cc);
            stored = λ _. put;
            memory = λ is. absurd (let x = is in cc);
            too_long = neither (λ is. absurd (let x = is in cc)) not_long;
            keeps = keeps;
            only = tt;
          }

        -- a delete that the pages below refuse
        pub told_delete : (r : Result DeleteReply Fault) (e : PageFault)
            → IsErrAnd r (λ fault. fault ≡ fault_from e) → IsOfChange e
            → (e ≡ page.Memory → (meta_kept old).bounds.version ≡ V2)
            → meta_kept new ≡ meta_kept old
            → IsCallEnded old (with_error_of new r) r
            → IsDeleteEnd old new (with_error_of new r) key r
        told_delete r e told one second meta keeps = record {
          shape = ap shape_in meta;
          read_only = neither (told_other r e ReadOnly told (not_read_only e one)) may_write;
          absent = λ is. absurd (told_no_value r e deleted.Absent told is);
          counted = λ is. absurd (told_no_value r e deleted.Deleted told is);
          deleted = λ is. absurd (told_no_value r e deleted.Deleted told is);
          memory = λ is. second (told_memory e (told_is r e Memory told is));
          keeps = keeps;
          only = told_by (λ fault. IsAmong fault delete_faults) r e told
              (among_delete e one);
        }

        -- the key isn't there
        pub absent_delete : IsRead old new → Searched old key (EndsWithout key)
            → IsDeleteEnd old new new key (Ok deleted.Absent)
        absent_delete read searched = record {
          shape = ap shape_in (still_meta s old new read);
          read_only = neither (λ is. absurd (let x = is in cc)) may_write;
          absent = λ _. searched;
          counted = λ is. absurd (let x = is in cc);
          deleted = λ is. absurd (let x = is in cc);
          memory = λ is. absurd (let x = is in cc);
          keeps = read_keeps s old new read usable deleted.Absent;
          only = tt;
        }

        -- the key is there, and the file counts no pair
        pub uncounted_delete : IsRead old new
            → IsDeleteEnd old new (with_fault new Damaged) key (Err Damaged)
        uncounted_delete read = record {
          shape = ap shape_in (still_meta s old new read);
          read_only = neither (λ is. absurd (let x = is in cc)) may_write;
          absent = λ is. absurd (let x = is in cc);
          counted = λ is. absurd (let x = is in cc);
          deleted = λ is. absurd (let x = is in cc);
          memory = λ is. absurd (let x = is in cc);
          keeps = refused_keeps s old new read usable DeleteReply Damaged
              (λ is. absurd (let x = is in cc)) (λ is. absurd (let x = is in cc));
          only = inr (inr (inr (inr (inr refl))));
        }

        -- the key is gone
        pub done_delete : shape_in (meta_kept new) ≡ shape_in (meta_kept old)
            → (meta_kept new).pairs + 1 ≡ (meta_kept old).pairs → WasDeleted old new key
            → IsCallEnded old new (Ok deleted.Deleted)
            → IsDeleteEnd old new new key (Ok deleted.Deleted)
        done_delete shape counted gone keeps = record {
          shape = shape;
          read_only = neither (λ is. absurd (let x = is in cc)) may_write;
          absent = λ is. absurd (let x = is in cc);
          counted = λ _. counted;
          deleted = λ _. gone;
          memory = λ is. absurd (let x = is in cc);
          keeps = keeps;
          only = tt;
        }

  -- what a walk that failed leaves
  pub walk_told : {T : Type 0} (old new : Database S s) (e : PageFault) (r : Result T Fault)
      → IsRead old new → (page_state old).usable ≡ true
      → IsWalkAnswer {T = Bool} (page_state old) (Err e)
      → HasDeviceCause {T = Bool} (s.faults (store_of old)) (s.faults (store_of new)) (Err e)
      → IsErrAnd r (λ fault. fault ≡ fault_from e) → IsCallEnded old (with_error_of new r) r
  walk_told old new e (Ok value) read usable answer cause told = absurd told
  walk_told {T} old new e (Err fault) read usable answer cause told =
      subst (λ (f : Fault). IsCallEnded {T = T} old (with_fault new f) (Err f)) (sym told)
      (refused_keeps s old new read usable T (fault_from e)
      (λ is. cause.fault (ap Err (told_device e is)))
      (λ is. absurd (let x = answer.broken (ap Err (told_broken e is)) ∙ refl in let y =
      sym usable ∙ x in cc)))

  -- the same store and delete, whose fault was then kept as the first one
  module _ (old db : Database S s) (idle : (page_state db).staged ≡ [])
      (access : (page_state db).writable ≡ db.writable) (valid : IsMeta (meta_kept db))
      (error : Option Fault) (fault : Fault)
      (flag : error ≡ cond (is_some db.error) db.error (Some fault)) where
    abbrev flagged : Database S s
    flagged = kept_error s db idle access valid error

    flagged_keeps : {T : Type 0} → IsCallEnded {T = T} old (with_fault db fault) (Err fault)
        → IsCallEnded {T = T} old flagged (Err fault)
    flagged_keeps {T} k = subst (λ (e : Option Fault).
        IsCallEnded {T = T} old (kept_error s db idle access valid e) (Err fault))
        (sym flag) record {
          goes = record {
            honesty = k.goes.honesty;
            later = k.goes.later;
            bounds = k.goes.bounds;
            capacity = k.goes.capacity;
            writable = k.goes.writable;
            base = k.goes.base;
            still = λ broken. k.goes.still broken;
            reading = λ honest access. k.goes.reading honest access;
          };
          fault = λ is. k.fault is;
          no_error = k.no_error;
          error = k.error;
          refused = k.refused;
          kept = λ honest usable. k.kept honest usable;
          breaks = k.breaks;
          broken = k.broken;
        }

    pub flagged_ended : {T : Type 0} (r : Result T Fault) → r ≡ Err fault
        → IsCallEnded {T = T} old (with_fault db fault) (Err fault) → IsCallEnded old flagged r
    flagged_ended {T} r is keeps =
        subst (λ (x : Result T Fault). IsCallEnded old flagged x) (sym is) (flagged_keeps keeps)

    pub flagged_store : (key content : List ℕ) (mode : StoreMode) (r : Result StoreReply Fault)
        → r ≡ Err fault → IsStoreEnd old db (with_fault db fault) key content mode (Err fault)
        → IsStoreEnd old flagged flagged key content mode r
    flagged_store key content mode r is end =
        subst (λ (x : Result StoreReply Fault). IsStoreEnd old flagged flagged key content mode x)
        (sym is)
        record {
          shape = end.shape;
          read_only = end.read_only;
          kept = end.kept;
          stored = λ is. absurd (let x = is in cc);
          memory = end.memory;
          too_long =
              end.too_long;
          keeps = flagged_keeps end.keeps;
          only = end.only;
        }

    pub flagged_delete : (key : List ℕ) (r : Result DeleteReply Fault) → r ≡ Err fault
        → IsDeleteEnd old db (with_fault db fault) key (Err fault)
        → IsDeleteEnd old flagged flagged key r
    flagged_delete key r is end =
        subst (λ (x : Result DeleteReply Fault). IsDeleteEnd old flagged flagged key x) (sym is)
        record {
          shape = end.shape;
          read_only = end.read_only;
          absent = end.absent;
          counted = end.counted;
          deleted = λ is. absurd (let x = is in cc);
          memory = end.memory;
          keeps = flagged_keeps end.keeps;
          only = end.only;
        }

  -- what a change that was done leaves
  pub done_keeps : {T : Type 0} (old mid new : Database S s) (wanted : Bounds) (value : T)
      → IsRead old mid → (page_state old).usable ≡ true → (page_state old).writable ≡ true
      → IsDone s mid new (Ok tt) → (meta_kept new).bounds ≡ wanted
      → IsCallEndedWith wanted old new (Ok value)
  done_keeps old mid new wanted value read usable writable done bounds = record {
    goes = record {
      honesty = both_ways done.ends.honesty read.reads.stages_only.honesty;
      later = omega (arith, read.reads.stages_only.later, done.ends.cause.later);
      bounds = bounds;
      capacity = ap (λ (st : StoreState). st.capacity) done.ends.ok
          ∙ ap (λ (st : StoreState). st.capacity) read.reads.same;
      writable = ap (λ (st : StoreState). st.writable) done.ends.ok ∙ still_writable s old mid read;
      base = ap (λ (st : StoreState). st.base) done.ends.ok
          ∙ ap (λ (st : StoreState). st.base) read.reads.same;
      still = λ broken. absurd (let x = sym usable ∙ broken in cc);
      reading = λ honest access. absurd (let x = sym writable ∙ access in cc);
    };
    fault = λ is. absurd (let x = is in cc);
    no_error = ap (λ (o : Option Fault). option_map fault_of o) (done.error_is ∙ read.error_is);
    error = tt;
    refused = tt;
    kept = λ honest. tt;
    breaks = inl (ap (λ (st : StoreState). st.usable) done.ends.ok ∙ still_usable s old mid read);
    broken = neither (λ is. absurd (let x = is in cc))
        (λ broken. absurd (let x = sym usable ∙ broken in cc));
  }

-- the shape behind a change, as before it
pub changed_shape : (old mid new : Meta) → mid ≡ old
    → shape_in new ≡ shape_for new.pairs (shape_in mid)
    → shape_in new ≡ shape_for new.pairs (shape_in old)
changed_shape old mid new same shape =
    subst (λ (m : Meta). shape_in new ≡ shape_for new.pairs (shape_in m)) same shape

-- a walk of the pages that went well
pub walk_was : {T : Type 0} {state : StoreState} (value : T) → IsWalkAnswer state (Ok value)
walk_was value = record { broken = λ is. absurd (let x = is in cc); only = tt }

pub never_damaged : {T : Type 0} (value : T)
    → IsErrOf {T = T} {E = PageFault} (Ok value) page.Damaged → ⊥
never_damaged value is = absurd (let x = is in cc)
