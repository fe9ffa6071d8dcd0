-- Calls that lend bytes, as steps.
use Rattle.std.proofs.Common.{◌≡◌, IfOk, IfSome, ℕ, ◌≤◌, List, [], length, false, cond, is_some, Option, Some, Err, sym, subst}
use Rattle.std.specs.Borrow.{Bor}
use Rattle.dbm_model.specs.Calls as model
use Rattle.dbm_model.specs.States.{Handle}
use Rattle.dbm_model.specs.Steps.{Refuses, case_of}
use Rattle.page_model.specs.Valid.{IsMeta}
use Rattle.page_io.specs.declared.store.PageStore.{Ghosts}
use Rattle.dbm_file.specs.Answers.{IsStep}
use Rattle.dbm_file.specs.Calls.{Lent, lent_reply}
use Rattle.dbm_file.specs.Database.{meta_kept, page_state, handle_of}
use Rattle.dbm_file.specs.Lending.{Lends}
use Rattle.dbm_file.specs.Trying.{with_fault}
use Rattle.dbm_fault.specs.declared.fault.Fault.{Fault}
use Rattle.dbm_fault.specs.declared.fault.Fault.TheVariants.{Broken}
use Rattle.dbm_file.specs.declared.database.Database.{Database}
use Rattle.dbm_file.proofs.ReadSteps.{from_own, broken_step, broken_keeps}

-- a database with another error
abbrev pub kept_error : {S : Type 0} (s : Ghosts S) (db : Database S s)
    → (page_state db).staged ≡ [] → (page_state db).writable ≡ db.writable → IsMeta (meta_kept db)
    → Option Fault → Database S s
kept_error s db idle access valid e =
    record db { error = e; idle = idle; told = access; valid = valid }

-- the step of a call whose fault was then kept as the first one
pub flagged_step : {S : Type 0} (s : Ghosts S) (old db : Database S s) (h : Handle)
    (idle : (page_state db).staged ≡ []) (access : (page_state db).writable ≡ db.writable)
    (valid : IsMeta (meta_kept db)) (call : model.Call) (error : Option Fault) (fault : Fault)
    → error ≡ cond (is_some db.error) db.error (Some fault) → (reply : model.Reply)
    → IsStep old (with_fault db fault) h call reply
    → IsStep old (kept_error s db idle access valid error) h call reply
flagged_step s old db h idle access valid call error fault flag reply step =
    subst (λ (e : Option Fault). IsStep old (kept_error s db idle access valid e) h call reply)
    (sym flag) record {
      after = step.after;
      step = step.step;
      is_at = record {
        shows = step.is_at.shows;
        map = λ usable. step.is_at.map usable;
        rests =
            λ usable. step.is_at.rests usable;
      };
      survives = λ usable. step.survives usable;
    }

-- a call that was refused, and whose fault was then kept as the first one
module _ {S : Type 0} (s : Ghosts S) (db : Database S s) (call : model.Call) (none : model.Reply)
    (idle : (page_state db).staged ≡ []) (access : (page_state db).writable ≡ db.writable)
    (valid : IsMeta (meta_kept db))
    (error : Option Fault) (fault : Fault)
    (flag : error ≡ cond (is_some db.error) db.error (Some fault)) (r : Lent)
    (is : r ≡ Err fault) where
  abbrev new : Option Fault → Database S s
  new e = kept_error s db idle access valid e

  pub flagged_lends : (old : Database S s)
      → Lends call (lent_reply none) old (Err fault) (with_fault db fault)
      → Lends call (lent_reply none) old r (new error)
  flagged_lends old f =
      subst (λ (x : Lent). Lends call (lent_reply none) old x (new error)) (sym is)
      (subst (λ (e : Option Fault). Lends call (lent_reply none) old (Err fault) (new e)) (sym flag)
      record {
        step = λ honest h at.
            let step = f.step honest h at in
            record {
              after = step.after;
              step = step.step;
              is_at = record {
                shows = step.is_at.shows;
                map = λ usable. step.is_at.map usable;
                rests = λ usable. step.is_at.rests usable;
              };
              survives = λ usable. step.survives usable;
            };
        keeps = record {
          goes = record {
            honesty = f.keeps.goes.honesty;
            later = f.keeps.goes.later;
            bounds =
                f.keeps.goes.bounds;
            capacity = f.keeps.goes.capacity;
            writable =
                f.keeps.goes.writable;
            base = f.keeps.goes.base;
            still = λ broken. f.keeps.goes.still broken;
            reading = λ honest access. f.keeps.goes.reading honest access;
          };
          fault = λ e. f.keeps.fault e;
          no_error = f.keeps.no_error;
          error = f.keeps.error;
          refused = f.keeps.refused;
          kept = λ honest usable. f.keeps.kept honest usable;
          breaks = f.keeps.breaks;
          broken = f.keeps.broken;
        };
        stands = tt;
      })

  -- the database was broken
  pub lends_broken : fault ≡ Broken → (page_state db).usable ≡ false
      → ((h : Handle) → h.state.usable ≡ false → case_of h call ≡ Refuses model.Broken)
      → Lends call (lent_reply none) db r (new error)
  lends_broken told_so broken rule =
      flagged_lends db (subst (λ (f : Fault).
      Lends call (lent_reply none) db (Err f) (with_fault db f)) (sym told_so) record {
        step = λ honest h at. from_own at
            (broken_step s db h.state.map call broken
            (rule (handle_of db h.state.map) broken));
        keeps = broken_keeps (Option (Bor (List ℕ))) s db broken;
        stands = tt;
      })

-- nothing is lent
pub lends_nothing : (most : ℕ) (r : Lent) (fault : Fault) → r ≡ Err fault
    → IfOk r (λ found. IfSome found (λ bytes. length bytes.now ≤ most))
lends_nothing most r fault is = subst
    (λ (x : Lent). IfOk x (λ found. IfSome found (λ bytes. length bytes.now ≤ most))) (sym is) tt
