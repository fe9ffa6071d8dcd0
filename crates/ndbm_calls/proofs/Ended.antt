-- A call that ended, as its status tells it.
use Rattle.std.proofs.Common.{◌≡◌, ℤ, Result, Ok, Err, sym, subst}
use Rattle.page_io.specs.declared.store.PageStore.{Ghosts}
use Rattle.dbm_fault.specs.declared.fault.Fault.{Fault}
use Rattle.dbm_file.specs.Answers.{IsCallEnded}
use Rattle.dbm_file.specs.declared.database.Database.{Database}
use Rattle.dbm_file.proofs.PassSteps.{keeps_as, keeps_err}
use Rattle.ndbm_calls.specs.Statuses.{AnswerTells, DoneTells, IsDone, IsEnded}

-- whether it was refused, without its answer
abbrev pub done_of : {T : Type 0} → Result T Fault → Result Unit Fault
done_of (Ok answer) = Ok tt
done_of (Err fault) = Err fault

module _ {S : Type 0} {s : Ghosts S} (old new : Database S s) where
  keeps_done : {T : Type 0} (r : Result T Fault) → IsCallEnded old new r
      → IsCallEnded old new (done_of r)
  keeps_done (Ok answer) keeps = keeps_as answer tt keeps
  keeps_done (Err fault) keeps = keeps_err fault keeps

  pub ended : {T : Type 0} (r : Result T Fault) (status told : ℤ) → status ≡ told
      → AnswerTells (done_of r) told → IsCallEnded old new r → IsEnded old new status
  ended r status told is tells keeps = record {
    answer = done_of r;
    ended = keeps_done r keeps;
    told = subst (AnswerTells (done_of r)) (sym is) tells;
  }

  pub is_done : {T : Type 0} (r : Result T Fault) (status told : ℤ) → status ≡ told
      → DoneTells (done_of r) told → IsCallEnded old new r → IsDone old new status
  is_done r status told is tells keeps = record {
    answer = done_of r;
    ended = keeps_done r keeps;
    told = subst (DoneTells (done_of r)) (sym is) tells;
  }
