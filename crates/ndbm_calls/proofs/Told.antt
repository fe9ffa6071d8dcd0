-- A call whose reply is told by a status.
use Rattle.std.proofs.Common.{◌≡◌, ℕ, ℤ, List, [], inl, inr, Some, None, Result, Ok, Err, refl, ◌∙◌}
use Rattle.page_io.specs.declared.store.PageStore.{Ghosts}
use Rattle.dbm_model.specs.Calls.{Call, NoRecord, End}
use Rattle.dbm_fault.specs.declared.fault.Fault.{Fault}
use Rattle.dbm_file.specs.Answers.{IsStep, IsCallEnded}
use Rattle.dbm_file.specs.Calls.{Lent, store_reply, delete_reply, lent_reply}
use Rattle.dbm_file.specs.Database.{AtEachHandle}
use Rattle.dbm_file.specs.Lending.{Lends}
use Rattle.dbm_file.specs.declared.calls.StoreReply.{StoreReply}
use Rattle.dbm_file.specs.declared.calls.StoreReply.TheVariants as stored
use Rattle.dbm_file.specs.declared.calls.DeleteReply.{DeleteReply}
use Rattle.dbm_file.specs.declared.calls.DeleteReply.TheVariants as deleted
use Rattle.dbm_file.specs.declared.database.Database.{Database}
use Rattle.ndbm_calls.specs.Statuses.{status_of, GivesBytes, AnswerTells, IsAnswered}
use Rattle.ndbm_calls.proofs.Ended.{done_of, ended}

-- what a store and a delete answer, and that no bytes come with it
store_tells : (r : Result StoreReply Fault) → AnswerTells (done_of r) (status_of (store_reply r))
store_tells (Ok stored.Stored) = inl refl
store_tells (Ok stored.Kept) = inr refl
store_tells (Err fault) = refl

store_gives : (r : Result StoreReply Fault) → GivesBytes (store_reply r) []
store_gives (Ok stored.Stored) = tt
store_gives (Ok stored.Kept) = tt
store_gives (Err fault) = tt

delete_tells : (r : Result DeleteReply Fault)
    → AnswerTells (done_of r) (status_of (delete_reply r))
delete_tells (Ok deleted.Deleted) = inl refl
delete_tells (Ok deleted.Absent) = inr refl
delete_tells (Err fault) = refl

delete_gives : (r : Result DeleteReply Fault) → GivesBytes (delete_reply r) []
delete_gives (Ok deleted.Deleted) = tt
delete_gives (Ok deleted.Absent) = tt
delete_gives (Err fault) = tt

-- what a call answers that lends bytes
lent_tells : (r : Lent) → AnswerTells (done_of r) (status_of (lent_reply NoRecord r))
lent_tells (Ok None) = inr refl
lent_tells (Ok (Some bytes)) = inl refl
lent_tells (Err fault) = refl

-- the end of a pass has the status of a key that is not there
same_status : (r : Lent) → status_of (lent_reply NoRecord r) ≡ status_of (lent_reply End r)
same_status (Ok None) = refl
same_status (Ok (Some bytes)) = refl
same_status (Err fault) = refl

same_bytes : (r : Lent) (bytes : List ℕ) → GivesBytes (lent_reply NoRecord r) bytes
    → GivesBytes (lent_reply End r) bytes
same_bytes (Ok None) bytes gives = tt
same_bytes (Ok (Some lent)) bytes gives = gives
same_bytes (Err fault) bytes gives = tt

module _ {S : Type 0} {s : Ghosts S} (old new : Database S s) (call : Call) (status : ℤ) where
  pub store_answered : (r : Result StoreReply Fault) → status ≡ status_of (store_reply r)
      → AtEachHandle old (λ h. IsStep old new h call (store_reply r)) → IsCallEnded old new r
      → IsAnswered old new call status []
  store_answered r is step keeps = record {
    step = λ honest h at. (store_reply r, is, store_gives r, step honest h at);
    ends = ended old new r status _ is (store_tells r) keeps;
  }

  pub delete_answered : (r : Result DeleteReply Fault) → status ≡ status_of (delete_reply r)
      → AtEachHandle old (λ h. IsStep old new h call (delete_reply r)) → IsCallEnded old new r
      → IsAnswered old new call status []
  delete_answered r is step keeps = record {
    step = λ honest h at. (delete_reply r, is, delete_gives r, step honest h at);
    ends = ended old new r status _ is (delete_tells r) keeps;
  }

  -- the bytes that were lent, or that there are none
  pub content_answered : (r : Lent) (bytes : List ℕ) → status ≡ status_of (lent_reply NoRecord r)
      → GivesBytes (lent_reply NoRecord r) bytes → Lends call (lent_reply NoRecord) old r new
      → IsAnswered old new call status bytes
  content_answered r bytes is gives lends = record {
    step = λ honest h at. (lent_reply NoRecord r, is, gives, lends.step honest h at);
    ends = ended old new r status _ is (lent_tells r) lends.keeps;
  }

  -- or that the pass is at its end
  pub key_answered : (r : Lent) (bytes : List ℕ) → status ≡ status_of (lent_reply NoRecord r)
      → GivesBytes (lent_reply NoRecord r) bytes → Lends call (lent_reply End) old r new
      → IsAnswered old new call status bytes
  key_answered r bytes is gives lends = record {
    step = λ honest h at.
        (lent_reply End r, is ∙ same_status r, same_bytes r bytes gives, lends.step honest h at);
    ends = ended old new r status _ is (lent_tells r) lends.keeps;
  }
