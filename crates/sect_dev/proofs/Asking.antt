-- What the system is asked for.
use Rattle.std.proofs.Common.{◌≡◌, ◌∙◌, ℕ, Bool, List, Result, inl, sym, ap, subst}
use Rattle.sect_dev.specs.declared.file_dev.FileDev.{FileDev}
use Rattle.sect_dev.specs.Device.{HasCause}
use Rattle.sect_dev.specs.File.{IsNextChange, IsChanged, IsSame, AsksSystem}
use Rattle.sect_dev.specs.FileHistory.Change.{Writes, Syncs}

-- a write of these bytes, from that place on, answered so
next_write : (dev : FileDev) (at from : ℕ) (bytes : List ℕ) (ok answer : Bool) → at ≡ from
    → ok ≡ answer
    → IsNextChange dev (Writes at bytes answer) → IsNextChange dev (Writes from bytes ok)
next_write dev at from bytes ok answer place is next recorded =
    next recorded ∙ ap (λ (byte : ℕ). Writes byte bytes answer) place
    ∙ ap (Writes from bytes) (sym is)

-- a change, and then a look at its answer
module _ (old mid new : FileDev) (ok answer : Bool) (is : ok ≡ answer) (same : IsSame mid new) where
  pub asked_to_write : (at from : ℕ) (bytes : List ℕ) → at ≡ from
      → IsChanged old mid (Writes at bytes answer)
      → AsksSystem old new (Writes from bytes ok) ok
  asked_to_write at from bytes place done = record {
    file = same.file ∙ done.file;
    answered = inl (
      same.changes ∙ done.changes,
      next_write old at from bytes ok answer place is done.next,
    );
  }

  pub asked_to_sync : IsChanged old mid (Syncs answer) → AsksSystem old new (Syncs ok) ok
  asked_to_sync done = record {
    file = same.file ∙ done.file;
    answered = inl (
      same.changes ∙ done.changes,
      λ recorded.
          done.next recorded ∙ ap Syncs (sym is),
    );
  }

-- where no fault was counted before
pub cause_since : {T E : Type 0} (result : Result T E) (before mid now : ℕ) → mid ≡ before
    → HasCause mid now result
    → HasCause before now result
cause_since result before mid now same cause = subst (λ (k : ℕ). HasCause k now result) same cause
