-- How the commit of what a change staged ends on any device.
use Rattle.std.proofs.Common.{◌≡◌, ◌↔◌, ◌∙◌, inl, inr, ℕ, ◌≤◌, [], true, false, Result, Ok, Err, OnOk, OnErr, IfOk, IfErr, ⊎_elim, sym, ap, arith}
use Rattle.std.proofs.lemmas.Result.{on_err_weaker}
use Rattle.page_model.specs.Pages.{Meta}
use Rattle.page_model.specs.Valid.{IsMeta}
use Rattle.page_io.specs.Answers.{HasDeviceCause, IsCommitAnswer}
use Rattle.page_io.specs.Store.{StoreState}
use Rattle.page_io.specs.Views.{StagesOnly}
use Rattle.page_io.specs.declared.store.PageStore.{Ghosts}
use Rattle.page_io.specs.declared.store.PageFault.{PageFault}
use Rattle.page_io.specs.declared.store.PageFault.TheVariants.{Device}
use Rattle.page_io.proofs.Exits.{both_ways, cause_last}
use Rattle.page_io.specs.Committing.{MayCommit, IsForgotten, IsUntouched}
use Rattle.linear_hash.specs.Holding.{IsCommitted}
use Rattle.linear_hash.specs.Staging.{IsChangeAnswer, IsNewEnd}
use Rattle.linear_hash.proofs.Changing.{change_answer, ok_then}

-- what a commit leaves of a state in which a change was staged
state_then : (old mid new : StoreState) (A : PageFault → Type 0) (r : Result ℕ PageFault)
    (result : Result Unit PageFault) → mid ≡ record old { staged = mid.staged } → old.staged ≡ []
    → IfErr r (λ e. (result ≡ Err e) × A e)
    → IfOk r (λ end. OnOk result (new ≡ record mid { staged = []; end = end }))
    → OnOk result (new ≡ record old { end = new.end })
state_then old mid new A (Ok end) (Ok done) stages idle refused is = λ i. record {
  staged = (ap (λ (s : StoreState). s.staged) is ∙ sym idle) i;
  end = new.end;
  capacity = (ap (λ (s : StoreState). s.capacity) is
      ∙ ap (λ (s : StoreState). s.capacity) stages) i;
  usable = (ap (λ (s : StoreState). s.usable) is ∙ ap (λ (s : StoreState). s.usable) stages) i;
  writable = (ap (λ (s : StoreState). s.writable) is
      ∙ ap (λ (s : StoreState). s.writable) stages) i;
  base = (ap (λ (s : StoreState). s.base) is ∙ ap (λ (s : StoreState). s.base) stages) i;
}
state_then old mid new A r (Err e) stages idle refused is = tt
state_then old mid new A (Err e) (Ok done) stages idle refused is =
    absurd (let x = refused.0 in cc)

forgotten_then : (old mid new : StoreState) (result : Result Unit PageFault)
    → mid ≡ record old { staged = mid.staged } → IfErr result (IsForgotten mid new)
    → IfErr result (IsForgotten old new)
forgotten_then old mid new (Ok done) stages told = tt
forgotten_then old mid new (Err e) stages told = ⊎_elim
    (λ same. inl (same ∙ ap (λ (s : StoreState). record s { staged = [] }) stages))
    (λ broke. inr (
      broke.0,
      broke.1 ∙ ap (λ (s : StoreState). record s { staged = []; usable = false }) stages,
    )) told

cause_of : (old mid new : ℕ) (A : PageFault → Type 0) (r : Result ℕ PageFault)
    (result : Result Unit PageFault) → HasDeviceCause old mid r
    → IfErr r (λ e. (result ≡ Err e) × A e) → IfOk r (λ end. HasDeviceCause mid new result)
    → mid ≤ new → HasDeviceCause old new result
cause_of old mid new A (Ok end) result staged refused cause later =
    cause_last _ _ _ _ staged.later cause
cause_of old mid new A (Err e) result staged refused cause later = record {
  later = omega (arith, staged.later, later);
  fault = λ is.
      let both = sym refused.0 ∙ is in
      let same : e ≡ Device = cc in
      omega (arith, staged.fault (ap Err same), later);
}

module _ {S : Type 0} (s : Ghosts S) (old mid new : S) (after : Meta) (r : Result ℕ PageFault)
    (result : Result Unit PageFault) (stages : StagesOnly s old mid)
    (idle : (s.state old).staged ≡ []) (writable : (s.state old).writable ≡ true) where
  pub committed_so : IsChangeAnswer (s.state old) r
      → HasDeviceCause (s.faults old) (s.faults mid) r → OnOk r (IsMeta after)
      → IfErr r (λ e. (result ≡ Err e) × (s.state new ≡ record (s.state mid) { staged = [] }))
      → IfOk r (λ end. OnOk result
      (s.state new ≡ record (s.state mid) { staged = []; end = end }))
      → IfErr result (IsForgotten (s.state mid) (s.state new))
      → IfOk r (λ end. IsCommitAnswer (s.state mid) end result)
      → IfOk r (λ end. HasDeviceCause (s.faults mid) (s.faults new) result)
      → s.faults mid ≤ s.faults new → (s.honest new ↔ s.honest mid)
      → (s.honest mid → OnErr result ((s.state new).usable ≡ true → IsUntouched s mid new))
      → IsCommitted s old new after result
  committed_so staged caused valid refused ok err answer cause later honesty kept = record {
    ok = state_then (s.state old) (s.state mid) (s.state new) _ r result stages.state idle refused
        ok;
    err = forgotten_then (s.state old) (s.state mid) (s.state new) result stages.state err;
    kept = λ honest. on_err_weaker result
        (λ same usable_now. record {
          committed = (same usable_now).committed ∙ (stages.kept honest).committed;
          still = (same usable_now).still ∙ (stages.kept honest).still;
        })
        (kept (stages.honesty.1 honest));
    valid = ok_then _ _ r result refused valid;
    cause = cause_of _ _ _ _ r result caused refused cause later;
    honesty = both_ways honesty stages.honesty;
    answer = change_answer s old mid new r result stages _ writable staged answer refused;
  }

-- the two parts of an end that can be committed
pub can_commit_so : (old new : StoreState) (r : Result ℕ PageFault) → IfOk r (IsNewEnd old new)
    → IfOk r (MayCommit new)
can_commit_so old new (Ok end) told = told.may_commit
can_commit_so old new (Err e) told = tt

pub grows_so : (old new : StoreState) (r : Result ℕ PageFault) → IfOk r (IsNewEnd old new)
    → IfOk r (λ end. old.end ≤ end)
grows_so old new (Ok end) told = told.grows
grows_so old new (Err e) told = tt
