-- The answers of the calls below, as answers of this crate's calls.
use Rattle.std.proofs.Common.{◌≡◌, ◌⊎◌, inl, inr, ℕ, ◌+◌, ◌≤◌, false, length, Result, Ok, Err, sym, ap, ◌∙◌, subst, arith}
use Rattle.std.specs.Prelude.{IsErrOf}
use Rattle.page_io.specs.Answers.{HasDeviceCause, IsReadAnswer, IsStageAnswer}
use Rattle.page_io.specs.Store.{StoreState}
use Rattle.page_io.specs.declared.store.PageFault.{PageFault}
use Rattle.page_io.specs.declared.store.PageFault.TheVariants.{Memory, Device, Broken, NoRoom, Damaged}
use Rattle.page_io.proofs.Exits.{came, if_exit}
use Rattle.free_pages.specs.Answers.{IsTakeAnswer}
use Rattle.free_pages.specs.declared.free_state.FreeState.{FreeState}
use Rattle.seg_table.specs.Answers.{IsHeadAnswer, IsSetAnswer}

-- the faults of a read, of a take and of all calls
abbrev OfHead : PageFault → Type 0
OfHead e = (e ≡ Broken) ⊎ ((e ≡ Damaged) ⊎ (e ≡ Device))

abbrev OfTake : PageFault → Type 0
OfTake e = (e ≡ NoRoom) ⊎ ((e ≡ Broken) ⊎ ((e ≡ Damaged) ⊎ (e ≡ Device)))

abbrev OfStage : PageFault → Type 0
OfStage e = (e ≡ Broken) ⊎ (e ≡ Memory)

abbrev OfSet : PageFault → Type 0
OfSet e = (e ≡ Broken) ⊎ ((e ≡ Memory) ⊎ ((e ≡ NoRoom) ⊎ ((e ≡ Damaged) ⊎ (e ≡ Device))))

head_take : (e : PageFault) → OfHead e → OfTake e
head_take e is = inr is

take_set : (e : PageFault) → OfTake e → OfSet e
take_set e (inl is) = inr (inr (inl is))
take_set e (inr (inl is)) = inl is
take_set e (inr (inr is)) = inr (inr (inr is))

stage_set : (e : PageFault) → OfStage e → OfSet e
stage_set e (inl is) = inl is
stage_set e (inr is) = inr (inl is)

-- tells one fault from the others
abbrev IsNotMemory : PageFault → Type 0
IsNotMemory Memory = ⊥
IsNotMemory e = Unit {0}

abbrev IsNotNoRoom : PageFault → Type 0
IsNotNoRoom NoRoom = ⊥
IsNotNoRoom e = Unit {0}

no_memory : (e : PageFault) → OfTake e → e ≡ Memory → ⊥
no_memory e (inl is) memory = subst IsNotMemory (sym is ∙ memory) tt
no_memory e (inr (inl is)) memory = subst IsNotMemory (sym is ∙ memory) tt
no_memory e (inr (inr (inl is))) memory = subst IsNotMemory (sym is ∙ memory) tt
no_memory e (inr (inr (inr is))) memory = subst IsNotMemory (sym is ∙ memory) tt

head_has_room : (e : PageFault) → OfHead e → e ≡ NoRoom → ⊥
head_has_room e (inl is) none = subst IsNotNoRoom (sym is ∙ none) tt
head_has_room e (inr (inl is)) none = subst IsNotNoRoom (sym is ∙ none) tt
head_has_room e (inr (inr is)) none = subst IsNotNoRoom (sym is ∙ none) tt

stage_has_room : (e : PageFault) → OfStage e → e ≡ NoRoom → ⊥
stage_has_room e (inl is) none = subst IsNotNoRoom (sym is ∙ none) tt
stage_has_room e (inr is) none = subst IsNotNoRoom (sym is ∙ none) tt

is_fault : {T : Type 0} (result : Result T PageFault) (e : PageFault) → result ≡ Err e
    → (fault : PageFault) → IsErrOf result fault → e ≡ fault
is_fault result e exit fault is = let both = sym exit ∙ is in cc

-- the exit of a `?`, in a state that is the one at the start
module _ {T U : Type 0} (old mid : StoreState) (same : mid ≡ old) (result : Result T PageFault)
    (e : PageFault) (exit : result ≡ Err e) where
  is_broken : (IsErrOf {T = U} (Err e) Broken → mid.usable ≡ false) → IsErrOf result Broken
      → old.usable ≡ false
  is_broken broken is = ap (λ (s : StoreState). s.usable) (sym same)
      ∙ broken (came {U = U} result e exit Broken is)

  pub read_heads : (n : ℕ) → IsReadAnswer {T = U} mid n (Err e) → IsHeadAnswer old result
  read_heads n answer = record {
    broken = is_broken answer.broken.0;
    only =
        if_exit OfHead result e exit answer.only;
  }

  pub head_heads : IsHeadAnswer {T = U} mid (Err e) → IsHeadAnswer old result
  head_heads answer = record {
    broken = is_broken answer.broken;
    only =
        if_exit OfHead result e exit answer.only;
  }

  pub take_sets : (reserved : ℕ) (space : FreeState) → IsTakeAnswer {T = U} mid space (Err e)
      → IsSetAnswer reserved old space result
  take_sets reserved space answer = record {
    broken = is_broken answer.broken;
    memory = λ is. absurd (no_memory e answer.only (is_fault result e exit Memory is));
    no_room = λ is. let full = answer.no_room.0 (came {U = U} result e exit NoRoom is) in
        (full.0, omega (arith, full.3, ap (λ (s : StoreState). s.capacity) same));
    only = if_exit OfSet result e exit (take_set e answer.only);
  }

  pub head_sets : (reserved : ℕ) (space : FreeState) → IsHeadAnswer {T = U} mid (Err e)
      → IsSetAnswer reserved old space result
  head_sets reserved space answer = record {
    broken = is_broken answer.broken;
    memory = λ is. absurd (no_memory e (head_take e answer.only)
        (is_fault result e exit Memory is));
    no_room = λ is. absurd (head_has_room e answer.only (is_fault result e exit NoRoom is));
    only = if_exit OfSet result e exit (take_set e (head_take e answer.only));
  }

  pub stage_sets : (reserved n : ℕ) (space : FreeState)
      → IsStageAnswer {T = U} reserved mid n (Err e) → IsSetAnswer reserved old space result
  stage_sets reserved n space answer = record {
    broken = is_broken answer.broken.0;
    memory = λ is. omega (
      arith,
      (answer.memory (came {U = U} result e exit Memory is)).1,
      ap (λ (s : StoreState). length s.staged) same,
    );
    no_room = λ is. absurd (stage_has_room e answer.only (is_fault result e exit NoRoom is));
    only = if_exit OfSet result e exit (stage_set e answer.only);
  }

-- the answer of the last stage is the answer
pub stage_sets_last : {T : Type 0} (reserved n : ℕ) (old mid : StoreState) (space : FreeState)
    (result : Result T PageFault) → mid ≡ old → IsStageAnswer reserved mid n result
    → IsSetAnswer reserved old space result
stage_sets_last reserved n old mid space (Ok x) same answer =
    record { broken = λ is. cc; memory = λ is. cc; no_room = λ is. cc; only = tt }
stage_sets_last {T} reserved n old mid space (Err e) same answer =
    stage_sets {U = T} old mid same (Err e) e (λ i. Err e) reserved n space answer

-- all calls went well
pub no_set_refusal : {T : Type 0} (reserved : ℕ) (old : StoreState) (space : FreeState) (x : T)
    → IsSetAnswer {T = T} reserved old space (Ok x)
no_set_refusal reserved old space x =
    record { broken = λ is. cc; memory = λ is. cc; no_room = λ is. cc; only = tt }

pub no_head_refusal : {T : Type 0} (old : StoreState) (x : T) → IsHeadAnswer {T = T} old (Ok x)
no_head_refusal old x = record { broken = λ is. cc; only = tt }

-- the page is no segment's
pub damaged_heads : {T : Type 0} (old : StoreState) → IsHeadAnswer {T = T} old (Err Damaged)
damaged_heads old = record { broken = λ is. cc; only = inr (inl (λ i. Damaged)) }

pub cause_damaged : {T : Type 0} (before now : ℕ) → before ≤ now
    → HasDeviceCause {T = T} before now (Err Damaged)
cause_damaged before now le = record { later = le; fault = λ is. cc }

-- as many pages are staged
pub few_same : (old new : StoreState) (more : ℕ) → new ≡ old
    → length new.staged ≤ length old.staged + more
few_same old new more same = omega (arith, ap (λ (s : StoreState). length s.staged) same)
