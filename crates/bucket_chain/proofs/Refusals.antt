-- The answers of the calls below, as answers of a change of a chain.
use Rattle.std.proofs.Common.{◌≡◌, ◌⊎◌, inl, inr, ℕ, ◌+◌, ◌≤◌, false, length, Result, Ok, Err, refl, sym, ap, ◌∙◌, arith}
use Rattle.std.specs.Prelude.{IsErrOf}
use Rattle.page_io.specs.Answers.{HasDeviceCause, IsStageAnswer}
use Rattle.page_io.specs.Store.{StoreState}
use Rattle.page_io.specs.declared.store.PageFault.{PageFault}
use Rattle.page_io.specs.declared.store.PageFault.TheVariants.{Memory, Device, Broken, NoRoom, Damaged}
use Rattle.page_io.proofs.Exits.{came, if_exit}
use Rattle.free_pages.specs.Answers.{IsTakeAnswer, IsGiveAnswer}
use Rattle.free_pages.specs.declared.free_state.FreeState.{FreeState}
use Rattle.bucket_chain.specs.WalkAnswers.{IsWalkAnswer}
use Rattle.bucket_chain.specs.Answers.{IsPutAnswer, IsRemoveAnswer, IsStoreAnswer}

-- the faults of a walk, of a remove and of a put
abbrev OfWalk : PageFault → Type 0
OfWalk e = (e ≡ Broken) ⊎ ((e ≡ Damaged) ⊎ (e ≡ Device))

abbrev OfRemove : PageFault → Type 0
OfRemove e = (e ≡ Broken) ⊎ ((e ≡ Memory) ⊎ ((e ≡ Damaged) ⊎ (e ≡ Device)))

abbrev OfPut : PageFault → Type 0
OfPut e = (e ≡ Broken) ⊎ ((e ≡ Memory) ⊎ ((e ≡ NoRoom) ⊎ ((e ≡ Damaged) ⊎ (e ≡ Device))))

remove_put : (e : PageFault) → OfRemove e → OfPut e
remove_put e (inl is) = inl is
remove_put e (inr (inl is)) = inr (inl is)
remove_put e (inr (inr is)) = inr (inr (inr is))

walk_remove : (e : PageFault) → OfWalk e → OfRemove e
walk_remove e (inl is) = inl is
walk_remove e (inr is) = inr (inr is)

take_put : (e : PageFault) → (e ≡ NoRoom)
    ⊎ ((e ≡ Broken) ⊎ ((e ≡ Damaged) ⊎ (e ≡ Device))) → OfPut e
take_put e (inl is) = inr (inr (inl is))
take_put e (inr (inl is)) = inl is
take_put e (inr (inr is)) = inr (inr (inr is))

give_remove : (e : PageFault) → (e ≡ Damaged) ⊎ ((e ≡ Broken) ⊎ (e ≡ Memory)) → OfRemove e
give_remove e (inl is) = inr (inr (inl is))
give_remove e (inr (inl is)) = inl is
give_remove e (inr (inr is)) = inr (inl is)

stage_remove : (e : PageFault) → (e ≡ Broken) ⊎ (e ≡ Memory) → OfRemove e
stage_remove e (inl is) = inl is
stage_remove e (inr is) = inr (inl is)

no_memory : (e : PageFault) → OfWalk e → e ≡ Memory → ⊥
no_memory e (inl is) memory = cc
no_memory e (inr (inl is)) memory = cc
no_memory e (inr (inr is)) memory = cc

take_no_memory : (e : PageFault) → (e ≡ NoRoom) ⊎ ((e ≡ Broken) ⊎ ((e ≡ Damaged) ⊎ (e ≡ Device)))
    → e ≡ Memory → ⊥
take_no_memory e (inl is) memory = cc
take_no_memory e (inr (inl is)) memory = cc
take_no_memory e (inr (inr (inl is))) memory = cc
take_no_memory e (inr (inr (inr is))) memory = cc

has_room : (e : PageFault) → OfRemove e → e ≡ NoRoom → ⊥
has_room e (inl is) none = cc
has_room e (inr (inl is)) none = cc
has_room e (inr (inr (inl is))) none = cc
has_room e (inr (inr (inr is))) none = cc

the_fault : {T : Type 0} (e fault : PageFault) → IsErrOf {T = T} (Err e) fault → e ≡ fault
the_fault e fault is = cc

-- calls that take no page
module _ {T : Type 0} (state : StoreState) (e : PageFault) where
  pub walk_has_room : IsWalkAnswer {T = T} state (Err e) → IsErrOf {T = T} (Err e) NoRoom → ⊥
  walk_has_room answer is = has_room e (walk_remove e answer.only) (the_fault e NoRoom is)

  pub give_has_room : (reserved n : ℕ) (space : FreeState)
      → IsGiveAnswer {T = T} reserved state space n (Err e) → IsErrOf {T = T} (Err e) NoRoom → ⊥
  give_has_room reserved n space answer is =
      has_room e (give_remove e answer.only) (the_fault e NoRoom is)

is_fault : {T : Type 0} (result : Result T PageFault) (e : PageFault) → result ≡ Err e
    → (fault : PageFault) → IsErrOf result fault → e ≡ fault
is_fault result e exit fault is = let both = sym exit ∙ is in cc

-- the exit of a `?`, in a state that is usable where the one at the start was
module _ {T U : Type 0} (old mid : StoreState) (same : mid.usable ≡ old.usable)
    (result : Result T PageFault) (e : PageFault) (exit : result ≡ Err e) where
  is_broken : (IsErrOf {T = U} (Err e) Broken → mid.usable ≡ false) → IsErrOf result Broken
      → old.usable ≡ false
  is_broken broken is = sym same ∙ broken (came {U = U} result e exit Broken is)

  pub walk_walks : IsWalkAnswer {T = U} mid (Err e) → IsWalkAnswer old result
  walk_walks answer = record {
    broken = is_broken answer.broken;
    only =
        if_exit OfWalk result e exit answer.only;
  }

  -- of a put
  pub walk_puts : (reserved pages : ℕ) (space : FreeState) → IsWalkAnswer {T = U} mid (Err e)
      → IsPutAnswer reserved pages old space result
  walk_puts reserved pages space answer = record {
    broken = is_broken answer.broken;
    memory = λ is. absurd (no_memory e answer.only (is_fault result e exit Memory is));
    no_room = λ is. absurd (has_room e (walk_remove e answer.only)
        (is_fault result e exit NoRoom is));
    only = if_exit OfPut result e exit (remove_put e (walk_remove e answer.only));
  }

  pub take_puts : (reserved : ℕ) (space : FreeState) → mid.capacity ≡ old.capacity
      → IsTakeAnswer {T = U} mid space (Err e) → IsPutAnswer reserved 1 old space result
  take_puts reserved space capacity answer = record {
    broken = is_broken answer.broken;
    memory = λ is. absurd (take_no_memory e answer.only (is_fault result e exit Memory is));
    no_room = λ is. let full = answer.no_room.0 (came {U = U} result e exit NoRoom is) in
        (omega (arith, full.3, capacity), λ one. full.0);
    only = if_exit OfPut result e exit (take_put e answer.only);
  }

  pub stage_puts : (reserved pages n : ℕ) (space : FreeState)
      → length mid.staged ≤ length old.staged + pages
      → IsStageAnswer {T = U} reserved mid n (Err e) → IsPutAnswer reserved pages old space result
  stage_puts reserved pages n space few answer = record {
    broken = is_broken answer.broken.0;
    memory = λ is. omega (arith, few, (answer.memory (came {U = U} result e exit Memory is)).1);
    no_room = λ is. absurd (has_room e (stage_remove e answer.only)
        (is_fault result e exit NoRoom is));
    only = if_exit OfPut result e exit (remove_put e (stage_remove e answer.only));
  }

  -- of a remove
  pub walk_removes : (reserved pages : ℕ) → IsWalkAnswer {T = U} mid (Err e)
      → IsRemoveAnswer reserved pages old result
  walk_removes reserved pages answer = record {
    broken = is_broken answer.broken;
    memory = λ is. absurd (no_memory e answer.only (is_fault result e exit Memory is));
    only = if_exit OfRemove result e exit (walk_remove e answer.only);
  }

  pub relink_removes : (reserved more pages : ℕ)
      → length mid.staged + more ≤ length old.staged + pages
      → IsRemoveAnswer {T = U} reserved more mid (Err e) → IsRemoveAnswer reserved pages old result
  relink_removes reserved more pages few answer = record {
    broken = is_broken answer.broken;
    memory = λ is. omega (arith, few, answer.memory (came {U = U} result e exit Memory is));
    only = if_exit OfRemove result e exit answer.only;
  }

  pub give_removes : (reserved pages n : ℕ) (space : FreeState)
      → length mid.staged ≤ length old.staged + pages
      → IsGiveAnswer {T = U} reserved mid space n (Err e)
      → IsRemoveAnswer reserved pages old result
  give_removes reserved pages n space few answer = record {
    broken = is_broken answer.broken;
    memory = λ is. omega (arith, few, (answer.memory (came {U = U} result e exit Memory is)).1);
    only = if_exit OfRemove result e exit (give_remove e answer.only);
  }

  pub stage_removes : (reserved pages n : ℕ) → length mid.staged ≤ length old.staged + pages
      → IsStageAnswer {T = U} reserved mid n (Err e) → IsRemoveAnswer reserved pages old result
  stage_removes reserved pages n few answer = record {
    broken = is_broken answer.broken.0;
    memory = λ is. omega (arith, few, (answer.memory (came {U = U} result e exit Memory is)).1);
    only = if_exit OfRemove result e exit (stage_remove e answer.only);
  }

  -- of a chain stored anew
  pub walk_stores : IsWalkAnswer {T = U} mid (Err e) → IsStoreAnswer old result
  walk_stores answer = record {
    broken = is_broken answer.broken;
    only =
        if_exit OfPut result e exit (remove_put e (walk_remove e answer.only));
  }

  pub give_stores : (reserved n : ℕ) (space : FreeState)
      → IsGiveAnswer {T = U} reserved mid space n (Err e) → IsStoreAnswer old result
  give_stores reserved n space answer =
      record {
        broken = is_broken answer.broken;
        only =
            if_exit OfPut result e exit (remove_put e (give_remove e answer.only));
      }

  pub put_stores : (reserved pages : ℕ) (space : FreeState)
      → IsPutAnswer {T = U} reserved pages mid space (Err e) → IsStoreAnswer old result
  put_stores reserved pages space answer =
      record { broken = is_broken answer.broken; only = if_exit OfPut result e exit answer.only }

  pub store_stores : IsStoreAnswer {T = U} mid (Err e) → IsStoreAnswer old result
  store_stores answer = record {
    broken = is_broken answer.broken;
    only =
        if_exit OfPut result e exit answer.only;
  }

-- of the device's faults, where a page was to be given
pub cause_give : {T U : Type 0} (result : Result T PageFault) (e : PageFault) → result ≡ Err e
    → (before mid now : ℕ) → before ≤ mid → now ≡ mid
    → (reserved n : ℕ) (state : StoreState) (space : FreeState)
    → IsGiveAnswer {T = U} reserved state space n (Err e) → HasDeviceCause before now result
cause_give {T} {U} result e exit before mid now le same reserved n state space answer = record {
  later = omega (arith, le, same);
  fault = λ is. absurd (no_device e answer.only (is_fault result e exit Device is));
}
  where
    no_device : (e : PageFault) → (e ≡ Damaged) ⊎ ((e ≡ Broken) ⊎ (e ≡ Memory)) → e ≡ Device → ⊥
    no_device e (inl is) device = cc
    no_device e (inr (inl is)) device = cc
    no_device e (inr (inr is)) device = cc

-- the answer of the last stage is the answer
module _ {T : Type 0} (reserved pages n : ℕ) (old mid : StoreState)
    (same : mid.usable ≡ old.usable) where
  pub stage_puts_last : (space : FreeState) (result : Result T PageFault)
      → length mid.staged ≤ length old.staged + pages → IsStageAnswer reserved mid n result
      → IsPutAnswer reserved pages old space result
  stage_puts_last space (Ok x) few answer =
      record { broken = λ is. cc; memory = λ is. cc; no_room = λ is. cc; only = tt }
  stage_puts_last space (Err e) few answer =
      stage_puts {U = T} old mid same (Err e) e (λ i. Err e) reserved pages n space few answer

  pub stage_removes_last : (result : Result T PageFault)
      → length mid.staged ≤ length old.staged + pages
      → IsStageAnswer reserved mid n result → IsRemoveAnswer reserved pages old result
  stage_removes_last (Ok x) few answer = record { broken = λ is. cc; memory = λ is. cc; only = tt }
  stage_removes_last (Err e) few answer = stage_removes {U = T} old mid same (Err e) e (λ i. Err e)
      reserved pages n few answer

  pub stage_stores_last : (result : Result T PageFault) → IsStageAnswer reserved mid n result
      → IsStoreAnswer old result
  stage_stores_last (Ok x) answer = record { broken = λ is. cc; only = tt }
  stage_stores_last (Err e) answer =
      record {
        broken = λ is. sym same ∙ answer.broken.0 is;
        only =
            remove_put e (stage_remove e answer.only);
      }

-- and so is that of the last call
pub stores_last : {T : Type 0} (old mid : StoreState) (result : Result T PageFault)
    → mid.usable ≡ old.usable → IsStoreAnswer mid result → IsStoreAnswer old result
stores_last old mid result same answer =
    record { broken = λ is. sym same ∙ answer.broken is; only = answer.only }

-- all calls went well
pub no_walk_refusal : {T : Type 0} (old : StoreState) (x : T) → IsWalkAnswer {T = T} old (Ok x)
no_walk_refusal old x = record { broken = λ is. cc; only = tt }

pub no_store_refusal : {T : Type 0} (old : StoreState) (x : T) → IsStoreAnswer {T = T} old (Ok x)
no_store_refusal old x = record { broken = λ is. cc; only = tt }

pub no_fault : {T : Type 0} (x : T) (fault : PageFault) → IsErrOf {T = T} (Ok x) fault → ⊥
no_fault x fault is = cc

pub no_remove_refusal : {T : Type 0} (reserved pages : ℕ) (old : StoreState) (x : T)
    → IsRemoveAnswer {T = T} reserved pages old (Ok x)
no_remove_refusal reserved pages old x = record { broken = λ is. cc; memory = λ is. cc; only = tt }

-- the walk was longer than it may be
pub long_walk : {T : Type 0} (old : StoreState) → IsWalkAnswer {T = T} old (Err Damaged)
long_walk old = record { broken = λ is. cc; only = inr (inl refl) }

pub long_walk_stores : {T : Type 0} (old : StoreState) → IsStoreAnswer {T = T} old (Err Damaged)
long_walk_stores old = record { broken = λ is. cc; only = inr (inr (inr (inl refl))) }

pub long_walk_cause : {T : Type 0} (before now : ℕ) → before ≤ now
    → HasDeviceCause {T = T} before now (Err Damaged)
long_walk_cause before now le = record { later = le; fault = λ is. cc }

pub long_walk_has_room : {T : Type 0} → IsErrOf {T = T} (Err Damaged) NoRoom → ⊥
long_walk_has_room is = cc

-- how many pages are staged, after a read and after one call more
pub few_same : (old new : StoreState) (more : ℕ) → new ≡ old
    → length new.staged ≤ length old.staged + more
few_same old new more same = omega (arith, ap (λ (s : StoreState). length s.staged) same)

pub staged_same : (old new : StoreState) → new ≡ old → length new.staged ≤ length old.staged
staged_same old new same = omega (arith, ap (λ (s : StoreState). length s.staged) same)

pub few_then : (old mid : StoreState) (new more : ℕ) → mid ≡ old → new ≤ length mid.staged + more
    → new ≤ length old.staged + more
few_then old mid new more same few =
    omega (arith, few, ap (λ (s : StoreState). length s.staged) same)

pub few_both : (old mid new : ℕ) → mid ≤ old + 1 → new ≤ mid + 1 → new ≤ old + 2
few_both old mid new one two = omega (arith, one, two)

pub few_more : (old new : ℕ) → new ≤ old + 1 → new ≤ old + 2
few_more old new one = omega (arith, one)
