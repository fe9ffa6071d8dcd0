-- The answers of the calls below, as answers of a change.
use Rattle.std.proofs.Common.{◌≡◌, ◌⊎◌, inl, inr, ℕ, false, Result, Ok, Err, sym, ◌∙◌}
use Rattle.std.specs.Prelude.{IsErrOf}
use Rattle.page_io.specs.Answers.{IsStageAnswer}
use Rattle.page_io.specs.Store.{StoreState}
use Rattle.page_io.specs.declared.store.PageFault.{PageFault}
use Rattle.page_io.specs.declared.store.PageFault.TheVariants.{Memory, Device, Broken, NoRoom, Damaged}
use Rattle.page_io.proofs.Exits.{came, if_exit}
use Rattle.free_pages.specs.Answers.{IsTakeAnswer}
use Rattle.free_pages.specs.declared.free_state.FreeState.{FreeState}
use Rattle.seg_table.specs.Answers.{IsHeadAnswer, IsSetAnswer}
use Rattle.bucket_chain.specs.WalkAnswers.{IsWalkAnswer, IsLoadAnswer}
use Rattle.bucket_chain.specs.Answers.{IsPutAnswer, IsRemoveAnswer, IsStoreAnswer}
use Rattle.linear_hash.specs.Staging.{IsChangeAnswer}

-- a fault of a change
abbrev IsChangeFault : PageFault → Type 0
IsChangeFault e = (e ≡ Broken) ⊎ ((e ≡ Memory) ⊎ ((e ≡ NoRoom) ⊎ ((e ≡ Damaged) ⊎ (e ≡ Device))))

of_head : (e : PageFault) → (e ≡ Broken) ⊎ ((e ≡ Damaged) ⊎ (e ≡ Device)) → IsChangeFault e
of_head e (inl is) = inl is
of_head e (inr (inl is)) = inr (inr (inr (inl is)))
of_head e (inr (inr is)) = inr (inr (inr (inr is)))

of_load : (e : PageFault) → (e ≡ Memory) ⊎ ((e ≡ Broken) ⊎ ((e ≡ Damaged) ⊎ (e ≡ Device)))
    → IsChangeFault e
of_load e (inl is) = inr (inl is)
of_load e (inr (inl is)) = inl is
of_load e (inr (inr (inl is))) = inr (inr (inr (inl is)))
of_load e (inr (inr (inr is))) = inr (inr (inr (inr is)))

of_take : (e : PageFault) → (e ≡ NoRoom) ⊎ ((e ≡ Broken) ⊎ ((e ≡ Damaged) ⊎ (e ≡ Device)))
    → IsChangeFault e
of_take e (inl is) = inr (inr (inl is))
of_take e (inr (inl is)) = inl is
of_take e (inr (inr (inl is))) = inr (inr (inr (inl is)))
of_take e (inr (inr (inr is))) = inr (inr (inr (inr is)))

of_stage : (e : PageFault) → (e ≡ Broken) ⊎ (e ≡ Memory) → IsChangeFault e
of_stage e (inl is) = inl is
of_stage e (inr is) = inr (inl is)

of_remove : (e : PageFault) → (e ≡ Broken) ⊎ ((e ≡ Memory) ⊎ ((e ≡ Damaged) ⊎ (e ≡ Device)))
    → IsChangeFault e
of_remove e (inl is) = inl is
of_remove e (inr (inl is)) = inr (inl is)
of_remove e (inr (inr (inl is))) = inr (inr (inr (inl is)))
of_remove e (inr (inr (inr is))) = inr (inr (inr (inr is)))

pub head_no_memory : {T : Type 0} (e : PageFault) → (e ≡ Broken) ⊎ ((e ≡ Damaged) ⊎ (e ≡ Device))
    → IsErrOf {T = T} (Err e) Memory → ⊥
head_no_memory e (inl broken) is = cc
head_no_memory e (inr (inl damaged)) is = cc
head_no_memory e (inr (inr device)) is = cc

-- the exit of a `?`, in a state that is usable where the one at the start was
module _ {T U : Type 0} (old mid : StoreState) (same : mid.usable ≡ old.usable)
    (result : Result T PageFault) (e : PageFault) (exit : result ≡ Err e) where
  refused : (IsErrOf {T = U} (Err e) Broken → mid.usable ≡ false) → IsChangeFault e
      → IsChangeAnswer old result
  refused broken only = record {
    broken = λ is. sym same ∙ broken (came {U = U} result e exit Broken is);
    only = if_exit IsChangeFault result e exit only;
  }

  pub head_refused : IsHeadAnswer {T = U} mid (Err e) → IsChangeAnswer old result
  head_refused answer = refused answer.broken (of_head e answer.only)

  pub load_refused : IsLoadAnswer {T = U} mid (Err e) → IsChangeAnswer old result
  load_refused answer = refused answer.broken (of_load e answer.only)

  pub take_refused : (space : FreeState) → IsTakeAnswer {T = U} mid space (Err e)
      → IsChangeAnswer old result
  take_refused space answer = refused answer.broken (of_take e answer.only)

  pub stage_refused : (reserved n : ℕ) → IsStageAnswer {T = U} reserved mid n (Err e)
      → IsChangeAnswer old result
  stage_refused reserved n answer = refused answer.broken.0 (of_stage e answer.only)

  pub set_refused : (reserved : ℕ) (space : FreeState)
      → IsSetAnswer {T = U} reserved mid space (Err e) → IsChangeAnswer old result
  set_refused reserved space answer = refused answer.broken answer.only

  pub put_refused : (reserved pages : ℕ) (space : FreeState)
      → IsPutAnswer {T = U} reserved pages mid space (Err e) → IsChangeAnswer old result
  put_refused reserved pages space answer = refused answer.broken answer.only

  pub remove_refused : (reserved pages : ℕ) → IsRemoveAnswer {T = U} reserved pages mid (Err e)
      → IsChangeAnswer old result
  remove_refused reserved pages answer = refused answer.broken (of_remove e answer.only)

  pub store_refused : IsStoreAnswer {T = U} mid (Err e) → IsChangeAnswer old result
  store_refused answer = refused answer.broken answer.only

  pub change_refused : IsChangeAnswer {T = U} mid (Err e) → IsChangeAnswer old result
  change_refused answer = refused answer.broken answer.only

-- and one of a call that takes no page
module _ {T U : Type 0} (old mid : StoreState) (same : mid.usable ≡ old.usable)
    (result : Result T PageFault) (e : PageFault) (exit : result ≡ Err e) where
  pub walk_passed : IsWalkAnswer {T = U} mid (Err e) → IsWalkAnswer old result
  walk_passed answer = record {
    broken = λ is. sym same ∙ answer.broken (came {U = U} result e exit Broken is);
    only = if_exit (λ e. (e ≡ Broken) ⊎ ((e ≡ Damaged) ⊎ (e ≡ Device))) result e exit answer.only;
  }

  pub head_of_walk : IsHeadAnswer {T = U} mid (Err e) → IsWalkAnswer old result
  head_of_walk answer = walk_passed (record { broken = answer.broken; only = answer.only })

  pub head_of_remove : (reserved pages : ℕ) → IsHeadAnswer {T = U} mid (Err e)
      → IsRemoveAnswer reserved pages old result
  head_of_remove reserved pages answer = record {
    broken = λ is. sym same ∙ answer.broken (came {U = U} result e exit Broken is);
    memory = λ is. absurd (head_no_memory {T = U} e answer.only
        (came {U = U} result e exit Memory is));
    only = if_exit (λ e. (e ≡ Broken) ⊎ ((e ≡ Memory) ⊎ ((e ≡ Damaged) ⊎ (e ≡ Device)))) result e
        exit (elim answer.only [ inl is ↦ inl is | inr is ↦ inr (inr is) ]);
  }

-- the answer of the last call is the answer
pub put_answers : {T : Type 0} (reserved pages : ℕ) (old mid : StoreState) (space : FreeState)
    (result : Result T PageFault) → mid.usable ≡ old.usable
    → IsPutAnswer reserved pages mid space result → IsChangeAnswer old result
put_answers reserved pages old mid space result same answer =
    record { broken = λ is. sym same ∙ answer.broken is; only = answer.only }

pub stage_answers : {T : Type 0} (reserved n : ℕ) (old mid : StoreState)
    (result : Result T PageFault) → mid.usable ≡ old.usable → IsStageAnswer reserved mid n result
    → IsChangeAnswer old result
stage_answers reserved n old mid (Ok x) same answer = record { broken = λ is. cc; only = tt }
stage_answers reserved n old mid (Err e) same answer =
    record { broken = λ is. sym same ∙ answer.broken.0 is; only = of_stage e answer.only }

-- calls that take no page
module _ {T : Type 0} (state : StoreState) (e : PageFault) where
  pub head_has_room : IsHeadAnswer {T = T} state (Err e) → IsErrOf {T = T} (Err e) NoRoom → ⊥
  head_has_room answer none = elim answer.only [
    | inl is ↦ let i : e ≡ Broken = is in cc
    | inr (inl is) ↦ let i : e ≡ Damaged = is in cc
    | inr (inr is) ↦ let i : e ≡ Device = is in cc
  ]

  pub load_has_room : IsLoadAnswer {T = T} state (Err e) → IsErrOf {T = T} (Err e) NoRoom → ⊥
  load_has_room answer none = elim answer.only [
    | inl is ↦ let i : e ≡ Memory = is in cc
    | inr (inl is) ↦ let i : e ≡ Broken = is in cc
    | inr (inr (inl is)) ↦ let i : e ≡ Damaged = is in cc
    | inr (inr (inr is)) ↦ let i : e ≡ Device = is in cc
  ]

pub remove_has_room : {T : Type 0} (reserved pages : ℕ) (state : StoreState) (e : PageFault)
    → IsRemoveAnswer {T = T} reserved pages state (Err e) → IsErrOf {T = T} (Err e) NoRoom → ⊥
remove_has_room reserved pages state e answer none = elim answer.only [
  | inl is ↦ let i : e ≡ Broken = is in cc
  | inr (inl is) ↦ let i : e ≡ Memory = is in cc
  | inr (inr (inl is)) ↦ let i : e ≡ Damaged = is in cc
  | inr (inr (inr is)) ↦ let i : e ≡ Device = is in cc
]

-- all calls went well
pub no_refusal : {T : Type 0} (old : StoreState) (x : T) → IsChangeAnswer {T = T} old (Ok x)
no_refusal old x = record { broken = λ is. cc; only = tt }
