-- Laws of staging all changed pages in a store.
use Rattle.std.proofs.Common.{◌≡◌, ◌⊎◌, ◌↔◌, inl, inr, ℕ, ◌<◌, ◌≤◌, [], ◌∷◌, Bool, true, false, Result, Ok, Err, OnOk, refl, sym, ◌∙◌, ap, subst, arith}
use Rattle.std.proofs.lemmas.Bool.{false≢true}
use Rattle.std.specs.Bool.{IsTrue}
use Rattle.std.specs.Prelude.{length}
use Rattle.std.specs.Result.{is_err}
use Rattle.sect_dev.specs.Device.{LeavesOnly}
use Rattle.sect_dev.specs.Moments.{weaker}
use Rattle.page_io.specs.Store.{Pages, Settled, StoreState, file_of, IsEither, committed_with, has_page, AllBelow}
use Rattle.page_io.specs.Kept.{KeepsPages}
use Rattle.page_io.specs.Views.{ReadsOnly, StagesOnly, MayEnd}
use Rattle.page_io.specs.Answers.{IsStageAnswer}
use Rattle.page_io.specs.declared.store.PageStore.{Ghosts}
use Rattle.page_io.specs.declared.store.PageFault.{PageFault}
use Rattle.page_io.specs.declared.store.PageFault.TheVariants.{Memory, Broken}
use Rattle.page_io.proofs.Exits.{came, if_exit}
use Rattle.page_io.proofs.Runs.{kept_then_either}
use Rattle.page_io.proofs.Views.{stages_then}
use Rattle.page_io.specs.Committing.{MayCommit, IsForgotten, IsUntouched}
use Rattle.page_group.specs.Staging.{IsStagingAnswer}
use Rattle.page_group.specs.Whole.{IsWhole}
use Rattle.page_group.proofs.Putting.{order_all_below}

-- before the first page. `only` is the store's law `only_now`
pub none_yet : {S : Type 0} (s : Ghosts S) (store : S)
    → ((y : Settled) → s.honest store → s.settled_since store (s.moment store).at y
    → s.settles_to store y)
    → StagesOnly s store store
none_yet s store only = record {
  state = refl;
  honesty = (λ h. h, λ h. h);
  later = omega arith;
  kept = λ h. record {
    committed = refl;
    still = refl;
    any_moment = record {
      later = omega arith;
      until = omega arith;
      each = λ y since. only y h since;
      before = λ t y le since. inl since;
    };
  };
  now = λ h y is. is;
}

-- a list that has a page is not empty
not_none : (pages : Pages) (n : ℕ) → has_page pages n ≡ true → 0 < length pages
not_none [] n has = absurd (false≢true has)
not_none (page ∷ pages) n has = omega arith

-- once all are staged, a commit may end the file there
pub all_staged : {T E : Type 0} (result : Result T E) (old new : StoreState) (changed : Pages)
    (end : ℕ) → IsWhole old.end changed end → old.end ≤ end
    → new ≡ record old { staged = new.staged } → OnOk result (new.staged ≡ changed)
    → OnOk result (MayEnd new end)
all_staged (Ok x) old new changed end whole longer stages staged =
    let ends = ap (λ (state : StoreState). state.end) stages in
    record {
      least = omega (arith, longer, ends);
      below = subst (AllBelow end) (sym staged) (order_all_below 1 end changed whole.below);
      grown = λ n ge lt. ap (λ (ps : Pages). has_page ps n) staged
          ∙ whole.grown n (omega (arith, ends, ge)) lt;
    }
all_staged (Err e) old new changed end whole longer stages staged = tt

-- and may be committed then, once page 1 is among them
pub may_commit : (state : StoreState) (n end : ℕ) → MayEnd state end → has_page state.staged n ≡ true
    → 4 ≤ end → MayCommit state end
may_commit state n end may has least = record {
  below = may.below;
  grown = may.grown;
  some = not_none state.staged n has;
  least = least;
}

-- where one is not staged
pub not_staged : {T U : Type 0} (result : Result T PageFault) (e : PageFault) (reserved n : ℕ)
    (old mid new : StoreState) → result ≡ Err e → mid.usable ≡ old.usable → new ≡ mid
    → IsStageAnswer {T = U} reserved mid n (Err e) → IsStagingAnswer reserved old new result
not_staged {U = U} result e reserved n old mid new exit usable same answer = record {
  broken = λ is. sym usable ∙ answer.broken.0 (came {U = U} result e exit Broken is);
  memory = λ is. omega (
    arith,
    (answer.memory (came {U = U} result e exit Memory is)).1,
    ap (λ (state : StoreState). length state.staged) same,
  );
  only = if_exit (λ fault. (fault ≡ Broken) ⊎ (fault ≡ Memory)) result e exit answer.only;
}

-- what holds at Ok holds where no fault was told
pub of_ok : {T E : Type 0} (P : Type 0) (result : Result T E) → false ≡ is_err result
    → OnOk result P → P
of_ok P (Ok x) is p = p
of_ok P (Err e) is p = absurd (false≢true is)

-- a store that isn't broken can be used
pub is_usable : (usable : Bool) → (usable ≡ false → IsTrue false) → usable ≡ true
is_usable true broken = refl
is_usable false broken = absurd (false≢true (broken refl))

-- and a commit that left it so has forgotten what was staged, and no more
forgotten : (old new : StoreState) (e : PageFault) → new.usable ≡ true → IsForgotten old new e
    → new ≡ record old { staged = [] }
forgotten old new e usable (inl is) = is
forgotten old new e usable (inr broke) =
    absurd (false≢true (sym (ap (λ (st : StoreState). st.usable) broke.1) ∙ usable))

module _ {S : Type 0} (s : Ghosts S) (old mid new : S) where
  -- A commit of what was staged over these pages leaves the old ones or the new. `only` is the
  -- store's law `only_committed`.
  pub commit_leaves : (staged changed : Pages) (end : ℕ)
      → ((y : Settled) → s.honest old → (s.state old).usable ≡ true → (s.state old).writable ≡ true
      → s.settles_to old y → y ≡ file_of (s.committed old))
      → StagesOnly s old mid
      → (s.honest mid → (s.state mid).usable ≡ true → (s.state mid).writable ≡ true
      → LeavesOnly s.moment s.settled_since mid new
      (IsEither (s.committed mid) (committed_with (s.committed mid) staged end)))
      → s.honest old → (s.state old).usable ≡ true → (s.state old).writable ≡ true
      → staged ≡ changed
      → LeavesOnly s.moment s.settled_since old new
      (IsEither (s.committed old) (committed_with (s.committed old) changed end))
  commit_leaves staged changed end only stages run honest usable writable is =
      let kept = stages.kept honest in
      subst (λ (ps : Pages). LeavesOnly s.moment s.settled_since old new
      (IsEither (s.committed old) ps))
      (ap (λ (ps : Pages). committed_with ps staged end) kept.committed
      ∙ ap (λ (ps : Pages). committed_with (s.committed old) ps end) is)
      (kept_then_either s.committed s.moment s.settled_since s.settles_to old mid new
      (committed_with (s.committed mid) staged end)
      (λ y settles. only y honest usable writable settles) kept
      (run (stages.honesty.1 honest)
      (ap (λ (st : StoreState). st.usable) stages.state ∙ usable)
      (ap (λ (st : StoreState). st.writable) stages.state ∙ writable)))

  -- One that is refused leaves what was there before the staging. `counts` and `stays` are the
  -- store's laws `counts_now` and `committed_may_stay`.
  pub refused_reads : ((store : S) (t : ℕ) (y : Settled) → s.honest store
      → t ≤ (s.moment store).at → s.settles_to store y → s.settled_since store t y)
      → (s.honest mid → s.settles_to mid (file_of (s.committed mid)))
      → (s.state old).staged ≡ [] → StagesOnly s old mid
      → (e : PageFault) → (s.state new).usable ≡ true → IsForgotten (s.state mid) (s.state new) e
      → (s.honest new ↔ s.honest mid) → s.faults mid ≤ s.faults new
      → (s.honest mid → IsUntouched s mid new)
      → (s.honest mid → LeavesOnly s.moment s.settled_since mid new
      (λ y. y ≡ file_of (s.committed mid)))
      → ReadsOnly s old new
  refused_reads counts stays idle stages e usable forgot_all honesty later untouched leaves =
      let forgot = forgotten (s.state mid) (s.state new) e usable forgot_all in
      let kept : s.honest mid
      → KeepsPages s.committed s.moment s.settled_since s.settles_to mid new = λ h. record {
        committed = (untouched h).committed;
        still = (untouched h).still;
        any_moment = weaker s.moment s.settled_since mid new (s.settles_to mid)
            (λ y. y ≡ file_of (s.committed mid)) (leaves h)
            (λ y is. subst (s.settles_to mid) (sym is) (stays h));
      } in
      record {
        same = forgot ∙ ap (λ (st : StoreState). record st { staged = [] }) stages.state
            ∙ sym (ap (λ (ps : Pages). record (s.state old) { staged = ps }) idle);
        stages_only = stages_then s old mid new (counts mid) stages (record {
          state = forgot ∙ ap (λ (st : StoreState). record (s.state mid) { staged = st.staged })
              (sym forgot);
          honesty = honesty;
          later = later;
          kept = kept;
          now = λ h y is.
              let run = (kept h).any_moment in
              run.each y (counts new (s.moment mid).at y (honesty.1 h) run.later is);
        });
      }
