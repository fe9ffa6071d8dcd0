-- What a call of a device over a file does, by the file_history of what happens under the file.
use Rattle.std.proofs.Common.{◌≡◌, ◌⊎◌, ◌+◌, ◌*◌, ◌%◌, ◌≤◌, ℕ, false, Result, is_ok, OnOk, OnErr, List, length, ⊎_elim, inl, inr, refl, sym, subst, arith, ◌↔◌}
use Rattle.std.proofs.lemmas.Bool.{cases_lt}
use Rattle.std.proofs.lemmas.Nat.{div-add-mod'}
use Rattle.std.specs.declared.fs.File.{File}
use Rattle.sect_dev.specs.Device.{Image, Candidates, IsImageOf, IsStable, NoNewCandidate, Elapses, endless, sector_count, IsRunWritten, IsRunPartlyWritten, with_run_candidates}
use Rattle.sect_dev.specs.FileHistory.{Change, history_of, RecordsCalls, IsHonest, KeepsWrite, KeepsSync, KeepsChange, LeftFrom}
use Rattle.sect_dev.specs.FileHistory.Change.{Writes, Syncs}
use Rattle.sect_dev.proofs.Results.{on_ok, on_err, not_ok}

-- one moment more, of which the images of now may be left, or none
elapses : (candidate : ℕ → Candidates) (before now : ℕ) → (now ≡ before + 1) ⊎ (now ≡ before)
    → Elapses (endless before) (endless now) (LeftFrom candidate before) (LeftFrom candidate now)
    (IsImageOf (candidate now))
elapses candidate before now (inl one) = record {
  later = omega (arith, one);
  until = omega arith;
  nothing_else = λ t image le left. elim (cases_lt before left.0) [
    | inr past ↦ inl (left.0, left.1, past, left.3)
    | inl last ↦ inr (subst (λ k. IsImageOf (candidate k) image)
        (omega (arith, left.2, last, one)) left.3)
  ];
  keeps = λ t image le past. (past.0, past.1, omega (arith, past.2, one), past.3);
}
elapses candidate before now (inr none) = record {
  later = omega (arith, none);
  until = omega arith;
  nothing_else = λ t image le left. inl (left.0, left.1, omega (arith, left.2, none), left.3);
  keeps = λ t image le past. (past.0, past.1, omega (arith, past.2, none), past.3);
}

-- the same file, now and at the moment before
module _ (file now_file : File) (before now : ℕ) (same : now_file ≡ file) where
  of_file : (P : Image → Candidates → Type 0)
      → P ((history_of file).seen now) ((history_of file).candidate now)
      → P ((history_of now_file).seen now) ((history_of now_file).candidate now)
  of_file P = subst (λ f. P ((history_of f).seen now) ((history_of f).candidate now)) (sym same)

  pub honesty : IsHonest now_file ↔ IsHonest file
  honesty = (subst IsHonest same, subst IsHonest (sym same))

  pub time : (now ≡ before + 1) ⊎ (now ≡ before)
      → Elapses (endless before) (endless now) (LeftFrom (history_of file).candidate before)
      (LeftFrom (history_of now_file).candidate now)
      (IsImageOf ((history_of now_file).candidate now))
  time later = subst (λ f. Elapses (endless before) (endless now)
      (LeftFrom (history_of file).candidate before) (LeftFrom (history_of f).candidate now) (IsImageOf ((history_of f).candidate now)))
      (sym same) (elapses (history_of file).candidate before now later)

  -- no change
  module _ (unchanged : now ≡ before) where
    as_before : (P : Image → Candidates → Type 0)
        → P ((history_of file).seen before) ((history_of file).candidate before)
        → P ((history_of now_file).seen now) ((history_of now_file).candidate now)
    as_before P is = of_file P (subst
        (λ t. P ((history_of file).seen t) ((history_of file).candidate t)) (sym unchanged) is)

    pub same_seen : (history_of now_file).seen now ≡ (history_of file).seen before
    same_seen = as_before (λ image candidate. image ≡ (history_of file).seen before) refl

    pub none_added : NoNewCandidate ((history_of file).candidate before)
        ((history_of now_file).candidate now)
    none_added = as_before (λ image candidate.
        NoNewCandidate ((history_of file).candidate before) candidate) (λ m c is. is)

    pub none_removed : NoNewCandidate ((history_of now_file).candidate now)
        ((history_of file).candidate before)
    none_removed = as_before (λ image candidate.
        NoNewCandidate candidate ((history_of file).candidate before)) (λ m c is. is)

-- a change that the system was asked for, or was not, and then the call failed
module _ {T E F : Type 0} (r : Result T E) (file now_file : File) (before now : ℕ) (change : Change)
    (same : now_file ≡ file)
    (answered : ((now ≡ before + 1)
    × (RecordsCalls file → (history_of file).change before ≡ change))
    ⊎ ((now ≡ before) × (is_ok r ≡ false) × F)) where
  abbrev old : Image
  old = (history_of file).seen before

  abbrev candidates : Candidates
  candidates = (history_of file).candidate before

  pub change_time : Elapses (endless before) (endless now)
      (LeftFrom (history_of file).candidate before) (LeftFrom (history_of now_file).candidate now)
      (IsImageOf ((history_of now_file).candidate now))
  change_time = time file now_file before now same
      (⊎_elim (λ asked. inl asked.0) (λ refused. inr refused.0) answered)

  by_change : (P : Image → Candidates → Type 0) → IsHonest file
      → ((image : Image) (candidate : Candidates)
      → KeepsChange change old image candidates candidate → P image candidate)
      → (is_ok r ≡ false → P old candidates)
      → P ((history_of now_file).seen now) ((history_of now_file).candidate now)
  by_change P honest kept failed =
      of_file file now_file before now same P
      (elim answered [
        | inl asked ↦ subst (λ t. P ((history_of file).seen t) ((history_of file).candidate t))
            (sym asked.0)
            (kept ((history_of file).seen (before + 1)) ((history_of file).candidate (before + 1))
            (subst (λ c. KeepsChange c old ((history_of file).seen (before + 1)) candidates
            ((history_of file).candidate (before + 1))) (asked.1 honest.recorded)
            (honest.kept.keeps before)))
        | inr refused ↦ subst (λ t. P ((history_of file).seen t) ((history_of file).candidate t))
            (sym refused.0) (failed refused.1)
      ])

-- a call asks for one change at most
pub one_change_more : {A B F : Type 0} (before now : ℕ)
    → ((now ≡ before + 1) × A) ⊎ ((now ≡ before) × B × F) → now ≤ before + 1
one_change_more before now (inl asked) = omega (arith, asked.0)
one_change_more before now (inr refused) = omega (arith, refused.0)

-- the clauses of a write of a run
module _ {T E F : Type 0} (r : Result T E) (file now_file : File) (before now n : ℕ) (from : List ℕ)
    (whole : length from % 512 ≡ 0) (same : now_file ≡ file)
    (answered : ((now ≡ before + 1)
    × (RecordsCalls file → (history_of file).change before
    ≡ Writes (n * 512) from (is_ok r))) ⊎ ((now ≡ before) × (is_ok r ≡ false) × F))
    (honest : IsHonest file) where
  abbrev seen : Image
  seen = (history_of file).seen before

  abbrev left : Candidates
  left = (history_of file).candidate before

  sectors : length from ≡ sector_count from * 512
  sectors = omega (arith, div-add-mod' (length from) 512, whole)

  by_write : (P : Image → Candidates → Type 0)
      → ((image : Image) (candidate : Candidates)
      → KeepsWrite n from (is_ok r) seen image left candidate → P image candidate)
      → (is_ok r ≡ false → P seen left)
      → P ((history_of now_file).seen now) ((history_of now_file).candidate now)
  by_write P kept = by_change r file now_file before now (Writes (n * 512) from (is_ok r)) same
      answered P honest
      (λ image candidate keeps. kept image candidate (keeps n (sector_count from) refl sectors))

  pub run_seen : OnOk r (IsRunWritten seen n from ((history_of now_file).seen now))
  run_seen = by_write (λ image candidate. OnOk r (IsRunWritten seen n from image))
      (λ image candidate keeps. on_ok r (IsRunWritten seen n from image) keeps.written)
      (not_ok r (IsRunWritten seen n from seen))

  pub run_failed : OnErr r (IsRunPartlyWritten seen n from ((history_of now_file).seen now))
  run_failed = by_write (λ image candidate. OnErr r (IsRunPartlyWritten seen n from image))
      (λ image candidate keeps. on_err r (IsRunPartlyWritten seen n from image)
      (λ failed. keeps.failed))
      (λ failed. on_err r (IsRunPartlyWritten seen n from seen) (λ failed m. inl refl))

  pub run_adds : NoNewCandidate (with_run_candidates left n from)
      ((history_of now_file).candidate now)
  run_adds = by_write (λ image candidate.
      NoNewCandidate (with_run_candidates left n from) candidate)
      (λ image candidate keeps. keeps.candidates) (λ failed m c is. inl is)

  pub run_removes_none : NoNewCandidate ((history_of now_file).candidate now) left
  run_removes_none = by_write (λ image candidate. NoNewCandidate candidate left)
      (λ image candidate keeps. keeps.keeps) (λ failed m c is. is)

-- the clauses of a sync
module _ {T E F : Type 0} (r : Result T E) (file now_file : File) (before now : ℕ)
    (same : now_file ≡ file)
    (answered : ((now ≡ before + 1)
    × (RecordsCalls file → (history_of file).change before ≡ Syncs (is_ok r)))
    ⊎ ((now ≡ before) × (is_ok r ≡ false) × F)) (honest : IsHonest file) where
  abbrev shown : Image
  shown = (history_of file).seen before

  abbrev may_stay : Candidates
  may_stay = (history_of file).candidate before

  by_sync : (P : Image → Candidates → Type 0)
      → ((image : Image) (candidate : Candidates)
      → KeepsSync (is_ok r) shown image may_stay candidate → P image candidate)
      → (is_ok r ≡ false → P shown may_stay)
      → P ((history_of now_file).seen now) ((history_of now_file).candidate now)
  by_sync P kept = by_change r file now_file before now (Syncs (is_ok r)) same
      answered P honest kept

  pub sync_is_stable : OnOk r (IsStable ((history_of now_file).candidate now)
      ((history_of now_file).seen now))
  sync_is_stable = by_sync (λ image candidate. OnOk r (IsStable candidate image))
      (λ image candidate keeps. on_ok r (IsStable candidate image) keeps.stable)
      (not_ok r (IsStable may_stay shown))

  pub sync_seen : OnOk r ((history_of now_file).seen now ≡ shown)
  sync_seen = by_sync (λ image candidate. OnOk r (image ≡ shown))
      (λ image candidate keeps. on_ok r (image ≡ shown) keeps.seen) (not_ok r (shown ≡ shown))

  pub sync_adds_none : NoNewCandidate may_stay ((history_of now_file).candidate now)
  sync_adds_none = by_sync (λ image candidate. NoNewCandidate may_stay candidate)
      (λ image candidate keeps. keeps.candidates) (λ failed m c is. is)

  pub sync_failed : OnErr r (NoNewCandidate ((history_of now_file).candidate now) may_stay)
  sync_failed = by_sync (λ image candidate. OnErr r (NoNewCandidate candidate may_stay))
      (λ image candidate keeps. on_err r (NoNewCandidate candidate may_stay) keeps.keeps)
      (λ failed. on_err r (NoNewCandidate may_stay may_stay) (λ failed m c is. is))
