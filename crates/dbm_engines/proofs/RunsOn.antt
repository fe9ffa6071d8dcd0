-- Runs of calls on a database, one after another.
use Rattle.std.proofs.Common.{◌≡◌, inl, inr, ⊎_elim, List, [], ◌∷◌, ◌++◌, true, false, refl, sym, ◌∙◌, ap, subst, arith, append_assoc}
use Rattle.dbm_model.specs.Calls.{Call, Reply, Refused, Device}
use Rattle.dbm_model.specs.States.{Handle}
use Rattle.dbm_model.specs.Steps.{Run}
use Rattle.page_io.specs.Store.{Settled}
use Rattle.page_io.specs.declared.store.PageStore.{Ghosts}
use Rattle.dbm_file.specs.Answers.{Survives, IsSameDatabase}
use Rattle.dbm_file.specs.Held.{Held, held_by}
use Rattle.dbm_file.specs.Database.{store_of, page_state, IsAt}
use Rattle.dbm_file.specs.Runs.{MayBeLeftWithin, IsBreak, IsRun}
use Rattle.dbm_file.specs.declared.database.Database.{Database}
use Rattle.dbm_file.proofs.Breaks.{rests_shown}
use Rattle.dbm_engines.proofs.Survivals.{survives_among, survives_then, survives_still}

run_both : (first mid last : Handle) (calls later : List Call) (replies told : List Reply)
    → Run first calls replies mid → Run mid later told last
    → Run first (calls ++ later) (replies ++ told) last
run_both first mid last [] later [] told run more =
    subst (λ (h : Handle). Run h later told last) run more
run_both first mid last [] later (r ∷ replies) told run more = absurd run
run_both first mid last (c ∷ calls) later [] told run more = absurd run
run_both first mid last (c ∷ calls) later (r ∷ replies) told run more =
    (run.0, run.1, run_both run.0 mid last calls later replies told run.2 more)

-- what was held before the first of some calls
pub left_first : (before after : Handle) (calls : List Call) (replies : List Reply)
    (held : Held) → Run before calls replies after → held ≡ held_by before.state
    → MayBeLeftWithin before calls replies after held
left_first before after [] [] held run is = (run, is)
left_first before after [] (r ∷ replies) held run is = absurd run
left_first before after (c ∷ calls) [] held run is = absurd run
left_first before after (c ∷ calls) (r ∷ replies) held run is =
    (run.0, run.1, inl (inl is, run.2))

module _ (later : List Call) (told : List Reply) where
  -- within the calls that were made first
  left_before : (before mid after : Handle) (calls : List Call) (replies : List Reply)
      (held : Held) → MayBeLeftWithin before calls replies mid held → Run mid later told after
      → MayBeLeftWithin before (calls ++ later) (replies ++ told) after held
  left_before before mid after [] [] held left more =
      left_first before after later told held
      (subst (λ (h : Handle). Run h later told after) left.0 more) left.1
  left_before before mid after [] (r ∷ replies) held left more = absurd left
  left_before before mid after (c ∷ calls) [] held left more = absurd left
  left_before before mid after (c ∷ calls) (r ∷ replies) held (next, first, left) more = (
    next,
    first,
    ⊎_elim
        (λ one. inl (one.0, run_both next mid after calls later replies told one.1 more))
        (λ rest. inr (left_before next mid after calls replies held rest more))
        left,
  )

  -- within those that follow
  left_within : (before mid after : Handle) (calls : List Call) (replies : List Reply)
      (held : Held) → Run before calls replies mid → MayBeLeftWithin mid later told after held
      → MayBeLeftWithin before (calls ++ later) (replies ++ told) after held
  left_within before mid after [] [] held run left =
      subst (λ (h : Handle). MayBeLeftWithin h later told after held) run left
  left_within before mid after [] (r ∷ replies) held run left = absurd run
  left_within before mid after (c ∷ calls) [] held run left = absurd run
  left_within before mid after (c ∷ calls) (r ∷ replies) held run left =
      (run.0, run.1, inr (left_within run.0 mid after calls replies held run.2 left))

-- the first ones broke the database
broke_before : {S : Type 0} (s : Ghosts S) (mid new : Database S s) (start held after : Handle)
    (calls later : List Call) (replies told : List Reply)
    → IsBreak mid start calls replies held → Run held later told after
    → store_of new ≡ store_of mid
    → IsBreak new start (calls ++ later) (replies ++ told) after
broke_before {S} s mid new start held after calls later replies told b run still = record {
  earlier = b.earlier;
  answered = b.answered;
  call = b.call;
  later = b.later ++ later;
  refused = b.refused ++ told;
  calls_are = ap (λ (cs : List Call). cs ++ later) b.calls_are
      ∙ append_assoc b.earlier (b.call ∷ b.later) later;
  replies_are = ap (λ (rs : List Reply). rs ++ told) b.replies_are
      ∙ append_assoc b.answered (Refused Device ∷ b.refused) told;
  sound = b.sound;
  run = b.run;
  usable = b.usable;
  broken = b.broken;
  step = b.step;
  breaks = b.breaks;
  rest = run_both b.broken held after b.later later b.refused told b.rest run;
  in_doubt = λ x left.
      b.in_doubt x (subst (λ (store : S). s.settles_to store x) still left);
}

-- or those that follow
broke_after : {S : Type 0} {s : Ghosts S} (new : Database S s) (start held after : Handle)
    (calls later : List Call) (replies told : List Reply) → Run start calls replies held
    → IsBreak new held later told after → IsBreak new start (calls ++ later) (replies ++ told) after
broke_after new start held after calls later replies told run b = record {
  earlier = calls ++ b.earlier;
  answered = replies ++ b.answered;
  call = b.call;
  later = b.later;
  refused = b.refused;
  calls_are = ap (λ (cs : List Call). calls ++ cs) b.calls_are
      ∙ sym (append_assoc calls b.earlier (b.call ∷ b.later));
  replies_are = ap (λ (rs : List Reply). replies ++ rs) b.replies_are
      ∙ sym (append_assoc replies b.answered (Refused Device ∷ b.refused));
  sound = b.sound;
  run = run_both start held b.sound calls b.earlier replies b.answered run b.run;
  usable = b.usable;
  broken = b.broken;
  step = b.step;
  breaks = b.breaks;
  rest = b.rest;
  in_doubt = b.in_doubt;
}

-- as the lists of calls and of replies are told, at the same handle
told_so : {S : Type 0} (s : Ghosts S) (old new : Database S s) (h : Handle)
    (calls calls' : List Call) (replies replies' : List Reply) → calls ≡ calls'
    → replies ≡ replies' → IsRun old new h calls replies → IsRun old new h calls' replies'
told_so s old new h calls calls' replies replies' c r run = record {
  after = run.after;
  run = subst (λ (cs : List Call). Run h cs replies' run.after) c
      (subst (λ (rs : List Reply). Run h calls rs run.after) r run.run);
  is_at = run.is_at;
  survives = λ was.
      subst (λ (cs : List Call). Survives old new (MayBeLeftWithin h cs replies' run.after)) c
      (subst (λ (rs : List Reply). Survives old new (MayBeLeftWithin h calls rs run.after)) r
      (run.survives was));
  breaks = λ was now.
      subst (λ (cs : List Call). IsBreak new h cs replies' run.after) c
      (subst (λ (rs : List Reply). IsBreak new h calls rs run.after) r (run.breaks was now));
}

-- no call made
pub no_calls : {S : Type 0} (s : Ghosts S) (db : Database S s) (h : Handle) → IsAt db h
    → ((x : Settled) → s.settled_since (store_of db) (s.moment (store_of db)).at x
    → s.settles_to (store_of db) x) → (run : IsRun db db h [] []) × (run.after ≡ h)
no_calls s db h at now = (none, refl)
  where
    none : IsRun db db h [] []
    none = record {
      after = h;
      run = refl;
      is_at = at;
      survives = λ usable. record {
        later = omega arith;
        until = omega arith;
        each = λ x left. (held_by h.state, (refl, refl), rests_shown db h at usable x (now x left));
        before = λ t x le left. inl left;
      };
      breaks = λ usable broken. absurd (let both = sym usable ∙ broken in cc);
    }

module _ {S : Type 0} (s : Ghosts S) (old mid new : Database S s) (h : Handle)
    (calls later : List Call) (replies told : List Reply)
    (goes : IsSameDatabase mid new) (run : IsRun old mid h calls replies)
    (more : IsRun mid new run.after later told) where
  abbrev Within : Held → Type 0
  Within = MayBeLeftWithin h (calls ++ later) (replies ++ told) more.after

  earlier : (page_state old).usable ≡ true → Survives old mid Within
  earlier was = survives_among s old mid Within (MayBeLeftWithin h calls replies run.after)
      (run.survives was)
      (λ held left. left_before later told h run.after more.after calls replies held left more.run)

  goes_on : (page_state old).usable ≡ true → (page_state mid).usable ≡ true
      → Survives old new Within
  goes_on was usable = survives_then s old mid new Within
      (MayBeLeftWithin run.after later told more.after) (earlier was) (more.survives usable)
      (λ held left. left_within later told h run.after more.after calls replies held run.run left)

  runs_on : IsRun old new h (calls ++ later) (replies ++ told)
  runs_on = record {
    after = more.after;
    run = run_both h run.after more.after calls later replies told run.run more.run;
    is_at = more.is_at;
    survives = λ was. elim (page_state mid).usable as
        (λ u. (page_state mid).usable ≡ u → Survives old new Within) [
          | true ↦ goes_on was
          | false ↦ λ broken. survives_still s old mid new Within (earlier was) (goes.still broken)
        ] refl;
    breaks = λ was now. elim (page_state mid).usable as
        (λ u. (page_state mid).usable ≡ u
        → IsBreak new h (calls ++ later) (replies ++ told) more.after) [
          | true ↦ λ usable. broke_after new h run.after more.after calls later replies told run.run
              (more.breaks usable now)
          | false ↦ λ broken. broke_before s mid new h run.after more.after calls later replies told
              (run.breaks was broken) more.run (goes.still broken)
        ] refl;
  }

  -- as the lists of calls and of replies are told, up to the same handle
  pub runs_as : (calls' : List Call) (replies' : List Reply) → calls ++ later ≡ calls'
      → replies ++ told ≡ replies'
      → (whole : IsRun old new h calls' replies') × (whole.after ≡ more.after)
  unfolding told_so runs_on
  runs_as calls' replies' c r =
      (told_so s old new h (calls ++ later) calls' (replies ++ told) replies' c r runs_on, refl)
