-- How runs of calls on a database go on.
use Rattle.std.proofs.Common.{T, ℤ, pos, w32, to_z, of_z, ◌≡◌, inl, inr, ⊎_elim, ℕ, zero, suc, ◌+◌, ◌<◌, ◌≤◌, List, [], ◌∷◌, ◌++◌, length, map, take, slice_index_or, true, false, refl, sym, ◌∙◌, ap, subst, arith}
use Rattle.std.specs.Int.Signed.{mag}
use Rattle.std.proofs.lemmas.Bool.{lt-ltb}
use Rattle.std.proofs.Math.Facts.{sfits_lit, to_z-of_z}
use Rattle.std.proofs.lemmas.List.{take_more, map-append}
use Rattle.sect_dev.specs.Device.{LeavesOnly}
use Rattle.sect_dev.specs.Moments.{started, followed_by, weaker}
use Rattle.dbm_model.specs.Bounds.{Bounds}
use Rattle.dbm_model.specs.Calls as model
use Rattle.dbm_model.specs.Calls.{Call, Reply}
use Rattle.dbm_model.specs.Changes.{bounds_after}
use Rattle.dbm_model.specs.States.{Handle}
use Rattle.dbm_model.specs.Steps.{Step, Run}
use Rattle.dbm_model.proofs.Runs.{run-push}
use Rattle.page_io.specs.Store.{Settled}
use Rattle.page_io.specs.declared.store.PageStore.{Ghosts}
use Rattle.page_io.proofs.Exits.{both_ways}
use Rattle.dbm_file.specs.Calls.{bits_of, call_of, reply_of}
use Rattle.dbm_file.specs.Held.{Held, held_by}
use Rattle.dbm_file.specs.Database.{store_of, meta_kept, page_state, IsAt}
use Rattle.dbm_file.specs.Answers.{MayBeLeft, StandsForSome, Survives, IsStep, IsSameUnder, IsSameDatabase}
use Rattle.dbm_file.specs.Replies.{AreAnswered, bounds_behind}
use Rattle.dbm_file.specs.Runs.{MayBeLeftWithin, IsBreak, IsRun, AreSteps, IsMadeInSteps}
use Rattle.dbm_file.specs.declared.calls.Call as made
use Rattle.dbm_file.specs.declared.calls.Reply as told
use Rattle.dbm_file.specs.declared.database.Database.{Database}
use Rattle.dbm_file.proofs.Breaks.{rests_shown, CountsNow, breaks_now, breaks_before}

module _ {S : Type 0} {s : Ghosts S} {old new : Database S s} {held : Handle} {call call' : Call}
    {reply reply' : Reply} where
  -- a step of a call that is told otherwise
  pub same_step : call' ≡ call → reply' ≡ reply → IsStep old new held call' reply'
      → IsStep old new held call reply
  same_step same_call same_reply step =
      subst (λ (c : Call). IsStep old new held c reply) same_call
      (subst (λ (r : Reply). IsStep old new held call' r) same_reply step)

pub same_store : (key key' content content' : List ℕ) (mode : model.Mode) → key ≡ key'
    → content ≡ content' → model.Store key content mode ≡ model.Store key' content' mode
same_store key key' content content' mode k v =
    ap (λ (x : List ℕ). model.Store x content mode) k
    ∙ ap (λ (x : List ℕ). model.Store key' x mode) v

-- a number is the same behind its bits
pub same_number : (z : ℤ) → mag z < 2147483648 → to_z w32 (of_z w32 z) ≡ z
same_number z small = to_z-of_z
    (sfits_lit {w = w32} (subst T (sym (lt-ltb (mag z) 2147483648 small)) tt))

-- a number is told as it is
pub told_number : (z : ℤ) (n : ℕ) → mag z < 2147483648 → z ≡ pos n
    → bits_of (to_z w32 (of_z w32 z)) ≡ n
told_number z n small is = ap bits_of (same_number z small ∙ is)

pub all_taken : {X : Type 0} (xs : List X) (n : ℕ) → length xs ≤ n → take n xs ≡ xs
all_taken [] zero le = refl
all_taken [] (suc n) le = refl
all_taken (x ∷ xs) zero le = absurd (omega (arith, le))
all_taken (x ∷ xs) (suc n) le = ap (λ (ys : List _). x ∷ ys) (all_taken xs n (omega (arith, le)))

-- what a stop may leave within the calls that were made, once one more is made
module _ (call : Call) (reply : Reply) where
  pub left_before : (before mid after : Handle) (calls : List Call) (replies : List Reply)
      (held : Held) → MayBeLeftWithin before calls replies mid held → Step mid call reply after
      → MayBeLeftWithin before (calls ++ call ∷ []) (replies ++ reply ∷ []) after held
  left_before before mid after [] [] held (same, is) step =
      (after, subst (λ (h : Handle). Step h call reply after) same step, inl (inl is, refl))
  left_before before mid after [] (r ∷ replies) held left step = absurd left
  left_before before mid after (c ∷ calls) [] held left step = absurd left
  left_before before mid after (c ∷ calls) (r ∷ replies) held (next, first, left) step = (
    next,
    first,
    ⊎_elim
        (λ one. inl (one.0, run-push next mid after calls replies call reply one.1 step))
        (λ later. inr (left_before next mid after calls replies held later step))
        left,
  )

  -- within the last one
  pub left_within : (before mid after : Handle) (calls : List Call) (replies : List Reply)
      (held : Held) → Run before calls replies mid → Step mid call reply after
      → MayBeLeft mid after call held
      → MayBeLeftWithin before (calls ++ call ∷ []) (replies ++ reply ∷ []) after held
  left_within before mid after [] [] held same step left = (
    after,
    subst (λ (h : Handle). Step h call reply after) same step,
    inl (subst (λ (h : Handle). MayBeLeft h after call held) same left, refl),
  )
  left_within before mid after [] (r ∷ replies) held run step left = absurd run
  left_within before mid after (c ∷ calls) [] held run step left = absurd run
  left_within before mid after (c ∷ calls) (r ∷ replies) held (next, first, run) step left =
      (next, first, inr (left_within next mid after calls replies held run step left))

-- steps behind steps
pub steps_append : {S : Type 0} {s : Ghosts S} (old mid new : Database S s)
    (before then after : Handle) (calls later : List Call) (replies told : List Reply)
    → AreSteps old mid before calls replies then → AreSteps mid new then later told after
    → AreSteps old new before (calls ++ later) (replies ++ told) after
steps_append old mid new before then after [] later [] told first more =
    subst (λ d. AreSteps d new before later told after) first.0
    (subst (λ (h : Handle). AreSteps mid new h later told after) first.1 more)
steps_append old mid new before then after [] later (reply ∷ replies) told first more =
    absurd first
steps_append old mid new before then after (call ∷ calls) later [] told first more = absurd first
steps_append old mid new before then after (call ∷ calls) later (reply ∷ replies) told
    (next, step, rest) more =
    (next, step, steps_append next mid new step.after then after calls later replies told rest more)

-- no call made
pub no_run : {S : Type 0} (s : Ghosts S) (db : Database S s) (h : Handle) → IsAt db h
    → ((x : Settled) → s.settled_since (store_of db) (s.moment (store_of db)).at x
    → s.settles_to (store_of db) x)
    → IsRun db db h [] []
no_run s db h at now = record {
  after = h;
  run = refl;
  is_at = at;
  survives = λ usable.
      started s.moment s.settled_since (store_of db)
      (StandsForSome (MayBeLeftWithin h [] [] h))
      (λ x left. (held_by h.state, (refl, refl), rests_shown db h at usable x (now x left)));
  breaks = λ usable broken. absurd (let both = sym usable ∙ broken in cc);
}

-- one call more
module _ {S : Type 0} (s : Ghosts S) (old mid new : Database S s) (h : Handle) (calls : List Call)
    (replies : List Reply) (call : Call) (reply : Reply)
    {wanted : Bounds} (goes : IsSameUnder wanted mid new) (run : IsRun old mid h calls replies)
    (step : IsStep mid new run.after call reply)
    (counts : CountsNow new) where
  abbrev Within : Held → Type 0
  Within = MayBeLeftWithin h (calls ++ call ∷ []) (replies ++ reply ∷ []) step.after

  -- what was left before the last call
  earlier : (page_state old).usable ≡ true → Survives old mid Within
  earlier was =
      weaker s.moment s.settled_since (store_of old) (store_of mid)
      (StandsForSome Within)
      (StandsForSome (MayBeLeftWithin h calls replies run.after))
      (run.survives was)
      (λ x is. (
        is.0,
        left_before call reply h run.after step.after calls replies is.0 is.1
            step.step,
        is.2,
      ))

  goes_on : (page_state old).usable ≡ true → (page_state mid).usable ≡ true
      → Survives old new Within
  goes_on was usable =
      followed_by s.moment s.settled_since (store_of old) (store_of mid) (store_of new)
      (StandsForSome Within)
      (StandsForSome (MayBeLeft run.after step.after call))
      (earlier was) (step.survives usable)
      (λ x is. (
        is.0,
        left_within call reply h run.after step.after calls replies is.0 run.run
            step.step is.1,
        is.2,
      ))

  -- a broken one makes no device call
  stays_broken : (page_state old).usable ≡ true → (page_state mid).usable ≡ false
      → Survives old new Within
  stays_broken was broken = subst
      (λ (store : S). LeavesOnly s.moment s.settled_since (store_of old) store
      (StandsForSome Within)) (sym (goes.still broken)) (earlier was)

  one_more : IsRun old new h (calls ++ call ∷ []) (replies ++ reply ∷ [])
  one_more = record {
    after = step.after;
    run = run-push h run.after step.after calls replies call reply run.run step.step;
    is_at = step.is_at;
    survives = λ was. elim (page_state mid).usable as
        (λ u. (page_state mid).usable ≡ u → Survives old new Within) [
          | true ↦ goes_on was
          | false ↦ stays_broken was
        ] refl;
    breaks = λ was now. elim (page_state mid).usable as
        (λ u. (page_state mid).usable ≡ u
        → IsBreak new h (calls ++ call ∷ []) (replies ++ reply ∷ []) step.after) [
          | true ↦ λ usable. breaks_now s old mid new h run.after calls replies call reply run.run
              run.is_at step usable now counts
          | false ↦ λ broken. breaks_before s mid new h run.after step.after calls replies call reply
              (run.breaks was broken) step.step (goes.still broken)
        ] refl;
  }

  -- as the lists of calls and of replies are told
  pub goes_on_with : (calls' : List Call) (replies' : List Reply) → calls' ≡ calls ++ call ∷ []
      → replies' ≡ replies ++ reply ∷ [] → IsRun old new h calls' replies'
  goes_on_with calls' replies' c r =
      subst (λ (cs : List Call). IsRun old new h cs replies') (sym c)
      (subst (λ (rs : List Reply). IsRun old new h (calls ++ call ∷ []) rs) (sym r) one_more)

-- one step more
pub step_more : {S : Type 0} (s : Ghosts S) (old mid new : Database S s) (h : Handle)
    (calls calls' : List Call) (replies replies' : List Reply) (call : Call) (reply : Reply)
    (made : IsMadeInSteps old mid h calls replies) → IsStep mid new made.after call reply
    → calls' ≡ calls ++ call ∷ [] → replies' ≡ replies ++ reply ∷ []
    → IsMadeInSteps old new h calls' replies'
step_more s old mid new h calls calls' replies replies' call reply made step c r = record {
  after = step.after;
  is_at = step.is_at;
  steps = subst (λ (cs : List Call). AreSteps old new h cs replies' step.after) (sym c)
      (subst (λ (rs : List Reply). AreSteps old new h (calls ++ call ∷ []) rs step.after) (sym r)
      (steps_append old mid new h made.after step.after calls (call ∷ []) replies (reply ∷ [])
      made.steps (new, step, (refl, refl))));
}

-- the first elements with the next one
pub taken_next : {X : Type 0} (xs : List X) (i : ℕ) (x : X) → i < length xs
    → x ≡ slice_index_or xs i x → take (i + 1) xs ≡ take i xs ++ x ∷ []
taken_next {X} xs i x lt is = take_more xs i x lt ∙ ap (λ (y : X). take i xs ++ y ∷ []) (sym is)

-- the next element of a list, seen through a function
pub seen_next : {X Y : Type 0} (f : X → Y) (xs : List X) (i : ℕ) (x : X) → i < length xs
    → x ≡ slice_index_or xs i x → map f (take (i + 1) xs) ≡ map f (take i xs) ++ f x ∷ []
seen_next f xs i x lt is = ap (map f) (taken_next xs i x lt is) ∙ map-append f (take i xs) (x ∷ [])

-- one that was appended, seen so
pub seen_last : {X Y : Type 0} (f : X → Y) (old new : List X) (x : X) → new ≡ old ++ x ∷ []
    → map f new ≡ map f old ++ f x ∷ []
seen_last f old new x is = ap (map f) is ∙ map-append f old (x ∷ [])

pub goes_nowhere : {S : Type 0} {s : Ghosts S} (db : Database S s) → IsSameDatabase db db
goes_nowhere db = record {
  honesty = (λ h. h, λ h. h);
  later = omega arith;
  bounds = refl;
  capacity =
      refl;
  writable = refl;
  base = refl;
  still = λ broken. refl;
  reading = λ honest access. refl;
}

-- one call more, whose bounds are told by those before it
one_more_goes : {S : Type 0} {s : Ghosts S} {wanted : Bounds} (next : Bounds → Bounds)
    (old mid new : Database S s) → IsSameUnder wanted old mid
    → IsSameUnder (next (meta_kept mid).bounds) mid new → IsSameUnder (next wanted) old new
one_more_goes {S} {s} next old mid new first second = record {
  honesty = both_ways second.honesty first.honesty;
  later = omega (arith, first.later, second.later);
  bounds = second.bounds ∙ ap next first.bounds;
  capacity = second.capacity ∙ first.capacity;
  writable = second.writable ∙ first.writable;
  base = second.base ∙ first.base;
  still = λ broken. second.still
      (ap (λ (store : S). (s.state store).usable) (first.still broken) ∙ broken)
      ∙ first.still broken;
  reading = λ honest access. second.reading (first.honesty.1 honest) (first.writable ∙ access)
      ∙ first.reading honest access;
}

-- one that keeps the bounds
pub still_goes : {S : Type 0} {s : Ghosts S} (old mid new : Database S s) → IsSameDatabase old mid
    → IsSameDatabase mid new → IsSameDatabase old new
still_goes old mid new first second = one_more_goes (λ bounds. bounds) old mid new first second

bounds_more : {S : Type 0} {s : Ghosts S} (first : Bounds) (old mid : Database S s)
    (calls : List made.Call) (replies : List told.Reply) (call : made.Call) (reply : told.Reply)
    → AreAnswered old mid calls replies
    → bounds_behind first (calls ++ call ∷ []) (replies ++ reply ∷ [])
    ≡ bounds_after (bounds_behind first calls replies) (call_of call) (reply_of reply)
bounds_more first old mid [] [] call reply answered = refl
bounds_more first old mid [] (r ∷ replies) call reply answered = absurd answered
bounds_more first old mid (c ∷ calls) [] call reply answered = absurd answered
bounds_more first old mid (c ∷ calls) (r ∷ replies) call reply (next, one, answered) =
    bounds_more (bounds_after first (call_of c) (reply_of r)) next mid calls replies call reply
    answered

pub goes_further : {S : Type 0} {s : Ghosts S} (old mid new : Database S s)
    (calls calls' : List made.Call) (replies replies' : List told.Reply) (call : made.Call)
    (reply : told.Reply) → AreAnswered old mid calls replies
    → IsSameUnder (bounds_behind (meta_kept old).bounds calls replies) old mid
    → IsSameUnder (bounds_after (meta_kept mid).bounds (call_of call) (reply_of reply)) mid new
    → calls' ≡ calls ++ call ∷ [] → replies' ≡ replies ++ reply ∷ []
    → IsSameUnder (bounds_behind (meta_kept old).bounds calls' replies') old new
goes_further old mid new calls calls' replies replies' call reply answered first second c r =
    let b = (meta_kept old).bounds in
    subst (λ (cs : List made.Call). IsSameUnder (bounds_behind b cs replies') old new) (sym c)
    (subst (λ (rs : List told.Reply). IsSameUnder (bounds_behind b (calls ++ call ∷ []) rs) old new)
    (sym r)
    (subst (λ (wanted : Bounds). IsSameUnder wanted old new)
    (sym (bounds_more b old mid calls replies call reply answered))
    (one_more_goes (λ bounds. bounds_after bounds (call_of call) (reply_of reply)) old mid new first
    second)))

-- what a call leaves, under another name of the call
pub goes_for : {S : Type 0} {s : Ghosts S} (old new : Database S s) (call call' : made.Call)
    (reply : told.Reply) → call ≡ call'
    → IsSameUnder (bounds_after (meta_kept old).bounds (call_of call') (reply_of reply)) old new
    → IsSameUnder (bounds_after (meta_kept old).bounds (call_of call) (reply_of reply)) old new
goes_for old new call call' reply is = subst
    (λ (c : made.Call).
    IsSameUnder (bounds_after (meta_kept old).bounds (call_of c) (reply_of reply)) old new) (sym is)
