-- What is left in doubt where a list of calls broke a database.
use Rattle.std.proofs.Common.{◌≡◌, inl, inr, ⊎_elim, ℕ, ◌≤◌, List, [], ◌∷◌, ◌++◌, true, false, refl, sym, ◌∙◌, ap, subst, append_assoc}
use Rattle.dbm_model.specs.Bounds.{Bounds}
use Rattle.dbm_model.specs.Calls.{Call, Reply, Refused, Device}
use Rattle.dbm_model.specs.Pairs.{Contents}
use Rattle.dbm_model.specs.States.{Handle}
use Rattle.dbm_model.specs.Steps.{Case, Step, Run}
use Rattle.dbm_model.proofs.CaseLemmas.{Suits, suits, breaks_by_change}
use Rattle.dbm_model.proofs.Runs.{run-push}
use Rattle.page_io.specs.Store.{Settled}
use Rattle.page_io.specs.Meaning.{ImageStandsFor}
use Rattle.page_io.specs.declared.store.PageStore.{Ghosts}
use Rattle.dbm_file.specs.Answers.{MayBeLeft, IsStep}
use Rattle.dbm_file.specs.Held.{Held, held_by}
use Rattle.dbm_file.specs.Database.{store_of, meta_kept, page_state, handle_of, IsAt}
use Rattle.dbm_file.specs.Runs.{IsInDoubt, IsBreak}
use Rattle.dbm_file.specs.declared.database.Database.{Database}

-- an image that a stop may leave now counts among those since any moment before
abbrev pub CountsNow : {S : Type 0} {s : Ghosts S} → Database S s → Type 0
CountsNow {S} {s} db = (t : ℕ) (x : Settled) → t ≤ (s.moment (store_of db)).at
    → s.settles_to (store_of db) x → s.settled_since (store_of db) t x

-- one map and one bounds
pub alike : {m n : Contents} {b c : Bounds} → m ≡ n → b ≡ c
    → ◌≡◌ {A = Held} (record { map = m; bounds = b }) (record { map = n; bounds = c })
alike map bounds = λ i. record { map = map i; bounds = bounds i }

-- what is kept of the meta page of a database has the bounds of its handle
pub bounds_shown : {S : Type 0} {s : Ghosts S} (db : Database S s) (h : Handle) → IsAt db h
    → h.state.bounds ≡ (meta_kept db).bounds
bounds_shown db h at = ap (λ (x : Handle). x.state.bounds) at.shows

pub held_shown : {S : Type 0} {s : Ghosts S} (db : Database S s) (h : Handle) → IsAt db h
    → held_by (handle_of db h.state.map).state ≡ held_by h.state
held_shown db h at = ap (λ (x : Handle). held_by x.state) (sym at.shows)

-- each image that a stop may leave now stands for what its handle holds
pub rests_shown : {S : Type 0} {s : Ghosts S} (db : Database S s) (h : Handle) → IsAt db h
    → (page_state db).usable ≡ true → (x : Settled) → s.settles_to (store_of db) x
    → ImageStandsFor x h.state.map h.state.bounds
rests_shown db h at usable x left =
    subst (λ (b : Bounds). ImageStandsFor x h.state.map b) (sym (bounds_shown db h at))
    (at.rests usable x left)

-- what a stop may leave of a call that broke its handle
doubted : (before after : Handle) (call : Call) (reply : Reply) (left : Held)
    → Step before call reply after → before.state.usable ≡ true → after.state.usable ≡ false
    → MayBeLeft before after call left → IsInDoubt before.state call left
doubted before after call reply left step was now (inl same) = inl same
doubted before after call reply left step was now (inr (inl is)) =
    ⊎_elim (λ old. inl (is ∙ alike old.0 old.1)) (λ new. inr (is ∙ alike new.0 new.1))
    (breaks_by_change before after call reply step was now).2
doubted before after call reply left step was now (inr (inr (broken, (said, next, falls, is)))) =
    let change = subst (λ (c : Case). Suits before.state call c) falls (suits before call) in
    inr (is ∙ alike change.map_was_asked change.bounds_were_asked)

-- whether it is usable is as its handle says
shown : {S : Type 0} {s : Ghosts S} (db : Database S s) (h : Handle) → IsAt db h
    → h.state.usable ≡ (page_state db).usable
shown db h at = ap (λ (x : Handle). x.state.usable) at.shows

-- the call that breaks a usable database is the last one so far
module _ {S : Type 0} (s : Ghosts S) (old mid new : Database S s) (start held : Handle)
    (calls : List Call) (replies : List Reply) (call : Call) (reply : Reply)
    (run : Run start calls replies held) (at : IsAt mid held)
    (step : IsStep mid new held call reply) (was : (page_state mid).usable ≡ true)
    (now : (page_state new).usable ≡ false)
    (counts : CountsNow new) where
  abbrev usable : held.state.usable ≡ true
  usable = shown mid held at ∙ was

  abbrev broken : step.after.state.usable ≡ false
  broken = shown new step.after step.is_at ∙ now

  is_device : reply ≡ Refused Device
  is_device = (breaks_by_change held step.after call reply step.step usable broken).1

  pub breaks_now : IsBreak new start (calls ++ call ∷ []) (replies ++ reply ∷ []) step.after
  breaks_now = record {
    earlier = calls;
    answered = replies;
    call = call;
    later = [];
    refused = [];
    calls_are = refl;
    replies_are = ap (λ (r : Reply). replies ++ r ∷ []) is_device;
    sound = held;
    run = run;
    usable = usable;
    broken = step.after;
    step = subst (λ (r : Reply). Step held call r step.after) is_device step.step;
    breaks = broken;
    rest = refl;
    in_doubt = λ x left.
        let within = step.survives was in
        let is = within.each x (counts (s.moment (store_of mid)).at x within.later left) in (
          is.0,
          doubted held step.after call reply is.0 step.step usable broken is.1,
          is.2,
        );
  }

-- a broken database makes no device call, and the doubt stays
pub breaks_before : {S : Type 0} (s : Ghosts S) (mid new : Database S s) (start held after : Handle)
    (calls : List Call) (replies : List Reply) (call : Call) (reply : Reply)
    → IsBreak mid start calls replies held → Step held call reply after
    → store_of new ≡ store_of mid
    → IsBreak new start (calls ++ call ∷ []) (replies ++ reply ∷ []) after
breaks_before {S} s mid new start held after calls replies call reply b step still = record {
  earlier = b.earlier;
  answered = b.answered;
  call = b.call;
  later = b.later ++ call ∷ [];
  refused = b.refused ++ reply ∷ [];
  calls_are = ap (λ (cs : List Call). cs ++ call ∷ []) b.calls_are
      ∙ append_assoc b.earlier (b.call ∷ b.later) (call ∷ []);
  replies_are = ap (λ (rs : List Reply). rs ++ reply ∷ []) b.replies_are
      ∙ append_assoc b.answered (Refused Device ∷ b.refused) (reply ∷ []);
  sound = b.sound;
  run = b.run;
  usable = b.usable;
  broken = b.broken;
  step = b.step;
  breaks = b.breaks;
  rest = run-push b.broken held after b.later b.refused call reply b.rest step;
  in_doubt = λ x left.
      b.in_doubt x (subst (λ (store : S). s.settles_to store x) still left);
}
