-- A change that one handle made, as each other handle has it.
use Rattle.std.proofs.Common.{◌≡◌, inl, ⊎_elim, ℕ, Bool, true, false, cond, not, refl, sym, ap, subst, Option, Some, None, List, ◌*◌}
use Rattle.std.specs.Prelude.{nat_le, nat_lt}
use Rattle.std.specs.FinMap.{get, len}
use Rattle.dbm_model.specs.Bounds.{Version, V1, V2, upgraded}
use Rattle.dbm_model.specs.Calls.{Mode, Insert, Replace, Call, Store, Fetch, Delete, First, Next, Error, Clear, Upgrade, Reply, Fault, is_acknowledged}
use Rattle.dbm_model.specs.Pairs.{is_allowed}
use Rattle.dbm_model.specs.Sizes.{home}
use Rattle.dbm_model.specs.States.{State, Pass, Handle}
use Rattle.dbm_model.specs.Steps.{Case, Tells, Refuses, Declines, Finds, Passes, Changes, Answers, Suffers, case_of, stored, deleted, raised}
use Rattle.dbm_sharing.specs.Changes.{seen_by, handle_of, IsChange, ChangesAreShared}

-- the rule as it is to the other handle
abbrev pub shifted : Option Fault → Pass → Case → Case
shifted error pass (Tells said told) = Tells said (seen_by error pass told)
shifted error pass (Refuses fault) = Refuses fault
shifted error pass (Declines fault) = Declines fault
shifted error pass (Finds found) = Finds found
shifted error pass (Passes from) = Passes from
shifted error pass (Changes said next) = Changes said (seen_by error pass next)

pub either : (error : Option Fault) (pass : Pass) (b : Bool) (x y u v : Case)
    → x ≡ shifted error pass u → y ≡ shifted error pass v
    → cond b x y ≡ shifted error pass (cond b u v)
either error pass true x y u v is_x is_y = is_x
either error pass false x y u v is_x is_y = is_y

stored_alike : (error : Option Fault) (pass : Pass) (s : State) (key content : List ℕ) (mode : Mode)
    (old : Option (List ℕ)) → stored (seen_by error pass s) key content mode old
    ≡ shifted error pass (stored s key content mode old)
stored_alike error pass s key content Insert (Some old) = refl
stored_alike error pass s key content Replace (Some old) = refl
stored_alike error pass s key content Insert None =
    either error pass (nat_le s.bounds.limit (len s.map)) _ _ _ _ refl refl
stored_alike error pass s key content Replace None =
    either error pass (nat_le s.bounds.limit (len s.map)) _ _ _ _ refl refl

deleted_alike : (error : Option Fault) (pass : Pass) (s : State) (key : List ℕ)
    (old : Option (List ℕ)) → deleted (seen_by error pass s) key old
    ≡ shifted error pass (deleted s key old)
deleted_alike error pass s key None = refl
deleted_alike error pass s key (Some content) = refl

raised_alike : (error : Option Fault) (pass : Pass) (capacity : ℕ) (s : State) (version : Version)
    → raised capacity (seen_by error pass s) version
    ≡ shifted error pass (raised capacity s version)
raised_alike error pass capacity s V1 =
    either error pass (nat_lt capacity (2 * home (upgraded s.bounds))) _ _ _ _ refl refl
raised_alike error pass capacity s V2 = refl

pub alike : (error : Option Fault) (pass : Pass) (h : Handle) (call : Call) → IsChange call
    → case_of (handle_of error pass h) call ≡ shifted error pass (case_of h call)
alike error pass h (Store key content mode) is =
    either error pass h.state.usable _ _ _ _
    (either error pass (not h.state.writable) _ _ _ _ refl
    (either error pass (is_allowed h.state.bounds.version (key, content)) _ _ _ _
    (stored_alike error pass h.state key content mode (get h.state.map key)) refl)) refl
alike error pass h (Delete key) is =
    either error pass h.state.usable _ _ _ _
    (either error pass h.state.writable _ _ _ _
    (deleted_alike error pass h.state key (get h.state.map key)) refl) refl
alike error pass h Upgrade is =
    either error pass h.state.usable _ _ _ _
    (either error pass h.state.writable _ _ _ _
    (raised_alike error pass h.capacity h.state h.state.bounds.version) refl) refl
alike error pass h (Fetch key) is = absurd is
alike error pass h First is = absurd is
alike error pass h Next is = absurd is
alike error pass h Error is = absurd is
alike error pass h Clear is = absurd is

answered_alike : (error : Option Fault) (pass : Pass) (s after : State) (c : Case) (reply : Reply)
    → is_acknowledged reply ≡ true → Answers s c reply after
    → Answers (seen_by error pass s) (shifted error pass c) reply (seen_by error pass after)
answered_alike error pass s after (Tells said told) reply done is =
    (is.0, ap (seen_by error pass) is.1)
answered_alike error pass s after (Refuses fault) reply done is =
    absurd (let told = ap is_acknowledged is.0 in cc)
answered_alike error pass s after (Declines fault) reply done is =
    absurd (let told = ap is_acknowledged is.0 in cc)
answered_alike error pass s after (Finds found) reply done is =
    (is.0, ap (seen_by error pass) is.1)
answered_alike error pass s after (Passes from) reply done is =
    ⊎_elim
    (λ over. absurd (let told = ap is_acknowledged over.1 in cc))
    (λ some. absurd (let told = ap is_acknowledged some.2 in cc))
    is
answered_alike error pass s after (Changes said next) reply done is =
    (is.0, ap (seen_by error pass) is.1)

not_suffered : (h after : Handle) (call : Call) (c : Case) (reply : Reply)
    → is_acknowledged reply ≡ true → Suffers h call c reply after → ⊥
not_suffered h after call (Tells said told) reply done bad = bad
not_suffered h after call (Refuses fault) reply done bad = bad
not_suffered h after call (Declines fault) reply done bad =
    let told = ap is_acknowledged bad.0 in cc
not_suffered h after call (Finds found) reply done bad =
    ⊎_elim (λ it. let told = ap is_acknowledged it.0 in cc)
    (λ it. let told = ap is_acknowledged it.0 in cc) bad
not_suffered h after call (Passes from) reply done bad =
    let told = ap is_acknowledged bad.0 in cc
not_suffered h after call (Changes said next) reply done bad =
    ⊎_elim (λ it. let told = ap is_acknowledged it.0 in cc)
    (λ more. ⊎_elim (λ it. let told = ap is_acknowledged it.0 in cc)
    (λ rest. ⊎_elim (λ it. let told = ap is_acknowledged it.0 in cc)
    (λ it. let told = ap is_acknowledged it.0 in cc) rest) more) bad

pub changes_are_shared : ChangesAreShared
changes_are_shared error pass before after call reply changing done step = record {
  counts = step.counts;
  capacity = step.capacity;
  pages = step.pages;
  bounded = step.bounded;
  buckets = step.buckets;
  answers = inl (subst
      (λ (c : Case). Answers (seen_by error pass before.state) c reply (seen_by error pass after.state))
      (sym (alike error pass before call changing)) (answered_alike error pass before.state after.state
      (case_of before call) reply done (⊎_elim (λ is. is)
      (λ bad. absurd (not_suffered before after call (case_of before call) reply done bad)) step.answers)));
}
