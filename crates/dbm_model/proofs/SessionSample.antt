-- Small sessions: handles, a store that was stored, stopped or broken, and what a fetch tells.
use Rattle.std.proofs.Common.{◌≡◌, ◌⊎◌, inl, inr, ℕ, ◌+◌, ◌≤◌, true, false, List, [], ◌∷◌, ◌++◌, Option, Some, None, refl, sym, ◌∙◌, ap, subst, arith, Contains}
use Rattle.std.specs.FinMap.{empty, get, insert, len, len-empty, get-empty, get-insert}
use Rattle.std.specs.Cmp.Lexicographic.{nat_list_cmp_total}
use Rattle.dbm_model.specs.Bounds.{V1, Bounds, in_v1}
use Rattle.dbm_model.specs.Calls.{Call, Reply, Stored, Refused, Device}
use Rattle.dbm_model.specs.Examples.{one}
use Rattle.dbm_model.specs.Pairs.{Contents, key_cmp, IsAllowed}
use Rattle.dbm_model.specs.Holding.{IsWithin}
use Rattle.dbm_model.specs.Sizes.{home}
use Rattle.dbm_model.specs.States.{NotBegun, State, Handle, fresh, flagged}
use Rattle.dbm_model.specs.Steps.{Case, Finds, Changes, fetched, case_for, case_of, holds_far, takes_memory, Answers, Suffers, Step, Run, buckets_added}
use Rattle.dbm_model.proofs.HoldingLemmas.{stays_within}
use Rattle.dbm_model.proofs.RunLemmas.{adds, none_yet, one_more}
use Rattle.dbm_model.proofs.RuleLemmas.{ByCase, falls}
use Rattle.dbm_model.specs.Members.{Member, NoDatabase, Holding, Members, held, Opening, opened}
use Rattle.dbm_model.specs.Sessions.{Disk, Rested, StoppedCall, Broke, Begins, Rests, left_by, CutShort, SessionStep}
use Rattle.dbm_model.specs.SessionExamples.{reopens, store, fetch, nothing, pair}
use Rattle.dbm_model.proofs.Lists.{is_first, is_later}

-- ---- handles

abbrev pub at : State → Handle
at s = record { state = s; faults = 0; pages = 4; capacity = 8; buckets = 1 }

abbrev pub nine_v1 : Bounds
nine_v1 = in_v1 9

abbrev pub start : Contents → Handle
start map = at (fresh map nine_v1 true)

abbrev pub only : Contents
only = insert empty (one 0x61) (one 0x01)

pub step : (s after : State) (call : Call) (c : Case) (reply : Reply)
    → buckets_added (at s) reply (len after.map) ≡ 0 → case_of (at s) call ≡ c
    → Answers s c reply after → Step (at s) call reply (at after)
step s after call c reply none rule answers = record {
  counts = omega arith;
  capacity = refl;
  pages = (omega arith, omega arith);
  bounded = inl refl;
  buckets = ap (λ more. 1 + more) (sym none);
  answers = inl (subst (λ (d : Case). Answers s d reply after) (sym rule) answers);
}

store_rule : case_of (start empty) store ≡ Changes Stored (fresh only nine_v1 true)
store_rule = adds nine_v1 empty None NotBegun (one 0x61) (one 0x01) refl (get-empty key_cmp (one 0x61))
    (none_yet 9 (omega arith))

-- one pair is no reason for another bucket
one_bucket : buckets_added (start empty) Stored (len only) ≡ 0
one_bucket = ap (buckets_added (start empty) Stored) (one_more (one 0x61) (one 0x01))

pub is_stored : Step (start empty) store Stored (start only)
is_stored = step (fresh empty nine_v1 true) (fresh only nine_v1 true) store (Changes Stored (fresh only nine_v1 true)) Stored
    one_bucket store_rule (refl, refl)

pub has_pair : get only (one 0x61) ≡ Some (one 0x01)
has_pair = get-insert nat_list_cmp_total empty (one 0x61) (one 0x01) (one 0x61)

-- ---- sessions

-- on a device of eight pages that may fail once
abbrev pub disk : Disk
disk = record { pages = 8; at_start = 0; at_end = 1 }

-- limits of the examples
pub record IsSmall (limit : ℕ) : Type 0 where
  pub some : 1 ≤ limit
  pub most : limit ≤ 1000000
  pub pages : 4 ≤ home (in_v1 limit)

pub nine : IsSmall 9
nine = record { some = omega arith; most = omega arith; pages = omega arith }

pub five : IsSmall 5
five = record { some = omega arith; most = omega arith; pages = omega arith }

-- a map of the examples: at most one pair, and an allowed one
pub record IsPlain (map : Contents) : Type 0 where
  pub few : len map ≤ 1
  pub allowed : (key content : List ℕ) → get map key ≡ Some content → IsAllowed V1 (key, content)

none_within : IsWithin (fresh empty nine_v1 true)
none_within = record {
  few = omega (arith, len-empty key_cmp (List ℕ));
  allowed = λ key content has. absurd (let e = sym (get-empty key_cmp key) ∙ has in cc);
}

pub no_pair : IsPlain empty
no_pair = record {
  few = omega (arith, len-empty key_cmp (List ℕ));
  allowed = λ key content has. none_within.allowed key content has;
}

pub one_pair : IsPlain only
one_pair = record {
  few = omega (arith, one_more (one 0x61) (one 0x01));
  allowed = (stays_within (start empty) (start only) store Stored none_within is_stored).allowed;
}

pub begins : (before : Members) (how : Opening) (member : Member) (map : Contents) (limit : ℕ)
    → IsSmall limit → IsPlain map → Contains before member
    → opened how member ≡ Holding map (in_v1 limit)
    → Begins disk before how (at (fresh map (in_v1 limit) true))
begins before how member map limit small plain among is = record {
  member = member;
  among = among;
  begins = is;
  is_fresh = refl;
  is_on = record {
    capacity = refl;
    counts = omega arith;
    limited = (small.some, small.most);
    within = record { few = omega (arith, plain.few, small.some); allowed = plain.allowed };
    light = omega (arith, plain.few);
    few_pages = small.pages;
  };
}

-- one whose calls were all answered
pub all_answered : (first last : Handle) (calls : List Call) (replies : List Reply)
    → calls ≡ calls ++ [] → Run first calls replies last → last.state.usable ≡ true
    → last.faults ≤ 1 → Rests 1 first calls replies (held last.state ∷ [])
all_answered first last calls replies whole run usable few = record {
  goes = record {
    made = calls;
    later = [];
    calls_are = whole;
    last = last;
    run = run;
    usable = usable;
    counts = few;
  };
  left = refl;
}

-- one that was stopped within its first call
first_stopped : (first : Handle) (call : Call) → first.state.usable ≡ true → first.faults ≤ 1
    → CutShort 1 first (call ∷ []) [] (left_by first.state (case_of first call))
first_stopped first call usable few = record {
  goes = record {
    made = [];
    later = call ∷ [];
    calls_are = refl;
    last = first;
    run = refl;
    usable = usable;
    counts = few;
  };
  call = call;
  rest = [];
  next = refl;
  left = refl;
}

-- what the stop within the store leaves
abbrev pub doubt : Members
doubt = left_by (fresh empty nine_v1 true) (case_of (start empty) store)

doubt_is : doubt ≡ nothing 9 ∷ pair 9 ∷ []
doubt_is = ap (left_by (fresh empty nine_v1 true)) store_rule

in_doubt : (member : Member) → Contains (nothing 9 ∷ pair 9 ∷ []) member → Contains doubt member
in_doubt member is = subst (λ (ms : Members). Contains ms member) (sym doubt_is) is

pub pair_in_doubt : Contains doubt (pair 9)
pair_in_doubt = in_doubt (pair 9) (is_later (nothing 9) (pair 9 ∷ []) (pair 9)
    (is_first (pair 9) [] (pair 9) refl))

pub nothing_in_doubt : Contains doubt (nothing 9)
nothing_in_doubt = in_doubt (nothing 9) (is_first (nothing 9) (pair 9 ∷ []) (nothing 9) refl)

pub stopped_store : SessionStep disk (nothing 9 ∷ []) (reopens (store ∷ [])) (StoppedCall []) doubt
stopped_store = (
  start empty,
  begins (nothing 9 ∷ []) (reopens []).how (nothing 9) empty 9 nine no_pair
      (is_first (nothing 9) [] (nothing 9) refl) refl,
  first_stopped (start empty) store refl (omega arith),
)

pub fetches : (map : Contents) (reply : Reply) → IsPlain map → Contains doubt (Holding map nine_v1)
    → buckets_added (start map) reply (len map) ≡ 0 → case_of (start map) fetch ≡ Finds reply
    → SessionStep disk doubt (reopens (fetch ∷ [])) (Rested (reply ∷ [])) (Holding map nine_v1 ∷ [])
fetches map reply plain among none rule = (
  start map,
  begins doubt (reopens []).how (Holding map nine_v1) map 9 nine plain among refl,
  all_answered (start map) (start map) (fetch ∷ []) (reply ∷ []) refl (
    start map,
    step (fresh map nine_v1 true) (fresh map nine_v1 true) fetch (Finds reply) reply none rule
        (refl, refl),
    refl,
  ) refl (omega arith),
)

-- the device fails in the store
broken_store : Handle
broken_store = record {
  state = record (flagged Device (fresh empty nine_v1 true)) { map = empty; usable = false };
  faults = 1;
  pages = 4;
  capacity = 8;
  buckets = 1;
}

breaks_store : Step (start empty) store (Refused Device) broken_store
unfolding broken_store
breaks_store = record {
  counts = omega arith;
  capacity = refl;
  pages = (omega arith, omega arith);
  bounded = inl refl;
  buckets = refl;
  answers = inr (subst
      (λ (d : Case). Suffers (start empty) store d (Refused Device) broken_store) (sym store_rule)
      (inr (inl (refl, omega arith, fresh empty nine_v1 true, inl refl, refl))));
}

pub broken_session : SessionStep disk (nothing 9 ∷ []) (reopens (store ∷ [])) (Broke (Refused Device ∷ []))
    doubt
unfolding broken_store first_stopped
broken_session = (
  start empty,
  begins (nothing 9 ∷ []) (reopens []).how (nothing 9) empty 9 nine no_pair
      (is_first (nothing 9) [] (nothing 9) refl) refl,
  record {
    answered = [];
    refused = [];
    replies_are = refl;
    cut = first_stopped (start empty) store refl (omega arith);
    broken = broken_store;
    step = breaks_store;
    breaks = refl;
    then_made = [];
    never_made = [];
    rest_is = refl;
    last = broken_store;
    run = refl;
    counts = omega arith;
  },
)

-- ---- what must be

abbrev pub bounds_of : Member → Bounds
bounds_of NoDatabase = in_v1 0
bounds_of (Holding map bounds) = bounds

abbrev pub map_of : Member → Contents
map_of NoDatabase = empty
map_of (Holding map bounds) = map

-- a handle that begins with this map
began : (map : Contents) (bounds : Bounds) (s : State) → Holding map bounds ≡ held s
    → s ≡ fresh s.map s.bounds true → s ≡ fresh map bounds true
began map bounds s is new = new ∙ ap (λ (m : Contents). fresh m s.bounds true) (sym (ap map_of is))
    ∙ ap (λ (b : Bounds). fresh map b true) (sym (ap bounds_of is))

found_or_failed : (h after : Handle) (call : Call) (reply found : Reply)
    → takes_memory h call ≡ false → ByCase h call (Finds found) reply after
    → (reply ≡ found) ⊎ (reply ≡ Refused Device)
found_or_failed h after call reply found none (inl is) = inl is.0
found_or_failed h after call reply found none (inr (inl fails)) = inr fails.0
found_or_failed h after call reply found none (inr (inr memory)) =
    absurd (let both = sym memory.2 ∙ none in cc)

-- the one call of a session, by the rule that it falls under
pub record OneCall (s : State) (call : Call) (c : Case) (reply : Reply) : Type 0 where
  pub first : Handle
  pub after : Handle
  pub at_first : first.state ≡ s
  pub told : ByCase first call c reply after

abbrev first_call : Call → List Call → Call
first_call other [] = other
first_call other (call ∷ calls) = call

one_call : (s : State) (c : Case) (call : Call) (first last : Handle) (made later : List Call)
    (reply : Reply) → first.state ≡ s → ((capacity : ℕ) → case_for capacity s call ≡ c)
    → call ∷ [] ≡ made ++ later → Run first made (reply ∷ []) last → OneCall s call c reply
one_call s c call first last [] later reply at_first rule is run = absurd run
one_call s c call first last (other ∷ made) later reply at_first rule is run = record {
  first = first;
  after = run.0;
  at_first = at_first;
  told = falls first run.0 call reply c
      (ap (λ (t : State). case_for first.capacity t call) at_first ∙ rule first.capacity)
      (subst (λ (d : Call). Step first d reply run.0) (sym (ap (first_call call) is)) run.1);
}

-- a session of one call, which begins with this map
pub told_at : (on : Disk) (before after : Members) (map : Contents) (c : Case) (call : Call)
    (reply : Reply) (session : SessionStep on before (reopens (call ∷ [])) (Rested (reply ∷ [])) after)
    → session.1.member ≡ Holding map nine_v1
    → ((capacity : ℕ) → case_for capacity (fresh map nine_v1 true) call ≡ c)
    → OneCall (fresh map nine_v1 true) call c reply
told_at on before after map c call reply session is rule =
    let goes = session.2.goes in
    one_call (fresh map nine_v1 true) c call session.0 goes.last goes.made goes.later reply
    (began map nine_v1 session.0.state (sym (ap (opened (reopens []).how) is) ∙ session.1.begins)
    session.1.is_fresh) rule goes.calls_are goes.run

-- one that fetches tells what the member has that it began with
pub told_by : (on : Disk) (before after : Members) (map : Contents) (reply found : Reply)
    (old : Option (List ℕ)) (session : SessionStep on before (reopens (fetch ∷ [])) (Rested (reply ∷ [])) after)
    → session.1.member ≡ Holding map nine_v1 → get map (one 0x61) ≡ old
    → holds_far (one 0x61) old ≡ false → fetched old ≡ Finds found
    → (reply ≡ found) ⊎ (reply ≡ Refused Device)
told_by on before after map reply found old session is has near rule =
    let call = told_at on before after map (Finds found) fetch reply session is
    (λ capacity. ap fetched has ∙ rule) in
    found_or_failed call.first call.after fetch reply found
    (ap (λ (s : State). holds_far (one 0x61) (get s.map (one 0x61))) call.at_first
    ∙ ap (holds_far (one 0x61)) has ∙ near) call.told
