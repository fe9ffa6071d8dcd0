-- Chains that are worked out by hand.
use Rattle.std.proofs.Common.{◌≡◌, ◌⊎◌, inl, inr, ℕ, true, false, refl, sym, ◌∙◌, ap, subst, arith, Some, None, [], ◌∷◌}
use Rattle.std.specs.Prelude.{nat_lt}
use Rattle.std.specs.FinMap.{empty, get, get-empty}
use Rattle.dbm_model.specs.Calls.{Call, Delete, First, Next, Error, Reply, Stored, Deleted, Bytes, NoRecord, End, Number, Refused, Device, NoPass}
use Rattle.dbm_model.specs.Examples.{one}
use Rattle.dbm_model.specs.Pairs.{Contents, key_cmp}
use Rattle.dbm_model.specs.SessionExamples.{store, fetch}
use Rattle.dbm_model.specs.States.{State, NotBegun, Begun, Behind, Handle, fresh, flagged, error_number}
use Rattle.dbm_model.specs.Steps.{Case, Tells, Refuses, Finds, Passes, Changes, fetched, deleted, case_for, holds_far, takes_memory, Suffers, IsNextKey}
use Rattle.dbm_model.proofs.PassRuns.{a, b}
use Rattle.dbm_model.proofs.RuleLemmas.{ByCase, falls, if_usable}
use Rattle.dbm_model.proofs.SessionSample as sample
use Rattle.dbm_sharing.specs.Handles.{Own, just_opened, Shared, state_of, file_of, IsHandleAt}
use Rattle.dbm_sharing.specs.Periods.{Answered, IsLeft, IsAnswered, IsCutByDevice, IsCutByDeath}
use Rattle.dbm_sharing.specs.Examples.{start, MayHappen, with_a, with_both, StoreIsSeen, PassOverDelete, DeathInStore, StoreIsBroken, PassOverReplacement, OpenedAnew}
use Rattle.dbm_sharing.proofs.PeriodLemmas.{file_answered}
use Rattle.dbm_sharing.proofs.Sample.{eight, over, IsFine, is_handle, own_of, with_own, others, answered, x, none_fine, store_rule, a_fine, both_fine, has_a, both_have_a, both_have_b, without, fine_without, first_of_a, first_of_both, over_without_b, next_without_a}

-- what each handle has at the start
abbrev at_start : ℕ → Own
at_start who = just_opened (nat_lt who 2)

-- a call of one handle that changes its own alone
abbrev then_own : (ℕ → Own) → ℕ → State → (ℕ → Own)
then_own own who t = with_own own who (own_of t)

-- ---- a store and a fetch

fetches : (own : ℕ → Own) (who : ℕ) → IsAnswered 8 (over with_a own) who fetch (Bytes x)
    (over with_a (then_own own who (state_of (over with_a own) who)))
fetches own who =
    let s = state_of (over with_a own) who in
    answered with_a own who fetch (Finds (Bytes x)) (Bytes x) s a_fine (ap fetched has_a)
    (refl, refl) refl refl

pub store_may_be_seen : MayHappen empty
    (Answered 0 store Stored ∷ Answered 2 fetch (Bytes (one 0x01)) ∷ [])
store_may_be_seen =
    let t = fresh with_a eight true in
    let own = then_own at_start 0 t in
    record {
      pages = 8;
      after = over with_a (then_own own 2 (state_of (over with_a own) 2));
      chain = (
        over with_a own,
        answered empty at_start 0 store (Changes Stored t) Stored t none_fine (store_rule None NotBegun)
            (refl, refl) refl refl,
        (over with_a (then_own own 2 (state_of (over with_a own) 2)), fetches own 2, refl),
      );
    }

found_or_failed : (h after : Handle) (call : Call) (reply found : Reply)
    → takes_memory h call ≡ false → ByCase h call (Finds found) reply after
    → (reply ≡ found) ⊎ (reply ≡ Refused Device)
found_or_failed h after call reply found none (inl is) = inl is.0
found_or_failed h after call reply found none (inr (inl fails)) = inr fails.0
found_or_failed h after call reply found none (inr (inr memory)) =
    absurd (let both = sym memory.2 ∙ none in cc)

-- a fetch where the map has a alone
fetch_tells : (pages : ℕ) (before after : Shared) (who : ℕ) (reply : Reply) → before.map ≡ with_a
    → IsAnswered pages before who fetch reply after → (reply ≡ Bytes x) ⊎ (reply ≡ Refused Device)
fetch_tells pages before after who reply map is =
    let here : get is.first.state.map a ≡ Some x =
    ap (λ (s : State). get s.map a) is.begins.state ∙ ap (λ (m : Contents). get m a) map ∙ has_a in
    let usable = ap (λ (s : State). s.usable) is.begins.state in
    found_or_failed is.first is.last fetch reply (Bytes x) (ap (holds_far a) here)
    (falls is.first is.last fetch reply (Finds (Bytes x))
    (if_usable is.first fetch usable ∙ ap fetched here) is.step)

pub store_is_seen : StoreIsSeen
store_is_seen = record {
  may = store_may_be_seen;
  only = λ reply m. let chain = m.chain in
      fetch_tells m.pages chain.0 chain.2.0 2 reply
      (file_answered m.pages (start empty) chain.0 0 store Stored chain.1).0 chain.2.1;
}

-- ---- a pass over a delete, and over another table

first_given : (map : Contents) (own : ℕ → Own) (who : ℕ) → IsFine map → IsNextKey map Begun a
    → IsAnswered 8 (over map own) who First (Bytes a)
    (over map (then_own own who (record (state_of (over map own) who) { pass = Behind a })))
first_given map own who fine next =
    let s = state_of (over map own) who in
    answered map own who First (Passes Begun) (Bytes a) (record s { pass = Behind a }) fine refl
    (inr (a, next, refl, refl)) refl refl

pub pass_over_delete : PassOverDelete
pass_over_delete =
    let begun = record (state_of (over with_both at_start) 2) { pass = Behind a } in
    let own = then_own at_start 2 begun in
    let kept = state_of (over with_both own) 0 in
    let less = record kept { map = without b } in
    let then_is = then_own own 0 less in
    let last = state_of (over (without b) then_is) 2 in
    record {
      pages = 8;
      after = over (without b) (then_own then_is 2 last);
      chain = (
        over with_both own,
        first_given with_both at_start 2 both_fine first_of_both,
        (
          over (without b) then_is,
          answered with_both own 0 (Delete b) (Changes Deleted less) Deleted less both_fine
              (ap (deleted kept b) both_have_b) (refl, refl) refl refl,
          (
            over (without b) (then_own then_is 2 last),
            answered (without b) then_is 2 Next (Passes (Behind a)) End last
                (fine_without b both_have_b) refl (inl (over_without_b, refl, refl)) refl refl,
            refl,
          ),
        ),
      );
    }

pub pass_over_replacement : PassOverReplacement
pass_over_replacement =
    let begun = record (state_of (over with_a at_start) 2) { pass = Behind a } in
    let own = then_own at_start 2 begun in
    let last = record (state_of (over (without a) own) 2) { pass = Behind b } in
    record {
      pages = 8;
      after = over (without a) (then_own own 2 last);
      chain = (
        over with_a own,
        first_given with_a at_start 2 a_fine first_of_a,
        (
          over (without a) own,
          record { file = refl; all_stay = λ who. refl },
          (
            over (without a) (then_own own 2 last),
            answered (without a) own 2 Next (Passes (Behind a)) (Bytes b) last
                (fine_without a both_have_a) refl (inr (b, next_without_a, refl, refl)) refl refl,
            refl,
          ),
        ),
      );
    }

pub opened_anew : OpenedAnew
opened_anew =
    let begun = record (state_of (over with_a at_start) 1) { pass = Behind a } in
    let own = then_own at_start 1 begun in
    let new = with_own own 1 (just_opened false) in
    let last = flagged NoPass (state_of (over with_a new) 1) in
    record {
      pages = 8;
      after = over with_a (then_own new 1 last);
      chain = (
        over with_a own,
        first_given with_a at_start 1 a_fine first_of_a,
        (
          over with_a new,
          record { file = refl; opened = refl; others = others own 1 (just_opened false) },
          (
            over with_a (then_own new 1 last),
            answered with_a new 1 Next (Refuses NoPass) (Refused NoPass) last a_fine refl (refl, refl)
                refl refl,
            refl,
          ),
        ),
      );
    }

-- ---- calls that were cut short

abbrev stored : State
stored = fresh with_a eight true

rule : case_for 8 (state_of (over empty at_start) 0) store ≡ Changes Stored stored
rule = store_rule None NotBegun

first_of_0 : IsHandleAt 8 (state_of (over empty at_start) 0)
    (sample.at (state_of (over empty at_start) 0))
first_of_0 = is_handle empty at_start 0 none_fine

-- what each handle has once the first one died
abbrev gone : ℕ → Own
gone = with_own at_start 0 (just_opened true)

dies_behind : IsCutByDeath 8 (over empty at_start) 0 store true (over with_a gone)
dies_behind = record {
  first = sample.at (state_of (over empty at_start) 0);
  begins = first_of_0;
  left = subst
      (λ (c : Case). IsLeft true (state_of (over empty at_start) 0) c (file_of (over with_a gone)))
      (sym rule) refl;
  gone = refl;
  others = others at_start 0 (just_opened true);
}

dies_before : IsCutByDeath 8 (over empty at_start) 0 store false (over empty gone)
dies_before = record {
  first = sample.at (state_of (over empty at_start) 0);
  begins = first_of_0;
  left = refl;
  gone = refl;
  others = others at_start 0 (just_opened true);
}

fetches_none : (own : ℕ → Own) (who : ℕ) → IsAnswered 8 (over empty own) who fetch NoRecord
    (over empty (then_own own who (state_of (over empty own) who)))
fetches_none own who =
    let s = state_of (over empty own) who in
    answered empty own who fetch (Finds NoRecord) NoRecord s none_fine (ap fetched (get-empty key_cmp a))
    (refl, refl) refl refl

pub death_in_store : DeathInStore
death_in_store = record {
  happened = record {
    pages = 8;
    after = over with_a (then_own gone 1 (state_of (over with_a gone) 1));
    chain = (
      over with_a gone,
      dies_behind,
      (over with_a (then_own gone 1 (state_of (over with_a gone) 1)), fetches gone 1, refl),
    );
  };
  not_happened = record {
    pages = 8;
    after = over empty (then_own gone 1 (state_of (over empty gone) 1));
    chain = (
      over empty gone,
      dies_before,
      (over empty (then_own gone 1 (state_of (over empty gone) 1)), fetches_none gone 1, refl),
    );
  };
}

abbrev broken : Handle
broken = record (sample.at (fresh empty eight true)) {
  state = record (flagged Device (fresh empty eight true)) { map = with_a; usable = false };
  faults = 1;
}

-- what each handle has once the device broke the first one
abbrev failed : ℕ → Own
failed = with_own at_start 0 (record {
  error = Some Device;
  pass = NotBegun;
  writable = true;
})

breaks : IsCutByDevice 8 (over empty at_start) 0 store true (over with_a failed)
breaks = record {
  first = sample.at (state_of (over empty at_start) 0);
  begins = first_of_0;
  broken = broken;
  step = record {
    counts = omega arith;
    capacity = refl;
    pages = (omega arith, omega arith);
    bounded = inl refl;
    buckets = refl;
    answers = inr (subst
        (λ (c : Case). Suffers (sample.at (fresh empty eight true)) store c (Refused Device) broken)
        (sym rule) (inr (inl (refl, omega arith, stored, inr refl, refl))));
  };
  breaks = refl;
  left = subst (λ (c : Case). IsLeft true (fresh empty eight true) c (file_of (over with_a failed)))
      (sym rule) refl;
  ends = refl;
  others = others at_start 0 (failed 0);
}

told_error : (own : ℕ → Own) (who number : ℕ) → error_number (own who).error ≡ number
    → IsAnswered 8 (over with_a own) who Error (Number number)
    (over with_a (then_own own who (state_of (over with_a own) who)))
told_error own who number is =
    let s = state_of (over with_a own) who in
    answered with_a own who Error (Tells (Number number) s) (Number number) s a_fine
    (ap (λ (n : ℕ). Tells (Number n) s) is) (refl, refl) refl refl

abbrev then_same : (ℕ → Own) → ℕ → (ℕ → Own)
then_same own who = then_own own who (state_of (over with_a own) who)

pub store_is_broken : StoreIsBroken
store_is_broken =
    let second = then_same failed 0 in
    let third = then_same second 0 in
    let fourth = then_same third 1 in
    record {
      pages = 8;
      after = over with_a (then_same fourth 1);
      chain = (
        over with_a failed,
        breaks,
        (
          over with_a second,
          fetches failed 0,
          (
            over with_a third,
            told_error second 0 2 refl,
            (
              over with_a fourth,
              told_error third 1 0 refl,
              (over with_a (then_same fourth 1), fetches fourth 1, refl),
            ),
          ),
        ),
      );
    }
