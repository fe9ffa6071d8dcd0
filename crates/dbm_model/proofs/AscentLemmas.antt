-- The keys of a pass come in ascending order.
use Rattle.std.proofs.Common.{◌≡◌, ◌≢◌, List, [], ◌∷◌, ◌++◌, zero, suc, refl, sym, ◌∙◌, ap, subst, arith}
use Rattle.std.specs.Prelude.{All, AllPairs, slice_index_or}
use Rattle.std.proofs.lemmas.List.Kept.{AllPairs-cons}
use Rattle.dbm_model.specs.Calls.{Call, Store, Fetch, Delete, First, Next, Error, Clear, Upgrade, Reply}
use Rattle.dbm_model.specs.KeyOrder.{ComesBefore}
use Rattle.dbm_model.specs.Pairs.{Key}
use Rattle.dbm_model.specs.States.{State, Pass, NotBegun, Begun, Behind, Handle}
use Rattle.dbm_model.specs.Steps.{IsAhead, Run}
use Rattle.dbm_model.specs.Passes.{given_by, given, BeginNone, PassesAscend, NoKeyIsGivenTwice}
use Rattle.dbm_model.proofs.KeyOrderLemmas.{comes_on}
use Rattle.dbm_model.proofs.PassSteps.{from_of, PassStep, rests, ends, gives, end_gives, pass_step}
use Rattle.dbm_model.proofs.TimesLemmas.{at_most_once}

ahead_on : (from : Pass) (key other : Key) → IsAhead from key → ComesBefore key other
    → IsAhead from other
ahead_on NotBegun key other ahead before = ahead
ahead_on Begun key other ahead before = tt
ahead_on (Behind last) key other ahead before = comes_on last key other ahead before

pub from_same : (s : State) (call : Call) → call ≢ First → from_of s call ≡ s.pass
from_same s (Store key content mode) other = refl
from_same s (Fetch key) other = refl
from_same s (Delete key) other = refl
from_same s First other = absurd (other refl)
from_same s Next other = refl
from_same s Error other = refl
from_same s Clear other = refl
from_same s Upgrade other = refl

-- the keys are ahead of a pass, in ascending order
record IsAscent (from : Pass) (ks : List Key) : Type 0 where
  pub ahead : All (IsAhead from) ks
  pub ascend : AllPairs ComesBefore ks

-- of a key and those behind it
ascent_on : (from : Pass) (key : Key) (ks : List Key) → IsAhead from key
    → IsAscent (Behind key) ks → IsAscent from (key ∷ ks)
ascent_on from key ks ahead later = record {
  ahead = all;
  ascend = AllPairs-cons ComesBefore key ks later.ahead later.ascend;
}
  where
    all : All (IsAhead from) (key ∷ ks)
    all zero d within = ahead
    all (suc k) d within = ahead_on from key (slice_index_or ks k d) ahead
        (later.ahead k d (omega arith))

-- the keys of a call and of those after it
ascent_by_step : (s after : State) (call : Call) (reply : Reply) (ks : List Key)
    → PassStep s call reply after → call ≢ First → IsAscent after.pass ks
    → IsAscent s.pass (given_by call reply ++ ks)
ascent_by_step s after call reply ks (rests same none refused) other later =
    subst (λ (one : List Key). IsAscent s.pass (one ++ ks)) (sym none)
    (subst (λ (p : Pass). IsAscent p ks) same later)
ascent_by_step s after call reply ks (ends over same said) other later =
    subst (λ (one : List Key). IsAscent s.pass (one ++ ks))
    (sym (ap (given_by call) said ∙ end_gives call))
    (subst (λ (p : Pass). IsAscent p ks) (same ∙ from_same s call other) later)
ascent_by_step s after call reply ks (gives key next same said one) other later =
    subst (λ (one : List Key). IsAscent s.pass (one ++ ks)) (sym one)
    (ascent_on s.pass key ks
    (subst (λ (p : Pass). IsAhead p key) (from_same s call other) next.ahead)
    (subst (λ (p : Pass). IsAscent p ks) same later))

ascent : (before after : Handle) (calls : List Call) (replies : List Reply)
    → Run before calls replies after → BeginNone calls
    → IsAscent before.state.pass (given calls replies)
ascent before after [] [] run none = record {
  ahead = λ k d within. absurd (omega arith);
  ascend = λ i j d lt within. absurd (omega arith);
}
ascent before after (call ∷ calls) (reply ∷ replies) run none =
    ascent_by_step before.state run.0.state call reply (given calls replies)
    (pass_step before run.0 call reply run.1) none.0
    (ascent run.0 after calls replies run.2 none.1)
ascent before after [] (reply ∷ replies) run none = absurd run
ascent before after (call ∷ calls) [] run none = absurd run

-- a firstkey has all keys ahead, and where it is refused, those of the pass before
first_ascends : (s after : State) (reply : Reply) (ks : List Key) → PassStep s First reply after
    → IsAscent after.pass ks → AllPairs ComesBefore (given_by First reply ++ ks)
first_ascends s after reply ks (rests same none refused) later =
    subst (λ (one : List Key). AllPairs ComesBefore (one ++ ks)) (sym none) later.ascend
first_ascends s after reply ks (ends over same said) later =
    subst (λ (one : List Key). AllPairs ComesBefore (one ++ ks)) (sym (ap (given_by First) said))
    later.ascend
first_ascends s after reply ks (gives key next same said one) later =
    let behind = subst (λ (p : Pass). IsAscent p ks) same later in
    subst (λ (one : List Key). AllPairs ComesBefore (one ++ ks)) (sym one)
    (AllPairs-cons ComesBefore key ks behind.ahead behind.ascend)

pub passes_ascend : PassesAscend
passes_ascend before after calls (reply ∷ replies) run none =
    first_ascends before.state run.0.state reply (given calls replies)
    (pass_step before run.0 First reply run.1) (ascent run.0 after calls replies run.2 none)
passes_ascend before after calls [] run none = absurd run

pub none_given_twice : NoKeyIsGivenTwice
none_given_twice before after calls replies run none key =
    at_most_once (given (First ∷ calls) replies) key
    (passes_ascend before after calls replies run none)
