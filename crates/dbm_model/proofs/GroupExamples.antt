-- Sessions with a group that are worked out by hand.
use Rattle.std.proofs.Common.{◌≡◌, inl, inr, ⊎_elim, ℕ, ◌+◌, Bool, true, false, cond, List, [], ◌∷◌, ◌++◌, Option, Some, None, take, map, refl, sym, ◌∙◌, ap, subst, arith, Contains}
use Rattle.std.specs.FinMap.{empty, get, insert, len, get-empty, get-insert, len-empty, len-insert, same_map, nat_cmp-IsAntisymmetric, slice_cmp-IsAntisymmetric}
use Rattle.std.specs.Ordering.{eq_by_cmp}
use Rattle.std.specs.Prelude.{is_some, nat_le}
use Rattle.dbm_model.specs.Calls.{Replace, Call, Stored, Device}
use Rattle.dbm_model.specs.Changes.{replacing, with_pairs}
use Rattle.dbm_model.specs.Examples.{one}
use Rattle.dbm_model.specs.Pairs.{Pair, Contents, key_cmp}
use Rattle.dbm_model.specs.States.{NotBegun, State, Handle, fresh}
use Rattle.dbm_model.specs.Steps.{Changes, Step, Run, buckets_added}
use Rattle.dbm_model.specs.Bounds.{Bounds, in_v1}
use Rattle.dbm_model.specs.Holding.{IsWithin}
use Rattle.dbm_model.proofs.HoldingLemmas.{stays_within}
use Rattle.dbm_model.proofs.StoreLemmas.{stores_put_all}
use Rattle.dbm_model.proofs.SessionRooms.{bounds_stay}
use Rattle.dbm_model.proofs.RunLemmas.{order, adds, by_old, is_only, one_more}
use Rattle.dbm_model.specs.Members.{Member, Holding, Members, held, opened}
use Rattle.dbm_model.specs.Sessions.{Disk, NotOpened, StoppedOpening, Grouped, StoppedGroup, BrokeGroup, Goes, SessionStep}
use Rattle.dbm_model.specs.SessionExamples.{groups, reopens, store, nothing, pair, both, twice, pairs, later, GroupAcknowledged, GroupInDoubt, GroupOfOneKey, WrongGroups}
use Rattle.dbm_model.proofs.Lists.{is_first, is_later, in_one}
use Rattle.dbm_model.proofs.SessionSample.{nine_v1, bounds_of, disk, nine, no_pair, start, only, step, is_stored, has_pair, begins, map_of}
use Rattle.dbm_model.proofs.SessionExamples.{left_of}

-- ---- the second store

-- of another key
abbrev two : Contents
two = insert only (one 0x62) (one 0x01)

lacks_b : get only (one 0x62) ≡ None
lacks_b = is_only (one 0x01) (one 0x62)

has_b : get two (one 0x62) ≡ Some (one 0x01)
has_b = get-insert order only (one 0x62) (one 0x01) (one 0x62)

-- of the same key
abbrev again : Contents
again = insert only (one 0x61) (one 0x02)

-- two pairs are no reason for another bucket
few : (key content : List ℕ) (old : Option (List ℕ)) → get only key ≡ old
    → buckets_added (start only) Stored (cond (is_some old) 1 2) ≡ 0
    → buckets_added (start only) Stored (len (insert only key content)) ≡ 0
few key content old has none =
    ap (buckets_added (start only) Stored) (len-insert order only key content
    ∙ ap (λ (o : Option (List ℕ)). cond (is_some o) (len only) (len only + 1)) has
    ∙ ap (λ (n : ℕ). cond (is_some old) n (n + 1)) (one_more (one 0x61) (one 0x01))) ∙ none

second : Step (start only) (replacing (one 0x62, one 0x01)) Stored (start two)
second = step (fresh only nine_v1 true) (fresh two nine_v1 true) (replacing (one 0x62, one 0x01))
    (Changes Stored (fresh two nine_v1 true)) Stored (few (one 0x62) (one 0x01) None lacks_b refl)
    (adds nine_v1 only None NotBegun (one 0x62) (one 0x01) refl lacks_b
    (ap (nat_le 9) (one_more (one 0x61) (one 0x01)))) (refl, refl)

second_again : Step (start only) (replacing (one 0x61, one 0x02)) Stored (start again)
second_again = step (fresh only nine_v1 true) (fresh again nine_v1 true) (replacing (one 0x61, one 0x02))
    (Changes Stored (fresh again nine_v1 true)) Stored (few (one 0x61) (one 0x02) (Some (one 0x01)) has_pair refl)
    (by_old nine_v1 only None NotBegun (one 0x61) (one 0x02) refl Replace (Some (one 0x01)) has_pair)
    (refl, refl)

-- the later content is left
by_key : (b : Bool) (old : Option (List ℕ))
    → cond b (Some (one 0x02)) (cond b (Some (one 0x01)) old) ≡ cond b (Some (one 0x02)) old
by_key true old = refl
by_key false old = refl

is_later_one : again ≡ insert empty (one 0x61) (one 0x02)
is_later_one = same_map order (slice_cmp-IsAntisymmetric nat_cmp-IsAntisymmetric) again
    (insert empty (one 0x61) (one 0x02)) (λ q.
    get-insert order only (one 0x61) (one 0x02) q
    ∙ ap (cond (eq_by_cmp key_cmp q (one 0x61)) (Some (one 0x02)))
    (get-insert order empty (one 0x61) (one 0x01) q)
    ∙ by_key (eq_by_cmp key_cmp q (one 0x61)) (get (empty {X = List ℕ} {R = key_cmp}) q)
    ∙ sym (get-insert order empty (one 0x61) (one 0x02) q))

-- ---- sessions of a group alone

no_call : (map : Contents) → Goes 1 (start map) [] []
no_call map = record {
  made = [];
  later = [];
  calls_are = refl;
  last = start map;
  run = refl;
  usable = refl;
  counts = omega arith;
}

acknowledges : (group : List Pair) (count : ℕ) (left : Contents)
    → Run (start empty) (map replacing (take count group)) (map (λ _. Stored) (take count group))
    (start left)
    → SessionStep disk (nothing 9 ∷ []) (groups [] group) (Grouped [] count) (Holding left nine_v1 ∷ [])
unfolding no_call
acknowledges group count left run = (
  start empty,
  begins (nothing 9 ∷ []) (reopens []).how (nothing 9) empty 9 nine no_pair
      (is_first (nothing 9) [] (nothing 9) refl) refl,
  record {
    goes = no_call empty;
    all = refl;
    last = start left;
    run = run;
    counts = omega arith;
    left = refl;
  },
)

abbrev either : Members
either = nothing 9 ∷ pairs 9 ∷ []

stops : SessionStep disk (nothing 9 ∷ []) (groups [] both) (StoppedGroup [] 2) either
unfolding no_call
stops = (
  start empty,
  begins (nothing 9 ∷ []) (reopens []).how (nothing 9) empty 9 nine no_pair
      (is_first (nothing 9) [] (nothing 9) refl) refl,
  record {
    goes = no_call empty;
    all = refl;
    stored = start two;
    run = (start only, is_stored, (start two, second, refl));
    counts = omega arith;
    left = refl;
  },
)

breaks : SessionStep disk (nothing 9 ∷ []) (groups [] both) (BrokeGroup [] 2) either
breaks = (stops.0, stops.1, stops.2, omega arith)

has_pairs : Contains either (pairs 9)
has_pairs = is_later (nothing 9) (pairs 9 ∷ []) (pairs 9) (is_first (pairs 9) [] (pairs 9) refl)

-- ---- the examples

pub group_acknowledged : GroupAcknowledged
group_acknowledged = record {
  may = record {
    pages = 8;
    after = pairs 9 ∷ [];
    sessions = (
      disk,
      refl,
      pairs 9 ∷ [],
      acknowledges both 2 two (start only, is_stored, (start two, second, refl)),
      refl,
    );
    among = is_first (pairs 9) [] (pairs 9) refl;
  };
  stays = λ member m. left_of (nothing 9) (groups [] both ∷ reopens [] ∷ reopens [] ∷ [])
      (Grouped [] 2 ∷ NotOpened Device ∷ StoppedOpening ∷ []) member m;
  shorter = record {
    pages = 8;
    after = pair 9 ∷ [];
    sessions = (
      disk,
      refl,
      pair 9 ∷ [],
      acknowledges both 1 only (start only, is_stored, refl),
      refl,
    );
    among = is_first (pair 9) [] (pair 9) refl;
  };
}

pub group_in_doubt : GroupInDoubt
group_in_doubt = record {
  none = record {
    pages = 8;
    after = either;
    sessions = (disk, refl, either, stops, refl);
    among = is_first (nothing 9) (pairs 9 ∷ []) (nothing 9) refl;
  };
  all = record {
    pages = 8;
    after = either;
    sessions = (disk, refl, either, stops, refl);
    among = has_pairs;
  };
  only = λ member m. ⊎_elim (λ e. inr e) (λ e. inl e)
      (left_of (nothing 9) (groups [] both ∷ []) (StoppedGroup [] 2 ∷ []) member m);
  broken = record {
    pages = 8;
    after = either;
    sessions = (disk, refl, either, breaks, refl);
    among = has_pairs;
  };
}

pub group_of_one_key : GroupOfOneKey
group_of_one_key =
    let same = ap (λ (map : Contents). Holding map nine_v1) is_later_one in record {
      may = record {
        pages = 8;
        after = Holding again nine_v1 ∷ [];
        sessions = (
          disk,
          refl,
          Holding again nine_v1 ∷ [],
          acknowledges twice 2 again (start only, is_stored, (start again, second_again, refl)),
          refl,
        );
        among = is_first (Holding again nine_v1) [] (later 9) (sym same);
      };
      only = λ member m.
          left_of (nothing 9) (groups [] twice ∷ []) (Grouped [] 2 ∷ []) member m ∙ same;
    }

-- ---- what never is

none_there : (a b : Member) (key content : List ℕ) → a ≡ b → get (map_of a) key ≡ None
    → get (map_of b) key ≡ Some content → ⊥
none_there a b key content same absent has =
    absurd (let x = sym absent ∙ ap (λ (m : Member). get (map_of m) key) same ∙ has in cc)

none_made : (first last : Handle) (call : Call) (made rest : List Call)
    → call ∷ [] ≡ made ++ rest → rest ≡ [] → Run first made [] last → ⊥
none_made first last call [] rest is none run = absurd (let x = is ∙ none in cc)
none_made first last call (other ∷ made) rest is none run = absurd run

too_early : (most : ℕ) (first : Handle) (goes : Goes most first (store ∷ []) [])
    → goes.later ≡ [] → ⊥
too_early most first goes none =
    none_made first goes.last store goes.made goes.later goes.calls_are none goes.run

-- no call was made where none was asked for
none_asked : (first last : Handle) (made later : List Call) → [] ≡ made ++ later
    → Run first made [] last → last ≡ first
none_asked first last [] later is run = run
none_asked first last (call ∷ made) later is run = absurd run

-- a new database has nothing, so it is within its bounds
new_within : (s : State) → s.map ≡ empty → IsWithin s
new_within s new = record {
  few = omega (arith, ap len new, len-empty key_cmp (List ℕ));
  allowed = λ key content has. absurd (
      let none = sym has ∙ ap (λ (m : Contents). get m key) new ∙ get-empty key_cmp key in cc
      );
}

two_pairs : len two ≡ 2
two_pairs = len-insert order only (one 0x62) (one 0x01)
    ∙ ap (λ (o : Option (List ℕ)). cond (is_some o) (len only) (len only + 1)) lacks_b
    ∙ ap (λ (n : ℕ). n + 1) (one_more (one 0x61) (one 0x01))

-- both can't be stored where the limit is one
none_past_limit : (from last : Handle) → from.state.map ≡ empty → from.state.bounds ≡ in_v1 1
    → Run from (map replacing both) (map (λ _. Stored) both) last → ⊥
none_past_limit from last new small run =
    let first = stays_within from run.0 (replacing (one 0x61, one 0x01)) Stored
    (new_within from.state new) run.1 in
    let second = stays_within run.0 run.2.0 (replacing (one 0x62, one 0x01)) Stored first run.2.1 in
    let end : IsWithin last.state =
    subst (λ (h : Handle). IsWithin h.state) (sym run.2.2) second in
    let stored = stores_put_all from last both run
    ∙ ap (λ (m : Contents). with_pairs m both) new in
    omega (
      arith,
      end.few,
      ap len stored,
      two_pairs,
      ap (λ (b : Bounds). b.limit) (bounds_stay from last both run ∙ small),
    )

past_limit : (on : Disk) (after : Members)
    → SessionStep on (nothing 1 ∷ []) (groups [] both) (StoppedGroup [] 2) after → ⊥
past_limit on after (first, begins, cut) =
    let begun : held first.state ≡ nothing 1 = sym begins.begins
    ∙ ap (opened (groups [] both).how) (in_one (nothing 1) begins.member begins.among) in
    let same = none_asked first cut.goes.last cut.goes.made cut.goes.later cut.goes.calls_are
    cut.goes.run in
    none_past_limit (record cut.goes.last { faults = cut.stored.faults }) cut.stored
    (ap (λ (h : Handle). h.state.map) same ∙ ap map_of begun)
    (ap (λ (h : Handle). h.state.bounds) same ∙ ap bounds_of begun) cut.run

pub wrong_groups : WrongGroups
wrong_groups = record {
  alone = λ m. ⊎_elim
      (λ is. none_there (pair 9) (pairs 9) (one 0x62) (one 0x01) is lacks_b has_b)
      (λ is. none_there (nothing 9) (pair 9) (one 0x61) (one 0x01) (sym is)
      (get-empty key_cmp (one 0x61)) has_pair)
      (left_of (nothing 9) (groups [] both ∷ []) (StoppedGroup [] 2 ∷ []) (pair 9) m);
  early = λ member m. let session = m.sessions.3 in
      too_early m.sessions.0.at_end session.0 session.2.goes session.2.all;
  stopped_early = λ member m. let session = m.sessions.3 in
      too_early m.sessions.0.at_end session.0 session.2.goes session.2.all;
  past_limit = λ member m. past_limit m.sessions.0 m.sessions.2 m.sessions.3;
}
