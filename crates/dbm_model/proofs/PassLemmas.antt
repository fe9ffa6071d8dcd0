-- A key that is there throughout a pass is given once.
use Rattle.std.proofs.Common.{◌≡◌, ◌≢◌, ⊎_elim, ℕ, ◌≤◌, Bool, true, false, cond, List, [], ◌∷◌, ◌++◌, Some, None, refl, sym, ◌∙◌, ap, subst, arith}
use Rattle.std.specs.Prelude.{is_some, IsSome}
use Rattle.std.specs.Cmp.Lexicographic.{nat_list_cmp_total}
use Rattle.std.specs.FinMap.{get, insert, remove, get-insert, get-remove}
use Rattle.std.specs.Ordering.{eq_by_cmp}
use Rattle.dbm_model.specs.Calls.{Mode, Call, Store, Fetch, Delete, First, Next, Error, Clear, Upgrade, Reply, Stored, Kept, Deleted, Absent, Bytes, NoRecord, End, Number, Upgraded, Refused, is_acknowledged}
use Rattle.dbm_model.specs.Changes.{map_after}
use Rattle.dbm_model.specs.Pairs.{Key, Contents, key_cmp}
use Rattle.dbm_model.specs.States.{State, Pass, Begun, Handle}
use Rattle.dbm_model.specs.Steps.{IsAhead, IsOver, Step, Run}
use Rattle.dbm_model.specs.Passes.{given_by, given, times_in, is_refused, GoesOn, BeginNone, KeepKey, PassesAreComplete, EmptyPassesEndAtOnce, LastingKeysAreGiven}
use Rattle.dbm_model.proofs.AscentLemmas.{from_same, none_given_twice}
use Rattle.dbm_model.proofs.CaseLemmas.{map_of_usable}
use Rattle.dbm_model.proofs.KeyOrderLemmas.{one_comes_before}
use Rattle.dbm_model.proofs.PassSteps.{IsOfPass, from_of, PassStep, rests, ends, gives, end_gives, pass_step}
use Rattle.dbm_model.proofs.TimesLemmas.{another, more, is_first, not_first}
use Rattle.dbm_model.proofs.UseLemmas.{run_was_usable, ends_usable}

-- ---- what an acknowledgement does to a key of the map

data MapChange (map : Contents) (call : Call) (reply : Reply) : Type 0 where
  keeps : map_after map call reply ≡ map → MapChange map call reply
  stores : (name content : List ℕ) → reply ≡ Stored
      → map_after map call reply ≡ insert map name content → MapChange map call reply
  deletes : (name : Key) → call ≡ Delete name → reply ≡ Deleted
      → map_after map call reply ≡ remove map name → MapChange map call reply

by_store : (map : Contents) (name content : List ℕ) (mode : Mode) (reply : Reply)
    → MapChange map (Store name content mode) reply
by_store map name content mode Stored = stores name content refl refl
by_store map name content mode Kept = keeps refl
by_store map name content mode Deleted = keeps refl
by_store map name content mode Absent = keeps refl
by_store map name content mode (Bytes bytes) = keeps refl
by_store map name content mode NoRecord = keeps refl
by_store map name content mode End = keeps refl
by_store map name content mode (Number number) = keeps refl
by_store map name content mode Upgraded = keeps refl
by_store map name content mode (Refused fault) = keeps refl

by_delete : (map : Contents) (name : Key) (reply : Reply) → MapChange map (Delete name) reply
by_delete map name Stored = keeps refl
by_delete map name Kept = keeps refl
by_delete map name Deleted = deletes name refl refl refl
by_delete map name Absent = keeps refl
by_delete map name (Bytes bytes) = keeps refl
by_delete map name NoRecord = keeps refl
by_delete map name End = keeps refl
by_delete map name (Number number) = keeps refl
by_delete map name Upgraded = keeps refl
by_delete map name (Refused fault) = keeps refl

map_change : (map : Contents) (call : Call) (reply : Reply) → MapChange map call reply
map_change map (Store name content mode) reply = by_store map name content mode reply
map_change map (Fetch name) reply = keeps refl
map_change map (Delete name) reply = by_delete map name reply
map_change map First reply = keeps refl
map_change map Next reply = keeps refl
map_change map Error reply = keeps refl
map_change map Clear reply = keeps refl
map_change map Upgrade reply = keeps refl

stays_in_store : (map : Contents) (name content : List ℕ) (key : Key) → IsSome (get map key)
    → IsSome (get (insert map name content) key)
stays_in_store map name content key has =
    ap is_some (get-insert nat_list_cmp_total map name content key)
    ∙ by_tie (eq_by_cmp key_cmp key name)
  where
    by_tie : (b : Bool) → is_some (cond b (Some content) (get map key)) ≡ true
    by_tie true = refl
    by_tie false = has

stays_in_delete : (map : Contents) (name key : Key) → key ≢ name → IsSome (get map key)
    → IsSome (get (remove map name) key)
stays_in_delete map name key differ has =
    ap is_some (get-remove nat_list_cmp_total map name key)
    ∙ ap (λ b. is_some (cond b None (get map key))) (another key name differ) ∙ has

stays_by : (map : Contents) (call : Call) (reply : Reply) (key : Key) → MapChange map call reply
    → (call ≡ Delete key → reply ≢ Deleted) → IsSome (get map key)
    → IsSome (get (map_after map call reply) key)
stays_by map call reply key (keeps is) kept has = subst (λ m. IsSome (get m key)) (sym is) has
stays_by map call reply key (stores name content said is) kept has =
    subst (λ m. IsSome (get m key)) (sym is) (stays_in_store map name content key has)
stays_by map call reply key (deletes name asked said is) kept has =
    subst (λ m. IsSome (get m key)) (sym is)
    (stays_in_delete map name key (λ same. kept (asked ∙ ap Delete (sym same)) said) has)

calm_by : (map : Contents) (call : Call) (reply : Reply) → MapChange map call reply
    → is_acknowledged reply ≡ false → map_after map call reply ≡ map
calm_by map call reply (keeps is) calm = is
calm_by map call reply (stores name content said is) calm =
    absurd (let told = ap is_acknowledged said in cc)
calm_by map call reply (deletes name asked said is) calm =
    absurd (let told = ap is_acknowledged said in cc)

-- ---- a key that is ahead is given before the end

-- by this step or by a later one
by_step : (s after : State) (call : Call) (reply : Reply) (key : Key) (ks : List Key)
    → PassStep s call reply after → IsSome (get s.map key) → IsAhead (from_of s call) key
    → ((IsOfPass call → is_refused reply ≡ true) → IsAhead s.pass key)
    → (IsAhead after.pass key → 1 ≤ times_in ks key)
    → 1 ≤ times_in (given_by call reply ++ ks) key
by_step s after call reply key ks (rests same none refused) has ahead resting later =
    subst (λ (one : List Key). 1 ≤ times_in (one ++ ks) key) (sym none)
    (later (subst (λ (p : Pass). IsAhead p key) (sym same) (resting refused)))
by_step s after call reply key ks (ends over same said) has ahead resting later =
    absurd (over key has ahead)
by_step s after call reply key ks (gives other next same said one) has ahead resting later =
    subst (λ (some : List Key). 1 ≤ times_in (some ++ ks) key) (sym one)
    (⊎_elim (λ before. absurd (next.least key has ahead before))
    (⊎_elim
    (λ equal. subst (λ (k : Key). 1 ≤ times_in (k ∷ ks) key) equal (is_first key ks))
    (λ behind. let given = later (subst (λ (p : Pass). IsAhead p key) (sym same) behind) in
    omega (arith, more (other ∷ []) ks key)))
    (one_comes_before key other))

over_by : (s after : State) → PassStep s Next End after → IsOver s.map s.pass
over_by s after (rests same none refused) = absurd (let wrong = refused tt in cc)
over_by s after (ends over same said) = over
over_by s after (gives key next same said one) = absurd (let wrong = said in cc)

at_least_once : (before mid after : Handle) (calls : List Call) (replies : List Reply) (key : Key)
    → Run before calls replies mid → BeginNone calls → KeepKey key calls replies
    → Step mid Next End after → IsSome (get before.state.map key)
    → IsAhead before.state.pass key → 1 ≤ times_in (given calls replies) key
at_least_once before mid after [] [] key run none keep step has ahead =
    absurd (subst (λ (h : Handle). IsOver h.state.map h.state.pass) run
    (over_by mid.state after.state (pass_step mid after Next End step)) key has ahead)
at_least_once before mid after (call ∷ calls) (reply ∷ replies) key run none keep step has ahead =
    let from = from_same before.state call none.0 in
    by_step before.state run.0.state call reply key (given calls replies)
    (pass_step before run.0 call reply run.1) has
    (subst (λ (p : Pass). IsAhead p key) (sym from) ahead) (λ refused. ahead)
    (λ still. at_least_once run.0 mid after calls replies key run.2 none.1 keep.1 step
    (stays_at before run.0 call reply key run.1
    (run_was_usable run.0 mid calls replies run.2 (ends_usable mid after step)) keep.0 has) still)
  where
    stays_at : (old new : Handle) (call : Call) (reply : Reply) (key : Key)
        → Step old call reply new → new.state.usable ≡ true
        → (call ≡ Delete key → reply ≢ Deleted) → IsSome (get old.state.map key)
        → IsSome (get new.state.map key)
    stays_at old new call reply key step usable kept has =
        subst (λ (m : Contents). IsSome (get m key))
        (sym (map_of_usable old new call reply step usable))
        (stays_by old.state.map call reply key (map_change old.state.map call reply) kept has)
at_least_once before mid after [] (reply ∷ replies) key run none keep step has ahead = absurd run
at_least_once before mid after (call ∷ calls) [] key run none keep step has ahead = absurd run

pub lasting_are_given : LastingKeysAreGiven
lasting_are_given before mid after calls reply replies run answered none step key has keep =
    let usable = run_was_usable run.0 mid calls replies run.2 (ends_usable mid after step) in
    let stays : IsSome (get run.0.state.map key) =
    subst (λ (m : Contents). IsSome (get m key))
    (sym (map_of_usable before run.0 First reply run.1 usable)) has in
    let least = by_step before.state run.0.state First reply key (given calls replies)
    (pass_step before run.0 First reply run.1) has tt
    (λ refused. absurd (let told = refused tt in cc))
    (λ still. at_least_once run.0 mid after calls replies key run.2 none keep step stays still) in
    let most = none_given_twice before mid calls (reply ∷ replies) run none key in
    omega arith

-- ---- with no change between, no other key is given

differs : (map : Contents) (key other : Key) → is_some (get map key) ≡ false
    → IsSome (get map other) → key ≢ other
differs map key other absent there same =
    absurd (let told = ap (λ k. is_some (get map k)) same in cc)

not_by_step : (s after : State) (call : Call) (reply : Reply) (key : Key) (ks : List Key)
    → PassStep s call reply after → is_some (get s.map key) ≡ false → times_in ks key ≡ 0
    → times_in (given_by call reply ++ ks) key ≡ 0
not_by_step s after call reply key ks (rests same none refused) absent later =
    ap (λ (one : List Key). times_in (one ++ ks) key) none ∙ later
not_by_step s after call reply key ks (ends over same said) absent later =
    ap (λ (one : List Key). times_in (one ++ ks) key) (ap (given_by call) said ∙ end_gives call)
    ∙ later
not_by_step s after call reply key ks (gives other next same said one) absent later =
    ap (λ (some : List Key). times_in (some ++ ks) key) one
    ∙ not_first other ks key (differs s.map key other absent next.there) ∙ later

absent_not_given : (before after : Handle) (calls : List Call) (replies : List Reply) (key : Key)
    → Run before calls replies after → after.state.usable ≡ true → GoesOn calls replies
    → is_some (get before.state.map key) ≡ false → times_in (given calls replies) key ≡ 0
absent_not_given before after [] [] key run usable goes absent = refl
absent_not_given before after (call ∷ calls) (reply ∷ replies) key run usable goes absent =
    let now = run_was_usable run.0 after calls replies run.2 usable in
    let same = map_of_usable before run.0 call reply run.1 now
    ∙ calm_by before.state.map call reply (map_change before.state.map call reply) goes.1 in
    not_by_step before.state run.0.state call reply key (given calls replies)
    (pass_step before run.0 call reply run.1) absent
    (absent_not_given run.0 after calls replies key run.2 usable goes.2
    (ap (λ (m : Contents). is_some (get m key)) same ∙ absent))
absent_not_given before after [] (reply ∷ replies) key run usable goes absent = absurd run
absent_not_given before after (call ∷ calls) [] key run usable goes absent = absurd run

begin_none : (before after : Handle) (calls : List Call) (replies : List Reply)
    → Run before calls replies after → GoesOn calls replies → BeginNone calls
begin_none before after [] [] run goes = tt
begin_none before after (call ∷ calls) (reply ∷ replies) run goes =
    (goes.0, begin_none run.0 after calls replies run.2 goes.2)
begin_none before after [] (reply ∷ replies) run goes = absurd run
begin_none before after (call ∷ calls) [] run goes = absurd run

keep_all : (calls : List Call) (replies : List Reply) (key : Key) → GoesOn calls replies
    → KeepKey key calls replies
keep_all [] [] key goes = tt
keep_all [] (reply ∷ replies) key goes = tt
keep_all (call ∷ calls) [] key goes = tt
keep_all (call ∷ calls) (reply ∷ replies) key goes = (
  λ asked told. absurd (let is = ap is_acknowledged told in let calm = goes.1 in cc),
  keep_all calls replies key goes.2,
)

pub passes_complete : PassesAreComplete
passes_complete before mid after calls reply replies run answered goes step key =
    by_mark (is_some (get before.state.map key)) refl
  where
    usable : run.0.state.usable ≡ true
    usable = run_was_usable run.0 mid calls replies run.2 (ends_usable mid after step)

    by_mark : (b : Bool) → is_some (get before.state.map key) ≡ b
        → times_in (given (First ∷ calls) (reply ∷ replies)) key
        ≡ cond (is_some (get before.state.map key)) 1 0
    by_mark true is =
        lasting_are_given before mid after calls reply replies run answered
        (begin_none run.0 mid calls replies run.2 goes) step key is
        (keep_all calls replies key goes)
        ∙ sym (ap (λ b. cond b 1 0) is)
    by_mark false is =
        not_by_step before.state run.0.state First reply key (given calls replies)
        (pass_step before run.0 First reply run.1) is
        (absent_not_given run.0 mid calls replies key run.2 (ends_usable mid after step) goes
        (ap (λ (m : Contents). is_some (get m key))
        (map_of_usable before run.0 First reply run.1 usable) ∙ is))
        ∙ sym (ap (λ b. cond b 1 0) is)

-- ---- a pass that ends where it begins

over_at_once : (s after : State) → PassStep s First End after → IsOver s.map Begun
over_at_once s after (rests same none refused) = absurd (let wrong = refused tt in cc)
over_at_once s after (ends over same said) = over
over_at_once s after (gives key next same said one) = absurd (let wrong = said in cc)

pub empty_ends_at_once : EmptyPassesEndAtOnce
empty_ends_at_once before after step key = by_mark (is_some (get before.state.map key)) refl
  where
    by_mark : (b : Bool) → is_some (get before.state.map key) ≡ b
        → is_some (get before.state.map key) ≡ false
    by_mark true is = absurd (over_at_once before.state after.state
        (pass_step before after First End step) key is tt)
    by_mark false is = is
