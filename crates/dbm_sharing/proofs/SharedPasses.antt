-- A pass of one handle over the changes of others, and on in a table that takes the place.
use Rattle.std.proofs.Common.{◌≡◌, ◌≢◌, ⊎_elim, ◌≤◌, ℕ, zero, suc, Bool, true, false, cond, refl, sym, ◌∙◌, ap, subst, arith, Some, None, List, [], ◌∷◌, ◌++◌}
use Rattle.std.specs.Prelude.{nat_eq, is_some, IsSome, All, AllPairs, slice_index_or}
use Rattle.std.specs.Cmp.Lexicographic.{nat_list_cmp_total}
use Rattle.std.specs.FinMap.{get, insert, remove, get-insert, get-remove}
use Rattle.std.specs.Ordering.{eq_by_cmp}
use Rattle.std.proofs.lemmas.Bool.{eq-eqb, eqb-true}
use Rattle.std.proofs.lemmas.List.Kept.{AllPairs-cons}
use Rattle.dbm_model.specs.Calls.{Call, Store, Fetch, Delete, First, Next, Error, Clear, Upgrade, Reply, Stored, Deleted, End}
use Rattle.dbm_model.specs.Changes.{map_after, map_asked}
use Rattle.dbm_model.specs.KeyOrder.{ComesBefore}
use Rattle.dbm_model.specs.Bounds.{Bounds}
use Rattle.dbm_model.specs.Members.{Member, NoDatabase, Holding}
use Rattle.dbm_model.specs.Pairs.{Key, Contents, key_cmp}
use Rattle.dbm_model.specs.Passes.{given_by, times_in, is_refused}
use Rattle.dbm_model.specs.States.{State, Pass, NotBegun, Begun, Behind}
use Rattle.dbm_model.specs.Steps.{IsAhead, IsOver}
use Rattle.dbm_model.proofs.AscentLemmas.{from_same}
use Rattle.dbm_model.proofs.KeyOrderLemmas.{comes_on, one_comes_before}
use Rattle.dbm_model.proofs.PassSteps.{IsOfPass, from_of, PassStep, rests, ends, gives, end_gives, pass_step}
use Rattle.dbm_model.proofs.TimesLemmas.{another, more, is_first, at_most_once}
use Rattle.dbm_sharing.specs.Handles.{Own, Shared, state_of, file_of}
use Rattle.dbm_sharing.specs.PassViews.{given_to, BeginsNone, KeepsKey, SharedPassesGiveLastingKeys, SharedPassesAscend, SharedPassesGiveOnce}
use Rattle.dbm_sharing.specs.Periods.{Period, Answered, CutByDevice, CutByDeath, Opened, Replaced, IsAnswered, IsCutByDevice, PeriodStep, Chain}
use Rattle.dbm_sharing.specs.Replies.{cut_leaves, leaves}
use Rattle.dbm_sharing.specs.Views.{Lasts}
use Rattle.dbm_sharing.proofs.ReplyLemmas.{file_left}
use Rattle.dbm_sharing.proofs.ViewLemmas.{not_who, pass_of_broken}

-- ---- one period

-- what a call of the handle does to its pass
own_step : (pages : ℕ) (before after : Shared) (who : ℕ) (call : Call) (reply : Reply)
    → IsAnswered pages before who call reply after
    → PassStep (state_of before who) call reply (state_of after who)
own_step pages before after who call reply is =
    subst (λ (s : State). PassStep s call reply (state_of after who)) is.begins.state
    (subst (λ (s : State). PassStep is.first.state call reply s) is.ends
    (pass_step is.first is.last call reply is.step))

-- its pass, where the device broke a handle
still : (pages who : ℕ) (before after : Shared) (caller : ℕ) (call : Call) (made : Bool)
    → IsCutByDevice pages before caller call made after
    → (after.own who).pass ≡ (before.own who).pass
still pages who before after caller call made step = by_mark (nat_eq caller who) refl
  where
    by_mark : (b : Bool) → nat_eq caller who ≡ b → (after.own who).pass ≡ (before.own who).pass
    by_mark true same = pass_of_broken pages before after who call made
        (subst (λ (n : ℕ). IsCutByDevice pages before n call made after)
        (eqb-true caller who same) step)
    by_mark false other = ap (λ (o : Own). o.pass) (step.others who (not_who who caller other))

-- ---- ascending order

ahead_on : (from : Pass) (key other : Key) → IsAhead from key → ComesBefore key other
    → IsAhead from other
ahead_on NotBegun key other ahead before = ahead
ahead_on Begun key other ahead before = tt
ahead_on (Behind last) key other ahead before = comes_on last key other ahead before

-- the keys are ahead of a pass, in ascending order
record IsAscent (from : Pass) (ks : List Key) : Type 0 where
  pub ahead : All (IsAhead from) ks
  pub ascend : AllPairs ComesBefore ks

ascent_on : (from : Pass) (key : Key) (ks : List Key) → IsAhead from key
    → IsAscent (Behind key) ks → IsAscent from (key ∷ ks)
ascent_on from key ks ahead later = record {
  ahead = all;
  ascend = AllPairs-cons ComesBefore key ks later.ahead later.ascend;
}
  where
    all : All (IsAhead from) (key ∷ ks)
    all zero d within = ahead
    all (suc k) d within = ahead_on from key (slice_index_or ks k d) ahead
        (later.ahead k d (omega arith))

ascent_by_step : (s after : State) (call : Call) (reply : Reply) (ks : List Key)
    → PassStep s call reply after → call ≢ First → IsAscent after.pass ks
    → IsAscent s.pass (given_by call reply ++ ks)
ascent_by_step s after call reply ks (rests same none refused) other later =
    subst (λ (one : List Key). IsAscent s.pass (one ++ ks)) (sym none)
    (subst (λ (p : Pass). IsAscent p ks) same later)
ascent_by_step s after call reply ks (ends over same said) other later =
    subst (λ (one : List Key). IsAscent s.pass (one ++ ks))
    (sym (ap (given_by call) said ∙ end_gives call))
    (subst (λ (p : Pass). IsAscent p ks) (same ∙ from_same s call other) later)
ascent_by_step s after call reply ks (gives key next same said one) other later =
    subst (λ (one : List Key). IsAscent s.pass (one ++ ks)) (sym one)
    (ascent_on s.pass key ks
    (subst (λ (p : Pass). IsAhead p key) (from_same s call other) next.ahead)
    (subst (λ (p : Pass). IsAscent p ks) same later))

ascent : (pages who : ℕ) (before after : Shared) (periods : List Period)
    → Chain pages before periods after → Lasts who periods → BeginsNone who periods
    → IsAscent (before.own who).pass (given_to who periods)
ascent pages who before after [] chain lasts none = record {
  ahead = λ k d within. absurd (omega arith);
  ascend = λ i j d lt within. absurd (omega arith);
}
ascent pages who before after (Answered caller call reply ∷ periods) chain lasts none =
    by_mark (nat_eq caller who) refl
    (ascent pages who chain.0 after periods chain.2 lasts none.1)
  where
    by_mark : (b : Bool) → nat_eq caller who ≡ b
        → IsAscent (chain.0.own who).pass (given_to who periods)
        → IsAscent (before.own who).pass (cond b (given_by call reply) [] ++ given_to who periods)
    by_mark true same later =
        let is = eqb-true caller who same in
        ascent_by_step (state_of before who) (state_of chain.0 who) call reply (given_to who periods)
        (own_step pages before chain.0 who call reply
        (subst (λ (n : ℕ). IsAnswered pages before n call reply chain.0) is chain.1))
        (none.0 is) later
    by_mark false other later =
        subst (λ (o : Own). IsAscent o.pass (given_to who periods))
        (chain.1.others who (not_who who caller other)) later
ascent pages who before after (CutByDevice caller call made ∷ periods) chain lasts none =
    subst (λ (p : Pass). IsAscent p (given_to who periods))
    (still pages who before chain.0 caller call made chain.1)
    (ascent pages who chain.0 after periods chain.2 lasts none)
ascent pages who before after (CutByDeath caller call made ∷ periods) chain lasts none =
    subst (λ (o : Own). IsAscent o.pass (given_to who periods)) (chain.1.others who lasts.0)
    (ascent pages who chain.0 after periods chain.2 lasts.1 none)
ascent pages who before after (Opened caller writable ∷ periods) chain lasts none =
    subst (λ (o : Own). IsAscent o.pass (given_to who periods)) (chain.1.others who lasts.0)
    (ascent pages who chain.0 after periods chain.2 lasts.1 none)
ascent pages who before after (Replaced map bounds ∷ periods) chain lasts none =
    subst (λ (o : Own). IsAscent o.pass (given_to who periods)) (chain.1.all_stay who)
    (ascent pages who chain.0 after periods chain.2 lasts none)

-- a firstkey has all keys ahead, and where it is refused, those of the pass before
first_ascends : (s after : State) (reply : Reply) (ks : List Key) → PassStep s First reply after
    → IsAscent after.pass ks → AllPairs ComesBefore (given_by First reply ++ ks)
first_ascends s after reply ks (rests same none refused) later =
    subst (λ (one : List Key). AllPairs ComesBefore (one ++ ks)) (sym none) later.ascend
first_ascends s after reply ks (ends over same said) later =
    subst (λ (one : List Key). AllPairs ComesBefore (one ++ ks)) (sym (ap (given_by First) said))
    later.ascend
first_ascends s after reply ks (gives key next same said one) later =
    let behind = subst (λ (p : Pass). IsAscent p ks) same later in
    subst (λ (one : List Key). AllPairs ComesBefore (one ++ ks)) (sym one)
    (AllPairs-cons ComesBefore key ks behind.ahead behind.ascend)

-- the keys of the firstkey and those behind it
with_first : (who : ℕ) (reply : Reply) (periods : List Period)
    → given_by First reply ++ given_to who periods
    ≡ given_to who (Answered who First reply ∷ periods)
with_first who reply periods =
    ap (λ (b : Bool). cond b (given_by First reply) [] ++ given_to who periods)
    (sym (eq-eqb who who refl))

pub shared_ascend : SharedPassesAscend
shared_ascend pages who before after reply periods chain lasts none =
    subst (AllPairs ComesBefore) (with_first who reply periods)
    (first_ascends (state_of before who) (state_of chain.0 who) reply (given_to who periods)
    (own_step pages before chain.0 who First reply chain.1)
    (ascent pages who chain.0 after periods chain.2 lasts none))

pub shared_once : SharedPassesGiveOnce
shared_once pages who before after reply periods chain lasts none key =
    at_most_once (given_to who (Answered who First reply ∷ periods)) key
    (shared_ascend pages who before after reply periods chain lasts none)

-- ---- a key stays

stays_in_store : (map : Contents) (name content : List ℕ) (key : Key) → IsSome (get map key)
    → IsSome (get (insert map name content) key)
stays_in_store map name content key has =
    ap is_some (get-insert nat_list_cmp_total map name content key)
    ∙ by_tie (eq_by_cmp key_cmp key name)
  where
    by_tie : (b : Bool) → is_some (cond b (Some content) (get map key)) ≡ true
    by_tie true = refl
    by_tie false = has

stays_in_delete : (map : Contents) (name key : Key) → key ≢ name → IsSome (get map key)
    → IsSome (get (remove map name) key)
stays_in_delete map name key differ has =
    ap is_some (get-remove nat_list_cmp_total map name key)
    ∙ ap (λ b. is_some (cond b None (get map key))) (another key name differ) ∙ has

stays_after : (map : Contents) (call : Call) (reply : Reply) (key : Key)
    → (call ≡ Delete key → reply ≢ Deleted) → IsSome (get map key)
    → IsSome (get (map_after map call reply) key)
stays_after map (Store name content mode) Stored key kept has =
    stays_in_store map name content key has
stays_after map (Store name content mode) reply key kept has = has
stays_after map (Delete name) Deleted key kept has =
    stays_in_delete map name key (λ same. kept (ap Delete (sym same)) refl) has
stays_after map (Delete name) reply key kept has = has
stays_after map (Fetch name) reply key kept has = has
stays_after map First reply key kept has = has
stays_after map Next reply key kept has = has
stays_after map Error reply key kept has = has
stays_after map Clear reply key kept has = has
stays_after map Upgrade reply key kept has = has

stays_asked : (map : Contents) (call : Call) (key : Key) → (call ≡ Delete key → ⊥)
    → IsSome (get map key) → IsSome (get (map_asked map call) key)
stays_asked map (Store name content mode) key kept has = stays_in_store map name content key has
stays_asked map (Delete name) key kept has =
    stays_in_delete map name key (λ same. kept (ap Delete (sym same))) has
stays_asked map (Fetch name) key kept has = has
stays_asked map First key kept has = has
stays_asked map Next key kept has = has
stays_asked map Error key kept has = has
stays_asked map Clear key kept has = has
stays_asked map Upgrade key kept has = has

-- the file has it behind a period, too
abbrev Has : Member → Key → Type 0
Has (Holding map bounds) key = IsSome (get map key)
Has NoDatabase key = ⊥

stays_cut : (map : Contents) (bounds : Bounds) (call : Call) (made : Bool) (key : Key)
    → (call ≡ Delete key → made ≢ true) → IsSome (get map key)
    → Has (cut_leaves map bounds call made) key
stays_cut map bounds call true key kept has =
    stays_asked map call key (λ same. kept same refl) has
stays_cut map bounds call false key kept has = has

stays_in : (before : Shared) (period : Period) (key : Key) → KeepsKey key (period ∷ [])
    → IsSome (get before.map key) → Has (leaves (file_of before) period) key
stays_in before (Answered caller call reply) key keep has =
    stays_after before.map call reply key keep.0 has
stays_in before (CutByDevice caller call made) key keep has =
    stays_cut before.map before.bounds call made key keep.0 has
stays_in before (CutByDeath caller call made) key keep has =
    stays_cut before.map before.bounds call made key keep.0 has
stays_in before (Opened caller writable) key keep has = has
stays_in before (Replaced map bounds) key keep has = keep.0

stays : (pages : ℕ) (before after : Shared) (period : Period) (key : Key)
    → PeriodStep pages before period after → KeepsKey key (period ∷ [])
    → IsSome (get before.map key) → IsSome (get after.map key)
stays pages before after period key step keep has =
    subst (λ (m : Member). Has m key) (sym (file_left pages before after period step))
    (stays_in before period key keep has)

-- ---- a key that is ahead is given before the end

-- by this call or by a later one
by_step : (s after : State) (call : Call) (reply : Reply) (key : Key) (ks : List Key)
    → PassStep s call reply after → IsSome (get s.map key) → IsAhead (from_of s call) key
    → ((IsOfPass call → is_refused reply ≡ true) → IsAhead s.pass key)
    → (IsAhead after.pass key → 1 ≤ times_in ks key)
    → 1 ≤ times_in (given_by call reply ++ ks) key
by_step s after call reply key ks (rests same none refused) has ahead resting later =
    subst (λ (one : List Key). 1 ≤ times_in (one ++ ks) key) (sym none)
    (later (subst (λ (p : Pass). IsAhead p key) (sym same) (resting refused)))
by_step s after call reply key ks (ends over same said) has ahead resting later =
    absurd (over key has ahead)
by_step s after call reply key ks (gives other next same said one) has ahead resting later =
    subst (λ (some : List Key). 1 ≤ times_in (some ++ ks) key) (sym one)
    (⊎_elim (λ before. absurd (next.least key has ahead before))
    (⊎_elim
    (λ equal. subst (λ (k : Key). 1 ≤ times_in (k ∷ ks) key) equal (is_first key ks))
    (λ behind. let given = later (subst (λ (p : Pass). IsAhead p key) (sym same) behind) in
    omega (arith, more (other ∷ []) ks key)))
    (one_comes_before key other))

over_by : (s after : State) → PassStep s Next End after → IsOver s.map s.pass
over_by s after (rests same none refused) = absurd (let wrong = refused tt in cc)
over_by s after (ends over same said) = over
over_by s after (gives key next same said one) = absurd (let wrong = said in cc)

at_least_once : (pages who : ℕ) (before mid after : Shared) (periods : List Period) (key : Key)
    → Chain pages before periods mid → Lasts who periods → BeginsNone who periods
    → KeepsKey key periods → IsAnswered pages mid who Next End after
    → IsSome (get before.map key) → IsAhead (before.own who).pass key
    → 1 ≤ times_in (given_to who periods) key
at_least_once pages who before mid after [] key chain lasts none keep end has ahead =
    absurd (subst (λ (s : Shared). IsOver s.map (s.own who).pass) chain
    (over_by (state_of mid who) (state_of after who) (own_step pages mid after who Next End end))
    key has ahead)
at_least_once pages who before mid after (Answered caller call reply ∷ periods) key chain lasts none keep end has ahead =
    by_mark (nat_eq caller who) refl (λ still.
    at_least_once pages who chain.0 mid after periods key chain.2 lasts none.1 keep.1 end
    (stays pages before chain.0 (Answered caller call reply) key chain.1 (keep.0, tt) has) still)
  where
    by_mark : (b : Bool) → nat_eq caller who ≡ b
        → (IsAhead (chain.0.own who).pass key → 1 ≤ times_in (given_to who periods) key)
        → 1 ≤ times_in (cond b (given_by call reply) [] ++ given_to who periods) key
    by_mark true same later =
        let is = eqb-true caller who same in
        let s = state_of before who in
        by_step s (state_of chain.0 who) call reply key (given_to who periods)
        (own_step pages before chain.0 who call reply
        (subst (λ (n : ℕ). IsAnswered pages before n call reply chain.0) is chain.1)) has
        (subst (λ (p : Pass). IsAhead p key) (sym (from_same s call (none.0 is))) ahead)
        (λ refused. ahead) later
    by_mark false other later =
        later (subst (λ (o : Own). IsAhead o.pass key)
        (sym (chain.1.others who (not_who who caller other))) ahead)
at_least_once pages who before mid after (CutByDevice caller call made ∷ periods) key chain lasts none keep end has ahead =
    at_least_once pages who chain.0 mid after periods key chain.2 lasts none keep.1 end
    (stays pages before chain.0 (CutByDevice caller call made) key chain.1 (keep.0, tt) has)
    (subst (λ (p : Pass). IsAhead p key)
    (sym (still pages who before chain.0 caller call made chain.1)) ahead)
at_least_once pages who before mid after (CutByDeath caller call made ∷ periods) key chain lasts none keep end has ahead =
    at_least_once pages who chain.0 mid after periods key chain.2 lasts.1 none keep.1 end
    (stays pages before chain.0 (CutByDeath caller call made) key chain.1 (keep.0, tt) has)
    (subst (λ (o : Own). IsAhead o.pass key) (sym (chain.1.others who lasts.0)) ahead)
at_least_once pages who before mid after (Opened caller writable ∷ periods) key chain lasts none keep end has ahead =
    at_least_once pages who chain.0 mid after periods key chain.2 lasts.1 none keep end
    (stays pages before chain.0 (Opened caller writable) key chain.1 tt has)
    (subst (λ (o : Own). IsAhead o.pass key) (sym (chain.1.others who lasts.0)) ahead)
at_least_once pages who before mid after (Replaced map bounds ∷ periods) key chain lasts none keep end has ahead =
    at_least_once pages who chain.0 mid after periods key chain.2 lasts none keep.1 end
    (stays pages before chain.0 (Replaced map bounds) key chain.1 (keep.0, tt) has)
    (subst (λ (o : Own). IsAhead o.pass key) (sym (chain.1.all_stay who)) ahead)

pub shared_lasting : SharedPassesGiveLastingKeys
shared_lasting pages who before mid after reply periods chain answered lasts none end key has keep =
    let least = by_step (state_of before who) (state_of chain.0 who) First reply key
    (given_to who periods) (own_step pages before chain.0 who First reply chain.1) has tt
    (λ refused. absurd (let told = refused tt in cc))
    (λ still. at_least_once pages who chain.0 mid after periods key chain.2 lasts none keep end
    (stays pages before chain.0 (Answered who First reply) key chain.1
    ((λ same. absurd (let x = same in cc)), tt) has) still) in
    let most = shared_once pages who before mid reply periods chain lasts none key in
    let here = subst (λ (ks : List Key). 1 ≤ times_in ks key) (with_first who reply periods) least in
    omega (arith, here, most)
