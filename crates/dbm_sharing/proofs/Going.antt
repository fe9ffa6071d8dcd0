-- How chains and handles go on.
use Rattle.std.proofs.Common.{◌≡◌, ◌≢◌, ◌≤◌, ◌*◌, ◌+◌, ◌-◌, ℕ, Bool, true, false, cond, refl, sym, ◌∙◌, ap, subst, arith, [], ◌∷◌}
use Rattle.std.specs.Prelude.{nat_lt}
use Rattle.std.specs.Cmp.Lexicographic.{nat_list_cmp_total}
use Rattle.std.specs.FinMap.{insert, remove, len, contains_key, len-insert, len-remove}
use Rattle.std.proofs.lemmas.Bool.{ltb-false}
use Rattle.dbm_model.specs.Calls.{Call, Store, Fetch, Delete, First, Next, Error, Clear, Upgrade, Reply, Stored, Deleted, Refused, NoRoom}
use Rattle.dbm_model.specs.Changes.{map_after}
use Rattle.dbm_model.specs.Members.{Member, HasRoomFor, held}
use Rattle.dbm_model.specs.Pairs.{Contents}
use Rattle.dbm_model.specs.Sizes.{home}
use Rattle.dbm_model.specs.States.{State, Handle}
use Rattle.dbm_model.specs.Steps.{Case, Answers, Step, buckets_added, case_of}
use Rattle.dbm_model.proofs.CaseLemmas.{map_of_usable}
use Rattle.dbm_model.proofs.HoldingLemmas.{stays_within}
use Rattle.dbm_model.proofs.RoomLemmas.{room_is_known, pages_are_bounded}
use Rattle.dbm_model.proofs.StayLemmas.{settings_stay}
use Rattle.dbm_sharing.specs.Going.{ChainsJoin, ChainsSplit, HandlesGoOn, SharedRoomIsKnown}
use Rattle.dbm_sharing.specs.Handles.{Shared, state_of, file_of, IsHandleAt}
use Rattle.dbm_sharing.specs.Periods.{Answered, CutByDevice, CutByDeath, Opened, Replaced, IsLeft, Chain}
use Rattle.dbm_sharing.specs.Views.{acknowledged_by}
use Rattle.dbm_sharing.proofs.PeriodLemmas.{room_of, is_made, none_made, file_cut_by_device}
use Rattle.dbm_sharing.proofs.Rules.{run_step}

pub chains_join : ChainsJoin
chains_join pages before mid after [] later chain then_chain =
    subst (λ (s : Shared). Chain pages s later after) chain then_chain
chains_join pages before mid after (period ∷ earlier) later chain then_chain =
    (chain.0, chain.1, chains_join pages chain.0 mid after earlier later chain.2 then_chain)

pub chains_split : ChainsSplit
chains_split pages before after [] later chain = (before, refl, chain)
chains_split pages before after (period ∷ earlier) later chain =
    let rest = chains_split pages chain.0 after earlier later chain.2 in
    (rest.0, (chain.0, chain.1, rest.1), rest.2)

-- ---- handles

-- how many pairs there are to a bucket
by_one : (n m : ℕ) (there : Bool) → m ≡ cond there n (n + 1) → m ≤ n + 1
by_one n m true is = omega (arith, is)
by_one n m false is = omega (arith, is)

not_more : (n m : ℕ) (there : Bool) → m ≡ cond there (n - 1) n → m ≤ n
not_more n m true is = omega (arith, is)
not_more n m false is = omega (arith, is)

-- a reply leaves one pair more at most, and a further one only where it is Stored
data Grows (old new : ℕ) (reply : Reply) : Type 0 where
  no_more : new ≤ old → Grows old new reply
  one_more : reply ≡ Stored → new ≤ old + 1 → Grows old new reply

same_len : (map other : Contents) (reply : Reply) → other ≡ map → Grows (len map) (len other) reply
same_len map other reply is = let same = ap (λ (m : Contents). len m) is in
    no_more (omega (arith, same))

grows : (map : Contents) (call : Call) (reply : Reply)
    → Grows (len map) (len (map_after map call reply)) reply
grows map (Store key content mode) Stored = one_more refl (by_one (len map)
    (len (insert map key content)) (contains_key map key)
    (len-insert nat_list_cmp_total map key content))
grows map (Store key content mode) reply = same_len map map reply refl
grows map (Delete key) Deleted = no_more (not_more (len map) (len (remove map key))
    (contains_key map key) (len-remove nat_list_cmp_total map key))
grows map (Delete key) reply = same_len map map reply refl
grows map (Fetch key) reply = same_len map map reply refl
grows map First reply = same_len map map reply refl
grows map Next reply = same_len map map reply refl
grows map Error reply = same_len map map reply refl
grows map Clear reply = same_len map map reply refl
grows map Upgrade reply = same_len map map reply refl

light : (old new buckets more : ℕ) → old ≤ 8 * buckets → new ≤ old + 1
    → more ≡ buckets + cond (nat_lt (8 * buckets) new) 1 0 → new ≤ 8 * more
light old new buckets more few grown is = by_mark (nat_lt (8 * buckets) new) refl
  where
    by_mark : (b : Bool) → nat_lt (8 * buckets) new ≡ b → new ≤ 8 * more
    by_mark true over =
        let one = is ∙ ap (λ (b : Bool). buckets + cond b 1 0) over in omega (arith, one, few, grown)
    by_mark false under =
        let same = is ∙ ap (λ (b : Bool). buckets + cond b 1 0) under in
        omega (arith, same, ltb-false (8 * buckets) new under)

stays_light : (first last : Handle) (call : Call) (reply : Reply) → Step first call reply last
    → last.state.usable ≡ true → len first.state.map ≤ 8 * first.buckets
    → len last.state.map ≤ 8 * last.buckets
stays_light first last call reply step usable few =
    let is = ap (λ (m : Contents). len m) (map_of_usable first last call reply step usable) in
    by_growth (grows first.state.map call reply) is
  where
    by_growth : Grows (len first.state.map) (len (map_after first.state.map call reply)) reply
        → len last.state.map ≡ len (map_after first.state.map call reply)
        → len last.state.map ≤ 8 * last.buckets
    by_growth (no_more fewer) is =
        let more = step.buckets in omega (arith, fewer, is, few, more)
    by_growth (one_more said grown) is =
        light (len first.state.map) (len last.state.map) first.buckets last.buckets few
        (omega (arith, grown, is))
        (step.buckets ∙ ap (λ (r : Reply). first.buckets
        + buckets_added first r (len last.state.map)) said)

pub handles_go_on : HandlesGoOn
handles_go_on pages s first last call reply is step usable =
    let limit = (settings_stay first last call reply step).0 in record {
      state = refl;
      disk = is.disk;
      size = is.size;
      is_on = record {
        capacity = step.capacity ∙ is.is_on.capacity;
        counts = omega (arith, is.is_on.counts, step.counts);
        limited = subst (λ (n : ℕ). (1 ≤ n) × (n ≤ 1000000)) (sym limit) is.is_on.limited;
        within = stays_within first last call reply is.is_on.within step;
        light = stays_light first last call reply step usable is.is_on.light;
        few_pages = pages_are_bounded first last (call ∷ []) (reply ∷ []) is.is_on.few_pages
            (last, step, refl);
      };
    }

-- ---- room

-- one call, where there is room
room_by_step : (pages : ℕ) (s : State) (first last : Handle) (call : Call) (reply : Reply)
    → first.state ≡ s → first.capacity ≡ pages → 2 * home s.bounds ≤ pages
    → Step first call reply last
    → (reply ≢ Refused NoRoom) × (2 * home last.state.bounds ≤ pages)
room_by_step pages s first last call reply at_state size room step =
    let has : 2 * home first.state.bounds ≤ first.capacity =
    subst (λ (n : ℕ). 2 * home first.state.bounds ≤ n) (sym size)
    (subst (λ (t : State). 2 * home t.bounds ≤ pages) (sym at_state) room) in
    let known = room_is_known first last (call ∷ []) (reply ∷ []) has (last, step, refl) in (
      known.0 0 reply (omega arith),
      subst (λ (n : ℕ). 2 * home last.state.bounds ≤ n) (step.capacity ∙ size) known.1,
    )

room_by_cut : (pages : ℕ) (before : Shared) (who : ℕ) (call : Call) (made : Bool) (first : Handle)
    (left : Member) → IsHandleAt pages (state_of before who) first
    → IsLeft made first.state (case_of first call) left
    → HasRoomFor pages (file_of before) → HasRoomFor pages left
room_by_cut pages before who call false first left begins is room =
    subst (HasRoomFor pages) (sym (none_made pages before who first (case_of first call) left begins is))
    room
room_by_cut pages before who call true first left begins is room =
    let s = state_of before who in
    let made = is_made pages before who first call left begins is in
    let size = room_of pages s first begins in
    let next = run_step pages first s made.next call (acknowledged_by call) begins.state size
    (subst (λ (c : Case). Answers s c (acknowledged_by call) made.next) (sym made.rule)
    (refl, refl)) in
    let known = room_by_step pages s first next.0 call (acknowledged_by call) begins.state size room
    next.4 in
    subst (HasRoomFor pages) (sym made.left_is)
    (subst (λ (t : State). 2 * home t.bounds ≤ pages) next.1 known.1)

pub shared_room : SharedRoomIsKnown
shared_room pages before after [] room chain one =
    (tt, subst (λ (s : Shared). HasRoomFor pages (file_of s)) (sym chain) room)
shared_room pages before after (Answered who call reply ∷ periods) room chain one =
    let is = chain.1 in
    let s = state_of before who in
    let known = room_by_step pages s is.first is.last call reply is.begins.state
    (room_of pages s is.first is.begins) room is.step in
    let rest = shared_room pages chain.0 after periods
    (subst (λ (t : State). 2 * home t.bounds ≤ pages) is.ends known.1) chain.2 one in
    ((known.0, rest.0), rest.1)
shared_room pages before after (CutByDevice who call made ∷ periods) room chain one =
    let is = chain.1 in
    shared_room pages chain.0 after periods
    (subst (HasRoomFor pages) (sym (file_cut_by_device pages before chain.0 who call made is))
    (room_by_cut pages before who call made is.first (held is.broken.state) is.begins is.left room))
    chain.2 one
shared_room pages before after (CutByDeath who call made ∷ periods) room chain one =
    let is = chain.1 in
    shared_room pages chain.0 after periods
    (room_by_cut pages before who call made is.first (file_of chain.0) is.begins is.left room)
    chain.2 one
shared_room pages before after (Opened who writable ∷ periods) room chain one =
    shared_room pages chain.0 after periods
    (subst (HasRoomFor pages) (sym chain.1.file) room) chain.2 one
shared_room pages before after (Replaced map bounds ∷ periods) room chain one = absurd one
