-- The room of a file over a step and over a run.
use Rattle.std.proofs.Common.{◌≡◌, ◌≢◌, ◌≤◌, ◌*◌, ◌∙◌, ⊎_elim, inl, inr, ℕ, ◌+◌, List, [], ◌∷◌, None, true, refl, ap, subst, sym, arith}
use Rattle.std.proofs.lemmas.List.Elements.{All-nil, All-cons}
use Rattle.std.specs.FinMap.{empty, len, get-empty, len-empty}
use Rattle.dbm_model.specs.Bounds.{Bounds, Version, V1, V2, upgraded, in_v1, in_v2}
use Rattle.dbm_model.specs.Calls.{Call, Store, Replace, Reply, Stored, Kept, Deleted, Absent, Bytes, NoRecord, End, Number, Upgraded, Refused, NoRoom}
use Rattle.dbm_model.specs.Pairs.{key_cmp, is_allowed}
use Rattle.dbm_model.specs.Sizes.{home, pages_for}
use Rattle.dbm_model.specs.States.{State, NotBegun, Handle, flagged, fresh}
use Rattle.dbm_model.specs.Steps.{Case, Changes, Suffers, IsShort, growth, buckets_added, case_for, Step}
use Rattle.dbm_model.specs.Examples.{one}
use Rattle.dbm_model.specs.Room.{RoomStays, HasRoom, RoomIsKnown, PagesAreBounded, RoomExamples, with_room, IsFirstStore}
use Rattle.dbm_model.proofs.RefusalLemmas.{refuses_where_due}
use Rattle.dbm_model.proofs.RuleLemmas.{falls}
use Rattle.dbm_model.proofs.RunLemmas.{only, at, adds, none_yet, one_more}
use Rattle.dbm_model.proofs.StayLemmas.{bounds_are_due}

none_grows : (before : Handle) (reply : Reply) → (reply ≡ Stored → ⊥) → growth before reply ≡ 0
none_grows before Stored other = absurd (other refl)
none_grows before Kept other = refl
none_grows before Deleted other = refl
none_grows before Absent other = refl
none_grows before (Bytes bytes) other = refl
none_grows before NoRecord other = refl
none_grows before End other = refl
none_grows before (Number n) other = refl
none_grows before Upgraded other = refl
none_grows before (Refused fault) other = refl

none_opened : (before : Handle) (reply : Reply) (pairs : ℕ) → (reply ≡ Stored → ⊥)
    → buckets_added before reply pairs ≡ 0
none_opened before Stored pairs other = absurd (other refl)
none_opened before Kept pairs other = refl
none_opened before Deleted pairs other = refl
none_opened before Absent pairs other = refl
none_opened before (Bytes bytes) pairs other = refl
none_opened before NoRecord pairs other = refl
none_opened before End pairs other = refl
none_opened before (Number n) pairs other = refl
none_opened before Upgraded pairs other = refl
none_opened before (Refused fault) pairs other = refl

pub room_stays : RoomStays
room_stays before after call reply step = (
  step.capacity,
  λ other. (
    omega (arith, step.pages, none_grows before reply other),
    omega (
      arith,
      step.buckets,
      none_opened before reply (len after.state.map) other,
    ),
  ),
)

no_pair : len (empty {X = List ℕ} {R = key_cmp}) ≡ 0
no_pair = len-empty key_cmp (List ℕ)

-- a first store changes the map, where nothing hinders it
abbrev one_pair : Bounds → State
one_pair bounds = at bounds (only (one 0x01)) None NotBegun

module _ (bounds : Bounds) (some : 1 ≤ bounds.limit)
    (allowed : is_allowed bounds.version (one 0x61, one 0x01) ≡ true) where
  first_falls : case_for 0 (fresh empty bounds true) (Store (one 0x61) (one 0x01) Replace)
      ≡ Changes Stored (one_pair bounds)
  first_falls = adds bounds empty None NotBegun (one 0x61) (one 0x01) allowed
      (get-empty key_cmp (one 0x61)) (none_yet bounds.limit some)

  -- one that lacks room is short of it
  first_short : (capacity : ℕ) (after : Handle) → IsFirstStore bounds capacity (Refused NoRoom) after
      → IsShort (with_room bounds capacity)
  first_short capacity after step =
      ⊎_elim
      (λ answered. absurd (let x = answered.0 in cc))
      (λ hindered. short_of (with_room bounds capacity) after
      (Store (one 0x61) (one 0x01) Replace) (one_pair bounds) hindered)
      (falls (with_room bounds capacity) after (Store (one 0x61) (one 0x01) Replace)
      (Refused NoRoom) (Changes Stored (one_pair bounds)) first_falls step)
    where
      short_of : (h after : Handle) (call : Call) (next : State)
          → Suffers h call (Changes Stored next) (Refused NoRoom) after → IsShort h
      short_of h after call next (inl fails) = absurd (let x = fails.0 in cc)
      short_of h after call next (inr (inl breaks)) = absurd (let x = breaks.0 in cc)
      short_of h after call next (inr (inr (inl memory))) = absurd (let x = memory.0 in cc)
      short_of h after call next (inr (inr (inr room))) = room.1

  -- and lacks it where it is short
  may_lack : (capacity : ℕ) → IsShort (with_room bounds capacity)
      → (after : Handle) × IsFirstStore bounds capacity (Refused NoRoom) after
  may_lack capacity short =
      let h = with_room bounds capacity in
      let after = record h { state = flagged NoRoom h.state } in (
        after,
        record {
          counts = omega arith;
          capacity = refl;
          pages = (omega arith, omega arith);
          bounded = inl refl;
          buckets = refl;
          answers = inr (subst (λ (c : Case).
              Suffers h (Store (one 0x61) (one 0x01) Replace) c (Refused NoRoom) after)
              (sym first_falls) (inr (inr (inr (refl, short, refl)))));
        },
      )

-- a store that was acknowledged did not suffer
unsuffered : (h after : Handle) (call : Call) (next : State)
    → Suffers h call (Changes Stored next) Stored after → ⊥
unsuffered h after call next (inl fails) = absurd (let x = fails.0 in cc)
unsuffered h after call next (inr (inl breaks)) = absurd (let x = breaks.0 in cc)
unsuffered h after call next (inr (inr (inl memory))) = absurd (let x = memory.0 in cc)
unsuffered h after call next (inr (inr (inr room))) = absurd (let x = room.0 in cc)

first_left : (capacity : ℕ) (after : Handle) → IsFirstStore (in_v1 100) capacity Stored after
    → len after.state.map ≡ 1
first_left capacity after step =
    let call = Store (one 0x61) (one 0x01) Replace in
    ⊎_elim
    (λ answered. ap (λ (s : State). len s.map) answered.1 ∙ one_more (one 0x61) (one 0x01))
    (λ hindered. absurd (unsuffered (with_room (in_v1 100) capacity) after call
    (one_pair (in_v1 100)) hindered))
    (falls (with_room (in_v1 100) capacity) after call Stored
    (Changes Stored (one_pair (in_v1 100))) (first_falls (in_v1 100) (omega arith) refl) step)

pub room_examples : RoomExamples
room_examples = record {
  short = may_lack (in_v1 100) (omega arith) refl 15 (omega arith, omega (arith, no_pair));
  enough = λ after step.
      omega (arith, (first_short (in_v1 100) (omega arith) refl 16 after step).1, no_pair);
  short_of_one = may_lack (in_v1 1) (omega arith) refl 9 (omega arith, omega (arith, no_pair));
  enough_for_one = λ after step.
      omega (arith, (first_short (in_v1 1) (omega arith) refl 10 after step).0);
  short_v2 = may_lack (in_v2 100) (omega arith) refl 81 (omega arith, omega (arith, no_pair));
  enough_v2 = λ after step.
      omega (arith, (first_short (in_v2 100) (omega arith) refl 82 after step).1, no_pair);
  short_of_one_v2 = may_lack (in_v2 1) (omega arith) refl 75 (omega arith, omega (arith, no_pair));
  enough_for_one_v2 = λ after step.
      omega (arith, (first_short (in_v2 1) (omega arith) refl 76 after step).0);
  eight = λ capacity after step. omega (arith, step.pages.1, no_pair);
  one_bucket = λ capacity after step. step.buckets
      ∙ ap (λ pairs. 1 + buckets_added (with_room (in_v1 100) capacity) Stored pairs)
      (first_left capacity after step);
}

-- a step tells no want of room where there is room
never_short : (before after : Handle) (call : Call) (reply : Reply) → HasRoom before
    → Step before call reply after → reply ≢ Refused NoRoom
never_short before after call reply room step is =
    let due = refuses_where_due before after call NoRoom
    (subst (λ (r : Reply). Step before call r after) is step) in
    omega (arith, room, due.2.0)

room_left : (before after : Handle) (call : Call) (reply : Reply) → HasRoom before
    → Step before call reply after → HasRoom after
room_left before after call reply room step =
    subst (λ (n : ℕ). 2 * home after.state.bounds ≤ n) (sym step.capacity)
    (⊎_elim (λ same. subst (λ (b : Bounds). 2 * home b ≤ before.capacity) (sym same) room)
    (λ up. subst (λ (b : Bounds). 2 * home b ≤ before.capacity) (sym up.raised) up.room)
    (bounds_are_due before after call reply step))

pub room_is_known : RoomIsKnown
room_is_known before after [] [] room run =
    (All-nil (λ reply. reply ≢ Refused NoRoom), subst HasRoom (sym run) room)
room_is_known before after (call ∷ calls) (reply ∷ replies) room run =
    let rest = room_is_known run.0 after calls replies
    (room_left before run.0 call reply room run.1) run.2 in (
      All-cons (λ r. r ≢ Refused NoRoom) reply replies
          (never_short before run.0 call reply room run.1) rest.0,
      rest.1,
    )
room_is_known before after [] (reply ∷ replies) room run = absurd run
room_is_known before after (call ∷ calls) [] room run = absurd run

-- a database of version 2 has at least as many pages
pub raised_home : (bounds : Bounds) → home bounds ≤ home (upgraded bounds)
raised_home bounds = by_version bounds.version refl
  where
    by_version : (version : Version) → bounds.version ≡ version → home bounds ≤ home (upgraded bounds)
    by_version V1 is = omega (arith, ap (λ v. pages_for v * bounds.limit) is)
    by_version V2 is = omega (arith, ap (λ v. pages_for v * bounds.limit) is)

home_left : (before after : Handle) (call : Call) (reply : Reply) → Step before call reply after
    → home before.state.bounds ≤ home after.state.bounds
home_left before after call reply step =
    ⊎_elim (λ same. subst (λ (b : Bounds). home before.state.bounds ≤ home b) (sym same) (omega arith))
    (λ up. subst (λ (b : Bounds). home before.state.bounds ≤ home b) (sym up.raised)
    (raised_home before.state.bounds)) (bounds_are_due before after call reply step)

still_bounded : (before after : Handle) (call : Call) (reply : Reply)
    → before.pages ≤ home before.state.bounds → Step before call reply after
    → after.pages ≤ home after.state.bounds
still_bounded before after call reply few step =
    let more = home_left before after call reply step in
    ⊎_elim (λ same. omega (arith, same)) (λ most. omega arith) step.bounded

pub pages_are_bounded : PagesAreBounded
pages_are_bounded before after [] [] few run =
    subst (λ (h : Handle). h.pages ≤ home h.state.bounds) (sym run) few
pages_are_bounded before after (call ∷ calls) (reply ∷ replies) few run =
    pages_are_bounded run.0 after calls replies
    (still_bounded before run.0 call reply few run.1) run.2
pages_are_bounded before after [] (reply ∷ replies) few run = absurd run
pages_are_bounded before after (call ∷ calls) [] few run = absurd run
