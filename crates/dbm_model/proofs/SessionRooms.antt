-- The room that sessions leave.
use Rattle.std.proofs.Common.{◌≡◌, ◌≢◌, inl, inr, ⊎_elim, ℕ, ◌*◌, ◌≤◌, true, false, cond, List, [], ◌∷◌, ◌++◌, take, map, refl, sym, ◌∙◌, ap, subst, arith, Contains}
use Rattle.std.specs.FinMap.{empty}
use Rattle.std.proofs.lemmas.List.Elements.{Contains-append_cases, All-nil, All-cons, All-append, All-head, All-tail}
use Rattle.dbm_model.specs.Calls.{Call, Reply, Stored, Refused, Device, NoRoom}
use Rattle.dbm_model.specs.Changes.{replacing}
use Rattle.dbm_model.specs.Pairs.{Pair}
use Rattle.dbm_model.specs.Sizes.{home}
use Rattle.dbm_model.specs.States.{State, Handle}
use Rattle.dbm_model.specs.Steps.{Case, Tells, Refuses, Declines, Finds, Passes, Changes, case_of, Run}
use Rattle.dbm_model.specs.Room.{HasRoom, AreNeverShort}
use Rattle.dbm_model.proofs.RoomLemmas.{room_stays, room_is_known}
use Rattle.dbm_model.specs.Bounds.{Bounds}
use Rattle.dbm_model.proofs.RefusalLemmas.{IsRaised, AreDue, Explains, explains}
use Rattle.dbm_model.proofs.StayLemmas.{bounds_are_due}
use Rattle.dbm_model.specs.Members.{Member, NoDatabase, Holding, Members, HasRoomFor, AllHaveRoom, held, Opening, opened}
use Rattle.dbm_model.specs.Sessions.{Disk, Plan, Ending, NotOpened, StoppedOpening, Rested, StoppedCall, Broke, Grouped, StoppedGroup, BrokeGroup, Begins, Goes, Rests, left_by, CutShort, Breaks, Groups, GroupCutShort, SessionStep}
use Rattle.dbm_model.specs.SessionRoom.{AsksForRoom, IsNeverShort, SessionsKeepRoom, SessionsAreNeverShort}
use Rattle.dbm_model.proofs.Lists.{in_one, in_two, in_map}

-- stores that were acknowledged keep the bounds
pub bounds_stay : (before after : Handle) (pairs : List Pair)
    → Run before (map replacing pairs) (map (λ _. Stored) pairs) after
    → after.state.bounds ≡ before.state.bounds
bounds_stay before after [] run = ap (λ (h : Handle). h.state.bounds) run
bounds_stay before after (pair ∷ pairs) run =
    bounds_stay run.0 after pairs run.2
    ∙ ⊎_elim (λ same. same) (λ (up : IsRaised before (replacing pair) run.0.state.bounds).
    absurd (let is = up.upgrade in cc))
    (bounds_are_due before run.0 (replacing pair) Stored run.1)

-- calls keep the capacity
capacity_stays : (before after : Handle) (calls : List Call) (replies : List Reply)
    → Run before calls replies after → after.capacity ≡ before.capacity
capacity_stays before after [] [] run = ap (λ (h : Handle). h.capacity) run
capacity_stays before after (call ∷ calls) (reply ∷ replies) run =
    capacity_stays run.0 after calls replies run.2
    ∙ (room_stays before run.0 call reply run.1).0
capacity_stays before after [] (reply ∷ replies) run = absurd run
capacity_stays before after (call ∷ calls) [] run = absurd run

module _ (pages : ℕ) where
  opened_room : (how : Opening) (member : Member) → 2 * home how.bounds ≤ pages
      → HasRoomFor pages member → HasRoomFor pages (opened how member)
  opened_room how NoDatabase asked has = elim how.create as (λ b.
      HasRoomFor pages (cond b (Holding empty how.bounds) NoDatabase)) [
        | true ↦ asked
        | false ↦ tt
      ]
  opened_room how (Holding map bounds) asked has = elim how.truncate as (λ b.
      HasRoomFor pages (cond b (Holding empty how.bounds) (Holding map bounds))) [
        | true ↦ asked
        | false ↦ has
      ]

  -- an opening that answered no handle
  unopened : (before after : Members) (how : Opening) → AllHaveRoom pages before
      → 2 * home how.bounds ≤ pages → after ≡ before ++ map (opened how) before
      → AllHaveRoom pages after
  unopened before after how all asked is member among =
      ⊎_elim (λ was. all member was)
      (λ made. let from = in_map (opened how) before member made in
      subst (HasRoomFor pages) (sym from.2)
      (opened_room how from.0 asked (all from.0 from.1)))
      (Contains-append_cases before (map (opened how) before) member
      (subst (λ (members : Members). Contains members member) is among))

  -- a handle on a device of so many pages, which has room
  pub record Fits (h : Handle) : Type 0 where
    pub room : 2 * home h.state.bounds ≤ pages
    pub size : h.capacity ≡ pages

  pub begun : (disk : Disk) (before : Members) (how : Opening) (first : Handle)
      → disk.pages ≡ pages → AllHaveRoom pages before → 2 * home how.bounds ≤ pages
      → Begins disk before how first → Fits first
  begun disk before how first of_pages all asked begins = record {
    room = subst (HasRoomFor pages) begins.begins
        (opened_room how begins.member asked (all begins.member begins.among));
    size = begins.is_on.capacity ∙ of_pages;
  }

  has_room : (h : Handle) → Fits h → HasRoom h
  has_room h fits = omega (arith, fits.room, fits.size)

  run_fits : (before after : Handle) (calls : List Call) (replies : List Reply) → Fits before
      → Run before calls replies after → Fits after
  run_fits before after calls replies fits run =
      let same = capacity_stays before after calls replies run in
      let then = (room_is_known before after calls replies (has_room before fits) run).1 in
      record { room = omega (arith, then, same, fits.size); size = same ∙ fits.size }

  sole : (s : State) → 2 * home s.bounds ≤ pages → AllHaveRoom pages (held s ∷ [])
  sole s has member among = subst (HasRoomFor pages) (sym (in_one (held s) member among)) has

  both : (one other : State) → 2 * home one.bounds ≤ pages → 2 * home other.bounds ≤ pages
      → AllHaveRoom pages (held one ∷ held other ∷ [])
  both one other has then member among =
      ⊎_elim (λ is. subst (HasRoomFor pages) (sym is) has)
      (λ is. subst (HasRoomFor pages) (sym is) then)
      (in_two (held one) (held other) member among)

  -- an upgrade is refused where there is no room for it
  asked_room : (h : Handle) (call : Call) (bounds : Bounds) → Fits h → AreDue h call bounds
      → 2 * home bounds ≤ pages
  asked_room h call bounds fits (inl same) =
      subst (λ (b : Bounds). 2 * home b ≤ pages) (sym same) fits.room
  asked_room h call bounds fits (inr up) =
      subst (λ (b : Bounds). 2 * home b ≤ pages) (sym up.raised)
      (omega (arith, up.room, fits.size))

  either : (h : Handle) (call : Call) (c : Case) → Fits h → Explains h call c
      → AllHaveRoom pages (left_by h.state c)
  either h call (Tells said told) fits why = sole h.state fits.room
  either h call (Refuses fault) fits why = sole h.state fits.room
  either h call (Declines fault) fits why = sole h.state fits.room
  either h call (Finds found) fits why = sole h.state fits.room
  either h call (Passes from) fits why = sole h.state fits.room
  either h call (Changes said next) fits why =
      both h.state next fits.room (asked_room h call next.bounds fits why.3)

  module _ (most : ℕ) (first : Handle) (fits : Fits first) (calls : List Call)
      (replies : List Reply) where
    gone : (goes : Goes most first calls replies) → Fits goes.last
    gone goes = run_fits first goes.last goes.made replies fits goes.run

    rested : (after : Members) → Rests most first calls replies after → AllHaveRoom pages after
    rested after rests = subst (AllHaveRoom pages) (sym rests.left)
        (sole rests.goes.last.state (gone rests.goes).room)

    cut_short : (after : Members) → CutShort most first calls replies after
        → AllHaveRoom pages after
    cut_short after cut =
        let last = cut.goes.last in
        subst (AllHaveRoom pages) (sym cut.left)
        (either last cut.call (case_of last cut.call) (gone cut.goes) (explains last cut.call))

    -- after stores that began where the calls ended
    stored_room : (goes : Goes most first calls replies) (last : Handle) (pairs : List Pair)
        → Run (record goes.last { faults = last.faults }) (map replacing pairs)
        (map (λ _. Stored) pairs) last → 2 * home last.state.bounds ≤ pages
    stored_room goes last pairs run = subst (λ (b : Bounds). 2 * home b ≤ pages)
        (sym (bounds_stay (record goes.last { faults = last.faults }) last pairs run))
        (gone goes).room

    grouped : (stored : List Pair) (after : Members)
        → Groups most first calls replies stored after → AllHaveRoom pages after
    grouped stored after g = subst (AllHaveRoom pages) (sym g.left)
        (sole g.last.state (stored_room g.goes g.last stored g.run))

    group_cut : (asked : List Pair) (after : Members)
        → GroupCutShort most first calls replies asked after → AllHaveRoom pages after
    group_cut asked after cut = subst (AllHaveRoom pages) (sym cut.left)
        (both cut.goes.last.state cut.stored.state (gone cut.goes).room
        (stored_room cut.goes cut.stored asked cut.run))

  module _ (disk : Disk) (of_pages : disk.pages ≡ pages) (before : Members) (plan : Plan)
      (all : AllHaveRoom pages before) (asked : AsksForRoom pages plan) where
    pub first_fits : (first : Handle) → Begins disk before plan.how first → Fits first
    first_fits first begins = begun disk before plan.how first of_pages all asked begins

    one_session : (after : Members) (ending : Ending) → SessionStep disk before plan ending after
        → AllHaveRoom pages after
    one_session after (NotOpened fault) (inl (device, more, is)) =
        unopened before after plan.how all asked is
    one_session after (NotOpened fault) (inr (other, room, is)) =
        subst (AllHaveRoom pages) (sym is) all
    one_session after StoppedOpening is = unopened before after plan.how all asked is
    one_session after (Rested replies) (first, begins, rests) =
        rested disk.at_end first (first_fits first begins) plan.calls replies after rests
    one_session after (StoppedCall replies) (first, begins, cut) =
        cut_short disk.at_end first (first_fits first begins) plan.calls replies after cut
    one_session after (Broke replies) (first, begins, breaks) =
        cut_short disk.at_end first (first_fits first begins) plan.calls breaks.answered after
        breaks.cut
    one_session after (Grouped replies count) (first, begins, group) =
        grouped disk.at_end first (first_fits first begins) plan.calls replies
        (take count plan.group) after group
    one_session after (StoppedGroup replies count) (first, begins, cut) =
        group_cut disk.at_end first (first_fits first begins) plan.calls replies
        (take count plan.group) after cut
    one_session after (BrokeGroup replies count) (first, begins, cut, more) =
        group_cut disk.at_end first (first_fits first begins) plan.calls replies
        (take count plan.group) after cut

pub sessions_keep_room : SessionsKeepRoom
sessions_keep_room pages before after [] [] all asked is = subst (AllHaveRoom pages) (sym is) all
sessions_keep_room pages before after (plan ∷ plans) (ending ∷ endings) all asked
    (disk, of_pages, mid, step, rest) =
    sessions_keep_room pages mid after plans endings
    (one_session pages disk of_pages before plan all
    (All-head (AsksForRoom pages) plan plans asked) mid ending step)
    (All-tail (AsksForRoom pages) plan plans asked) rest
sessions_keep_room pages before after [] (ending ∷ endings) all asked is = absurd is
sessions_keep_room pages before after (plan ∷ plans) [] all asked is = absurd is

-- ---- nothing is refused for want of room

-- neither are the calls of a database that has room
calls_not_short : (most : ℕ) (first : Handle) (calls : List Call) (replies : List Reply)
    → HasRoom first → Goes most first calls replies → AreNeverShort replies
calls_not_short most first calls replies room goes =
    (room_is_known first goes.last goes.made replies room goes.run).0

broken_not_short : (most : ℕ) (first : Handle) (calls : List Call) (replies : List Reply)
    (after : Members) → HasRoom first → Breaks most first calls replies after
    → AreNeverShort replies
broken_not_short most first calls replies after room b =
    let Fits = λ (reply : Reply). reply ≢ Refused NoRoom in
    let earlier = room_is_known first b.cut.goes.last b.cut.goes.made b.answered room b.cut.goes.run in
    let then = (room_is_known b.cut.goes.last b.broken (b.cut.call ∷ []) (Refused Device ∷ [])
    earlier.1 (b.broken, b.step, refl)).1 in
    let later = (room_is_known b.broken b.last b.then_made b.refused then b.run).0 in
    subst AreNeverShort (sym b.replies_are)
    (All-append Fits b.answered (Refused Device ∷ b.refused) earlier.0
    (All-cons Fits (Refused Device) b.refused (λ is. absurd (let x = is in cc)) later))

module _ (pages : ℕ) (disk : Disk) (of_pages : disk.pages ≡ pages) (before : Members) (plan : Plan)
    (all : AllHaveRoom pages before) (asked : AsksForRoom pages plan) where
  begins_well : (first : Handle) → Begins disk before plan.how first → HasRoom first
  begins_well first begins =
      has_room pages first (first_fits pages disk of_pages before plan all asked first begins)

  one_not_short : (after : Members) (ending : Ending) → SessionStep disk before plan ending after
      → IsNeverShort ending
  one_not_short after (NotOpened fault) (inl (device, more, is)) =
      λ short. absurd (let x = sym device ∙ short in cc)
  one_not_short after (NotOpened fault) (inr (other, room, is)) =
      room (subst (λ (n : ℕ). AllHaveRoom n before) (sym of_pages) all)
  one_not_short after StoppedOpening is = tt
  one_not_short after (Rested replies) (first, begins, rests) =
      calls_not_short disk.at_end first plan.calls replies (begins_well first begins) rests.goes
  one_not_short after (StoppedCall replies) (first, begins, cut) =
      calls_not_short disk.at_end first plan.calls replies (begins_well first begins) cut.goes
  one_not_short after (Broke replies) (first, begins, breaks) =
      broken_not_short disk.at_end first plan.calls replies after (begins_well first begins) breaks
  one_not_short after (Grouped replies count) (first, begins, group) =
      calls_not_short disk.at_end first plan.calls replies (begins_well first begins) group.goes
  one_not_short after (StoppedGroup replies count) (first, begins, cut) =
      calls_not_short disk.at_end first plan.calls replies (begins_well first begins) cut.goes
  one_not_short after (BrokeGroup replies count) (first, begins, cut, more) =
      calls_not_short disk.at_end first plan.calls replies (begins_well first begins) cut.goes

pub sessions_are_never_short : SessionsAreNeverShort
sessions_are_never_short pages before after [] [] all asked is = All-nil IsNeverShort
sessions_are_never_short pages before after (plan ∷ plans) (ending ∷ endings) all asked
    (disk, of_pages, mid, step, rest) =
    let due = All-head (AsksForRoom pages) plan plans asked in
    All-cons IsNeverShort ending endings
    (one_not_short pages disk of_pages before plan all due mid ending step)
    (sessions_are_never_short pages mid after plans endings
    (one_session pages disk of_pages before plan all due mid ending step)
    (All-tail (AsksForRoom pages) plan plans asked) rest)
sessions_are_never_short pages before after [] (ending ∷ endings) all asked is = absurd is
sessions_are_never_short pages before after (plan ∷ plans) [] all asked is = absurd is
