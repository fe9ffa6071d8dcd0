-- What sessions leave, by their changes.
use Rattle.std.proofs.Common.{◌≡◌, ◌⊎◌, inl, inr, ⊎_elim, ℕ, true, false, List, [], ◌∷◌, ◌++◌, take, map, refl, sym, ◌∙◌, ap, ap₂, subst, Contains}
use Rattle.std.proofs.lemmas.List.Elements.{Contains-append_left, Contains-append_right, Contains-append_cases}
use Rattle.dbm_model.specs.Calls.{Call, Reply, Refused, Fault, Device}
use Rattle.dbm_model.specs.States.{Handle}
use Rattle.dbm_model.specs.Members.{Member, Members, held, Opening, opened}
use Rattle.dbm_model.specs.Sessions.{Disk, Plan, Ending, NotOpened, StoppedOpening, Rested, StoppedCall, Broke, Grouped, StoppedGroup, BrokeGroup, Begins, IsRefused, Rests, CutShort, Breaks, SessionStep}
use Rattle.dbm_model.specs.SessionChanges.{Marked, Acknowledged, InDoubt, PutsAll, of_opening, of_refused, of_cut, of_calls, of_stopped, of_broken, of_group, changes_in, changes_of, LeftBy, OneInDoubt, AcknowledgedChangesStay, PrefixIsLeft, is_opened, is_cut, OpeningEndsDoubt, RefusalTakesNothing, BreakLeavesBoth, LeavesBoth, GroupCutShortLeavesBoth}
use Rattle.dbm_model.proofs.Lists.{in_one, in_map, map_has}
use Rattle.dbm_model.proofs.Leaving.{left_append, left_rest, opening_made, opening_in_doubt, opening_all, refused_for_good, refused_one, opening_one, prefix_left, one_behind, none_in_doubt}
use Rattle.dbm_model.proofs.SessionCalls.{none_by_device, calls_left, calls_all}
use Rattle.dbm_model.proofs.Groups.{group_left, group_cut_left, group_cut_has, group_one}
use Rattle.dbm_model.proofs.Cuts.{cut_left, broken_leaves, both_left, stopped_changes, goes_left, broken_changes, stopped_one, broken_one}

-- ---- the calls of a session

pub rests_left : (most : ℕ) (first : Handle) (calls : List Call) (replies : List Reply) (after : Members)
    → Rests most first calls replies after → (member : Member) → Contains after member
    → LeftBy (of_calls calls replies) (held first.state) member
rests_left most first calls replies after r member is =
    subst (LeftBy (of_calls calls replies) (held first.state))
    (sym (in_one (held r.goes.last.state) member
    (subst (λ (ms : Members). Contains ms member) r.left is)))
    (goes_left most first calls replies r.goes)

cut_way : (most : ℕ) (first : Handle) (calls : List Call) (replies : List Reply) (after : Members)
    (cut : CutShort most first calls replies after) (member : Member) → Contains after member
    → LeftBy (of_calls cut.goes.made replies ++ of_cut cut.call) (held first.state) member
cut_way most first calls replies after cut member is =
    let last = cut.goes.last in
    left_append (of_calls cut.goes.made replies) (of_cut cut.call) (held first.state)
    (held last.state) member
    (calls_left first last cut.goes.made replies cut.goes.run cut.goes.usable)
    (cut_left last cut.call member
    (subst (λ (ms : Members). Contains ms member) cut.left is))

cut_calls : (most : ℕ) (first : Handle) (calls : List Call) (replies : List Reply) (after : Members)
    (cut : CutShort most first calls replies after) → calls ≡ cut.goes.made ++ cut.call ∷ cut.rest
cut_calls most first calls replies after cut =
    cut.goes.calls_are ∙ ap (λ (later : List Call). cut.goes.made ++ later) cut.next

stopped_left : (most : ℕ) (first : Handle) (calls : List Call) (replies : List Reply) (after : Members)
    → CutShort most first calls replies after → (member : Member) → Contains after member
    → LeftBy (of_stopped calls replies) (held first.state) member
stopped_left most first calls replies after cut member is =
    let changes = ap (λ (cs : List Call). of_stopped cs replies)
    (cut_calls most first calls replies after cut)
    ∙ stopped_changes first cut.goes.last cut.goes.made replies cut.call cut.rest cut.goes.run in
    subst (λ (xs : List Marked). LeftBy xs (held first.state) member) (sym changes)
    (cut_way most first calls replies after cut member is)

breaks_changes : (most : ℕ) (first : Handle) (calls : List Call) (replies : List Reply) (after : Members)
    (b : Breaks most first calls replies after) → of_broken calls replies
    ≡ of_calls b.cut.goes.made b.answered ++ of_cut b.cut.call
breaks_changes most first calls replies after b =
    ap₂ of_broken (cut_calls most first calls b.answered after b.cut) b.replies_are
    ∙ broken_changes first b.cut.goes.last b.cut.goes.made b.answered b.refused b.cut.call
    b.cut.rest b.cut.goes.run (none_by_device b.broken b.last b.then_made b.refused b.run b.breaks)

breaks_left : (most : ℕ) (first : Handle) (calls : List Call) (replies : List Reply) (after : Members)
    → Breaks most first calls replies after → (member : Member) → Contains after member
    → LeftBy (of_broken calls replies) (held first.state) member
breaks_left most first calls replies after b member is =
    subst (λ (xs : List Marked). LeftBy xs (held first.state) member)
    (sym (breaks_changes most first calls replies after b))
    (cut_way most first calls b.answered after b.cut member is)

-- ---- a session

begins_made : (disk : Disk) (before : Members) (how : Opening) (first : Handle)
    (b : Begins disk before how first)
    → LeftBy (of_opening Acknowledged how) b.member (held first.state)
begins_made disk before how first b =
    subst (LeftBy (of_opening Acknowledged how) b.member) b.begins (opening_made how b.member)

after_opening : (disk : Disk) (before : Members) (how : Opening) (first : Handle)
    (b : Begins disk before how first)
    (changes : List Marked) (member : Member) → LeftBy changes (held first.state) member
    → LeftBy (of_opening Acknowledged how ++ changes) b.member member
after_opening disk before how first b changes member left =
    left_append (of_opening Acknowledged how) changes b.member (held first.state) member
    (begins_made disk before how first b) left

refused_cases : (before : Members) (how : Opening) (after : Members)
    → after ≡ before ++ map (opened how) before → (member : Member) → Contains after member
    → (start : Member) × Contains before start
    × ((member ≡ start) ⊎ (member ≡ opened how start))
refused_cases before how after left member is =
    ⊎_elim (λ old. (member, old, inl refl))
    (λ new. let from = in_map (opened how) before member new in (from.0, from.1, inr from.2))
    (Contains-append_cases before (map (opened how) before) member
    (subst (λ (ms : Members). Contains ms member) left is))

refused_left : (before : Members) (how : Opening) (after : Members)
    → after ≡ before ++ map (opened how) before → (member : Member) → Contains after member
    → (start : Member) × Contains before start × LeftBy (of_opening InDoubt how) start member
refused_left before how after left member is =
    let c = refused_cases before how after left member is in
    (c.0, c.1, opening_in_doubt how c.0 member c.2)

-- another refusal has changed nothing
refused_way : (disk : Disk) (before : Members) (how : Opening) (fault : Fault) (after : Members)
    → IsRefused disk before how fault after → (member : Member) → Contains after member
    → (start : Member) × Contains before start × LeftBy (of_refused fault how) start member
refused_way disk before how fault after (inl (is, more, left)) member among =
    subst (λ (f : Fault). (start : Member) × Contains before start
    × LeftBy (of_refused f how) start member) (sym is)
    (refused_left before how after left member among)
refused_way disk before how fault after (inr (other, room, left)) member among = (
  member,
  subst (λ (ms : Members). Contains ms member) left among,
  subst (λ (xs : List Marked). LeftBy xs member member) (sym (refused_for_good fault how other))
      refl,
)

cut_ends_doubt : (disk : Disk) (before after : Members) (plan : Plan) (replies : List Reply)
    (count : ℕ) → SessionStep disk before plan (StoppedGroup replies count) after → (start : Member)
    × Contains before start
    × ((member : Member) → Contains after member
    → LeftBy (of_group InDoubt plan replies count) start member)
cut_ends_doubt disk before after plan replies count step = (
  step.1.member,
  step.1.among,
  λ member among. after_opening disk before plan.how step.0 step.1
      (of_calls plan.calls replies ++ InDoubt (PutsAll (take count plan.group)) ∷ []) member
      (group_cut_left disk.at_end step.0 plan.calls replies (take count plan.group) after step.2 member among),
)

pub ends_doubt : OpeningEndsDoubt
ends_doubt disk before after plan (NotOpened fault) step is = absurd (let x = is in cc)
ends_doubt disk before after plan StoppedOpening step is = absurd (let x = is in cc)
ends_doubt disk before after plan (Rested replies) step is = (
  step.1.member,
  step.1.among,
  λ member among. after_opening disk before plan.how step.0 step.1 (of_calls plan.calls replies) member
      (rests_left disk.at_end step.0 plan.calls replies after step.2 member among),
)
ends_doubt disk before after plan (StoppedCall replies) step is = (
  step.1.member,
  step.1.among,
  λ member among. after_opening disk before plan.how step.0 step.1 (of_stopped plan.calls replies)
      member (stopped_left disk.at_end step.0 plan.calls replies after step.2 member among),
)
ends_doubt disk before after plan (Broke replies) step is = (
  step.1.member,
  step.1.among,
  λ member among. after_opening disk before plan.how step.0 step.1 (of_broken plan.calls replies)
      member (breaks_left disk.at_end step.0 plan.calls replies after step.2 member among),
)
ends_doubt disk before after plan (Grouped replies count) step is = (
  step.1.member,
  step.1.among,
  λ member among. after_opening disk before plan.how step.0 step.1
      (of_calls plan.calls replies ++ Acknowledged (PutsAll (take count plan.group)) ∷ []) member
      (group_left disk.at_end step.0 plan.calls replies (take count plan.group) after step.2 member among),
)
ends_doubt disk before after plan (StoppedGroup replies count) step is =
    cut_ends_doubt disk before after plan replies count step
ends_doubt disk before after plan (BrokeGroup replies count) step is =
    cut_ends_doubt disk before after plan replies count (step.0, step.1, step.2)

by_opened : (disk : Disk) (before after : Members) (plan : Plan) (ending : Ending)
    → SessionStep disk before plan ending after → is_opened ending ≡ true → (member : Member)
    → Contains after member
    → (start : Member) × Contains before start × LeftBy (changes_in plan ending) start member
by_opened disk before after plan ending step is member among =
    let one = ends_doubt disk before after plan ending step is in
    (one.0, one.1, one.2 member among)

session_left : (disk : Disk) (before after : Members) (plan : Plan) (ending : Ending)
    → SessionStep disk before plan ending after → (member : Member) → Contains after member
    → (start : Member) × Contains before start × LeftBy (changes_in plan ending) start member
session_left disk before after plan (NotOpened fault) step member among =
    refused_way disk before plan.how fault after step member among
session_left disk before after plan StoppedOpening step member among =
    refused_left before plan.how after step member among
session_left disk before after plan (Rested replies) step member among =
    by_opened disk before after plan (Rested replies) step refl member among
session_left disk before after plan (StoppedCall replies) step member among =
    by_opened disk before after plan (StoppedCall replies) step refl member among
session_left disk before after plan (Broke replies) step member among =
    by_opened disk before after plan (Broke replies) step refl member among
session_left disk before after plan (Grouped replies count) step member among =
    by_opened disk before after plan (Grouped replies count) step refl member among
session_left disk before after plan (StoppedGroup replies count) step member among =
    by_opened disk before after plan (StoppedGroup replies count) step refl member among
session_left disk before after plan (BrokeGroup replies count) step member among =
    by_opened disk before after plan (BrokeGroup replies count) step refl member among

pub one_in_doubt : OneInDoubt
one_in_doubt plan (NotOpened fault) = refused_one fault plan.how
one_in_doubt plan StoppedOpening = opening_one plan.how
one_in_doubt plan (Rested replies) =
    one_behind (of_opening Acknowledged plan.how) (of_calls plan.calls replies)
    (opening_all plan.how)
    (none_in_doubt (of_calls plan.calls replies) (calls_all plan.calls replies))
one_in_doubt plan (StoppedCall replies) =
    one_behind (of_opening Acknowledged plan.how) (of_stopped plan.calls replies)
    (opening_all plan.how) (stopped_one plan.calls replies)
one_in_doubt plan (Broke replies) =
    one_behind (of_opening Acknowledged plan.how) (of_broken plan.calls replies)
    (opening_all plan.how) (broken_one plan.calls replies)
one_in_doubt plan (Grouped replies count) = group_one Acknowledged plan replies count tt
one_in_doubt plan (StoppedGroup replies count) = group_one InDoubt plan replies count refl
one_in_doubt plan (BrokeGroup replies count) = group_one InDoubt plan replies count refl

pub prefix_is_left : PrefixIsLeft
prefix_is_left disk before after plan ending step member among =
    let one = session_left disk before after plan ending step member among in (
      one.0,
      one.1,
      prefix_left (changes_in plan ending) one.0 member (one_in_doubt plan ending) one.2,
    )

kept_and_opened : (before : Members) (how : Opening) (after : Members)
    → after ≡ before ++ map (opened how) before → (member : Member) → Contains before member
    → Contains after member × Contains after (opened how member)
kept_and_opened before how after left member among = (
  subst (λ (ms : Members). Contains ms member) (sym left)
      (Contains-append_left before (map (opened how) before) member among),
  subst (λ (ms : Members). Contains ms (opened how member)) (sym left)
      (Contains-append_right before (map (opened how) before) (opened how member)
      (map_has (opened how) before member among)),
)

cut_by_device : (fault : Fault) → is_cut (NotOpened fault) ≡ true → fault ≡ Device
cut_by_device Device is = refl
cut_by_device fault is = absurd (let x = is in cc)

cut_adds : (disk : Disk) (before after : Members) (plan : Plan) (ending : Ending)
    → SessionStep disk before plan ending after → is_cut ending ≡ true → (member : Member)
    → Contains before member → Contains after member × Contains after (opened plan.how member)
cut_adds disk before after plan (NotOpened fault) (inl (device, more, left)) is member among =
    kept_and_opened before plan.how after left member among
cut_adds disk before after plan (NotOpened fault) (inr (other, room, left)) is member among =
    absurd (other (cut_by_device fault is))
cut_adds disk before after plan StoppedOpening step is member among =
    kept_and_opened before plan.how after step member among
cut_adds disk before after plan (Rested replies) step is member among = absurd (let x = is in cc)
cut_adds disk before after plan (StoppedCall replies) step is member among =
    absurd (let x = is in cc)
cut_adds disk before after plan (Broke replies) step is member among = absurd (let x = is in cc)
cut_adds disk before after plan (Grouped replies count) step is member among =
    absurd (let x = is in cc)
cut_adds disk before after plan (StoppedGroup replies count) step is member among =
    absurd (let x = is in cc)
cut_adds disk before after plan (BrokeGroup replies count) step is member among =
    absurd (let x = is in cc)

refused_adds_none : (disk : Disk) (before after : Members) (plan : Plan) (ending : Ending)
    → SessionStep disk before plan ending after → is_opened ending ≡ false
    → is_cut ending ≡ false → after ≡ before
refused_adds_none disk before after plan (NotOpened fault) (inl (device, more, left)) closed is =
    absurd (let x = sym (ap (λ (f : Fault). is_cut (NotOpened f)) device) ∙ is in cc)
refused_adds_none disk before after plan (NotOpened fault) (inr (other, room, left)) closed is =
    left
refused_adds_none disk before after plan StoppedOpening step closed is =
    absurd (let x = is in cc)
refused_adds_none disk before after plan (Rested replies) step closed is =
    absurd (let x = closed in cc)
refused_adds_none disk before after plan (StoppedCall replies) step closed is =
    absurd (let x = closed in cc)
refused_adds_none disk before after plan (Broke replies) step closed is =
    absurd (let x = closed in cc)
refused_adds_none disk before after plan (Grouped replies count) step closed is =
    absurd (let x = closed in cc)
refused_adds_none disk before after plan (StoppedGroup replies count) step closed is =
    absurd (let x = closed in cc)
refused_adds_none disk before after plan (BrokeGroup replies count) step closed is =
    absurd (let x = closed in cc)

pub takes_nothing : RefusalTakesNothing
takes_nothing = record { cut = cut_adds; refused = refused_adds_none }

broken_has : (most : ℕ) (first : Handle) (calls : List Call) (replies : List Reply) (after : Members)
    → Breaks most first calls replies after → (member : Member)
    → LeftBy (of_broken calls replies) (held first.state) member → Contains after member
broken_has most first calls replies after b member left =
    let last = b.cut.goes.last in
    let made = b.cut.goes.made in
    let both = subst (λ (xs : List Marked). LeftBy xs (held first.state) member)
    (breaks_changes most first calls replies after b) left in
    let of_last = left_rest (of_calls made b.answered) (of_cut b.cut.call) (held first.state)
    (held last.state) member (calls_all made b.answered)
    (calls_left first last made b.answered b.cut.goes.run b.cut.goes.usable) both in
    subst (λ (ms : Members). Contains ms member)
    (sym (b.cut.left ∙ broken_leaves last b.broken b.cut.call (Refused Device) b.step
    b.cut.goes.usable b.breaks))
    (both_left last.state b.cut.call member of_last)

pub leaves_both : BreakLeavesBoth
leaves_both disk before after plan replies step = (
  step.1.member,
  step.1.among,
  λ member left. broken_has disk.at_end step.0 plan.calls replies after step.2 member
      (left_rest (of_opening Acknowledged plan.how) (of_broken plan.calls replies) step.1.member
      (held step.0.state) member (opening_all plan.how)
      (begins_made disk before plan.how step.0 step.1) left),
)

cut_leaves_both : LeavesBoth StoppedGroup
cut_leaves_both disk before after plan replies count step =
    let group = take count plan.group in (
      step.1.member,
      step.1.among,
      λ member left. group_cut_has disk.at_end step.0 plan.calls replies group after step.2 member
          (left_rest (of_opening Acknowledged plan.how)
          (of_calls plan.calls replies ++ InDoubt (PutsAll group) ∷ []) step.1.member
          (held step.0.state) member (opening_all plan.how)
          (begins_made disk before plan.how step.0 step.1) left),
    )

pub group_leaves_both : GroupCutShortLeavesBoth
group_leaves_both = record {
  stopped = cut_leaves_both;
  broke = λ disk before after plan replies count step.
      cut_leaves_both disk before after plan replies count (step.0, step.1, step.2);
}

-- ---- all sessions

pub changes_stay : AcknowledgedChangesStay
changes_stay pages before after [] [] all member among =
    (member, subst (λ (ms : Members). Contains ms member) all among, refl)
changes_stay pages before after [] (ending ∷ endings) all member among = absurd all
changes_stay pages before after (plan ∷ plans) [] all member among = absurd all
changes_stay pages before after (plan ∷ plans) (ending ∷ endings) (disk, of_pages, mid, step, rest)
    member among =
    let later = changes_stay pages mid after plans endings rest member among in
    let one = session_left disk before mid plan ending step later.0 later.1 in (
      one.0,
      one.1,
      left_append (changes_in plan ending) (changes_of plans endings) one.0 later.0 member one.2
          later.2,
    )
