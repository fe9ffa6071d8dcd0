-- What one handle sees of a chain, with the calls of its own that were refused.
use Rattle.std.proofs.Common.{◌≡◌, ◌≢◌, inl, inr, ⊎_elim, ◌+◌, ℕ, Bool, true, false, cond, refl, sym, ◌∙◌, ap, subst, arith, Option, List, [], ◌∷◌, map}
use Rattle.std.specs.Prelude.{nat_eq}
use Rattle.std.proofs.lemmas.Bool.{eqb-true}
use Rattle.dbm_model.specs.Bounds.{Bounds}
use Rattle.dbm_model.specs.Calls.{Call, Reply, Refused, Memory, Device, NoRoom, Fault, is_acknowledged}
use Rattle.dbm_model.specs.Members.{Member, held}
use Rattle.dbm_model.specs.Pairs.{Contents}
use Rattle.dbm_model.specs.Passes.{is_refused}
use Rattle.dbm_model.specs.States.{State, Pass, Handle, flagged, first_fault}
use Rattle.dbm_model.specs.Steps.{Case, Tells, Refuses, Declines, Finds, Passes, Changes, Answers, Suffers, Step, case_for, case_of, usable_case}
use Rattle.dbm_model.proofs.Cuts.{broken_leaves}
use Rattle.dbm_model.proofs.StayLemmas.{first_kept, settings_stay}
use Rattle.dbm_sharing.specs.Changes.{IsChange}
use Rattle.dbm_sharing.specs.Handles.{Own, Shared, state_of, file_of, IsHandleAt}
use Rattle.dbm_sharing.specs.Periods.{Period, Answered, CutByDevice, CutByDeath, Opened, Replaced, IsLeft, IsAnswered, IsCutByDevice, PeriodStep, Chain, IsOneTable}
use Rattle.dbm_sharing.specs.Views.{Said, acknowledged_by, others_said, cut_said, Lasts}
use Rattle.dbm_sharing.specs.WholeViews.{whole_of, whole, LacksNothing, WholeViewsAreRuns}
use Rattle.dbm_sharing.proofs.PeriodLemmas.{same_map, same_bounds, room_of, answers_in, is_made, unacknowledged, file_answered, file_cut_by_device, none_made}
use Rattle.dbm_sharing.proofs.Rules.{told, at, change_moves, is_change}
use Rattle.dbm_sharing.proofs.ViewLemmas.{Sees, sees_none, sees_one, sees_both, acknowledges, not_who, pass_of_broken, lasts_both, one_both}
use Rattle.dbm_sharing.proofs.WriterLemmas.{is_changing_rule}

-- ---- the states of the run

-- this map and these bounds, to a handle that is open for changes
abbrev open_at : Contents → Bounds → Own → State
open_at map bounds own = at map bounds own.error own.pass true

is_open : (s : Shared) (who : ℕ) → (s.own who).writable ≡ true
    → state_of s who ≡ open_at s.map s.bounds (s.own who)
is_open s who access =
    ap (λ (b : Bool). at s.map s.bounds (s.own who).error (s.own who).pass b) access

-- ---- a call that the device refused

-- a fault of the device that left the handle usable, at another handle of the same state
fails : (first last h : Handle) (call : Call) (c : Case) (reply : Reply) → h.state ≡ first.state
    → first.state.usable ≡ true → last.state.usable ≡ true
    → (reply ≢ Refused Memory) × (reply ≢ Refused NoRoom) → Suffers first call c reply last
    → (reply ≡ Refused Device) × Suffers h call c reply
    (record h { state = last.state; faults = h.faults + 1 })
fails first last h call (Tells said told) reply same was now lacks is = absurd is
fails first last h call (Refuses fault) reply same was now lacks is = absurd is
fails first last h call (Declines fault) reply same was now lacks is =
    (is.0, (is.0, omega arith, is.2 ∙ ap (flagged Device) (sym same)))
fails first last h call (Finds found) reply same was now lacks (inl is) =
    (is.0, inl (is.0, omega arith, is.2 ∙ ap (flagged Device) (sym same)))
fails first last h call (Finds found) reply same was now lacks (inr memory) =
    absurd (lacks.0 memory.0)
fails first last h call (Passes from) reply same was now lacks is =
    (is.0, (is.0, omega arith, is.2 ∙ ap (flagged Device) (sym same)))
fails first last h call (Changes said next) reply same was now lacks (inl is) =
    (is.0, inl (is.0, omega arith, is.2 ∙ ap (flagged Device) (sym same)))
fails first last h call (Changes said next) reply same was now lacks (inr (inl breaks)) =
    absurd (let broken = ap (λ (s : State). s.usable) breaks.4 in cc)
fails first last h call (Changes said next) reply same was now lacks (inr (inr (inl memory))) =
    absurd (lacks.0 memory.0)
fails first last h call (Changes said next) reply same was now lacks (inr (inr (inr room))) =
    absurd (lacks.1 room.0)

-- such a call is one of the run
sees_failed : (pages : ℕ) (s after : State) (call : Call) (reply : Reply) → reply ≡ Refused Device
    → ((h : Handle) → h.state ≡ s → Suffers h call (case_for pages s call) reply
    (record h { state = after; faults = h.faults + 1 }))
    → Sees pages s ((call, reply) ∷ []) after
sees_failed pages s after call reply said suffers first at_state room =
    let next : Handle = record first { state = after; faults = first.faults + 1 } in
    let rule : case_for pages s call ≡ case_of first call =
    ap (λ (t : State). case_for pages t call) (sym at_state)
    ∙ ap (λ (n : ℕ). case_for n first.state call) (sym room) in (
      next,
      refl,
      room,
      (
        next,
        subst (λ (r : Reply). Step first call r next) (sym said) (record {
          counts = omega arith;
          capacity = refl;
          pages = (omega arith, omega arith);
          bounded = inl refl;
          buckets = omega arith;
          answers = inr (subst (λ (r : Reply). Suffers first call (case_of first call) r next) said
              (subst (λ (c : Case). Suffers first call c reply next) rule
              (suffers first at_state)));
        }),
        refl,
      ),
    )

-- ---- its own calls

sees_own : (pages : ℕ) (before after : Shared) (who : ℕ) (call : Call) (reply : Reply)
    → IsAnswered pages before who call reply after
    → (reply ≢ Refused Memory) × (reply ≢ Refused NoRoom)
    → Sees pages (state_of before who) ((call, reply) ∷ []) (state_of after who)
sees_own pages before after who call reply is lacks =
    let s = state_of before who in
    let size = room_of pages s is.first is.begins in
    let rule : case_of is.first call ≡ case_for pages s call =
    ap (λ (t : State). case_for is.first.capacity t call) is.begins.state
    ∙ ap (λ (n : ℕ). case_for n s call) size in
    ⊎_elim
    (λ answers. sees_one pages s (state_of after who) call reply
    (subst (λ (t : State). Answers s (case_for pages s call) reply t) is.ends
    (subst (λ (t : State). Answers t (case_for pages s call) reply is.last.state) is.begins.state
    (subst (λ (c : Case). Answers is.first.state c reply is.last.state) rule answers))))
    (λ suffers.
    let here = subst (λ (c : Case). Suffers is.first call c reply is.last) rule suffers in
    let failed : (h : Handle) → h.state ≡ s → (reply ≡ Refused Device)
    × Suffers h call (case_for pages s call) reply
    (record h { state = is.last.state; faults = h.faults + 1 }) =
    λ h same. fails is.first is.last h call (case_for pages s call) reply
    (same ∙ sym is.begins.state) (ap (λ (t : State). t.usable) is.begins.state)
    (ap (λ (t : State). t.usable) is.ends) lacks here in
    sees_failed pages s (state_of after who) call reply
    (failed (record is.first { state = s }) refl).0
    (λ h same. subst (λ (t : State). Suffers h call (case_for pages s call) reply
    (record h { state = t; faults = h.faults + 1 })) is.ends (failed h same).1))
    is.step.answers

-- ---- changes of whoever

change_at : (pages : ℕ) (before after : Shared) (mine : Own) (caller : ℕ) (call : Call)
    (reply : Reply) (next : State) → IsChange call → is_refused reply ≡ false
    → Answers (state_of before caller) (usable_case pages (state_of before caller) call) reply next
    → file_of after ≡ held next
    → Sees pages (open_at before.map before.bounds mine) ((call, reply) ∷ [])
    (open_at after.map after.bounds mine)
change_at pages before after mine caller call reply next changing well answers file =
    let one = before.own caller in
    let s = open_at before.map before.bounds mine in
    let changed = change_moves pages before.map before.bounds one.error mine.error one.pass mine.pass
    one.writable call reply next changing well answers in
    sees_one pages s (open_at after.map after.bounds mine) call reply
    (subst (λ (v : State). Answers s (usable_case pages s call) reply v)
    (ap (λ (m : Contents). open_at m next.bounds mine)
    (same_map next.map after.map next.bounds after.bounds (sym file))
    ∙ ap (λ (b : Bounds). open_at after.map b mine)
    (same_bounds next.map after.map next.bounds after.bounds (sym file)))
    changed)

still_at : (before after : Shared) (mine : Own) → after.map ≡ before.map
    → after.bounds ≡ before.bounds
    → open_at after.map after.bounds mine ≡ open_at before.map before.bounds mine
still_at before after mine map bounds =
    ap (λ (m : Contents). open_at m after.bounds mine) map
    ∙ ap (λ (b : Bounds). open_at before.map b mine) bounds

cut_at : (pages : ℕ) (before after : Shared) (mine : Own) (caller : ℕ) (call : Call) (made : Bool)
    (first : Handle) → IsHandleAt pages (state_of before caller) first
    → IsLeft made first.state (case_of first call) (file_of after)
    → Sees pages (open_at before.map before.bounds mine) (cut_said call made)
    (open_at after.map after.bounds mine)
cut_at pages before after mine caller call false first begins left =
    let file = none_made pages before caller first (case_of first call) (file_of after) begins left in
    sees_none pages (open_at before.map before.bounds mine) (open_at after.map after.bounds mine)
    (still_at before after mine (same_map after.map before.map after.bounds before.bounds file)
    (same_bounds after.map before.map after.bounds before.bounds file))
cut_at pages before after mine caller call true first begins left =
    let made = is_made pages before caller first call (file_of after) begins left in
    change_at pages before after mine caller call (acknowledged_by call) made.next made.changing
    (acknowledges call)
    (subst (λ (c : Case). Answers (state_of before caller) c (acknowledged_by call) made.next)
    (sym made.rule) (refl, refl)) made.left_is

others_at : (pages : ℕ) (before after : Shared) (mine : Own) (caller : ℕ) (call : Call)
    (reply : Reply) → IsAnswered pages before caller call reply after
    → Sees pages (open_at before.map before.bounds mine) (others_said call reply)
    (open_at after.map after.bounds mine)
others_at pages before after mine caller call reply is = by_mark (is_acknowledged reply) refl
  where
    by_mark : (b : Bool) → is_acknowledged reply ≡ b
        → Sees pages (open_at before.map before.bounds mine) (cond b ((call, reply) ∷ []) [])
        (open_at after.map after.bounds mine)
    by_mark true done =
        let answers = answers_in pages before after caller call reply is (told reply done) in
        change_at pages before after mine caller call reply (state_of after caller)
        (is_change pages (state_of before caller) (state_of after caller) call reply done answers)
        (told reply done) answers refl
    by_mark false calm =
        let left = file_answered pages before after caller call reply is in
        let same = unacknowledged before.map before.bounds call reply calm in
        sees_none pages (open_at before.map before.bounds mine) (open_at after.map after.bounds mine)
        (still_at before after mine (left.0 ∙ same.0) (left.1 ∙ same.1))

-- ---- a handle that the device broke

-- what it has then
abbrev failed_own : Own → Own
failed_own mine = record mine { error = first_fault mine.error Device }

own_failed : (pages : ℕ) (before after : Shared) (who : ℕ) (call : Call) (made : Bool)
    → IsCutByDevice pages before who call made after
    → after.own who ≡ failed_own (before.own who)
own_failed pages before after who call made is =
    let now = after.own who in
    let was = before.own who in
    let error : now.error ≡ first_fault was.error Device =
    ap (λ (s : State). s.error) is.ends ∙ first_kept is.first is.broken call Device is.step
    ∙ ap (λ (s : State). first_fault s.error Device) is.begins.state in
    let writable : now.writable ≡ was.writable =
    ap (λ (s : State). s.writable) is.ends
    ∙ (settings_stay is.first is.broken call (Refused Device) is.step).1
    ∙ ap (λ (s : State). s.writable) is.begins.state in
    ap (λ (e : Option Fault). record now { error = e }) error
    ∙ ap (λ (p : Pass). record now { error = first_fault was.error Device; pass = p })
    (pass_of_broken pages before after who call made is)
    ∙ ap (λ (w : Bool). record was { error = first_fault was.error Device; writable = w }) writable

sees_broken : (pages : ℕ) (before after : Shared) (who : ℕ) (call : Call) (made : Bool)
    → IsCutByDevice pages before who call made after → (before.own who).writable ≡ true
    → Sees pages (state_of before who) ((call, Refused Device) ∷ cut_said call made)
    (open_at after.map after.bounds (after.own who))
sees_broken pages before after who call made is access =
    let s = state_of before who in
    let own = before.own who in
    let change = is_changing_rule is.first.state (case_of is.first call) _ _
    (broken_leaves is.first is.broken call (Refused Device) is.step
    (ap (λ (t : State). t.usable) is.begins.state) is.breaks) in
    let rule : case_for pages s call ≡ Changes change.0 change.1 =
    subst (λ (n : ℕ). case_for n s call ≡ Changes change.0 change.1)
    (room_of pages s is.first is.begins)
    (subst (λ (t : State). case_for is.first.capacity t call ≡ Changes change.0 change.1)
    is.begins.state change.2) in
    let mid = open_at before.map before.bounds (failed_own own) in
    let flag : mid ≡ flagged Device s =
    ap (λ (b : Bool). flagged Device (at before.map before.bounds own.error own.pass b)) (sym access) in
    sees_both pages s mid (open_at after.map after.bounds (after.own who))
    ((call, Refused Device) ∷ []) (cut_said call made)
    (sees_failed pages s mid call (Refused Device) refl
    (λ h same. subst (λ (c : Case). Suffers h call c (Refused Device)
    (record h { state = mid; faults = h.faults + 1 })) (sym rule)
    (inl (refl, omega arith, flag ∙ ap (flagged Device) (sym same)))))
    (subst (λ (o : Own). Sees pages mid (cut_said call made) (open_at after.map after.bounds o))
    (sym (own_failed pages before after who call made is))
    (cut_at pages before after (failed_own own) who call made is.first is.begins
    (subst (λ (m : Member). IsLeft made is.first.state (case_of is.first call) m)
    (sym (file_cut_by_device pages before after who call made is)) is.left)))

-- ---- a chain

-- its access stays
access_stays : (pages who : ℕ) (before after : Shared) (period : Period)
    → PeriodStep pages before period after → Lasts who (period ∷ [])
    → (after.own who).writable ≡ (before.own who).writable
access_stays pages who before after (Answered caller call reply) step lasts =
    by_mark (nat_eq caller who) refl
  where
    by_mark : (b : Bool) → nat_eq caller who ≡ b
        → (after.own who).writable ≡ (before.own who).writable
    by_mark true same =
        let is = subst (λ (n : ℕ). IsAnswered pages before n call reply after)
        (eqb-true caller who same) step in
        ap (λ (s : State). s.writable) (sym is.ends)
        ∙ (settings_stay is.first is.last call reply is.step).1
        ∙ ap (λ (s : State). s.writable) is.begins.state
    by_mark false other = ap (λ (o : Own). o.writable) (step.others who (not_who who caller other))
access_stays pages who before after (CutByDevice caller call made) step lasts =
    by_mark (nat_eq caller who) refl
  where
    by_mark : (b : Bool) → nat_eq caller who ≡ b
        → (after.own who).writable ≡ (before.own who).writable
    by_mark true same = ap (λ (o : Own). o.writable) (own_failed pages before after who call made
        (subst (λ (n : ℕ). IsCutByDevice pages before n call made after)
        (eqb-true caller who same) step))
    by_mark false other = ap (λ (o : Own). o.writable) (step.others who (not_who who caller other))
access_stays pages who before after (CutByDeath caller call made) step lasts =
    ap (λ (o : Own). o.writable) (step.others who lasts.0)
access_stays pages who before after (Opened caller writable) step lasts =
    ap (λ (o : Own). o.writable) (step.others who lasts.0)
access_stays pages who before after (Replaced map bounds) step lasts =
    ap (λ (o : Own). o.writable) (step.all_stay who)

-- what it sees, from its own state before to its own state behind
abbrev SeesAll : ℕ → ℕ → Shared → List Said → Shared → Type 0
SeesAll pages who before said after = Sees pages (state_of before who) said (state_of after who)

-- from the run's states to those of the handle
sees_open : (pages who : ℕ) (before after : Shared) (said : List Said)
    → (before.own who).writable ≡ true → after.own who ≡ before.own who
    → ((mine : Own) → Sees pages (open_at before.map before.bounds mine) said
    (open_at after.map after.bounds mine)) → SeesAll pages who before said after
sees_open pages who before after said access own sees =
    subst (λ (s : State). Sees pages s said (state_of after who)) (sym (is_open before who access))
    (subst (λ (s : State). Sees pages (open_at before.map before.bounds (before.own who)) said s)
    (sym (is_open after who (ap (λ (o : Own). o.writable) own ∙ access)
    ∙ ap (λ (o : Own). open_at after.map after.bounds o) own))
    (sees (before.own who)))

whole_period : (pages who : ℕ) (before after : Shared) (period : Period)
    → PeriodStep pages before period after → Lasts who (period ∷ [])
    → IsOneTable (period ∷ []) → LacksNothing who (period ∷ [])
    → (before.own who).writable ≡ true → SeesAll pages who before (whole_of who period) after
whole_period pages who before after (Answered caller call reply) step lasts one lacks access =
    by_mark (nat_eq caller who) refl
  where
    by_mark : (b : Bool) → nat_eq caller who ≡ b → SeesAll pages who before
        (cond b ((call, reply) ∷ []) (others_said call reply)) after
    by_mark true same =
        let is = eqb-true caller who same in
        sees_own pages before after who call reply
        (subst (λ (n : ℕ). IsAnswered pages before n call reply after) is step) (lacks.0 is)
    by_mark false other =
        sees_open pages who before after (others_said call reply) access
        (step.others who (not_who who caller other))
        (λ mine. others_at pages before after mine caller call reply step)
whole_period pages who before after (CutByDevice caller call made) step lasts one lacks access =
    by_mark (nat_eq caller who) refl
  where
    by_mark : (b : Bool) → nat_eq caller who ≡ b → SeesAll pages who before
        (cond b ((call, Refused Device) ∷ cut_said call made) (cut_said call made)) after
    by_mark true same =
        let is = subst (λ (n : ℕ). IsCutByDevice pages before n call made after)
        (eqb-true caller who same) step in
        subst (λ (s : State). Sees pages (state_of before who)
        ((call, Refused Device) ∷ cut_said call made) s)
        (sym (is_open after who
        (access_stays pages who before after (CutByDevice caller call made) step lasts ∙ access)))
        (sees_broken pages before after who call made is access)
    by_mark false other =
        sees_open pages who before after (cut_said call made) access
        (step.others who (not_who who caller other))
        (λ mine. cut_at pages before after mine caller call made step.first step.begins
        (subst (λ (m : Member). IsLeft made step.first.state (case_of step.first call) m)
        (sym (file_cut_by_device pages before after caller call made step)) step.left))
whole_period pages who before after (CutByDeath caller call made) step lasts one lacks access =
    sees_open pages who before after (cut_said call made) access (step.others who lasts.0)
    (λ mine. cut_at pages before after mine caller call made step.first step.begins step.left)
whole_period pages who before after (Opened caller writable) step lasts one lacks access =
    sees_open pages who before after [] access (step.others who lasts.0)
    (λ mine. sees_none pages (open_at before.map before.bounds mine)
    (open_at after.map after.bounds mine) (still_at before after mine
    (same_map after.map before.map after.bounds before.bounds step.file)
    (same_bounds after.map before.map after.bounds before.bounds step.file)))
whole_period pages who before after (Replaced map bounds) step lasts one lacks access = absurd one

lacks_both : (who : ℕ) (period : Period) (periods : List Period)
    → LacksNothing who (period ∷ periods)
    → LacksNothing who (period ∷ []) × LacksNothing who periods
lacks_both who (Answered caller call reply) periods lacks = ((lacks.0, tt), lacks.1)
lacks_both who (CutByDevice caller call made) periods lacks = (tt, lacks)
lacks_both who (CutByDeath caller call made) periods lacks = (tt, lacks)
lacks_both who (Opened caller writable) periods lacks = (tt, lacks)
lacks_both who (Replaced map bounds) periods lacks = (tt, lacks)

whole_chain : (pages who : ℕ) (before after : Shared) (periods : List Period)
    → Chain pages before periods after → Lasts who periods → IsOneTable periods
    → LacksNothing who periods → (before.own who).writable ≡ true → SeesAll pages who before (whole who periods) after
whole_chain pages who before after [] chain lasts one lacks access =
    sees_none pages (state_of before who) (state_of after who)
    (ap (λ (s : Shared). state_of s who) chain)
whole_chain pages who before after (period ∷ periods) chain lasts one lacks access =
    let both = lasts_both who period periods lasts in
    let tables = one_both period periods one in
    let neither = lacks_both who period periods lacks in
    sees_both pages (state_of before who) (state_of chain.0 who) (state_of after who)
    (whole_of who period) (whole who periods)
    (whole_period pages who before chain.0 period chain.1 both.0 tables.0 neither.0 access)
    (whole_chain pages who chain.0 after periods chain.2 both.1 tables.1 neither.1
    (access_stays pages who before chain.0 period chain.1 both.0 ∙ access))

pub whole_views_are_runs : WholeViewsAreRuns
whole_views_are_runs pages who before after periods chain lasts one lacks access first at_state room =
    let sees = whole_chain pages who before after periods chain lasts one lacks access first at_state room
    in (sees.0, sees.1, sees.3)
