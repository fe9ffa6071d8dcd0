-- What one handle sees of a chain.
use Rattle.std.proofs.Common.{◌≡◌, ◌≢◌, ◌⊎◌, inl, inr, ⊎_elim, ℕ, Bool, true, false, cond, refl, sym, ◌∙◌, ap, subst, None, List, [], ◌∷◌, ◌++◌, map}
use Rattle.std.specs.Prelude.{nat_eq, ◌||◌}
use Rattle.std.proofs.lemmas.Bool.{eqb-true, eqb-false}
use Rattle.dbm_model.specs.Calls.{Call, Store, Fetch, Delete, First, Next, Error, Clear, Upgrade, Reply, Refused, Device, is_acknowledged}
use Rattle.dbm_model.specs.Members.{Member, held}
use Rattle.dbm_model.specs.Bounds.{Bounds}
use Rattle.dbm_model.specs.Changes.{map_after, bounds_after}
use Rattle.dbm_model.specs.Pairs.{Contents}
use Rattle.dbm_model.specs.Passes.{is_refused}
use Rattle.dbm_model.specs.States.{State, Pass, Handle}
use Rattle.dbm_model.specs.Steps.{Case, Answers, Run, case_for, case_of, usable_case}
use Rattle.dbm_model.proofs.PassSteps.{IsOfPass, spared, refusal_keeps_pass}
use Rattle.dbm_sharing.specs.Changes.{IsChange}
use Rattle.dbm_sharing.specs.Handles.{Own, Shared, state_of, file_of, IsHandleAt}
use Rattle.dbm_sharing.specs.Periods.{Period, Answered, CutByDevice, CutByDeath, Opened, Replaced, IsLeft, IsAnswered, IsCutByDevice, PeriodStep, Chain, IsOneTable}
use Rattle.dbm_sharing.specs.Views.{Said, is_about_error, acknowledged_by, own_said, others_said, cut_said, seen_of, seen, Lasts, viewed, ViewsAreRuns}
use Rattle.dbm_sharing.proofs.PeriodLemmas.{same_map, same_bounds, answers_in, is_made, unacknowledged, file_answered, file_cut_by_device, none_made}
use Rattle.dbm_sharing.proofs.Rules.{told, at, IsReading, change_moves, reading_clears, is_change, run_step}

-- ---- what a handle sees of one period

-- a handle of the model, before and behind some calls
abbrev pub Sees : ℕ → State → List Said → State → Type 0
Sees pages s said after = (first : Handle) → first.state ≡ s → first.capacity ≡ pages →
    (last : Handle) × (last.state ≡ after) × (last.capacity ≡ pages)
    × Run first (map (λ e. e.0) said) (map (λ e. e.1) said) last

pub sees_none : (pages : ℕ) (s after : State) → after ≡ s → Sees pages s [] after
sees_none pages s after same first at_state room = (first, at_state ∙ sym same, room, refl)

pub sees_one : (pages : ℕ) (s after : State) (call : Call) (reply : Reply)
    → Answers s (case_for pages s call) reply after → Sees pages s ((call, reply) ∷ []) after
sees_one pages s after call reply is first at_state room =
    let one = run_step pages first s after call reply at_state room is in
    (one.0, one.1, one.2, (one.0, one.4, refl))

pub sees_both : (pages : ℕ) (s mid after : State) (xs ys : List Said) → Sees pages s xs mid
    → Sees pages mid ys after → Sees pages s (xs ++ ys) after
sees_both pages s mid after xs ys sees then_sees first at_state room =
    let one = sees first at_state room in
    let two = then_sees one.0 one.1 one.2 in
    (two.0, two.1, two.2, joined first one.0 two.0 xs ys one.3 two.3)
  where
    joined : (first mid last : Handle) (xs ys : List Said)
        → Run first (map (λ e. e.0) xs) (map (λ e. e.1) xs) mid
        → Run mid (map (λ e. e.0) ys) (map (λ e. e.1) ys) last
        → Run first (map (λ e. e.0) (xs ++ ys)) (map (λ e. e.1) (xs ++ ys)) last
    joined first mid last [] ys run then_run =
        subst (λ (h : Handle). Run h (map (λ e. e.0) ys) (map (λ e. e.1) ys) last) run then_run
    joined first mid last (x ∷ xs) ys run then_run =
        (run.0, run.1, joined run.0 mid last xs ys run.2 then_run)

-- ---- its own calls

kind : (call : Call) → IsChange call ⊎ (IsReading call ⊎ (is_about_error call ≡ true))
kind (Store key content mode) = inl tt
kind (Delete key) = inl tt
kind Upgrade = inl tt
kind (Fetch key) = inr (inl tt)
kind First = inr (inl tt)
kind Next = inr (inl tt)
kind Error = inr (inr refl)
kind Clear = inr (inr refl)

no_pass : (call : Call) → IsChange call → IsOfPass call → ⊥
no_pass (Store key content mode) is pass = pass
no_pass (Delete key) is pass = pass
no_pass Upgrade is pass = pass
no_pass (Fetch key) is pass = is
no_pass First is pass = is
no_pass Next is pass = is
no_pass Error is pass = is
no_pass Clear is pass = is

-- the view with another map
with_file : (s after : Shared) (who : ℕ) → (after.own who).pass ≡ (s.own who).pass
    → record (viewed s who) { map = after.map; bounds = after.bounds } ≡ viewed after who
with_file s after who same =
    ap (λ (p : Pass). at after.map after.bounds None p true) (sym same)

pub own_answer : (pages : ℕ) (before after : Shared) (who : ℕ) (call : Call) (reply : Reply)
    → IsAnswered pages before who call reply after → is_refused reply ≡ false
    → is_about_error call ≡ false
    → Answers (viewed before who) (usable_case pages (viewed before who) call) reply
    (viewed after who)
own_answer pages before after who call reply is well other =
    let answers = answers_in pages before after who call reply is well in
    let mine = before.own who in
    ⊎_elim
    (λ changing.
    let same : (after.own who).pass ≡ mine.pass =
    ap (λ (s : State). s.pass) (sym is.ends)
    ∙ spared is.first is.last call reply is.step (no_pass call changing)
    ∙ ap (λ (s : State). s.pass) is.begins.state in
    subst (λ (v : State). Answers (viewed before who) (usable_case pages (viewed before who) call) reply v)
    (with_file before after who same)
    (change_moves pages before.map before.bounds mine.error None mine.pass mine.pass mine.writable
    call reply (state_of after who) changing well answers))
    (⊎_elim
    (λ reading. reading_clears pages (state_of before who) (state_of after who) call reply reading
    well answers)
    (λ about. absurd (let x = sym other ∙ about in cc)))
    (kind call)

-- ---- calls that it doesn't see

-- the same map, bounds and pass
same_view : (before after : Shared) (who : ℕ) → after.map ≡ before.map
    → after.bounds ≡ before.bounds → (after.own who).pass ≡ (before.own who).pass
    → viewed after who ≡ viewed before who
same_view before after who map bounds pass =
    ap (λ (m : Contents). at m after.bounds None (after.own who).pass true) map
    ∙ ap (λ (b : Bounds). at before.map b None (after.own who).pass true) bounds
    ∙ ap (λ (p : Pass). at before.map before.bounds None p true) pass

same_file : (before after : Shared) (who : ℕ) → file_of after ≡ file_of before
    → (after.own who).pass ≡ (before.own who).pass → viewed after who ≡ viewed before who
same_file before after who file pass = same_view before after who
    (same_map after.map before.map after.bounds before.bounds file)
    (same_bounds after.map before.map after.bounds before.bounds file) pass

refused_keeps : (pages : ℕ) (before after : Shared) (who : ℕ) (call : Call) (reply : Reply)
    → IsAnswered pages before who call reply after → is_refused reply ≡ true
    → (is_acknowledged reply ≡ false) × ((after.own who).pass ≡ (before.own who).pass)
refused_keeps pages before after who call (Refused fault) is refused = (
  refl,
  ap (λ (s : State). s.pass) (sym is.ends)
      ∙ refusal_keeps_pass is.first is.last call fault is.step
      ∙ ap (λ (s : State). s.pass) is.begins.state,
)
refused_keeps pages before after who call reply is refused = absurd (let x = refused in cc)

about_keeps : (call : Call) → is_about_error call ≡ true → (IsOfPass call → ⊥)
    × ((map : Contents) (bounds : Bounds) (reply : Reply)
    → (map_after map call reply ≡ map) × (bounds_after bounds call reply ≡ bounds))
about_keeps Error about = (λ pass. pass, λ map bounds reply. (refl, refl))
about_keeps Clear about = (λ pass. pass, λ map bounds reply. (refl, refl))
about_keeps call about = absurd (let x = about in cc)

-- ---- each kind of period

sees_own : (pages : ℕ) (before after : Shared) (who : ℕ) (call : Call) (reply : Reply)
    → IsAnswered pages before who call reply after
    → Sees pages (viewed before who) (own_said call reply) (viewed after who)
sees_own pages before after who call reply is =
    by_marks (is_refused reply) refl (is_about_error call) refl
  where
    left : (after.map ≡ map_after before.map call reply)
        × (after.bounds ≡ bounds_after before.bounds call reply)
    left = file_answered pages before after who call reply is

    by_marks : (b : Bool) → is_refused reply ≡ b → (c : Bool) → is_about_error call ≡ c
        → Sees pages (viewed before who) (own_said call reply) (viewed after who)
    by_marks true refused c about =
        let keeps = refused_keeps pages before after who call reply is refused in
        let same = unacknowledged before.map before.bounds call reply keeps.0 in
        subst (λ (b : Bool). Sees pages (viewed before who)
        (cond (b || is_about_error call) [] ((call, reply) ∷ [])) (viewed after who)) (sym refused)
        (sees_none pages (viewed before who) (viewed after who)
        (same_view before after who (left.0 ∙ same.0) (left.1 ∙ same.1) keeps.1))
    by_marks false well true about =
        let keeps = about_keeps call about in
        let same = keeps.1 before.map before.bounds reply in
        let pass : (after.own who).pass ≡ (before.own who).pass =
        ap (λ (s : State). s.pass) (sym is.ends)
        ∙ spared is.first is.last call reply is.step keeps.0
        ∙ ap (λ (s : State). s.pass) is.begins.state in
        subst (λ (b : Bool). Sees pages (viewed before who)
        (cond (b || is_about_error call) [] ((call, reply) ∷ [])) (viewed after who)) (sym well)
        (subst (λ (c : Bool). Sees pages (viewed before who)
        (cond (false || c) [] ((call, reply) ∷ [])) (viewed after who)) (sym about)
        (sees_none pages (viewed before who) (viewed after who)
        (same_view before after who (left.0 ∙ same.0) (left.1 ∙ same.1) pass)))
    by_marks false well false other =
        subst (λ (b : Bool). Sees pages (viewed before who)
        (cond (b || is_about_error call) [] ((call, reply) ∷ [])) (viewed after who)) (sym well)
        (subst (λ (c : Bool). Sees pages (viewed before who)
        (cond (false || c) [] ((call, reply) ∷ [])) (viewed after who)) (sym other)
        (sees_one pages (viewed before who) (viewed after who) call reply
        (own_answer pages before after who call reply is well other)))

-- a change of whoever, by the rule at its state
sees_change : (pages : ℕ) (before after : Shared) (who caller : ℕ) (call : Call) (reply : Reply)
    (next : State) → IsChange call → is_refused reply ≡ false
    → Answers (state_of before caller) (usable_case pages (state_of before caller) call) reply next
    → file_of after ≡ held next → (after.own who).pass ≡ (before.own who).pass
    → Sees pages (viewed before who) ((call, reply) ∷ []) (viewed after who)
sees_change pages before after who caller call reply next changing well answers file pass =
    let one = before.own caller in
    let view = viewed before who in
    let changed = change_moves pages before.map before.bounds one.error None one.pass
    (before.own who).pass one.writable call reply next changing well answers in
    sees_one pages view (viewed after who) call reply
    (subst (λ (v : State). Answers view (usable_case pages view call) reply v)
    (ap (λ (m : Contents). record view { map = m; bounds = next.bounds })
    (same_map next.map after.map next.bounds after.bounds (sym file))
    ∙ ap (λ (b : Bounds). record view { map = after.map; bounds = b })
    (same_bounds next.map after.map next.bounds after.bounds (sym file))
    ∙ with_file before after who pass)
    changed)

sees_others : (pages : ℕ) (before after : Shared) (who caller : ℕ) (call : Call) (reply : Reply)
    → IsAnswered pages before caller call reply after → after.own who ≡ before.own who
    → Sees pages (viewed before who) (others_said call reply) (viewed after who)
sees_others pages before after who caller call reply is own = by_mark (is_acknowledged reply) refl
  where
    by_mark : (b : Bool) → is_acknowledged reply ≡ b
        → Sees pages (viewed before who) (others_said call reply) (viewed after who)
    by_mark true done =
        let answers = answers_in pages before after caller call reply is (told reply done) in
        subst (λ (b : Bool). Sees pages (viewed before who) (cond b ((call, reply) ∷ []) [])
        (viewed after who)) (sym done)
        (sees_change pages before after who caller call reply (state_of after caller)
        (is_change pages (state_of before caller) (state_of after caller) call reply done answers)
        (told reply done) answers refl (ap (λ (o : Own). o.pass) own))
    by_mark false calm =
        let left = file_answered pages before after caller call reply is in
        let same = unacknowledged before.map before.bounds call reply calm in
        subst (λ (b : Bool). Sees pages (viewed before who) (cond b ((call, reply) ∷ []) [])
        (viewed after who)) (sym calm)
        (sees_none pages (viewed before who) (viewed after who)
        (same_view before after who (left.0 ∙ same.0) (left.1 ∙ same.1)
        (ap (λ (o : Own). o.pass) own)))

pub acknowledges : (call : Call) → is_refused (acknowledged_by call) ≡ false
acknowledges (Store key content mode) = refl
acknowledges (Delete key) = refl
acknowledges call = refl

sees_cut : (pages : ℕ) (before after : Shared) (who caller : ℕ) (call : Call) (made : Bool)
    (first : Handle) → IsHandleAt pages (state_of before caller) first
    → IsLeft made first.state (case_of first call) (file_of after)
    → (after.own who).pass ≡ (before.own who).pass
    → Sees pages (viewed before who) (cut_said call made) (viewed after who)
sees_cut pages before after who caller call false first begins left pass =
    sees_none pages (viewed before who) (viewed after who)
    (same_file before after who
    (none_made pages before caller first (case_of first call) (file_of after) begins left) pass)
sees_cut pages before after who caller call true first begins left pass =
    let made = is_made pages before caller first call (file_of after) begins left in
    sees_change pages before after who caller call (acknowledged_by call) made.next made.changing
    (acknowledges call)
    (subst (λ (c : Case). Answers (state_of before caller) c (acknowledged_by call) made.next)
    (sym made.rule) (refl, refl))
    made.left_is pass

-- ---- a chain

pub not_who : (who caller : ℕ) → nat_eq caller who ≡ false → who ≢ caller
not_who who caller is same = eqb-false caller who is (sym same)

pub pass_of_broken : (pages : ℕ) (before after : Shared) (who : ℕ) (call : Call) (made : Bool)
    → IsCutByDevice pages before who call made after
    → (after.own who).pass ≡ (before.own who).pass
pass_of_broken pages before after who call made is =
    ap (λ (s : State). s.pass) is.ends
    ∙ refusal_keeps_pass is.first is.broken call Device is.step
    ∙ ap (λ (s : State). s.pass) is.begins.state

sees_period : (pages who : ℕ) (before after : Shared) (period : Period)
    → PeriodStep pages before period after → Lasts who (period ∷ [])
    → IsOneTable (period ∷ [])
    → Sees pages (viewed before who) (seen_of who period) (viewed after who)
sees_period pages who before after (Answered caller call reply) step lasts one =
    by_mark (nat_eq caller who) refl
  where
    by_mark : (b : Bool) → nat_eq caller who ≡ b → Sees pages (viewed before who)
        (seen_of who (Answered caller call reply)) (viewed after who)
    by_mark true is =
        let same = eqb-true caller who is in
        subst (λ (b : Bool). Sees pages (viewed before who)
        (cond b (own_said call reply) (others_said call reply)) (viewed after who)) (sym is)
        (sees_own pages before after who call reply
        (subst (λ (n : ℕ). IsAnswered pages before n call reply after) same step))
    by_mark false is =
        subst (λ (b : Bool). Sees pages (viewed before who)
        (cond b (own_said call reply) (others_said call reply)) (viewed after who)) (sym is)
        (sees_others pages before after who caller call reply step
        (step.others who (not_who who caller is)))
sees_period pages who before after (CutByDevice caller call made) step lasts one =
    sees_cut pages before after who caller call made step.first step.begins
    (subst (λ (m : Member). IsLeft made step.first.state (case_of step.first call) m)
    (sym (file_cut_by_device pages before after caller call made step)) step.left)
    (by_mark (nat_eq caller who) refl)
  where
    by_mark : (b : Bool) → nat_eq caller who ≡ b → (after.own who).pass ≡ (before.own who).pass
    by_mark true is = pass_of_broken pages before after who call made
        (subst (λ (n : ℕ). IsCutByDevice pages before n call made after)
        (eqb-true caller who is) step)
    by_mark false is = ap (λ (o : Own). o.pass) (step.others who (not_who who caller is))
sees_period pages who before after (CutByDeath caller call made) step lasts one =
    sees_cut pages before after who caller call made step.first step.begins step.left
    (ap (λ (o : Own). o.pass) (step.others who lasts.0))
sees_period pages who before after (Opened caller writable) step lasts one =
    sees_none pages (viewed before who) (viewed after who)
    (same_file before after who step.file
    (ap (λ (o : Own). o.pass) (step.others who lasts.0)))
sees_period pages who before after (Replaced map bounds) step lasts one = absurd one

pub lasts_both : (who : ℕ) (period : Period) (periods : List Period) → Lasts who (period ∷ periods)
    → Lasts who (period ∷ []) × Lasts who periods
lasts_both who (Answered caller call reply) periods lasts = (tt, lasts)
lasts_both who (CutByDevice caller call made) periods lasts = (tt, lasts)
lasts_both who (CutByDeath caller call made) periods lasts = ((lasts.0, tt), lasts.1)
lasts_both who (Opened caller writable) periods lasts = ((lasts.0, tt), lasts.1)
lasts_both who (Replaced map bounds) periods lasts = (tt, lasts)

pub one_both : (period : Period) (periods : List Period) → IsOneTable (period ∷ periods)
    → IsOneTable (period ∷ []) × IsOneTable periods
one_both (Answered caller call reply) periods one = (tt, one)
one_both (CutByDevice caller call made) periods one = (tt, one)
one_both (CutByDeath caller call made) periods one = (tt, one)
one_both (Opened caller writable) periods one = (tt, one)
one_both (Replaced map bounds) periods one = absurd one

pub sees_chain : (pages who : ℕ) (before after : Shared) (periods : List Period)
    → Chain pages before periods after → Lasts who periods → IsOneTable periods
    → Sees pages (viewed before who) (seen who periods) (viewed after who)
sees_chain pages who before after [] chain lasts one =
    sees_none pages (viewed before who) (viewed after who)
    (ap (λ (s : Shared). viewed s who) chain)
sees_chain pages who before after (period ∷ periods) chain lasts one =
    let both = lasts_both who period periods lasts in
    let tables = one_both period periods one in
    sees_both pages (viewed before who) (viewed chain.0 who) (viewed after who)
    (seen_of who period) (seen who periods)
    (sees_period pages who before chain.0 period chain.1 both.0 tables.0)
    (sees_chain pages who chain.0 after periods chain.2 both.1 tables.1)

pub views_are_runs : ViewsAreRuns
views_are_runs pages who before after periods chain lasts one first at_state room =
    let sees = sees_chain pages who before after periods chain lasts one first at_state room in
    (sees.0, sees.1, sees.3)
