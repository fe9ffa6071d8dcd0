-- The writers' periods of a chain, as sessions, and what these leave.
use Rattle.std.proofs.Common.{◌≡◌, ℕ, Bool, true, false, cond, refl, sym, ◌∙◌, ap, subst, List, [], ◌∷◌, ◌++◌, None, Some, Contains}
use Rattle.std.proofs.lemmas.List.{append-nil}
use Rattle.dbm_model.specs.Bounds.{Bounds}
use Rattle.dbm_model.specs.Calls.{Call, Store, Fetch, Delete, First, Next, Error, Clear, Upgrade, Reply, Stored, Deleted, Upgraded, Refused, Device, is_changing, is_acknowledged}
use Rattle.dbm_model.specs.Members.{Member, Members, Holding, held}
use Rattle.dbm_model.specs.Pairs.{Contents}
use Rattle.dbm_model.specs.SessionChanges.{Marked, of_answer, of_cut, changes_of, LeftBy}
use Rattle.dbm_model.specs.Sessions.{Ending, Plan, Rested, StoppedCall, Broke, Sessions}
use Rattle.dbm_model.specs.Steps.{case_of}
use Rattle.dbm_model.proofs.Lists.{is_first, in_one}
use Rattle.dbm_model.proofs.Cuts.{cut_left}
use Rattle.dbm_model.proofs.Leaving.{left_append}
use Rattle.dbm_model.specs.States.{State}
use Rattle.dbm_model.proofs.Ways.{changes_stay}
use Rattle.dbm_sharing.specs.Changes.{IsChange}
use Rattle.dbm_sharing.specs.Handles.{Shared, file_of}
use Rattle.dbm_sharing.specs.Periods.{Answered, CutByDevice, CutByDeath, Opened, Replaced, IsAnswered, IsCutByDeath}
use Rattle.dbm_sharing.specs.Writers.{of_one_call, plans_of, endings_of, WritersAreSessions, marks_of, MarksAreOfSessions, SharedChangesStay, PowerCutsLeave}
use Rattle.dbm_sharing.proofs.PeriodLemmas.{is_made, unacknowledged, file_answered, none_made}
use Rattle.dbm_sharing.proofs.WriterLemmas.{OneSession, answered_session, death_session, device_session}

-- ---- a list of sessions

-- sessions from these members, and a member of what they leave
abbrev Leave : ℕ → Members → List Plan → List Ending → Member → Type 0
Leave pages members plans endings file =
    (left : Members) × Sessions pages members plans endings left × Contains left file

-- one session and those behind it
with_first : (pages : ℕ) (members : Members) (call : Call) (ending : Ending) (mid file : Member)
    (plans : List Plan) (endings : List Ending) → OneSession pages members call ending mid
    → ((between : Members) → Contains between mid → Leave pages between plans endings file)
    → Leave pages members (of_one_call call ∷ plans) (ending ∷ endings) file
with_first pages members call ending mid file plans endings one rest =
    let others = rest one.left one.among in
    (others.0, (one.disk, one.size, one.left, one.step, others.1), others.2)

-- ---- periods that leave the file

holds : (m n : Contents) (b c : Bounds) → m ≡ n → b ≡ c → Holding m b ≡ Holding n c
holds m n b c maps bounds = ap (λ x. Holding x b) maps ∙ ap (λ x. Holding n x) bounds

calm_file : (pages : ℕ) (before after : Shared) (who : ℕ) (call : Call) (reply : Reply)
    → IsAnswered pages before who call reply after → is_acknowledged reply ≡ false
    → file_of after ≡ file_of before
calm_file pages before after who call reply is calm =
    let left = file_answered pages before after who call reply is in
    let same = unacknowledged before.map before.bounds call reply calm in
    holds after.map before.map after.bounds before.bounds (left.0 ∙ same.0) (left.1 ∙ same.1)

no_change : (call : Call) → is_changing call ≡ false → IsChange call → ⊥
no_change (Store key content mode) none is = let x = none in cc
no_change (Delete key) none is = let x = none in cc
no_change Upgrade none is = let x = none in cc
no_change (Fetch key) none is = is
no_change First none is = is
no_change Next none is = is
no_change Error none is = is
no_change Clear none is = is

-- a death within a call that changes nothing
dead_file : (pages : ℕ) (before after : Shared) (who : ℕ) (call : Call) (made : Bool)
    → IsCutByDeath pages before who call made after → is_changing call ≡ false
    → file_of after ≡ file_of before
dead_file pages before after who call false is none =
    none_made pages before who is.first (case_of is.first call) (file_of after) is.begins is.left
dead_file pages before after who call true is none = absurd (no_change call none
    (is_made pages before who is.first call (file_of after) is.begins is.left).changing)

moved : (members : Members) (file other : Member) → other ≡ file → Contains members file
    → Contains members other
moved members file other same among = subst (Contains members) (sym same) among

pub writers_are_sessions : WritersAreSessions
writers_are_sessions pages members before after [] chain one among =
    (members, refl, subst (λ (s : Shared). Contains members (file_of s)) (sym chain) among)
writers_are_sessions pages members before after (Answered who call reply ∷ periods) chain one among =
    by_mark (is_acknowledged reply) refl (λ between there.
    writers_are_sessions pages between chain.0 after periods chain.2 one there)
  where
    by_mark : (b : Bool) → is_acknowledged reply ≡ b
        → ((between : Members) → Contains between (file_of chain.0)
        → Leave pages between (plans_of periods) (endings_of periods) (file_of after))
        → Leave pages members (cond b (of_one_call call ∷ []) [] ++ plans_of periods)
        (cond b (Rested (reply ∷ []) ∷ []) [] ++ endings_of periods) (file_of after)
    by_mark true done rest = with_first pages members call (Rested (reply ∷ [])) (file_of chain.0)
        (file_of after) (plans_of periods) (endings_of periods)
        (answered_session pages members before chain.0 who call reply chain.1 done among) rest
    by_mark false calm rest = rest members (moved members (file_of before) (file_of chain.0)
        (calm_file pages before chain.0 who call reply chain.1 calm) among)
writers_are_sessions pages members before after (CutByDevice who call made ∷ periods) chain one among =
    with_first pages members call (Broke (Refused Device ∷ [])) (file_of chain.0) (file_of after)
    (plans_of periods) (endings_of periods)
    (device_session pages members before chain.0 who call made chain.1 among)
    (λ between there. writers_are_sessions pages between chain.0 after periods chain.2 one there)
writers_are_sessions pages members before after (CutByDeath who call made ∷ periods) chain one among =
    by_mark (is_changing call) refl (λ between there.
    writers_are_sessions pages between chain.0 after periods chain.2 one there)
  where
    by_mark : (b : Bool) → is_changing call ≡ b
        → ((between : Members) → Contains between (file_of chain.0)
        → Leave pages between (plans_of periods) (endings_of periods) (file_of after))
        → Leave pages members (cond b (of_one_call call ∷ []) [] ++ plans_of periods)
        (cond b (StoppedCall [] ∷ []) [] ++ endings_of periods) (file_of after)
    by_mark true changing rest = with_first pages members call (StoppedCall []) (file_of chain.0)
        (file_of after) (plans_of periods) (endings_of periods)
        (death_session pages members before chain.0 who call made chain.1 among) rest
    by_mark false none rest = rest members (moved members (file_of before) (file_of chain.0)
        (dead_file pages before chain.0 who call made chain.1 none) among)
writers_are_sessions pages members before after (Opened who writable ∷ periods) chain one among =
    writers_are_sessions pages members chain.0 after periods chain.2 one
    (moved members (file_of before) (file_of chain.0) chain.1.file among)
writers_are_sessions pages members before after (Replaced map bounds ∷ periods) chain one among =
    absurd one

-- ---- their changes

calm_marks : (call : Call) (reply : Reply) → is_acknowledged reply ≡ false → of_answer call reply ≡ []
calm_marks (Store key content mode) Stored calm = absurd (let x = calm in cc)
calm_marks (Store key content mode) reply calm = refl
calm_marks (Delete key) Deleted calm = absurd (let x = calm in cc)
calm_marks (Delete key) reply calm = refl
calm_marks Upgrade Upgraded calm = absurd (let x = calm in cc)
calm_marks Upgrade reply calm = refl
calm_marks (Fetch key) reply calm = refl
calm_marks First reply calm = refl
calm_marks Next reply calm = refl
calm_marks Error reply calm = refl
calm_marks Clear reply calm = refl

no_marks : (call : Call) → is_changing call ≡ false → of_cut call ≡ []
no_marks (Store key content mode) none = absurd (let x = none in cc)
no_marks (Delete key) none = absurd (let x = none in cc)
no_marks Upgrade none = absurd (let x = none in cc)
no_marks call none = refl

pub marks_are_of_sessions : MarksAreOfSessions
marks_are_of_sessions [] = refl
marks_are_of_sessions (Answered who call reply ∷ periods) =
    by_mark (is_acknowledged reply) refl (marks_are_of_sessions periods)
  where
    by_mark : (b : Bool) → is_acknowledged reply ≡ b
        → changes_of (plans_of periods) (endings_of periods) ≡ marks_of periods
        → changes_of (cond b (of_one_call call ∷ []) [] ++ plans_of periods)
        (cond b (Rested (reply ∷ []) ∷ []) [] ++ endings_of periods)
        ≡ of_answer call reply ++ marks_of periods
    by_mark true done rest =
        ap (λ (ms : List Marked). ms ++ changes_of (plans_of periods) (endings_of periods))
        (append-nil (of_answer call reply))
        ∙ ap (λ (ms : List Marked). of_answer call reply ++ ms) rest
    by_mark false calm rest =
        rest ∙ sym (ap (λ (ms : List Marked). ms ++ marks_of periods) (calm_marks call reply calm))
marks_are_of_sessions (CutByDevice who call made ∷ periods) =
    ap (λ (ms : List Marked). of_cut call ++ ms) (marks_are_of_sessions periods)
marks_are_of_sessions (CutByDeath who call made ∷ periods) =
    by_mark (is_changing call) refl (marks_are_of_sessions periods)
  where
    by_mark : (b : Bool) → is_changing call ≡ b
        → changes_of (plans_of periods) (endings_of periods) ≡ marks_of periods
        → changes_of (cond b (of_one_call call ∷ []) [] ++ plans_of periods)
        (cond b (StoppedCall [] ∷ []) [] ++ endings_of periods)
        ≡ of_cut call ++ marks_of periods
    by_mark true changing rest = ap (λ (ms : List Marked). of_cut call ++ ms) rest
    by_mark false none rest =
        rest ∙ sym (ap (λ (ms : List Marked). ms ++ marks_of periods) (no_marks call none))
marks_are_of_sessions (Opened who writable ∷ periods) = marks_are_of_sessions periods
marks_are_of_sessions (Replaced map bounds ∷ periods) = marks_are_of_sessions periods

pub shared_changes_stay : SharedChangesStay
shared_changes_stay pages before after periods chain one =
    let start = file_of before in
    let sessions = writers_are_sessions pages (start ∷ []) before after periods chain one
    (is_first start [] start refl) in
    let left = changes_stay pages (start ∷ []) sessions.0 (plans_of periods) (endings_of periods)
    sessions.1 (file_of after) sessions.2 in
    subst (λ (ms : List Marked). LeftBy ms start (file_of after)) (marks_are_of_sessions periods)
    (subst (λ (m : Member). LeftBy (changes_of (plans_of periods) (endings_of periods)) m
    (file_of after)) (in_one start left.0 left.1) left.2)

pub power_cuts_leave : PowerCutsLeave
power_cuts_leave pages before after periods None left chain one is =
    subst (λ (ms : List Marked). LeftBy ms (file_of before) left) (sym (append-nil (marks_of periods)))
    (subst (LeftBy (marks_of periods) (file_of before)) (sym is)
    (shared_changes_stay pages before after periods chain one))
power_cuts_leave pages before after periods (Some under_way) left chain one is =
    left_append (marks_of periods) (of_cut under_way.1) (file_of before) (file_of after) left
    (shared_changes_stay pages before after periods chain one)
    (subst (λ (s : State). LeftBy (of_cut under_way.1) (held s) left) is.1.state
    (cut_left is.0 under_way.1 left is.2))
