-- What a call leaves that a stop or a fault of the device cut short.
use Rattle.std.proofs.Common.{◌≡◌, ◌⊎◌, inl, inr, ⊎_elim, ℕ, Bool, true, false, ◌&&◌, ◌||◌, not, cond, List, [], ◌∷◌, ◌++◌, refl, sym, ◌∙◌, ap, ap₂, subst, append_assoc, Contains}
use Rattle.dbm_model.specs.Bounds.{Bounds}
use Rattle.dbm_model.specs.Calls.{Call, Store, Fetch, Delete, First, Next, Error, Clear, Upgrade, Reply, Refused, Device}
use Rattle.dbm_model.specs.Changes.{map_asked, bounds_asked}
use Rattle.dbm_model.specs.Pairs.{Contents}
use Rattle.dbm_model.specs.States.{State, Handle}
use Rattle.dbm_model.specs.Steps.{Case, Tells, Refuses, Declines, Finds, Passes, Changes, case_of, Step, Run}
use Rattle.dbm_model.proofs.CaseLemmas.{IsChange, Suits, suits}
use Rattle.dbm_model.proofs.RuleLemmas.{ByCase}
use Rattle.dbm_model.specs.Members.{Member, Holding, held}
use Rattle.dbm_model.specs.Sessions.{Goes, left_by}
use Rattle.dbm_model.specs.SessionChanges.{Marked, of_answer, of_cut, of_calls, of_stopped, is_device, has_device, of_broken, LeftBy, OnlyLastInDoubt}
use Rattle.dbm_model.proofs.Lists.{in_one, in_two, is_first, is_later}
use Rattle.dbm_model.proofs.Leaving.{one_behind}
use Rattle.dbm_model.proofs.SessionCalls.{answer_all, calls_left}

-- ---- the call itself

not_made : (call : Call) (m : Member) → LeftBy (of_cut call) m m
not_made (Store key content mode) m = inr refl
not_made (Delete key) m = inr refl
not_made Upgrade m = inr refl
not_made call m = refl

-- it was made, or not
made_whole : (call : Call) (map : Contents) (bounds : Bounds)
    → LeftBy (of_cut call) (Holding map bounds)
    (Holding (map_asked map call) (bounds_asked bounds call))
made_whole (Store key content mode) map bounds = inl refl
made_whole (Delete key) map bounds = inl refl
made_whole Upgrade map bounds = inl refl
made_whole call map bounds = refl

same : (call : Call) (a b : Member) → b ≡ a → LeftBy (of_cut call) a b
same call a b is = subst (LeftBy (of_cut call) a) (sym is) (not_made call a)

stays : (s : State) (call : Call) (member : Member) → Contains (held s ∷ []) member
    → LeftBy (of_cut call) (held s) member
stays s call member is = same call (held s) member (in_one (held s) member is)

asked_held : (s : State) (call : Call) (said : Reply) (next : State) → IsChange s call said next
    → held next ≡ Holding (map_asked s.map call) (bounds_asked s.bounds call)
asked_held s call said next is = ap₂ Holding is.map_was_asked is.bounds_were_asked

by_rule : (s : State) (call : Call) (c : Case) → Suits s call c → (member : Member)
    → Contains (left_by s c) member → LeftBy (of_cut call) (held s) member
by_rule s call (Tells said told) fits member is = stays s call member is
by_rule s call (Refuses fault) fits member is = stays s call member is
by_rule s call (Declines fault) fits member is = stays s call member is
by_rule s call (Finds found) fits member is = stays s call member is
by_rule s call (Passes left) fits member is = stays s call member is
by_rule s call (Changes said next) fits member is =
    ⊎_elim (λ e. same call (held s) member e)
    (λ e. subst (LeftBy (of_cut call) (held s))
    (sym (e ∙ asked_held s call said next fits)) (made_whole call s.map s.bounds))
    (in_two (held s) (held next) member is)

pub cut_left : (h : Handle) (call : Call) (member : Member)
    → Contains (left_by h.state (case_of h call)) member → LeftBy (of_cut call) (held h.state) member
cut_left h call member is = by_rule h.state call (case_of h call) (suits h call) member is

-- a call that was cut short leaves what there was, or what it asks for
way : (call : Call) (map : Contents) (bounds : Bounds) (member : Member)
    → LeftBy (of_cut call) (Holding map bounds) member
    → (member ≡ Holding map bounds) ⊎ (member ≡ Holding (map_asked map call) (bounds_asked bounds call))
way (Store key content mode) map bounds member (inl done) = inr done
way (Store key content mode) map bounds member (inr not_done) = inl not_done
way (Delete key) map bounds member (inl done) = inr done
way (Delete key) map bounds member (inr not_done) = inl not_done
way (Fetch key) map bounds member left = inl left
way First map bounds member left = inl left
way Next map bounds member left = inl left
way Error map bounds member left = inl left
way Clear map bounds member left = inl left
way Upgrade map bounds member (inl done) = inr done
way Upgrade map bounds member (inr not_done) = inl not_done

-- a handle breaks only where the rule is a change
abbrev pub BreaksBy : State → Call → Case → Type 0
BreaksBy s call c = (said : Reply) × (next : State) × (c ≡ Changes said next)
    × (held next ≡ Holding (map_asked s.map call) (bounds_asked s.bounds call))

still : (s after : State) (call : Call) (c : Case) → after.usable ≡ s.usable → s.usable ≡ true
    → after.usable ≡ false → BreaksBy s call c
still s after call c is was now = absurd (let x = is in cc)

breaks_by : (before after : Handle) (call : Call) (c : Case) (reply : Reply)
    → Suits before.state call c → ByCase before call c reply after → before.state.usable ≡ true
    → after.state.usable ≡ false → BreaksBy before.state call c
breaks_by before after call (Tells said told) reply fits (inl is) was now =
    still before.state after.state call (Tells said told)
    (ap (λ (t : State). t.usable) is.1 ∙ fits.1) was now
breaks_by before after call (Tells said told) reply fits (inr is) was now = absurd is
breaks_by before after call (Refuses fault) reply fits (inl is) was now =
    still before.state after.state call (Refuses fault) (ap (λ (t : State). t.usable) is.1) was now
breaks_by before after call (Refuses fault) reply fits (inr is) was now = absurd is
breaks_by before after call (Declines fault) reply fits (inl is) was now =
    still before.state after.state call (Declines fault) (ap (λ (t : State). t.usable) is.1) was now
breaks_by before after call (Declines fault) reply fits (inr is) was now =
    still before.state after.state call (Declines fault) (ap (λ (t : State). t.usable) is.2) was now
breaks_by before after call (Finds found) reply fits (inl is) was now =
    still before.state after.state call (Finds found) (ap (λ (t : State). t.usable) is.1) was now
breaks_by before after call (Finds found) reply fits (inr (inl fails)) was now =
    still before.state after.state call (Finds found) (ap (λ (t : State). t.usable) fails.2) was now
breaks_by before after call (Finds found) reply fits (inr (inr memory)) was now =
    still before.state after.state call (Finds found) (ap (λ (t : State). t.usable) memory.1) was now
breaks_by before after call (Passes left) reply fits (inl (inl end)) was now =
    still before.state after.state call (Passes left) (ap (λ (t : State). t.usable) end.2) was now
breaks_by before after call (Passes left) reply fits (inl (inr given)) was now =
    still before.state after.state call (Passes left) (ap (λ (t : State). t.usable) given.3) was now
breaks_by before after call (Passes left) reply fits (inr is) was now =
    still before.state after.state call (Passes left) (ap (λ (t : State). t.usable) is.2) was now
breaks_by before after call (Changes said next) reply fits is was now =
    (said, next, refl, asked_held before.state call said next fits)

-- what a stop leaves of the call that broke the handle: the map before it, and the one it asks for
pub broken_leaves : (before after : Handle) (call : Call) (reply : Reply)
    → Step before call reply after → before.state.usable ≡ true → after.state.usable ≡ false
    → left_by before.state (case_of before call) ≡ held before.state
    ∷ Holding (map_asked before.state.map call) (bounds_asked before.state.bounds call) ∷ []
broken_leaves before after call reply step was now =
    let by = breaks_by before after call (case_of before call) reply (suits before call)
    step.answers was now in
    ap (left_by before.state) by.2 ∙ ap (λ (m : Member). held before.state ∷ m ∷ []) by.3

pub both_left : (s : State) (call : Call) (member : Member) → LeftBy (of_cut call) (held s) member
    → Contains (held s ∷ Holding (map_asked s.map call) (bounds_asked s.bounds call) ∷ []) member
both_left s call member left =
    let asked = Holding (map_asked s.map call) (bounds_asked s.bounds call) in
    ⊎_elim (λ e. is_first (held s) (asked ∷ []) member e)
    (λ e. is_later (held s) (asked ∷ []) member (is_first asked [] member e))
    (way call s.map s.bounds member left)

-- ---- in a list of calls

pub stopped_changes : (first last : Handle) (made : List Call) (replies : List Reply) (call : Call)
    (rest : List Call) → Run first made replies last
    → of_stopped (made ++ call ∷ rest) replies ≡ of_calls made replies ++ of_cut call
stopped_changes first last [] [] call rest run = refl
stopped_changes first last [] (reply ∷ replies) call rest run = absurd run
stopped_changes first last (one ∷ made) [] call rest run = absurd run
stopped_changes first last (one ∷ made) (reply ∷ replies) call rest run =
    ap (λ (changes : List Marked). of_answer one reply ++ changes)
    (stopped_changes run.0 last made replies call rest run.2)
    ∙ sym (append_assoc (of_answer one reply) (of_calls made replies) (of_cut call))

rested_changes : (first last : Handle) (made : List Call) (replies : List Reply)
    (later : List Call) → Run first made replies last
    → of_calls (made ++ later) replies ≡ of_calls made replies
rested_changes first last [] [] [] run = refl
rested_changes first last [] [] (call ∷ later) run = refl
rested_changes first last [] (reply ∷ replies) later run = absurd run
rested_changes first last (one ∷ made) [] later run = absurd run
rested_changes first last (one ∷ made) (reply ∷ replies) later run =
    ap (λ (changes : List Marked). of_answer one reply ++ changes)
    (rested_changes run.0 last made replies later run.2)

pub goes_left : (most : ℕ) (first : Handle) (calls : List Call) (replies : List Reply)
    (goes : Goes most first calls replies)
    → LeftBy (of_calls calls replies) (held first.state) (held goes.last.state)
goes_left most first calls replies goes =
    let changes = ap (λ (cs : List Call). of_calls cs replies) goes.calls_are
    ∙ rested_changes first goes.last goes.made replies goes.later goes.run in
    subst (λ (xs : List Marked). LeftBy xs (held first.state) (held goes.last.state)) (sym changes)
    (calls_left first goes.last goes.made replies goes.run goes.usable)

has_one : (answered refused : List Reply)
    → has_device (answered ++ Refused Device ∷ refused) ≡ true
has_one [] refused = refl
has_one (reply ∷ answered) refused = elim (is_device reply) as
    (λ b. (b || has_device (answered ++ Refused Device ∷ refused)) ≡ true) [
      | true ↦ refl
      | false ↦ has_one answered refused
    ]

never : (a b : Bool) → b ≡ true → (a && not b) ≡ false
never true b is = ap not is
never false b is = refl

pub broken_changes : (first last : Handle) (made : List Call) (answered refused : List Reply)
    (call : Call) (rest : List Call) → Run first made answered last → has_device refused ≡ false
    → of_broken (made ++ call ∷ rest) (answered ++ Refused Device ∷ refused)
    ≡ of_calls made answered ++ of_cut call
broken_changes first last [] [] refused call rest run others =
    ap (λ b. cond (not b) (of_cut call) (of_answer call (Refused Device) ++ of_broken rest refused))
    others
broken_changes first last [] (reply ∷ answered) refused call rest run others = absurd run
broken_changes first last (one ∷ made) [] refused call rest run others = absurd run
broken_changes first last (one ∷ made) (reply ∷ answered) refused call rest run others =
    let later = answered ++ Refused Device ∷ refused in
    ap (λ b. cond b (of_cut one) (of_answer one reply ++ of_broken (made ++ call ∷ rest) later))
    (never (is_device reply) (has_device later) (has_one answered refused))
    ∙ ap (λ (changes : List Marked). of_answer one reply ++ changes)
    (broken_changes run.0 last made answered refused call rest run.2 others)
    ∙ sym (append_assoc (of_answer one reply) (of_calls made answered) (of_cut call))

-- ---- one in doubt at most

cut_one : (call : Call) → OnlyLastInDoubt (of_cut call)
cut_one (Store key content mode) = refl
cut_one (Delete key) = refl
cut_one Upgrade = refl
cut_one call = tt

pub stopped_one : (calls : List Call) (replies : List Reply)
    → OnlyLastInDoubt (of_stopped calls replies)
stopped_one [] replies = tt
stopped_one (call ∷ calls) [] = cut_one call
stopped_one (call ∷ calls) (reply ∷ replies) =
    one_behind (of_answer call reply) (of_stopped calls replies) (answer_all call reply)
    (stopped_one calls replies)

pub broken_one : (calls : List Call) (replies : List Reply)
    → OnlyLastInDoubt (of_broken calls replies)
broken_one [] replies = tt
broken_one (call ∷ calls) [] = tt
broken_one (call ∷ calls) (reply ∷ replies) = elim (is_device reply && not (has_device replies)) as
    (λ b. OnlyLastInDoubt (cond b (of_cut call) (of_answer call reply ++ of_broken calls replies))) [
      | true ↦ cut_one call
      | false ↦ one_behind (of_answer call reply) (of_broken calls replies)
          (answer_all call reply) (broken_one calls replies)
    ]
