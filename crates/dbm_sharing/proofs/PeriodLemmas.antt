-- What one period says of the map and of its call.
use Rattle.std.proofs.Common.{◌≡◌, ℕ, Bool, true, false, refl, sym, ◌∙◌, ap, subst, map}
use Rattle.dbm_model.specs.Calls.{Call, Store, Fetch, Delete, First, Next, Error, Clear, Upgrade, Reply, Stored, Deleted, Upgraded, is_acknowledged}
use Rattle.dbm_model.specs.Members.{Member, NoDatabase, Holding, held}
use Rattle.dbm_model.specs.Bounds.{Bounds}
use Rattle.dbm_model.specs.Pairs.{Contents}
use Rattle.dbm_model.specs.Passes.{is_refused}
use Rattle.dbm_model.specs.States.{State, Handle}
use Rattle.dbm_model.specs.Steps.{Case, Changes, Answers, case_for, case_of, usable_case}
use Rattle.dbm_model.proofs.CaseLemmas.{map_of_usable, bounds_of_usable}
use Rattle.dbm_model.specs.Changes.{map_after, bounds_after}
use Rattle.dbm_sharing.specs.Changes.{IsChange}
use Rattle.dbm_sharing.specs.Handles.{Shared, state_of, file_of, IsHandleAt}
use Rattle.dbm_sharing.specs.Periods.{IsLeft, IsAnswered, IsCutByDevice}
use Rattle.dbm_sharing.specs.Views.{acknowledged_by}
use Rattle.dbm_sharing.proofs.Cuts.{made_by, said_is}
use Rattle.dbm_sharing.proofs.Rules.{by_rule}

-- ---- members

abbrev map_in : Member → Contents → Contents
map_in NoDatabase other = other
map_in (Holding map bounds) other = map

abbrev bounds_in : Member → Bounds → Bounds
bounds_in NoDatabase other = other
bounds_in (Holding map bounds) other = bounds

pub same_map : (m n : Contents) (b c : Bounds) → Holding m b ≡ Holding n c → m ≡ n
same_map m n b c is = ap (λ x. map_in x m) is

pub same_bounds : (m n : Contents) (b c : Bounds) → Holding m b ≡ Holding n c → b ≡ c
same_bounds m n b c is = ap (λ x. bounds_in x b) is

-- ---- the room of a handle

pub room_of : (pages : ℕ) (s : State) (h : Handle) → IsHandleAt pages s h → h.capacity ≡ pages
room_of pages s h is = is.is_on.capacity ∙ is.size

-- the rule by which a call was answered in a period
pub answers_in : (pages : ℕ) (before after : Shared) (who : ℕ) (call : Call) (reply : Reply)
    → IsAnswered pages before who call reply after → is_refused reply ≡ false
    → Answers (state_of before who) (usable_case pages (state_of before who) call) reply
    (state_of after who)
answers_in pages before after who call reply is well =
    by_rule pages is.first is.last (state_of before who) (state_of after who) call reply
    is.begins.state (room_of pages (state_of before who) is.first is.begins) is.ends well is.step

-- the rule of a call that was cut short, and all of which was made
pub record IsMade (pages : ℕ) (s : State) (call : Call) (left : Member) : Type 0 where
  pub next : State
  pub rule : usable_case pages s call ≡ Changes (acknowledged_by call) next
  pub left_is : left ≡ held next
  pub changing : IsChange call

pub is_made : (pages : ℕ) (before : Shared) (who : ℕ) (first : Handle) (call : Call) (left : Member)
    → IsHandleAt pages (state_of before who) first
    → IsLeft true first.state (case_of first call) left
    → IsMade pages (state_of before who) call left
is_made pages before who first call left begins is =
    let s = state_of before who in
    let by = made_by first.state (case_of first call) left is in
    let rule : case_for pages s call ≡ Changes by.0 by.1 =
    subst (λ (n : ℕ). case_for n s call ≡ Changes by.0 by.1)
    (room_of pages s first begins)
    (subst (λ (t : State). case_for first.capacity t call ≡ Changes by.0 by.1) begins.state by.2) in
    let says = said_is pages s call by.0 by.1 rule in record {
      next = by.1;
      rule = rule ∙ ap (λ (r : Reply). Changes r by.1) says.0;
      left_is = by.3;
      changing = says.1;
    }

-- ---- what a period leaves of the file

-- what isn't acknowledged leaves the map and the bounds
pub unacknowledged : (map : Contents) (bounds : Bounds) (call : Call) (reply : Reply)
    → is_acknowledged reply ≡ false
    → (map_after map call reply ≡ map) × (bounds_after bounds call reply ≡ bounds)
unacknowledged map bounds (Store key content mode) Stored calm = absurd (let x = calm in cc)
unacknowledged map bounds (Store key content mode) reply calm = (refl, refl)
unacknowledged map bounds (Delete key) Deleted calm = absurd (let x = calm in cc)
unacknowledged map bounds (Delete key) reply calm = (refl, refl)
unacknowledged map bounds Upgrade Upgraded calm = absurd (let x = calm in cc)
unacknowledged map bounds Upgrade reply calm = (refl, refl)
unacknowledged map bounds (Fetch key) reply calm = (refl, refl)
unacknowledged map bounds First reply calm = (refl, refl)
unacknowledged map bounds Next reply calm = (refl, refl)
unacknowledged map bounds Error reply calm = (refl, refl)
unacknowledged map bounds Clear reply calm = (refl, refl)

pub file_answered : (pages : ℕ) (before after : Shared) (who : ℕ) (call : Call) (reply : Reply)
    → IsAnswered pages before who call reply after
    → (after.map ≡ map_after before.map call reply)
    × (after.bounds ≡ bounds_after before.bounds call reply)
file_answered pages before after who call reply is =
    let usable = ap (λ (s : State). s.usable) is.ends in (
      ap (λ (s : State). s.map) (sym is.ends)
          ∙ map_of_usable is.first is.last call reply is.step usable
          ∙ ap (λ (s : State). map_after s.map call reply) is.begins.state,
      ap (λ (s : State). s.bounds) (sym is.ends)
          ∙ bounds_of_usable is.first is.last call reply is.step usable
          ∙ ap (λ (s : State). bounds_after s.bounds call reply) is.begins.state,
    )

pub file_cut_by_device : (pages : ℕ) (before after : Shared) (who : ℕ) (call : Call) (made : Bool)
    → (is : IsCutByDevice pages before who call made after) → file_of after ≡ held is.broken.state
file_cut_by_device pages before after who call made is = ap held is.ends

-- of a call that was cut short nothing was made
pub none_made : (pages : ℕ) (before : Shared) (who : ℕ) (first : Handle) (c : Case) (left : Member)
    → IsHandleAt pages (state_of before who) first → IsLeft false first.state c left
    → left ≡ file_of before
none_made pages before who first c left begins is = is ∙ ap held begins.state
