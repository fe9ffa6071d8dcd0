-- What is left by a group of pairs that was committed, or whose commit was cut short.
use Rattle.std.proofs.Common.{◌≡◌, ⊎_elim, inl, inr, ℕ, List, [], ◌∷◌, ◌++◌, take, map, sym, ◌∙◌, ap₂, subst, Contains}
use Rattle.dbm_model.specs.Calls.{Call, Reply, Stored}
use Rattle.dbm_model.specs.Changes.{replacing, with_pairs}
use Rattle.dbm_model.specs.Pairs.{Pair}
use Rattle.dbm_model.specs.States.{Handle}
use Rattle.dbm_model.specs.Steps.{Run}
use Rattle.dbm_model.proofs.StoreLemmas.{stores_put_all}
use Rattle.dbm_model.specs.Members.{Member, Members, Holding, held}
use Rattle.dbm_model.specs.Sessions.{Plan, Groups, GroupCutShort}
use Rattle.dbm_model.specs.SessionChanges.{Change, PutsAll, Marked, Acknowledged, InDoubt, of_opening, of_calls, of_group, LeftBy, OnlyLastInDoubt}
use Rattle.dbm_model.proofs.Lists.{in_one, in_two, is_first, is_later}
use Rattle.dbm_model.proofs.Leaving.{left_append, left_rest, one_behind, opening_all}
use Rattle.dbm_model.proofs.SessionCalls.{calls_all}
use Rattle.dbm_model.proofs.Cuts.{goes_left}
use Rattle.dbm_model.proofs.SessionRooms.{bounds_stay}

-- ---- stores one after another

stored_left : (first last : Handle) (pairs : List Pair)
    → Run first (map replacing pairs) (map (λ _. Stored) pairs) last
    → held last.state ≡ Holding (with_pairs first.state.map pairs) first.state.bounds
stored_left first last pairs run =
    ap₂ Holding (stores_put_all first last pairs run) (bounds_stay first last pairs run)

-- ---- behind the calls

pub group_left : (most : ℕ) (first : Handle) (calls : List Call) (replies : List Reply)
    (stored : List Pair) (after : Members) → Groups most first calls replies stored after → (member : Member)
    → Contains after member
    → LeftBy (of_calls calls replies ++ Acknowledged (PutsAll stored) ∷ []) (held first.state)
    member
group_left most first calls replies stored after g member is =
    left_append (of_calls calls replies) (Acknowledged (PutsAll stored) ∷ []) (held first.state)
    (held g.goes.last.state) member (goes_left most first calls replies g.goes)
    (in_one (held g.last.state) member (subst (λ (ms : Members). Contains ms member) g.left is)
    ∙ stored_left (record g.goes.last { faults = g.last.faults }) g.last stored g.run)

-- cut short
module _ (most : ℕ) (first : Handle) (calls : List Call) (replies : List Reply) (asked : List Pair)
    (after : Members) (cut : GroupCutShort most first calls replies asked after) where
  abbrev without : Member
  without = held cut.goes.last.state

  abbrev whole : Member
  whole = held cut.stored.state

  -- the member with all of the pairs
  whole_is : whole
      ≡ Holding (with_pairs cut.goes.last.state.map asked) cut.goes.last.state.bounds
  whole_is = stored_left (record cut.goes.last { faults = cut.stored.faults }) cut.stored asked cut.run

  pub group_cut_left : (member : Member) → Contains after member
      → LeftBy (of_calls calls replies ++ InDoubt (PutsAll asked) ∷ []) (held first.state) member
  group_cut_left member is =
      left_append (of_calls calls replies) (InDoubt (PutsAll asked) ∷ []) (held first.state)
      without member (goes_left most first calls replies cut.goes)
      (⊎_elim (λ e. inr e) (λ e. inl (e ∙ whole_is))
      (in_two without whole member (subst (λ (ms : Members). Contains ms member) cut.left is)))

  pub group_cut_has : (member : Member)
      → LeftBy (of_calls calls replies ++ InDoubt (PutsAll asked) ∷ []) (held first.state) member
      → Contains after member
  group_cut_has member left =
      subst (λ (ms : Members). Contains ms member) (sym cut.left)
      (⊎_elim (λ e. is_later without (whole ∷ []) member (is_first whole [] member
      (e ∙ sym whole_is)))
      (λ e. is_first without (whole ∷ []) member e)
      (left_rest (of_calls calls replies) (InDoubt (PutsAll asked) ∷ []) (held first.state) without
      member (calls_all calls replies) (goes_left most first calls replies cut.goes) left))

-- one in doubt at most
pub group_one : (mark : Change → Marked) (plan : Plan) (replies : List Reply) (count : ℕ)
    → OnlyLastInDoubt (mark (PutsAll (take count plan.group)) ∷ [])
    → OnlyLastInDoubt (of_group mark plan replies count)
group_one mark plan replies count one =
    let last = mark (PutsAll (take count plan.group)) ∷ [] in
    one_behind (of_opening Acknowledged plan.how) (of_calls plan.calls replies ++ last)
    (opening_all plan.how)
    (one_behind (of_calls plan.calls replies) last (calls_all plan.calls replies) one)
