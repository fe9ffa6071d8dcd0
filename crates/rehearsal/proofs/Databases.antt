-- Where there was a database, sessions leave one.
use Rattle.std.proofs.Common.{◌≡◌, inl, inr, ⊎_elim, ℕ, Bool, true, false, cond, List, [], ◌∷◌, ◌++◌, map, refl, sym, subst, Contains}
use Rattle.std.specs.FinMap.{empty}
use Rattle.std.proofs.lemmas.List.Elements.{Contains-append_cases}
use Rattle.dbm_model.specs.States.{State}
use Rattle.dbm_model.specs.Steps.{Case, Tells, Refuses, Declines, Finds, Passes, Changes, case_of}
use Rattle.dbm_model.specs.Members.{Member, NoDatabase, Holding, Members, held, Opening, opened}
use Rattle.dbm_model.specs.Sessions.{Disk, Plan, Ending, NotOpened, StoppedOpening, Rested, StoppedCall, Broke, Grouped, StoppedGroup, BrokeGroup, left_by, SessionStep, Sessions}
use Rattle.dbm_model.proofs.Lists.{in_one, in_two, in_map}

-- a database is there, whatever was left
abbrev pub IsThere : Members → Type 0
IsThere members = Contains members NoDatabase → ⊥

stays_open : (how : Opening) (member : Member) → NoDatabase ≡ opened how member
    → NoDatabase ≡ member
stays_open how NoDatabase is = refl
stays_open how (Holding map bounds) is = by_test how.truncate is
  where
    by_test : (b : Bool)
        → NoDatabase ≡ cond b (Holding empty how.bounds) (Holding map bounds)
        → NoDatabase ≡ Holding map bounds
    by_test true is = absurd (let x = is in cc)
    by_test false is = is

unopened : (before after : Members) (how : Opening) → IsThere before
    → after ≡ before ++ map (opened how) before → IsThere after
unopened before after how there is none =
    ⊎_elim there
    (λ made. let from = in_map (opened how) before NoDatabase made in
    there (subst (Contains before) (sym (stays_open how from.0 from.2)) from.1))
    (Contains-append_cases before (map (opened how) before) NoDatabase
    (subst (λ (ms : Members). Contains ms NoDatabase) is none))

sole : (s : State) → IsThere (held s ∷ [])
sole s none = let is = in_one (held s) NoDatabase none in absurd (cc)

both : (s other : State) → IsThere (held s ∷ held other ∷ [])
both s other none = ⊎_elim (λ is. absurd (let x = is in cc)) (λ is. absurd (let x = is in cc))
    (in_two (held s) (held other) NoDatabase none)

cut : (s : State) (c : Case) → IsThere (left_by s c)
cut s (Tells said told) = sole s
cut s (Refuses fault) = sole s
cut s (Declines fault) = sole s
cut s (Finds found) = sole s
cut s (Passes from) = sole s
cut s (Changes said next) = both s next

is_there : (after members : Members) → after ≡ members → IsThere members → IsThere after
is_there after members is there = subst IsThere (sym is) there

pub stays_there : (disk : Disk) (before : Members) (plan : Plan) (ending : Ending)
    (after : Members) → IsThere before → SessionStep disk before plan ending after → IsThere after
stays_there disk before plan (NotOpened fault) after there (inl (device, more, is)) =
    unopened before after plan.how there is
stays_there disk before plan (NotOpened fault) after there (inr (other, room, is)) =
    is_there after before is there
stays_there disk before plan StoppedOpening after there is =
    unopened before after plan.how there is
stays_there disk before plan (Rested replies) after there (first, begins, rests) =
    is_there after (held rests.goes.last.state ∷ []) rests.left (sole rests.goes.last.state)
stays_there disk before plan (StoppedCall replies) after there (first, begins, c) =
    is_there after (left_by c.goes.last.state (case_of c.goes.last c.call)) c.left
    (cut c.goes.last.state (case_of c.goes.last c.call))
stays_there disk before plan (Broke replies) after there (first, begins, breaks) =
    let c = breaks.cut in
    is_there after (left_by c.goes.last.state (case_of c.goes.last c.call)) c.left
    (cut c.goes.last.state (case_of c.goes.last c.call))
stays_there disk before plan (Grouped replies count) after there (first, begins, g) =
    is_there after (held g.last.state ∷ []) g.left (sole g.last.state)
stays_there disk before plan (StoppedGroup replies count) after there (first, begins, c) =
    is_there after (held c.goes.last.state ∷ held c.stored.state ∷ []) c.left
    (both c.goes.last.state c.stored.state)
stays_there disk before plan (BrokeGroup replies count) after there (first, begins, c, more) =
    is_there after (held c.goes.last.state ∷ held c.stored.state ∷ []) c.left
    (both c.goes.last.state c.stored.state)

pub all_stay_there : (pages : ℕ) (before after : Members) (plans : List Plan)
    (endings : List Ending) → IsThere before → Sessions pages before plans endings after
    → IsThere after
all_stay_there pages before after [] [] there is = is_there after before is there
all_stay_there pages before after (plan ∷ plans) (ending ∷ endings) there
    (disk, of_pages, mid, step, rest) =
    all_stay_there pages mid after plans endings (stays_there disk before plan ending mid there step)
    rest
all_stay_there pages before after [] (ending ∷ endings) there is = absurd is
all_stay_there pages before after (plan ∷ plans) [] there is = absurd is
