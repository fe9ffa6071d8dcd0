-- A pass of one handle as one of the run that it sees.
use Rattle.std.proofs.Common.{◌≡◌, ◌≢◌, ℕ, Bool, true, false, cond, refl, sym, ◌∙◌, ap, subst, List, [], ◌∷◌, ◌++◌, map}
use Rattle.std.specs.Prelude.{nat_eq, ◌||◌, is_some, IsSome}
use Rattle.std.specs.FinMap.{get}
use Rattle.std.proofs.lemmas.Bool.{eq-eqb, eqb-true}
use Rattle.std.proofs.lemmas.List.{append_assoc, append-nil}
use Rattle.dbm_model.specs.Calls.{Call, Store, Fetch, Delete, First, Next, Error, Clear, Upgrade, Reply, Bytes, End, is_acknowledged}
use Rattle.dbm_model.specs.Members.{Member, held}
use Rattle.dbm_model.specs.Pairs.{Key}
use Rattle.dbm_model.specs.Passes.{given_by, given, times_in, is_refused, GoesOn}
use Rattle.dbm_model.specs.States.{State, Handle}
use Rattle.dbm_model.specs.Steps.{Run, case_of}
use Rattle.dbm_model.proofs.PassLemmas.{passes_complete}
use Rattle.dbm_model.proofs.PassSteps.{given_are_there}
use Rattle.dbm_sharing.specs.Changes.{IsChange}
use Rattle.dbm_sharing.specs.Handles.{Shared, state_of, file_of, IsHandleAt}
use Rattle.dbm_sharing.specs.Periods.{Period, Answered, CutByDevice, CutByDeath, Opened, Replaced, IsLeft, IsAnswered, Chain, IsOneTable}
use Rattle.dbm_sharing.specs.PassViews.{given_to, BeginsNone, SharedPassesGiveWhatIsThere, NobodyChanges, SharedPassesAreComplete}
use Rattle.dbm_sharing.specs.Views.{Said, is_about_error, acknowledged_by, own_said, others_said, cut_said, seen_of, seen, calls_seen, replies_seen, Lasts, viewed}
use Rattle.dbm_sharing.proofs.PeriodLemmas.{room_of, answers_in, is_made}
use Rattle.dbm_sharing.proofs.Rules.{told, is_change, run_step}
use Rattle.dbm_sharing.proofs.ViewLemmas.{own_answer, sees_chain}

-- ---- what is given

abbrev given_in : List Said → List Key
given_in said = given (map (λ e. e.0) said) (map (λ e. e.1) said)

given_joined : (xs ys : List Said) → given_in (xs ++ ys) ≡ given_in xs ++ given_in ys
given_joined [] ys = refl
given_joined (x ∷ xs) ys = ap (λ (ks : List Key). given_by x.0 x.1 ++ ks) (given_joined xs ys)
    ∙ sym (append_assoc (given_by x.0 x.1) (given_in xs) (given_in ys))

refused_gives : (call : Call) (reply : Reply) → is_refused reply ≡ true → given_by call reply ≡ []
refused_gives (Store key content mode) reply refused = refl
refused_gives (Fetch key) reply refused = refl
refused_gives (Delete key) reply refused = refl
refused_gives First (Bytes bytes) refused = absurd (let x = refused in cc)
refused_gives First reply refused = refl
refused_gives Next (Bytes bytes) refused = absurd (let x = refused in cc)
refused_gives Next reply refused = refl
refused_gives Error reply refused = refl
refused_gives Clear reply refused = refl
refused_gives Upgrade reply refused = refl

about_gives : (call : Call) (reply : Reply) → is_about_error call ≡ true → given_by call reply ≡ []
about_gives Error reply about = refl
about_gives Clear reply about = refl
about_gives call reply about = absurd (let x = about in cc)

acknowledged_gives : (call : Call) (reply : Reply) → is_acknowledged reply ≡ true
    → given_by call reply ≡ []
acknowledged_gives (Store key content mode) reply done = refl
acknowledged_gives (Fetch key) reply done = refl
acknowledged_gives (Delete key) reply done = refl
acknowledged_gives First (Bytes bytes) done = absurd (let x = done in cc)
acknowledged_gives First reply done = refl
acknowledged_gives Next (Bytes bytes) done = absurd (let x = done in cc)
acknowledged_gives Next reply done = refl
acknowledged_gives Error reply done = refl
acknowledged_gives Clear reply done = refl
acknowledged_gives Upgrade reply done = refl

acknowledges : (call : Call) → is_acknowledged (acknowledged_by call) ≡ true
acknowledges (Store key content mode) = refl
acknowledges (Delete key) = refl
acknowledges call = refl

own_gives : (call : Call) (reply : Reply) → given_in (own_said call reply) ≡ given_by call reply
own_gives call reply = by_marks (is_refused reply) refl (is_about_error call) refl
  where
    by_marks : (b : Bool) → is_refused reply ≡ b → (c : Bool) → is_about_error call ≡ c
        → given_in (cond (b || c) [] ((call, reply) ∷ [])) ≡ given_by call reply
    by_marks true refused c about = sym (refused_gives call reply refused)
    by_marks false well true about = sym (about_gives call reply about)
    by_marks false well false other = append-nil (given_by call reply)

others_give : (call : Call) (reply : Reply) → given_in (others_said call reply) ≡ []
others_give call reply = by_mark (is_acknowledged reply) refl
  where
    by_mark : (b : Bool) → is_acknowledged reply ≡ b
        → given_in (cond b ((call, reply) ∷ []) []) ≡ []
    by_mark true done =
        append-nil (given_by call reply) ∙ acknowledged_gives call reply done
    by_mark false calm = refl

cut_gives : (call : Call) (made : Bool) → given_in (cut_said call made) ≡ []
cut_gives call true = append-nil (given_by call (acknowledged_by call))
    ∙ acknowledged_gives call (acknowledged_by call) (acknowledges call)
cut_gives call false = refl

pub all_given : (who : ℕ) (periods : List Period) → given_in (seen who periods) ≡ given_to who periods
all_given who [] = refl
all_given who (Answered caller call reply ∷ periods) =
    given_joined (seen_of who (Answered caller call reply)) (seen who periods)
    ∙ ap (λ (ks : List Key). given_in (seen_of who (Answered caller call reply)) ++ ks)
    (all_given who periods)
    ∙ ap (λ (ks : List Key). ks ++ given_to who periods) (by_mark (nat_eq caller who))
  where
    by_mark : (b : Bool) → given_in (cond b (own_said call reply) (others_said call reply))
        ≡ cond b (given_by call reply) []
    by_mark true = own_gives call reply
    by_mark false = others_give call reply
all_given who (CutByDevice caller call made ∷ periods) =
    given_joined (cut_said call made) (seen who periods)
    ∙ ap (λ (ks : List Key). ks ++ given_in (seen who periods)) (cut_gives call made)
    ∙ all_given who periods
all_given who (CutByDeath caller call made ∷ periods) =
    given_joined (cut_said call made) (seen who periods)
    ∙ ap (λ (ks : List Key). ks ++ given_in (seen who periods)) (cut_gives call made)
    ∙ all_given who periods
all_given who (Opened caller writable ∷ periods) = all_given who periods
all_given who (Replaced map bounds ∷ periods) = all_given who periods

-- ---- what holds of each call that is seen

abbrev AllSaid : (Call → Reply → Type 0) → List Said → Type 0
AllSaid P [] = Unit {0}
AllSaid P (x ∷ xs) = P x.0 x.1 × AllSaid P xs

module _ (P : Call → Reply → Type 0) where
  all_joined : (xs ys : List Said) → AllSaid P xs → AllSaid P ys → AllSaid P (xs ++ ys)
  all_joined [] ys some more = more
  all_joined (x ∷ xs) ys some more = (some.0, all_joined xs ys some.1 more)

  own_all : (call : Call) (reply : Reply) → P call reply → AllSaid P (own_said call reply)
  own_all call reply is = by_mark (is_refused reply || is_about_error call)
    where
      by_mark : (b : Bool) → AllSaid P (cond b [] ((call, reply) ∷ []))
      by_mark true = tt
      by_mark false = (is, tt)

  others_all : (call : Call) (reply : Reply) → (is_acknowledged reply ≡ true → P call reply)
      → AllSaid P (others_said call reply)
  others_all call reply is = by_mark (is_acknowledged reply) refl
    where
      by_mark : (b : Bool) → is_acknowledged reply ≡ b
          → AllSaid P (cond b ((call, reply) ∷ []) [])
      by_mark true done = (is done, tt)
      by_mark false calm = tt

  cut_all : (call : Call) (made : Bool) → (made ≡ true → P call (acknowledged_by call))
      → AllSaid P (cut_said call made)
  cut_all call true is = (is refl, tt)
  cut_all call false is = tt

  answered_all : (who caller : ℕ) (call : Call) (reply : Reply) → (caller ≡ who → P call reply)
      → (is_acknowledged reply ≡ true → P call reply)
      → AllSaid P (seen_of who (Answered caller call reply))
  answered_all who caller call reply own others = by_mark (nat_eq caller who) refl
    where
      by_mark : (b : Bool) → nat_eq caller who ≡ b
          → AllSaid P (cond b (own_said call reply) (others_said call reply))
      by_mark true same = own_all call reply (own (eqb-true caller who same))
      by_mark false other = others_all call reply others

-- ---- none of them begins a pass

not_first : (call : Call) → IsChange call → call ≢ First
not_first (Store key content mode) is same = let x = same in cc
not_first (Delete key) is same = let x = same in cc
not_first Upgrade is same = let x = same in cc
not_first (Fetch key) is same = is
not_first First is same = is
not_first Next is same = is
not_first Error is same = is
not_first Clear is same = is

-- what was acknowledged is a change, and so is what was cut short where all of it was made
acknowledged_changes : (pages : ℕ) (before after : Shared) (caller : ℕ) (call : Call) (reply : Reply)
    → IsAnswered pages before caller call reply after → is_acknowledged reply ≡ true
    → IsChange call
acknowledged_changes pages before after caller call reply is done =
    is_change pages (state_of before caller) (state_of after caller) call reply done
    (answers_in pages before after caller call reply is (told reply done))

made_changes : (pages : ℕ) (before : Shared) (caller : ℕ) (first : Handle) (call : Call)
    (made : Bool) (left : Member) → IsHandleAt pages (state_of before caller) first
    → IsLeft made first.state (case_of first call) left → made ≡ true → IsChange call
made_changes pages before caller first call true left begins is all =
    (is_made pages before caller first call left begins is).changing
made_changes pages before caller first call false left begins is all =
    absurd (let x = all in cc)

abbrev IsNotFirst : Call → Reply → Type 0
IsNotFirst call reply = call ≢ First

all_not_first : (pages who : ℕ) (before after : Shared) (periods : List Period)
    → Chain pages before periods after → BeginsNone who periods
    → AllSaid IsNotFirst (seen who periods)
all_not_first pages who before after [] chain none = tt
all_not_first pages who before after (Answered caller call reply ∷ periods) chain none =
    all_joined IsNotFirst (seen_of who (Answered caller call reply)) (seen who periods)
    (answered_all IsNotFirst who caller call reply none.0 (λ done. not_first call
    (acknowledged_changes pages before chain.0 caller call reply chain.1 done)))
    (all_not_first pages who chain.0 after periods chain.2 none.1)
all_not_first pages who before after (CutByDevice caller call made ∷ periods) chain none =
    let step = chain.1 in
    all_joined IsNotFirst (cut_said call made) (seen who periods)
    (cut_all IsNotFirst call made (λ all. not_first call (made_changes pages before caller step.first
    call made (held step.broken.state) step.begins step.left all)))
    (all_not_first pages who chain.0 after periods chain.2 none)
all_not_first pages who before after (CutByDeath caller call made ∷ periods) chain none =
    let step = chain.1 in
    all_joined IsNotFirst (cut_said call made) (seen who periods)
    (cut_all IsNotFirst call made (λ all. not_first call (made_changes pages before caller step.first
    call made (file_of chain.0) step.begins step.left all)))
    (all_not_first pages who chain.0 after periods chain.2 none)
all_not_first pages who before after (Opened caller writable ∷ periods) chain none =
    all_not_first pages who chain.0 after periods chain.2 none
all_not_first pages who before after (Replaced map bounds ∷ periods) chain none =
    all_not_first pages who chain.0 after periods chain.2 none

-- ---- a pass

-- the run of the model that a pass is
record IsPass (pages who : ℕ) (before after : Shared) (reply : Reply) (periods : List Period)
    : Type 0 where
  pub first : Handle
  pub first_state : first.state ≡ viewed before who
  pub last : Handle
  pub last_state : last.state ≡ viewed after who
  pub room : last.capacity ≡ pages
  pub run : Run first (First ∷ calls_seen who periods) (reply ∷ replies_seen who periods) last

is_pass : (pages who : ℕ) (before after : Shared) (reply : Reply) (periods : List Period)
    → Chain pages before (Answered who First reply ∷ periods) after → is_refused reply ≡ false
    → Lasts who periods → IsOneTable periods → IsPass pages who before after reply periods
is_pass pages who before after reply periods chain well lasts one =
    let first = record chain.1.first { state = viewed before who } in
    let begun = run_step pages first (viewed before who) (viewed chain.0 who) First reply refl
    (room_of pages (state_of before who) chain.1.first chain.1.begins)
    (own_answer pages before chain.0 who First reply chain.1 well refl) in
    let rest = sees_chain pages who chain.0 after periods chain.2 lasts one begun.0 begun.1 begun.2
    in
    record {
      first = first;
      first_state = refl;
      last = rest.0;
      last_state = rest.1;
      room = rest.2;
      run = (begun.0, begun.4, rest.3);
    }

-- the keys of it
all_of_pass : (who : ℕ) (reply : Reply) (periods : List Period)
    → given (First ∷ calls_seen who periods) (reply ∷ replies_seen who periods)
    ≡ given_to who (Answered who First reply ∷ periods)
all_of_pass who reply periods =
    ap (λ (ks : List Key). given_by First reply ++ ks) (all_given who periods)
    ∙ ap (λ (b : Bool). cond b (given_by First reply) [] ++ given_to who periods)
    (sym (eq-eqb who who refl))

pub shared_there : SharedPassesGiveWhatIsThere
shared_there pages who before after call key step one =
    subst (λ (s : State). IsSome (get s.map key)) step.begins.state
    (given_are_there step.first step.last call key step.step one)

-- ---- a pass with no change between

abbrev IsCalm : Call → Reply → Type 0
IsCalm call reply = is_acknowledged reply ≡ false

all_calm : (who : ℕ) (periods : List Period) → NobodyChanges periods
    → AllSaid IsCalm (seen who periods)
all_calm who [] calm = tt
all_calm who (Answered caller call reply ∷ periods) calm =
    all_joined IsCalm (seen_of who (Answered caller call reply)) (seen who periods)
    (answered_all IsCalm who caller call reply (λ same. calm.0) (λ done. calm.0))
    (all_calm who periods calm.1)
all_calm who (CutByDevice caller call made ∷ periods) calm =
    all_joined IsCalm (cut_said call made) (seen who periods)
    (cut_all IsCalm call made (λ all. absurd (calm.0 all))) (all_calm who periods calm.1)
all_calm who (CutByDeath caller call made ∷ periods) calm =
    all_joined IsCalm (cut_said call made) (seen who periods)
    (cut_all IsCalm call made (λ all. absurd (calm.0 all))) (all_calm who periods calm.1)
all_calm who (Opened caller writable ∷ periods) calm = all_calm who periods calm
all_calm who (Replaced map bounds ∷ periods) calm = absurd calm

one_table : (periods : List Period) → NobodyChanges periods → IsOneTable periods
one_table [] calm = tt
one_table (Answered caller call reply ∷ periods) calm = one_table periods calm.1
one_table (CutByDevice caller call made ∷ periods) calm = one_table periods calm.1
one_table (CutByDeath caller call made ∷ periods) calm = one_table periods calm.1
one_table (Opened caller writable ∷ periods) calm = one_table periods calm
one_table (Replaced map bounds ∷ periods) calm = absurd calm

goes_on : (said : List Said) → AllSaid IsNotFirst said → AllSaid IsCalm said
    → GoesOn (map (λ e. e.0) said) (map (λ e. e.1) said)
goes_on [] first calm = tt
goes_on (x ∷ xs) first calm = (first.0, calm.0, goes_on xs first.1 calm.1)

pub shared_complete : SharedPassesAreComplete
shared_complete pages who before mid after reply periods chain well lasts none calm step key =
    let pass = is_pass pages who before mid reply periods chain well lasts (one_table periods calm) in
    let end = run_step pages pass.last (viewed mid who) (viewed after who) Next End pass.last_state
    pass.room (own_answer pages mid after who Next End step refl refl) in
    ap (λ (ks : List Key). times_in ks key) (sym (all_of_pass who reply periods))
    ∙ passes_complete pass.first pass.last end.0 (calls_seen who periods) reply
    (replies_seen who periods) pass.run well
    (goes_on (seen who periods) (all_not_first pages who chain.0 mid periods chain.2 none)
    (all_calm who periods calm)) end.4 key
    ∙ ap (λ (s : State). cond (is_some (get s.map key)) 1 0) pass.first_state
