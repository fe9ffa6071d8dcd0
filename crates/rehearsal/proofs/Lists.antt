-- Sessions one after another.
use Rattle.std.proofs.Common.{◌≡◌, ◌⊎◌, inl, inr, ℕ, ◌<◌, true, All, List, [], ◌∷◌, ◌++◌, map, length, slice_index_or, Contains, refl, sym, ap, ◌∙◌, subst}
use Rattle.std.proofs.lemmas.List.{get_or-map, length-map}
use Rattle.std.proofs.lemmas.List.Elements.{All-nil, All-cons, All-append, All-head}
use Rattle.sect_dev.specs.Device.{Image, Candidates, IsImageOf, IsStable}
use Rattle.sect_dev.specs.Moments.{only_image}
use Rattle.redo_area.specs.File.{settled}
use Rattle.dbm_model.specs.Members.{NoDatabase, Members}
use Rattle.dbm_model.specs.Sessions as model
use Rattle.dbm_model.specs.Sessions.{Disk, Plan, SessionStep, Sessions}
use Rattle.dbm_model.proofs.Ways.{changes_stay}
use Rattle.rehearsal.specs.Members.{StandsForOne, AllStandFor}
use Rattle.rehearsal.specs.Sessions.{ending_of}
use Rattle.rehearsal.specs.Rehearsals.{planned, AreTold, SessionLeaves, SessionsLeave, AreAllLeft, IsOpenedBut, AreOpenedBut, FindOrMake, IsCutAfter, AreCutAsAsked}
use Rattle.rehearsal.specs.declared.sessions.Ending.{Ending}
use Rattle.rehearsal.specs.declared.cutting.Stopped.{Stopped}
use Rattle.rehearsal.specs.declared.rehearsing.Stage.{Stage}
use Rattle.rehearsal.proofs.Databases.{all_stay_there}

-- one session more
sessions-push : (pages : ℕ) (before mid after : Members) (plans : List Plan)
    (endings : List model.Ending) (disk : Disk) (plan : Plan) (ending : model.Ending)
    → disk.pages ≡ pages → Sessions pages before plans endings mid
    → SessionStep disk mid plan ending after
    → Sessions pages before (plans ++ plan ∷ []) (endings ++ ending ∷ []) after
sessions-push pages before mid after [] [] disk plan ending of_pages all step = (
  disk,
  of_pages,
  after,
  subst (λ (ms : Members). SessionStep disk ms plan ending after) all step,
  refl,
)
sessions-push pages before mid after [] (one ∷ endings) disk plan ending of_pages all step = absurd all
sessions-push pages before mid after (one ∷ plans) [] disk plan ending of_pages all step = absurd all
sessions-push pages before mid after (one ∷ plans) (told ∷ endings) disk plan ending of_pages
    (first, first_pages, then, first_step, rest) step = (
      first,
      first_pages,
      then,
      first_step,
      sessions-push pages then mid after plans endings disk plan ending of_pages rest step,
    )

pub none_yet : (before : Members) (pages : ℕ) (candidate : Candidates)
    → AllStandFor before pages candidate → SessionsLeave before [] [] pages candidate
none_yet before pages candidate stand = record {
  told = [];
  are_told = tt;
  after = before;
  sessions = refl;
  stand = stand;
}

told-push : (endings : List Ending) (told : List model.Ending) (ending : Ending) (count : ℕ)
    → AreTold endings told → AreTold (endings ++ ending ∷ []) (told ++ ending_of ending count ∷ [])
told-push [] [] ending count all = ((count, refl), tt)
told-push [] (one ∷ told) ending count all = absurd all
told-push (first ∷ endings) [] ending count all = absurd all
told-push (first ∷ endings) (one ∷ told) ending count all =
    (all.0, told-push endings told ending count all.1)

pub one_more : (before : Members) (plans : List Plan) (endings : List Ending) (plan : Plan)
    (ending : Ending) (pages next : ℕ) (candidate now : Candidates)
    (so_far : SessionsLeave before plans endings pages candidate) → next ≡ pages
    → SessionLeaves so_far.after plan ending next now
    → SessionsLeave before (plans ++ plan ∷ []) (endings ++ ending ∷ []) next now
one_more before plans endings plan ending pages next candidate now so_far same
    (disk, of_pages, count, one) = record {
      told = so_far.told ++ ending_of ending count ∷ [];
      are_told = told-push endings so_far.told ending count so_far.are_told;
      after = one.after;
      sessions = sessions-push next before so_far.after one.after plans so_far.told disk plan
          (ending_of ending count) of_pages
          (subst (λ (n : ℕ). Sessions n before plans so_far.told so_far.after) (sym same)
          so_far.sessions) one.step;
      stand = one.stand;
    }

-- of the images that might have been left, the stop left this one
pub after_stop : (members : Members) (pages next : ℕ) (before after : Candidates) (image : Image)
    → AllStandFor members pages before → IsImageOf before image → IsStable after image
    → next ≡ pages → AllStandFor members next after
after_stop members pages next before after image stand is stable same =
    subst (λ (n : ℕ). AllStandFor members n after) (sym same)
    (λ other there. subst (λ (i : Image). StandsForOne members (settled pages i))
    (sym (only_image after image other stable there)) (stand image is))

pub all_left : (before : Members) (plans : List Plan) (endings : List Ending) (pages : ℕ)
    (candidate : Candidates) → SessionsLeave before plans endings pages candidate
    → AreAllLeft before plans endings pages candidate
all_left before plans endings pages candidate all = (
  all.told,
  all.are_told,
  λ image is.
      let one = all.stand image is in
      let way = changes_stay pages before all.after plans all.told all.sessions one.0 one.1 in
      record { member = one.0; stands = one.2; start = way.0; among = way.1; left = way.2 },
)

-- ---- what is said of each session

-- of one in a list
pub one_of : {X Y : Type 0} (P : Y → Type 0) (f : X → Y) (xs : List X) (i : ℕ) (x : X)
    → i < length xs → x ≡ slice_index_or xs i x → All P (map f xs) → P (f x)
one_of P f xs i x lt is all =
    subst P (get_or-map f xs i x (f x) lt ∙ ap f (sym is))
    (all i (f x) (subst (λ (n : ℕ). i < n) (sym (length-map xs f)) lt))

pub all_push : {X : Type 0} (P : X → Type 0) (xs : List X) (x : X) → All P xs → P x
    → All P (xs ++ x ∷ [])
all_push P xs x all one = All-append P xs (x ∷ []) all (All-cons P x [] one (All-nil P))

pub opened_push : (plans : List Plan) (endings : List Ending) (plan : Plan) (ending : Ending)
    → AreOpenedBut plans endings → IsOpenedBut plan ending
    → AreOpenedBut (plans ++ plan ∷ []) (endings ++ ending ∷ [])
opened_push [] [] plan ending all one = (one, tt)
opened_push [] (other ∷ endings) plan ending all one = absurd all
opened_push (other ∷ plans) [] plan ending all one = absurd all
opened_push (first ∷ plans) (other ∷ endings) plan ending all one =
    (all.0, opened_push plans endings plan ending all.1 one)

pub cut_push : (stages : List Stage) (endings : List Stopped) (stage : Stage) (stopped : Stopped)
    → AreCutAsAsked stages endings → IsCutAfter stage.device_calls stopped
    → AreCutAsAsked (stages ++ stage ∷ []) (endings ++ stopped ∷ [])
cut_push [] [] stage stopped all one = (one, tt)
cut_push [] (other ∷ endings) stage stopped all one = absurd all
cut_push (other ∷ stages) [] stage stopped all one = absurd all
cut_push (first ∷ stages) (other ∷ endings) stage stopped all one =
    (all.0, cut_push stages endings stage stopped all.1 one)

-- each of the sessions to come finds a database, or makes one
pub finds_or_makes : (pages : ℕ) (before after : Members) (plans : List Plan)
    (endings : List model.Ending) (stages : List Stage) (i : ℕ) (one : Stage) → i < length stages
    → one ≡ slice_index_or stages i one → FindOrMake before (map planned stages)
    → Sessions pages before plans endings after → FindOrMake after (planned one ∷ [])
finds_or_makes pages before after plans endings stages i one lt is (inl there) sessions =
    inl (all_stay_there pages before after plans endings there sessions)
finds_or_makes pages before after plans endings stages i one lt is (inr creates) sessions =
    let Creates = λ (plan : Plan). plan.how.create ≡ true in
    inr (All-cons Creates (planned one) [] (one_of Creates planned stages i one lt is creates)
    (All-nil Creates))

pub finds_or_makes_one : (before : Members) (plan : Plan) → FindOrMake before (plan ∷ [])
    → (Contains before NoDatabase → ⊥) ⊎ (plan.how.create ≡ true)
finds_or_makes_one before plan (inl there) = inl there
finds_or_makes_one before plan (inr creates) =
    inr (All-head (λ (p : Plan). p.how.create ≡ true) plan [] creates)
