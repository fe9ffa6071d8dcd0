-- Periods that no chain has.
use Rattle.std.proofs.Common.{◌≡◌, inr, ℕ, Bool, true, false, refl, sym, ◌∙◌, ap, subst, [], ◌∷◌}
use Rattle.std.specs.Prelude.{IsSome}
use Rattle.std.specs.FinMap.{empty, get, remove, get-empty}
use Rattle.dbm_model.specs.Calls.{Delete, First, Next, Stored, Deleted, Bytes, NoRecord, End, Number, NoPass}
use Rattle.dbm_model.specs.Examples.{one}
use Rattle.dbm_model.specs.Pairs.{Contents, key_cmp}
use Rattle.dbm_model.specs.SessionExamples.{store, fetch}
use Rattle.dbm_model.specs.States.{State, Pass, NotBegun, error_number}
use Rattle.dbm_model.specs.Steps.{Refuses, passed, Answers}
use Rattle.dbm_model.proofs.PassRuns.{a, b}
use Rattle.dbm_model.proofs.StayLemmas.{error_told}
use Rattle.dbm_sharing.specs.Handles.{Own, Shared, state_of}
use Rattle.dbm_sharing.specs.Periods.{Answered, CutByDeath, IsAnswered, Chain}
use Rattle.dbm_sharing.specs.Examples.{start, with_a, with_both, WrongChains}
use Rattle.dbm_sharing.proofs.PassViews.{shared_there}
use Rattle.dbm_sharing.proofs.PeriodLemmas.{answers_in, file_answered, is_made}
use Rattle.dbm_sharing.proofs.ReplyLemmas.{fetches_tell_the_map}
use Rattle.dbm_sharing.proofs.Sample.{eight, has_a, b_is_gone}

-- a nextkey of a handle that has begun no pass
no_end : (pages : ℕ) (before after : Shared) (who : ℕ) → (before.own who).pass ≡ NotBegun
    → IsAnswered pages before who Next End after → ⊥
no_end pages before after who none is =
    let answers = answers_in pages before after who Next End is refl in
    let refused : Answers (state_of before who) (Refuses NoPass) End (state_of after who) =
    subst (λ (p : Pass). Answers (state_of before who) (passed p) End (state_of after who)) none
    answers in
    let wrong = refused.0 in cc

lost : (pages : ℕ) (after : Shared) (who : ℕ)
    → Chain pages (start empty) (Answered 0 store Stored ∷ Answered who fetch NoRecord ∷ []) after → ⊥
lost pages after who chain =
    let none = fetches_tell_the_map.absent pages (start empty) after (Answered 0 store Stored ∷ []) []
    who a with_a eight chain refl in
    let both = sym none ∙ has_a in cc

halved : (pages : ℕ) (after : Shared) (made : Bool)
    → Chain pages (start empty)
    (CutByDeath 0 store made ∷ Answered 1 fetch (Bytes (one 0x01)) ∷ Answered 2 fetch NoRecord ∷ [])
    after → ⊥
halved pages after true chain =
    let none = fetches_tell_the_map.absent pages (start empty) after
    (CutByDeath 0 store true ∷ Answered 1 fetch (Bytes (one 0x01)) ∷ []) [] 2 a with_a eight chain
    refl in
    let both = sym none ∙ has_a in cc
halved pages after false chain =
    let found = fetches_tell_the_map.found pages (start empty) after
    (CutByDeath 0 store false ∷ []) (Answered 2 fetch NoRecord ∷ []) 1 a (one 0x01) empty eight chain
    refl in
    let both = sym found ∙ get-empty key_cmp a in cc

pub wrong_chains : WrongChains
wrong_chains = record {
  lost = λ m. lost m.pages m.after 1 m.chain;
  halved = λ made m. halved m.pages m.after made m.chain;
  pass_of_another = λ m. let chain = m.chain in
      no_end m.pages chain.0 chain.2.0 1
      (ap (λ (o : Own). o.pass) (chain.1.others 1 (λ same. cc))) chain.2.1;
  error_of_another = λ m. let chain = m.chain in
      let is = chain.2.1 in
      let told = (error_told is.first is.last (Number 7) is.step).0 in
      let none = ap (λ (s : State). error_number s.error) is.begins.state
      ∙ ap (λ (o : Own). error_number o.error) (chain.1.others 1 (λ same. cc)) in
      let wrong = told ∙ ap Number none in cc;
  stored_for_reading = λ m. let chain = m.chain in
      let answers = answers_in m.pages (start empty) chain.0 2 store Stored chain.1 refl in
      let wrong = answers.0 in cc;
  changed_by_fetch = λ m. let is = m.chain.1 in
      (is_made m.pages (start with_a) 0 is.first fetch _ is.begins is.left).changing;
  given_though_deleted = λ m. let chain = m.chain in
      let left = file_answered m.pages chain.0 chain.2.0 0 (Delete b) Deleted chain.2.1 in
      let same = file_answered m.pages (start with_both) chain.0 2 First (Bytes a) chain.1 in
      b_is_gone (subst (λ (c : Contents). IsSome (get c b)) (left.0 ∙ ap (λ c. remove c b) same.0)
      (shared_there m.pages 2 chain.2.0 chain.2.2.0 Next b chain.2.2.1 (inr refl)));
  pass_of_the_dead = λ m. let chain = m.chain in
      no_end m.pages chain.2.0 chain.2.2.0 1 (ap (λ (o : Own). o.pass) chain.2.1.gone) chain.2.2.1;
}
