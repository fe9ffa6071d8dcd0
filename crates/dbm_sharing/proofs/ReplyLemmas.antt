-- The map that periods leave, and the replies that follow from it.
use Rattle.std.proofs.Common.{◌≡◌, ℕ, Bool, true, false, refl, sym, ◌∙◌, ap, subst, Option, Some, None, List, [], ◌∷◌}
use Rattle.std.specs.FinMap.{get}
use Rattle.dbm_model.specs.Bounds.{Bounds}
use Rattle.dbm_model.specs.Calls.{Call, Fetch, Bytes, NoRecord}
use Rattle.dbm_model.specs.Changes.{map_after, map_asked, bounds_after, bounds_asked}
use Rattle.dbm_model.specs.Members.{Member, Holding, held}
use Rattle.dbm_model.specs.Pairs.{Contents}
use Rattle.dbm_model.specs.States.{State, Handle}
use Rattle.dbm_model.specs.Steps.{Answers, case_of, fetched}
use Rattle.dbm_model.proofs.CaseLemmas.{Suits, suits}
use Rattle.dbm_sharing.specs.Handles.{Shared, state_of, file_of, IsHandleAt}
use Rattle.dbm_sharing.specs.Periods.{Period, Answered, CutByDevice, CutByDeath, Opened, Replaced, IsLeft, PeriodStep}
use Rattle.dbm_sharing.specs.Replies.{cut_leaves, leaves, left_after, PeriodsTellTheMap, RepliesAreOfTheMap, FetchesTellTheMap, OthersLeaveOwn}
use Rattle.dbm_sharing.proofs.Cuts.{made_by}
use Rattle.dbm_sharing.proofs.PeriodLemmas.{same_map, answers_in, file_answered, file_cut_by_device, none_made}

holds : (m n : Contents) (b c : Bounds) → m ≡ n → b ≡ c → Holding m b ≡ Holding n c
holds m n b c maps bounds = ap (λ x. Holding x b) maps ∙ ap (λ x. Holding n x) bounds

-- of a call that was cut short the file stands for what it asks for, or for what it stood for
cut_file : (pages : ℕ) (before : Shared) (who : ℕ) (call : Call) (made : Bool) (first : Handle)
    (left : Member) → IsHandleAt pages (state_of before who) first
    → IsLeft made first.state (case_of first call) left
    → left ≡ cut_leaves before.map before.bounds call made
cut_file pages before who call false first left begins is =
    none_made pages before who first (case_of first call) left begins is
cut_file pages before who call true first left begins is =
    let by = made_by first.state (case_of first call) left is in
    let change = subst (Suits first.state call) by.2 (suits first call) in
    by.3 ∙ holds by.1.map (map_asked before.map call) by.1.bounds (bounds_asked before.bounds call)
    (change.map_was_asked ∙ ap (λ (s : State). map_asked s.map call) begins.state)
    (change.bounds_were_asked ∙ ap (λ (s : State). bounds_asked s.bounds call) begins.state)

pub file_left : (pages : ℕ) (before after : Shared) (period : Period)
    → PeriodStep pages before period after → file_of after ≡ leaves (file_of before) period
file_left pages before after (Answered who call reply) step =
    let left = file_answered pages before after who call reply step in
    holds after.map (map_after before.map call reply) after.bounds
    (bounds_after before.bounds call reply) left.0 left.1
file_left pages before after (CutByDevice who call made) step =
    file_cut_by_device pages before after who call made step
    ∙ cut_file pages before who call made step.first (held step.broken.state) step.begins step.left
file_left pages before after (CutByDeath who call made) step =
    cut_file pages before who call made step.first (file_of after) step.begins step.left
file_left pages before after (Opened who writable) step = step.file
file_left pages before after (Replaced map bounds) step = step.file

pub periods_tell_the_map : PeriodsTellTheMap
periods_tell_the_map pages before after [] chain = ap file_of chain
periods_tell_the_map pages before after (period ∷ periods) chain =
    periods_tell_the_map pages chain.0 after periods chain.2
    ∙ ap (λ (m : Member). left_after m periods) (file_left pages before chain.0 period chain.1)

pub replies_are_of_the_map : RepliesAreOfTheMap
replies_are_of_the_map pages before after [] later who call reply chain = record {
  mid = before;
  after = chain.0;
  left = refl;
  answered = chain.1;
}
replies_are_of_the_map pages before after (period ∷ earlier) later who call reply chain =
    let rest = replies_are_of_the_map pages chain.0 after earlier later who call reply chain.2 in
    record {
      mid = rest.mid;
      after = rest.after;
      left = rest.left
          ∙ ap (λ (m : Member). left_after m earlier) (file_left pages before chain.0 period chain.1);
      answered = rest.answered;
    }

content_is : (s after : State) (content : List ℕ) (old : Option (List ℕ))
    → Answers s (fetched old) (Bytes content) after → old ≡ Some content
content_is s after content None is = absurd (let x = is.0 in cc)
content_is s after content (Some found) is =
    let same : found ≡ content = let both = is.0 in cc in ap Some same

none_is : (s after : State) (old : Option (List ℕ)) → Answers s (fetched old) NoRecord after
    → old ≡ None
none_is s after None is = refl
none_is s after (Some found) is = absurd (let x = is.0 in cc)

pub fetches_tell_the_map : FetchesTellTheMap
fetches_tell_the_map = record {
  found = λ pages before after earlier later who key content map bounds chain left.
      let at = replies_are_of_the_map pages before after earlier later who (Fetch key) (Bytes content)
      chain in
      ap (λ (m : Contents). get m key)
      (sym (same_map at.mid.map map at.mid.bounds bounds (at.left ∙ left)))
      ∙ content_is (state_of at.mid who) (state_of at.after who) content (get at.mid.map key)
      (answers_in pages at.mid at.after who (Fetch key) (Bytes content) at.answered refl);
  absent = λ pages before after earlier later who key map bounds chain left.
      let at = replies_are_of_the_map pages before after earlier later who (Fetch key) NoRecord
      chain in
      ap (λ (m : Contents). get m key)
      (sym (same_map at.mid.map map at.mid.bounds bounds (at.left ∙ left)))
      ∙ none_is (state_of at.mid who) (state_of at.after who) (get at.mid.map key)
      (answers_in pages at.mid at.after who (Fetch key) NoRecord at.answered refl);
}

pub others_leave_own : OthersLeaveOwn
others_leave_own pages who before after [] chain others =
    ap (λ (s : Shared). s.own who) chain
others_leave_own pages who before after (Answered caller call reply ∷ periods) chain others =
    others_leave_own pages who chain.0 after periods chain.2 others.1
    ∙ chain.1.others who others.0
others_leave_own pages who before after (CutByDevice caller call made ∷ periods) chain others =
    others_leave_own pages who chain.0 after periods chain.2 others.1
    ∙ chain.1.others who others.0
others_leave_own pages who before after (CutByDeath caller call made ∷ periods) chain others =
    others_leave_own pages who chain.0 after periods chain.2 others.1
    ∙ chain.1.others who others.0
others_leave_own pages who before after (Opened caller writable ∷ periods) chain others =
    others_leave_own pages who chain.0 after periods chain.2 others.1
    ∙ chain.1.others who others.0
others_leave_own pages who before after (Replaced map bounds ∷ periods) chain others =
    others_leave_own pages who chain.0 after periods chain.2 others ∙ chain.1.all_stay who
