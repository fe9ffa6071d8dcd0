-- How the calls of a session ended, as the definitions say it.
use Rattle.std.proofs.Common.{◌≡◌, ◌≢◌, ◌⊎◌, ◌↔◌, ◌≤◌, inl, inr, ⊎_elim, ℕ, Bool, true, false, Result, Ok, Err, OnOk, IfErr, Vec, List, [], ◌∷◌, map, refl, sym, ◌∙◌, ap, subst, arith, Contains}
use Rattle.std.specs.Result.{result_unwrap_or}
use Rattle.std.specs.Global.{Global}
use Rattle.std.proofs.lemmas.Bool.{cases_Bool, false≢true}
use Rattle.std.proofs.lemmas.List.{append-nil}
use Rattle.sect_dev.specs.Device.{Image, Candidates, IsImageOf, MoreFaults}
use Rattle.dbm_model.specs.Calls.{Call, Reply}
use Rattle.dbm_model.specs.Changes.{map_asked, bounds_asked}
use Rattle.dbm_model.specs.Pairs.{Pair}
use Rattle.dbm_model.specs.States.{Handle}
use Rattle.dbm_model.specs.Steps.{case_of, Run}
use Rattle.page_io.specs.Store.{Settled}
use Rattle.page_io.proofs.Exits.{more_later}
use Rattle.page_io.specs.declared.store.PageStore.{Ghosts}
use Rattle.redo_area.specs.File.{settled}
use Rattle.dbm_model.specs.Members.{Member, Holding, Members, held}
use Rattle.dbm_model.specs.Sessions as model
use Rattle.dbm_model.specs.Sessions.{Disk, Plan, StoppedOpening, StoppedCall, StoppedGroup, Begins, Goes, Rests, Breaks, left_by, SessionStep}
use Rattle.dbm_model.proofs.Cuts.{broken_leaves}
use Rattle.dbm_model.proofs.Failures.{counts_up}
use Rattle.dbm_model.proofs.Lists.{is_first, is_later}
use Rattle.dbm_fault.specs.declared.fault.Fault.{Fault}
use Rattle.dbm_fault.specs.declared.fault.Fault.TheVariants.{Device, Broken}
use Rattle.dbm_file.specs.Calls.{reply_of}
use Rattle.dbm_file.specs.declared.calls.Reply as code
use Rattle.dbm_file.specs.Database.{store_of, page_state, IsAt}
use Rattle.dbm_file.specs.Held.{Held}
use Rattle.dbm_file.specs.Runs.{IsInDoubt, IsBreak, IsRun}
use Rattle.dbm_file.specs.declared.database.Database.{Database}
use Rattle.rehearsal.specs.Members.{StandsForOne}
use Rattle.rehearsal.specs.Sessions.{ending_of, IfNotOpened, IfGrouped, GoesOn, CallsLeave}
use Rattle.rehearsal.specs.declared.sessions.Ending.{Ending}
use Rattle.rehearsal.specs.declared.sessions.Ending.TheVariants.{NotOpened, NoMemory, Rested, Unsettled, Broke, BrokeGroup}

-- a session that an opening began
pub step_of : (disk : Disk) (before : Members) (plan : Plan) (ending : model.Ending)
    (after : Members) (first : Handle) → Begins disk before plan.how first
    → GoesOn disk.at_end first plan.calls plan.group ending after
    → SessionStep disk before plan ending after
step_of disk before plan (model.NotOpened fault) after first begins goes = absurd goes
step_of disk before plan StoppedOpening after first begins goes = absurd goes
step_of disk before plan (model.Rested replies) after first begins goes = (first, begins, goes)
step_of disk before plan (StoppedCall replies) after first begins goes = (first, begins, goes)
step_of disk before plan (model.Broke replies) after first begins goes = (first, begins, goes)
step_of disk before plan (model.Grouped replies stored) after first begins goes =
    (first, begins, goes)
step_of disk before plan (StoppedGroup replies count) after first begins goes =
    (first, begins, goes)
step_of disk before plan (model.BrokeGroup replies count) after first begins (cut, more) =
    (first, begins, cut, omega (arith, begins.is_on.counts, more))

-- no call was made
pub none_made : (most : ℕ) (first : Handle) (calls : List Call) → first.state.usable ≡ true
    → first.faults ≤ most → Rests most first calls [] (held first.state ∷ [])
none_made most first calls usable counts = record {
  goes = record {
    made = [];
    later = calls;
    calls_are = refl;
    last = first;
    run = refl;
    usable = usable;
    counts = counts;
  };
  left = refl;
}

-- all were made
abbrev pub all_go : (most : ℕ) (first last : Handle) (calls : List Call) (replies : List Reply)
    → Run first calls replies last → last.state.usable ≡ true → last.faults ≤ most
    → Goes most first calls replies
all_go most first last calls replies run usable counts = record {
  made = calls;
  later = [];
  calls_are = sym (append-nil calls);
  last = last;
  run = run;
  usable = usable;
  counts = counts;
}

pub all_made : (most : ℕ) (first last : Handle) (calls : List Call) (replies : List Reply)
    → Run first calls replies last → last.state.usable ≡ true → last.faults ≤ most
    → Rests most first calls replies (held last.state ∷ [])
all_made most first last calls replies run usable counts =
    record { goes = all_go most first last calls replies run usable counts; left = refl }

module _ {S : Type 0} {s : Ghosts S} (new : Database S s) (first last : Handle) (calls : List Call)
    (replies : List Reply) (b : IsBreak new first calls replies last) where
  -- what the call left that broke the database
  abbrev pub in_doubt : Members
  in_doubt = left_by b.sound.state (case_of b.sound b.call)

  pub breaks : (most : ℕ) → last.faults ≤ most → Breaks most first calls replies in_doubt
  breaks most counts = record {
    answered = b.answered;
    refused = b.refused;
    replies_are = b.replies_are;
    cut = record {
      goes = record {
        made = b.earlier;
        later = b.call ∷ b.later;
        calls_are = b.calls_are;
        last = b.sound;
        run = b.run;
        usable = b.usable;
        counts = omega (
          arith,
          b.step.counts,
          counts_up b.broken last b.later b.refused b.rest,
          counts,
        );
      };
      call = b.call;
      rest = b.later;
      next = refl;
      left = refl;
    };
    broken = b.broken;
    step = b.step;
    breaks = b.breaks;
    then_made = b.later;
    never_made = [];
    rest_is = sym (append-nil b.later);
    last = last;
    run = b.rest;
    counts = counts;
  }

  abbrev asked : Member
  asked = Holding (map_asked b.sound.state.map b.call) (bounds_asked b.sound.state.bounds b.call)

  both : in_doubt ≡ held b.sound.state ∷ asked ∷ []
  both = broken_leaves b.sound b.broken b.call _ b.step b.usable b.breaks

  doubted : (left : Held) → IsInDoubt b.sound.state b.call left
      → Contains in_doubt (Holding left.map left.bounds)
  doubted left (inl old) =
      subst (λ (ms : Members). Contains ms (Holding left.map left.bounds)) (sym both)
      (is_first (held b.sound.state) (asked ∷ []) (Holding left.map left.bounds)
      (ap (λ (h : Held). Holding h.map h.bounds) old))
  doubted left (inr new) =
      subst (λ (ms : Members). Contains ms (Holding left.map left.bounds)) (sym both)
      (is_later (held b.sound.state) (asked ∷ []) (Holding left.map left.bounds)
      (is_first asked [] (Holding left.map left.bounds)
      (ap (λ (h : Held). Holding h.map h.bounds) new)))

  -- each image that may be left of it stands for one of those
  pub stands_in_doubt : (y : Settled) → s.settles_to (store_of new) y → StandsForOne in_doubt y
  stands_in_doubt y left =
      let one = b.in_doubt y left in
      (Holding one.0.map one.0.bounds, doubted one.0 one.1, one.2)

-- how a session ended whose database was usable or not behind its calls, and when it was closed
module _ (mid new : Bool) {X : Type 0} (stored : Result ℕ Fault) (closed : Result X Fault)
    (ending : Ending) (replies : Vec code.Reply Global)
    (was : stored ≡ Err Broken ↔ (mid ≡ false)) (broken : closed ≡ Err Broken ↔ (new ≡ false))
    (rested : stored ≢ Err Broken → OnOk closed (ending ≡ Rested replies stored))
    (failed : stored ≢ Err Broken → IfErr closed (λ fault. fault ≢ Broken
    → ending ≡ Unsettled replies stored))
    (group : stored ≢ Err Broken → closed ≡ Err Broken → ending ≡ BrokeGroup replies)
    (broke : stored ≡ Err Broken → ending ≡ Broke replies) where
  told_rested : (r : Result X Fault) → closed ≡ r → mid ≡ true → new ≡ true
      → (ending ≡ Rested replies stored) ⊎ (ending ≡ Unsettled replies stored)
  told_rested (Ok x) is sound now =
      inl (subst (λ r. OnOk r (ending ≡ Rested replies stored)) is
      (rested (λ e. false≢true (sym (was.0 e) ∙ sound))))
  told_rested (Err fault) is sound now =
      inr (subst (λ r. IfErr r (λ f. f ≢ Broken → ending ≡ Unsettled replies stored))
      is (failed (λ e. false≢true (sym (was.0 e) ∙ sound)))
      (λ same. false≢true (sym (broken.0 (is ∙ ap Err same)) ∙ now)))

  -- it was usable to the end, the commit of its group broke it, or one of its calls had
  pub which_ending : (P : Ending → Type 0)
      → (mid ≡ true → new ≡ true → P (Rested replies stored) × P (Unsettled replies stored))
      → (mid ≡ true → new ≡ false → P (BrokeGroup replies))
      → (mid ≡ false → P (Broke replies)) → P ending
  which_ending P sound cut doubt = elim (cases_Bool mid) [
    | inl all ↦ elim (cases_Bool new) [
      | inl now ↦ ⊎_elim (λ is. subst P (sym is) (sound all now).0)
          (λ is. subst P (sym is) (sound all now).1) (told_rested closed refl all now)
      | inr now ↦ subst P
          (sym (group (λ e. false≢true (sym (was.0 e) ∙ all)) (broken.1 now))) (cut all now)
    ]
    | inr none ↦ subst P (sym (broke (was.1 none))) (doubt none)
  ]

  pub by_ending : (P : model.Ending → Type 0)
      → (mid ≡ true → new ≡ true
      → P (model.Grouped (map reply_of replies.items) (result_unwrap_or stored 0)))
      → (mid ≡ true → new ≡ false
      → (count : ℕ) × P (model.BrokeGroup (map reply_of replies.items) count))
      → (mid ≡ false → P (model.Broke (map reply_of replies.items)))
      → (count : ℕ) × P (ending_of ending count)
  by_ending P sound cut doubt = which_ending (λ e. (count : ℕ) × P (ending_of e count))
      (λ all now. ((0, sound all now), (0, sound all now))) cut (λ none. (0, doubt none))

-- ---- what is left of the device

module _ {S : Type 0} {s : Ghosts S} (old new : Database S s) (h : Handle) (calls : List Call)
    (group : List Pair) (replies : List Reply) (pages : ℕ) (candidate : Candidates) (most : ℕ) where
  pub broke : IsAt old h → h.state.usable ≡ true → (run : IsRun old new h calls replies)
      → run.after.faults ≤ most → (page_state new).usable ≡ false
      → ((image : Image) → IsImageOf candidate image
      → s.settles_to (store_of new) (settled pages image))
      → CallsLeave most h calls group (model.Broke replies) pages candidate
  broke at usable run counts now settles =
      let was = sym (ap (λ (x : Handle). x.state.usable) at.shows) ∙ usable in
      let b = run.breaks was now in
      record {
        after = in_doubt new h run.after calls replies b;
        goes = breaks new h run.after calls replies b most counts;
        stand = λ image is.
            stands_in_doubt new h run.after calls replies b (settled pages image)
            (settles image is);
      }

-- ---- the ending of the code

-- it was opened, so nothing is owed of a refusal
pub none_refused : (ending : Ending) (P : Fault → Type 0) → IfNotOpened ending (λ fault. ⊥)
    → IfNotOpened ending P
none_refused (NotOpened fault) P is = absurd is
none_refused NoMemory P is = tt
none_refused (Rested replies stored) P is = tt
none_refused (Unsettled replies stored) P is = tt
none_refused (Broke replies) P is = tt
none_refused (BrokeGroup replies) P is = tt

-- a group that a later fault refused was refused by one since an earlier moment
pub refused_since : (ending : Ending) (first old new : ℕ) → first ≤ old
    → IfGrouped ending (λ stored. IfErr stored (λ fault. (fault ≡ Device) × MoreFaults old new))
    → IfGrouped ending (λ stored. IfErr stored (λ fault. (fault ≡ Device) × MoreFaults first new))
refused_since (NotOpened fault) first old new le is = tt
refused_since NoMemory first old new le is = tt
refused_since (Rested replies (Ok count)) first old new le is = tt
refused_since (Rested replies (Err fault)) first old new le is =
    (is.0, more_later first old new le is.1)
refused_since (Unsettled replies (Ok count)) first old new le is = tt
refused_since (Unsettled replies (Err fault)) first old new le is =
    (is.0, more_later first old new le is.1)
refused_since (Broke replies) first old new le is = tt
refused_since (BrokeGroup replies) first old new le is = tt
