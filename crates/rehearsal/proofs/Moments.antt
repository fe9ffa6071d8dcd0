-- What a stop within a session leaves.
use Rattle.std.proofs.Common.{◌≡◌, ⊎_elim, ℕ, ◌/◌, ◌≤◌, true, List, [], ◌∷◌, ◌++◌, map, refl, sym, ◌∙◌, subst}
use Rattle.std.proofs.lemmas.List.{append-nil}
use Rattle.sect_dev.specs.Device.{Candidates}
use Rattle.dbm_model.specs.Calls.{Call, Reply}
use Rattle.dbm_model.specs.Pairs.{Pair}
use Rattle.dbm_model.specs.States.{Handle}
use Rattle.dbm_model.specs.Steps.{Run}
use Rattle.page_io.specs.Store.{Settled}
use Rattle.page_io.specs.Meaning.{ImageStandsFor}
use Rattle.file_opening.specs.Opening.{MayRemain}
use Rattle.file_opening.specs.declared.open_how.OpenHow.{OpenHow}
use Rattle.dbm_model.specs.Members.{Holding, Members, held, opened}
use Rattle.dbm_model.specs.Sessions as model
use Rattle.dbm_model.specs.Sessions.{Disk, Plan, StoppedOpening, StoppedCall, StoppedGroup, Begins}
use Rattle.dbm_model.proofs.Lists.{is_first}
use Rattle.dbm_file.specs.Answers.{StandsForSome}
use Rattle.dbm_file.specs.Runs.{MayBeLeftWithin}
use Rattle.rehearsal.specs.Members.{AllStandFor}
use Rattle.rehearsal.specs.Sessions.{opening_of, for_writing, replies_in, IsStopOf, IsLeftByStop, IsLeftByCalls}
use Rattle.rehearsal.specs.declared.sessions.Opening.{Opening}
use Rattle.rehearsal.proofs.Openings.{remains}
use Rattle.rehearsal.proofs.Endings.{step_of, none_made, all_made}
use Rattle.rehearsal.proofs.Stops.{within}

-- ---- the calls

-- a stop of a session with these replies
stops_so : (ending : model.Ending) (replies : List Reply) (stop : model.Ending)
    → replies_in ending ≡ replies → IsStopOf (model.Rested replies) stop → IsStopOf ending stop
stops_so ending replies (model.NotOpened fault) same is = absurd is
stops_so ending replies StoppedOpening same is = tt
stops_so ending replies (model.Rested first) same is = (is.0, same ∙ is.1)
stops_so ending replies (StoppedCall first) same is = (is.0, is.1, same ∙ is.2)
stops_so ending replies (model.Broke first) same is = absurd is
stops_so ending replies (model.Grouped first stored) same is = absurd (let e = is in cc)
stops_so ending replies (StoppedGroup first count) same is =
    ⊎_elim (λ e. absurd (let f = e in cc)) (λ e. absurd (let f = e in cc)) is
stops_so ending replies (model.BrokeGroup first count) same is = absurd is

-- what a stop within them leaves
pub left_within : (most : ℕ) (h after : Handle) (calls : List Call) (group : List Pair)
    (replies : List Reply) (ending : model.Ending) → replies_in ending ≡ replies
    → h.state.usable ≡ true → after.faults ≤ most → (y : Settled)
    → StandsForSome (MayBeLeftWithin h calls replies after) y
    → IsLeftByCalls most h calls group ending y
left_within most h after calls group replies ending same usable counts y (left, may, stands) =
    let found = within most h after calls replies left usable counts may in
    record {
      stop = found.stop;
      is_stop = stops_so ending replies found.stop same found.is_stop;
      after = found.after;
      goes = found.goes group;
      stands = (Holding left.map left.bounds, found.among, stands);
    }

-- none was made
pub left_unmade : (most : ℕ) (h : Handle) (calls : List Call) (group : List Pair)
    → h.state.usable ≡ true → h.faults ≤ most → (y : Settled)
    → ImageStandsFor y h.state.map h.state.bounds
    → IsLeftByCalls most h calls group (model.Rested []) y
left_unmade most h calls group usable counts y stands = record {
  stop = model.Rested [];
  is_stop = ([], refl);
  after = held h.state ∷ [];
  goes = none_made most h calls usable counts;
  stands = (held h.state, is_first (held h.state) [] (held h.state) refl, stands);
}

-- all were made
pub left_made : (most : ℕ) (h last : Handle) (calls : List Call) (group : List Pair)
    (replies : List Reply) (ending : model.Ending) → replies_in ending ≡ replies
    → Run h calls replies last → last.state.usable ≡ true → last.faults ≤ most → (y : Settled)
    → ImageStandsFor y last.state.map last.state.bounds
    → IsLeftByCalls most h calls group ending y
left_made most h last calls group replies ending same run usable counts y stands = record {
  stop = model.Rested replies;
  is_stop = stops_so ending replies (model.Rested replies) same ([], sym (append-nil replies));
  after = held last.state ∷ [];
  goes = all_made most h last calls replies run usable counts;
  stands = (held last.state, is_first (held last.state) [] (held last.state) refl, stands);
}

-- ---- a session

pub left_in_opening : (disk : Disk) (before : Members) (how : Opening) (asked : OpenHow)
    (calls : List Call) (group : List Pair) (sectors : ℕ) (start : Candidates)
    (ending : model.Ending) → asked ≡ for_writing how → AllStandFor before (sectors / 4) start
    → (y : Settled) → MayRemain asked sectors start y
    → IsLeftByStop disk before
    (record { how = opening_of how; calls = calls; group = group }) ending y
left_in_opening disk before how asked calls group sectors start ending is stand y remained = record {
  stop = StoppedOpening;
  is_stop = tt;
  after = before ++ map (opened (opening_of how)) before;
  step = refl;
  stands = remains before how sectors start stand y
      (subst (λ (h : OpenHow). MayRemain h sectors start y) is remained);
}

pub left_in_calls : (disk : Disk) (before : Members) (plan : Plan) (first : Handle)
    (ending : model.Ending) → Begins disk before plan.how first → (y : Settled)
    → IsLeftByCalls disk.at_end first plan.calls plan.group ending y
    → IsLeftByStop disk before plan ending y
left_in_calls disk before plan first ending begins y left = record {
  stop = left.stop;
  is_stop = left.is_stop;
  after = left.after;
  step = step_of disk before plan left.stop left.after first begins left.goes;
  stands = left.stands;
}
