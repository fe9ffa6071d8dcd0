-- Lists of sessions that are worked out by hand.
use Rattle.std.proofs.Common.{◌≡◌, ◌⊎◌, inl, inr, ⊎_elim, ℕ, true, List, [], ◌∷◌, Some, None, refl, sym, ◌∙◌, ap, subst, arith, Contains}
use Rattle.std.specs.FinMap.{empty, get-empty}
use Rattle.dbm_model.specs.Bounds.{in_v1}
use Rattle.dbm_model.specs.Calls.{Next, Reply, Stored, Bytes, NoRecord, Refused, Device, BadLimit, NoPass}
use Rattle.dbm_model.specs.Examples.{one}
use Rattle.dbm_model.specs.Pairs.{Contents, key_cmp}
use Rattle.dbm_model.specs.States.{State, Handle, fresh}
use Rattle.dbm_model.specs.Steps.{Refuses, fetched}
use Rattle.dbm_model.specs.Members.{Member, NoDatabase, Holding, Members, held, opened}
use Rattle.dbm_model.specs.Sessions.{Disk, Plan, Ending, NotOpened, StoppedOpening, Rested, StoppedCall, SessionStep}
use Rattle.dbm_model.specs.SessionChanges.{changes_of, LeftBy}
use Rattle.dbm_model.specs.SessionExamples.{creates, empties, reopens, store, fetch, nothing, pair, MayLeave, StoreAcknowledged, StoreInDoubt, CreationInDoubt, EmptyingInDoubt, WrongSessions}
use Rattle.dbm_model.proofs.Lists.{in_one, is_first, is_later}
use Rattle.dbm_model.proofs.Ways.{rests_left, changes_stay}
use Rattle.dbm_model.proofs.RuleLemmas.{ByCase}
use Rattle.dbm_model.proofs.SessionSample.{disk, IsSmall, IsPlain, nine, five, no_pair, one_pair, told_at, at, start, only, is_stored, has_pair, begins, all_answered, doubt, pair_in_doubt, nothing_in_doubt, stopped_store, fetches, broken_session, told_by}

-- what the sessions leave, by their changes from one member
pub left_of : (before : Member) (plans : List Plan) (endings : List Ending) (member : Member)
    → MayLeave (before ∷ []) plans endings member
    → LeftBy (changes_of plans endings) before member
left_of before plans endings member m =
    let left = changes_stay m.pages (before ∷ []) m.after plans endings m.sessions member m.among in
    subst (λ (s : Member). LeftBy (changes_of plans endings) s member)
    (in_one before left.0 left.1) left.2

pub acknowledged : StoreAcknowledged
acknowledged = record {
  may = record {
    pages = 8;
    after = pair 9 ∷ [];
    sessions = (
      disk,
      refl,
      pair 9 ∷ [],
      (
        start empty,
        begins (NoDatabase ∷ []) (creates 9 []).how NoDatabase empty 9 nine no_pair
            (is_first NoDatabase [] NoDatabase refl) refl,
        record {
          goes = record {
            made = store ∷ [];
            later = fetch ∷ [];
            calls_are = refl;
            last = start only;
            run = (start only, is_stored, refl);
            usable = refl;
            counts = omega arith;
          };
          left = refl;
        },
      ),
      refl,
    );
    among = is_first (pair 9) [] (pair 9) refl;
  };
  stays = λ member m. left_of NoDatabase
      (creates 9 (store ∷ fetch ∷ []) ∷ reopens [] ∷ reopens [] ∷ [])
      (StoppedCall (Stored ∷ []) ∷ NotOpened Device ∷ StoppedOpening ∷ []) member m;
}

none_told : NoRecord ≡ Bytes (one 0x01) → ⊥
none_told is = absurd (let x = is in cc)

not_refused : (reply : Reply) → (reply ≡ NoRecord) ⊎ (reply ≡ Bytes (one 0x01))
    → reply ≡ Refused Device → ⊥
not_refused reply (inl is) fault = absurd (let x = sym is ∙ fault in cc)
not_refused reply (inr is) fault = absurd (let x = sym is ∙ fault in cc)

-- a later session told that it hadn't happened
settled : (on then : Disk) (mid after : Members) (member : Member)
    → SessionStep on (nothing 9 ∷ []) (reopens (store ∷ [])) (StoppedCall []) mid
    → SessionStep then mid (reopens (fetch ∷ [])) (Rested (NoRecord ∷ [])) after
    → Contains after member → member ≡ nothing 9
settled on then mid after member first second among =
    let left = left_of (nothing 9) (reopens (store ∷ []) ∷ []) (StoppedCall [] ∷ [])
    second.1.member
    (record {
      pages = on.pages;
      after = mid;
      sessions = (on, refl, mid, first, refl);
      among = second.1.among;
    }) in
    ⊎_elim
    (λ done. absurd (⊎_elim none_told (not_refused NoRecord (inl refl))
    (told_by then mid after only NoRecord (Bytes (one 0x01)) (Some (one 0x01)) second done has_pair refl
    refl)))
    (λ not_done. rests_left then.at_end second.0 (fetch ∷ []) (NoRecord ∷ []) after second.2 member among
    ∙ sym second.1.begins ∙ ap (opened (reopens []).how) not_done)
    left

pub store_in_doubt : StoreInDoubt
store_in_doubt = record {
  happened = record {
    pages = 8;
    after = pair 9 ∷ [];
    sessions = (
      disk,
      refl,
      doubt,
      stopped_store,
      (
        disk,
        refl,
        pair 9 ∷ [],
        fetches only (Bytes (one 0x01)) one_pair pair_in_doubt refl (ap fetched has_pair),
        refl,
      ),
    );
    among = is_first (pair 9) [] (pair 9) refl;
  };
  not_happened = record {
    pages = 8;
    after = nothing 9 ∷ [];
    sessions = (
      disk,
      refl,
      doubt,
      stopped_store,
      (
        disk,
        refl,
        nothing 9 ∷ [],
        fetches empty NoRecord no_pair nothing_in_doubt refl (ap fetched (get-empty key_cmp (one 0x61))),
        refl,
      ),
    );
    among = is_first (nothing 9) [] (nothing 9) refl;
  };
  broken = record {
    pages = 8;
    after = doubt;
    sessions = (disk, refl, doubt, broken_session, refl);
    among = pair_in_doubt;
  };
  settled = λ member m. settled m.sessions.0 m.sessions.4.0 m.sessions.2 m.sessions.4.2 member
      m.sessions.3 m.sessions.4.3
      (subst (λ (ms : Members). Contains ms member) m.sessions.4.4 m.among);
}

-- what a creation leaves that was cut short, and what the next one begins with
abbrev created : Members
created = NoDatabase ∷ nothing 9 ∷ []

creates_next : (map : Contents) (limit : ℕ) (member : Member) → IsSmall limit → IsPlain map
    → Contains created member → opened (creates 5 []).how member ≡ Holding map (in_v1 limit)
    → SessionStep disk created (creates 5 []) (Rested []) (Holding map (in_v1 limit) ∷ [])
creates_next map limit member small plain among is = (
  at (fresh map (in_v1 limit) true),
  begins created (creates 5 []).how member map limit small plain among is,
  all_answered (at (fresh map (in_v1 limit) true)) (at (fresh map (in_v1 limit) true)) [] [] refl refl refl
      (omega arith),
)

pub creation_in_doubt : CreationInDoubt
creation_in_doubt = record {
  none = record {
    pages = 8;
    after = created;
    sessions = (disk, refl, created, refl, refl);
    among = is_first NoDatabase (nothing 9 ∷ []) NoDatabase refl;
  };
  first = record {
    pages = 8;
    after = nothing 9 ∷ [];
    sessions = (
      disk,
      refl,
      created,
      refl,
      (
        disk,
        refl,
        nothing 9 ∷ [],
        creates_next empty 9 (nothing 9) nine no_pair
            (is_later NoDatabase (nothing 9 ∷ []) (nothing 9)
            (is_first (nothing 9) [] (nothing 9) refl)) refl,
        refl,
      ),
    );
    among = is_first (nothing 9) [] (nothing 9) refl;
  };
  second = record {
    pages = 8;
    after = nothing 5 ∷ [];
    sessions = (
      disk,
      refl,
      created,
      refl,
      (
        disk,
        refl,
        nothing 5 ∷ [],
        creates_next empty 5 NoDatabase five no_pair
            (is_first NoDatabase (nothing 9 ∷ []) NoDatabase refl) refl,
        refl,
      ),
    );
    among = is_first (nothing 5) [] (nothing 5) refl;
  };
  only = λ member m. left_of NoDatabase (creates 9 [] ∷ creates 5 [] ∷ [])
      (StoppedOpening ∷ Rested [] ∷ []) member m;
}

abbrev emptied : Members
emptied = pair 9 ∷ nothing 5 ∷ []

pub emptying_in_doubt : EmptyingInDoubt
emptying_in_doubt = record {
  kept = record {
    pages = 8;
    after = emptied;
    sessions = (disk, refl, emptied, inl (refl, omega arith, refl), refl);
    among = is_first (pair 9) (nothing 5 ∷ []) (pair 9) refl;
  };
  emptied = record {
    pages = 8;
    after = emptied;
    sessions = (disk, refl, emptied, inl (refl, omega arith, refl), refl);
    among = is_later (pair 9) (nothing 5 ∷ []) (nothing 5)
        (is_first (nothing 5) [] (nothing 5) refl);
  };
  only = λ member m. ⊎_elim (λ e. inr e) (λ e. inl e)
      (left_of (pair 9) (empties 5 [] ∷ []) (NotOpened Device ∷ []) member m);
  refused = λ member m. left_of (pair 9) (empties 5 [] ∷ []) (NotOpened BadLimit ∷ []) member m;
}

never_there : (s : State) → NoDatabase ≡ held s → ⊥
never_there s is = absurd (let x = is in cc)

absent : (on : Disk) (after : Members) → SessionStep on (NoDatabase ∷ []) (reopens []) (Rested []) after → ⊥
absent on after session = never_there session.0.state
    (sym (ap (opened (reopens []).how) (in_one NoDatabase session.1.member session.1.among))
    ∙ session.1.begins)

invented : (on : Disk) (after : Members) → SessionStep on (nothing 9 ∷ []) (reopens (fetch ∷ []))
    (Rested (Bytes (one 0x01) ∷ [])) after → ⊥
invented on after session = ⊎_elim (λ e. none_told (sym e))
    (not_refused (Bytes (one 0x01)) (inr refl))
    (told_by on (nothing 9 ∷ []) after empty (Bytes (one 0x01)) NoRecord None session
    (in_one (nothing 9) session.1.member session.1.among) (get-empty key_cmp (one 0x61)) refl refl)

no_pass : (h after : Handle) → ByCase h Next (Refuses NoPass) (Bytes (one 0x61)) after → ⊥
no_pass h after (inl is) = absurd (let x = is.0 in cc)
no_pass h after (inr is) = absurd is

passes : (on : Disk) (after : Members) → SessionStep on (pair 9 ∷ []) (reopens (Next ∷ []))
    (Rested (Bytes (one 0x61) ∷ [])) after → ⊥
passes on after session =
    let next = told_at on (pair 9 ∷ []) after only (Refuses NoPass) Next (Bytes (one 0x61)) session
    (in_one (pair 9) session.1.member session.1.among) (λ capacity. refl) in
    no_pass next.first next.after next.told

pub wrong_sessions : WrongSessions
wrong_sessions = record {
  absent = λ member m. absent m.sessions.0 m.sessions.2 m.sessions.3;
  invented = λ member m. invented m.sessions.0 m.sessions.2 m.sessions.3;
  passes = λ member m. passes m.sessions.0 m.sessions.2 m.sessions.3;
}
