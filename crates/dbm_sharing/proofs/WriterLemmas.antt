-- One period of a writer, as a session.
use Rattle.std.proofs.Common.{◌≡◌, inl, inr, ◌≤◌, ◌*◌, ℕ, Bool, true, false, refl, sym, ◌∙◌, ap, subst, arith, None, [], ◌∷◌, Contains}
use Rattle.std.specs.FinMap.{len}
use Rattle.dbm_model.specs.Calls.{Call, Reply, Refused, Device, is_acknowledged}
use Rattle.dbm_model.specs.FaultCount.{MoreFaults}
use Rattle.dbm_model.specs.Holding.{IsWithin}
use Rattle.dbm_model.specs.Members.{Member, Members, held}
use Rattle.dbm_model.specs.Sizes.{home}
use Rattle.dbm_model.specs.Sessions.{Ending, Disk, Begins, Rested, StoppedCall, Broke, CutShort, left_by, SessionStep}
use Rattle.dbm_model.specs.States.{State, NotBegun, Handle, fresh, flagged}
use Rattle.dbm_model.specs.Steps.{Case, Tells, Refuses, Declines, Finds, Passes, Changes, Suffers, Step, case_for, case_of, usable_case}
use Rattle.dbm_model.proofs.Cuts.{broken_leaves}
use Rattle.dbm_model.proofs.Lists.{is_first, is_later}
use Rattle.dbm_model.proofs.RefusalLemmas.{refuses_where_due}
use Rattle.dbm_sharing.specs.Changes.{IsChange}
use Rattle.dbm_sharing.specs.Handles.{Shared, state_of, file_of, IsHandleAt}
use Rattle.dbm_sharing.specs.Periods.{IsLeft, IsAnswered, IsCutByDevice, IsCutByDeath}
use Rattle.dbm_sharing.specs.Writers.{of_one_call}
use Rattle.dbm_sharing.proofs.Cuts.{made_by, said_is}
use Rattle.dbm_sharing.proofs.PeriodLemmas.{room_of, answers_in, file_cut_by_device, none_made}
use Rattle.dbm_sharing.proofs.Rules.{told, at, alike, moved, read_only, change_moves, is_change, run_step}

-- ---- the first handle of a session

-- of a database that was just opened
abbrev start : Shared → State
start s = fresh s.map s.bounds true

abbrev opened_by : Shared → Handle → Handle
opened_by s h = record h { state = start s }

abbrev disk_from : ℕ → ℕ → ℕ → Disk
disk_from pages at_start at_end =
    record { pages = pages; at_start = at_start; at_end = at_end }

opens : (pages at_end : ℕ) (members : Members) (s : Shared) (who : ℕ) (call : Call) (h : Handle)
    → IsHandleAt pages (state_of s who) h → Contains members (file_of s)
    → Begins (disk_from pages h.faults at_end) members (of_one_call call).how (opened_by s h)
opens pages at_end members s who call h is among = record {
  member = file_of s;
  among = among;
  begins = refl;
  is_fresh = refl;
  is_on = record {
    capacity = room_of pages (state_of s who) h is;
    counts = omega arith;
    limited = subst (λ (t : State). (1 ≤ t.bounds.limit) × (t.bounds.limit ≤ 1000000)) is.state
        is.is_on.limited;
    within =
        let within = subst IsWithin is.state is.is_on.within in
        record { few = within.few; allowed = λ key content has. within.allowed key content has };
    light = subst (λ (t : State). len t.map ≤ 8 * h.buckets) is.state is.is_on.light;
    few_pages = subst (λ (t : State). h.pages ≤ home t.bounds) is.state is.is_on.few_pages;
  };
}

-- ---- what one session leaves

-- a session from these members, and a member of what it leaves
pub record OneSession (pages : ℕ) (members : Members) (call : Call) (ending : Ending) (file : Member)
    : Type 0 where
  pub disk : Disk
  pub size : disk.pages ≡ pages
  pub left : Members
  pub step : SessionStep disk members (of_one_call call) ending left
  pub among : Contains left file

pub answered_session : (pages : ℕ) (members : Members) (before after : Shared) (who : ℕ) (call : Call)
    (reply : Reply) → IsAnswered pages before who call reply after → is_acknowledged reply ≡ true
    → Contains members (file_of before)
    → OneSession pages members call (Rested (reply ∷ [])) (file_of after)
answered_session pages members before after who call reply is done among =
    let one = before.own who in
    let well = told reply done in
    let answers = answers_in pages before after who call reply is well in
    let changed = change_moves pages before.map before.bounds one.error None one.pass NotBegun
    one.writable call reply (state_of after who)
    (is_change pages (state_of before who) (state_of after who) call reply done answers) well answers in
    let next = run_step pages (opened_by before is.first) (start before)
    (record (start before) { map = after.map; bounds = after.bounds }) call reply refl
    (room_of pages (state_of before who) is.first is.begins) changed in
    let file : file_of after ≡ held next.0.state = sym (ap held next.1) in
    record {
      disk = disk_from pages is.first.faults next.0.faults;
      size = refl;
      left = held next.0.state ∷ [];
      step = (
        opened_by before is.first,
        opens pages next.0.faults members before who call is.first is.begins among,
        record {
          goes = record {
            made = call ∷ [];
            later = [];
            calls_are = refl;
            last = next.0;
            run = (next.0, next.4, refl);
            usable = ap (λ (s : State). s.usable) next.1;
            counts = omega arith;
          };
          left = refl;
        },
      );
      among = is_first (held next.0.state) [] (file_of after) file;
    }

-- ---- calls that were cut short

-- the rule of a change, at the state of a database that was just opened
change_rule : (pages : ℕ) (s : Shared) (who : ℕ) (call : Call) (said : Reply) (next : State)
    → IsChange call → usable_case pages (state_of s who) call ≡ Changes said next
    → usable_case pages (start s) call
    ≡ Changes said (record (start s) { map = next.map; bounds = next.bounds })
change_rule pages s who call said next changing is = by_access (s.own who).writable refl
  where
    by_access : (b : Bool) → (s.own who).writable ≡ b → usable_case pages (start s) call
        ≡ Changes said (record (start s) { map = next.map; bounds = next.bounds })
    by_access true access =
        alike pages s.map s.bounds (s.own who).error None (s.own who).pass NotBegun call changing
        ∙ ap (moved (start s))
        (sym (ap (λ (b : Bool). usable_case pages
        (at s.map s.bounds (s.own who).error (s.own who).pass b) call) access) ∙ is)
    by_access false access = absurd (let refused =
        sym (read_only pages s.map s.bounds (s.own who).error (s.own who).pass call changing)
        ∙ sym (ap (λ (b : Bool). usable_case pages
        (at s.map s.bounds (s.own who).error (s.own who).pass b) call) access) ∙ is in cc)

-- the same at its handle
rule_at : (pages : ℕ) (s : Shared) (who : ℕ) (call : Call) (h : Handle) (said : Reply)
    (next : State) → IsHandleAt pages (state_of s who) h → case_of h call ≡ Changes said next
    → case_of (opened_by s h) call
    ≡ Changes said (record (start s) { map = next.map; bounds = next.bounds })
rule_at pages s who call h said next is rule =
    let here : case_for pages (state_of s who) call ≡ Changes said next =
    subst (λ (n : ℕ). case_for n (state_of s who) call ≡ Changes said next)
    (room_of pages (state_of s who) h is)
    (subst (λ (t : State). case_for h.capacity t call ≡ Changes said next) is.state rule) in
    subst (λ (n : ℕ). case_for n (start s) call
    ≡ Changes said (record (start s) { map = next.map; bounds = next.bounds }))
    (sym (room_of pages (state_of s who) h is))
    (change_rule pages s who call said next
    (said_is pages (state_of s who) call said next here).1 here)

old_left : (s : State) (c : Case) (m : Member) → m ≡ held s → Contains (left_by s c) m
old_left s (Tells said left) m is = is_first (held s) [] m is
old_left s (Refuses fault) m is = is_first (held s) [] m is
old_left s (Declines fault) m is = is_first (held s) [] m is
old_left s (Finds found) m is = is_first (held s) [] m is
old_left s (Passes from) m is = is_first (held s) [] m is
old_left s (Changes said next) m is = is_first (held s) (held next ∷ []) m is

-- what is left of a call that was cut short is among what a session leaves that was stopped there
cut_left : (pages : ℕ) (s : Shared) (who : ℕ) (call : Call) (made : Bool) (h : Handle)
    (left : Member) → IsHandleAt pages (state_of s who) h
    → IsLeft made h.state (case_of h call) left
    → Contains (left_by (start s) (case_of (opened_by s h) call)) left
cut_left pages s who call false h left begins is =
    old_left (start s) (case_of (opened_by s h) call) left
    (none_made pages s who h (case_of h call) left begins is)
cut_left pages s who call true h left begins is =
    let by = made_by h.state (case_of h call) left is in
    let next = record (start s) { map = by.1.map; bounds = by.1.bounds } in
    subst (λ (c : Case). Contains (left_by (start s) c) left)
    (sym (rule_at pages s who call h by.0 by.1 begins by.2))
    (is_later (held (start s)) (held next ∷ []) left (is_first (held next) [] left by.3))

-- a session that was stopped within its call
abbrev stopped : (pages at_end : ℕ) (s : Shared) (call : Call) (h : Handle) → h.faults ≤ at_end
    → CutShort at_end (opened_by s h) (call ∷ []) []
    (left_by (start s) (case_of (opened_by s h) call))
stopped pages at_end s call h counts = record {
  goes = record {
    made = [];
    later = call ∷ [];
    calls_are = refl;
    last = opened_by s h;
    run = refl;
    usable = refl;
    counts = counts;
  };
  call = call;
  rest = [];
  next = refl;
  left = refl;
}

pub death_session : (pages : ℕ) (members : Members) (before after : Shared) (who : ℕ) (call : Call)
    (made : Bool) → IsCutByDeath pages before who call made after
    → Contains members (file_of before)
    → OneSession pages members call (StoppedCall []) (file_of after)
death_session pages members before after who call made is among = record {
  disk = disk_from pages is.first.faults is.first.faults;
  size = refl;
  left = left_by (start before) (case_of (opened_by before is.first) call);
  step = (
    opened_by before is.first,
    opens pages is.first.faults members before who call is.first is.begins among,
    stopped pages is.first.faults before call is.first (omega arith),
  );
  among = cut_left pages before who call made is.first (file_of after) is.begins is.left;
}

-- what leaves two members is a change
pub is_changing_rule : (s : State) (c : Case) (m n : Member) → left_by s c ≡ m ∷ n ∷ [] →
    (said : Reply) × (next : State) × (c ≡ Changes said next)
is_changing_rule s (Tells said left) m n is = absurd (let x = is in cc)
is_changing_rule s (Refuses fault) m n is = absurd (let x = is in cc)
is_changing_rule s (Declines fault) m n is = absurd (let x = is in cc)
is_changing_rule s (Finds found) m n is = absurd (let x = is in cc)
is_changing_rule s (Passes from) m n is = absurd (let x = is in cc)
is_changing_rule s (Changes said next) m n is = (said, next, refl)

-- a handle that breaks in its first call
breaks_at : (s : Shared) (call : Call) (h : Handle) (faults : ℕ) (said : Reply) (next : State)
    → case_of (opened_by s h) call ≡ Changes said next → h.faults ≤ faults
    → MoreFaults h.faults faults → (broken : Handle) × (broken.faults ≡ faults)
    × (broken.state.usable ≡ false) × Step (opened_by s h) call (Refused Device) broken
breaks_at s call h faults said next rule counts more =
    let broken : Handle = record h {
      state = record (flagged Device (start s)) { usable = false };
      faults = faults;
    } in (
      broken,
      refl,
      refl,
      record {
        counts = counts;
        capacity = refl;
        pages = (omega arith, omega arith);
        bounded = inl refl;
        buckets = omega arith;
        answers = inr (subst
            (λ (c : Case). Suffers (opened_by s h) call c (Refused Device) broken) (sym rule)
            (inr (inl (refl, more, start s, inl refl, refl))));
      },
    )

pub device_session : (pages : ℕ) (members : Members) (before after : Shared) (who : ℕ) (call : Call)
    (made : Bool) → IsCutByDevice pages before who call made after
    → Contains members (file_of before)
    → OneSession pages members call (Broke (Refused Device ∷ [])) (file_of after)
device_session pages members before after who call made is among =
    let h = is.first in
    let change = is_changing_rule h.state (case_of h call) _ _
    (broken_leaves h is.broken call (Refused Device) is.step
    (ap (λ (s : State). s.usable) is.begins.state) is.breaks) in
    let most = is.broken.faults in
    let breaks = breaks_at before call h most change.0
    (record (start before) { map = change.1.map; bounds = change.1.bounds })
    (rule_at pages before who call h change.0 change.1 is.begins change.2) is.step.counts
    (refuses_where_due h is.broken call Device is.step).1 in
    record {
      disk = disk_from pages h.faults most;
      size = refl;
      left = left_by (start before) (case_of (opened_by before h) call);
      step = (
        opened_by before h,
        opens pages most members before who call h is.begins among,
        record {
          answered = [];
          refused = [];
          replies_are = refl;
          cut = stopped pages most before call h is.step.counts;
          broken = breaks.0;
          step = breaks.3;
          breaks = breaks.2;
          then_made = [];
          never_made = [];
          rest_is = refl;
          last = breaks.0;
          run = refl {a = breaks.0};
          counts = omega (arith, breaks.1);
        },
      );
      among = subst (Contains (left_by (start before) (case_of (opened_by before h) call)))
          (sym (file_cut_by_device pages before after who call made is))
          (cut_left pages before who call made h (held is.broken.state) is.begins is.left);
    }
