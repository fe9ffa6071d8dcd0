-- Periods of handles that share a file are a chain.
use Rattle.std.proofs.Common.{◌≡◌, ℕ, ◌/◌, ℤ, pos, Bool, true, false, List, [], ◌∷◌, Option, Some, None, refl, sym, ◌∙◌, ap, subst}
use Rattle.dbm_file.specs.Database.{page_state, error_of}
use Rattle.dbm_model.specs.Bounds.{Bounds}
use Rattle.dbm_model.specs.Calls.{Call, Number, Fault, Device}
use Rattle.dbm_model.specs.Pairs.{Contents}
use Rattle.dbm_model.specs.States.{State, NotBegun, Handle, first_fault}
use Rattle.dbm_model.specs.Steps.{Changes, case_of, Step}
use Rattle.dbm_sharing.specs.Anew.{kept_error}
use Rattle.dbm_sharing.specs.Handles.{file_of}
use Rattle.dbm_sharing.specs.Periods.{CutByDevice, CutByDeath, Opened, Replaced}
use Rattle.sect_dev.specs.History.{content_after, content_is_candidate}
use Rattle.ndbm_c.proofs.Beside.{beside, beside_handle, shifted}
use Rattle.ndbm_c.proofs.BesidePasses.{beside_rule}
use Rattle.ndbm_c.proofs.BrokenCalls.{IsChanging, done_changes, made_as_is, cut_by_device}
use Rattle.ndbm_c.proofs.CutCalls.{Cuts, moment_among}
use Rattle.ndbm_c.proofs.HolderLemmas.{AllSound, carried_synced, carried_stands, holds_sound, others_sound}
use Rattle.ndbm_c.proofs.Readying.{IsReadyAt, all_told, makes_step}
use Rattle.ndbm_c.proofs.SharedCalls.{IsPeriodOf, same_shared, has, asked, usable, access, pass_stands, begins, called}
use Rattle.ndbm_c.proofs.Standing.{FileAmong, Only, stands_alone, same_stands, synced_stands}
use Rattle.ndbm_c.proofs.Takings.{IsShortPass, IsHolderSound, IsReadyIn, kept_none, begun_ready}
use Rattle.ndbm_c.specs.Chains.{AreAChain, PeriodsAreAChain}
use Rattle.ndbm_c.specs.Holders.{Holder, SharedFile, own_of, shared_of, IsSynced}
use Rattle.ndbm_c.specs.Periods.{Makes, made_of, IsAsked, newcomer, IsCarriedInPart, IsCut, IsBroken, IsBegun, IsRenamed, FilePeriod, Called, Cut, Broken, Started, Renamed, IsPeriod, Periods}
use Rattle.ndbm_c.specs.declared.handle.Opened as handle
use Rattle.ndbm_calls.specs.Statuses.{IsTold}

-- ---- a handle that has nothing yet

never_behind : IsShortPass NotBegun
never_behind key is = absurd (let x = is in cc)

none_held : {X : Type 0} (o : Option X) (x : X) → o ≡ None → o ≡ Some x → ⊥
none_held o x none some = absurd (let both = sym none ∙ some in cc)

newcomer_sound : (pages : ℕ) (writable : Bool) → IsHolderSound pages (newcomer writable)
newcomer_sound pages writable = record {
  short = never_behind;
  held = λ opened some. absurd (none_held None opened refl some);
}

-- ---- a call was cut short

module _ (sectors : ℕ) (before : SharedFile) (Among : Contents → Bounds → Type 0) (who : ℕ)
    (call : Call) (after : SharedFile) (stands : FileAmong sectors before.past Among)
    (synced : before.is_left ≡ false → IsSynced before.past) (all : AllSound sectors before)
    (asks : IsAsked sectors before who call) (status : ℤ) (bytes : List ℕ) (cut : handle.Opened)
    (makes : Makes (made_of call (before.holders who).pass) status bytes asks.asked cut)
    (part : IsCarriedInPart asks.asked cut after) where
  abbrev own : Holder
  own = before.holders who

  abbrev at_call : IsReadyAt (sectors / 4)
      (has sectors before Among who call stands synced all asks).ready_for.state asks.asked
  at_call = asked sectors before Among who call stands synced all asks

  told_cut : IsTold asks.asked.db cut.db at_call.handle (made_of call own.pass) status bytes
  told_cut = makes_step (made_of call own.pass) status bytes asks.asked cut at_call.handle makes
      at_call.is_at

  abbrev first_cut : Handle
  first_cut = beside_handle asks.error own.pass own.writable at_call.handle

  cut_rule : case_of first_cut call
      ≡ shifted asks.error own.pass own.pass own.writable
      (case_of at_call.handle (made_of call own.pass))
  cut_rule = beside_rule asks.error own.pass own.writable at_call.handle at_call.handle (Number 0) []
      tt (pass_stands sectors before Among who call stands synced all asks) call asks.of_pairs
      (access sectors before Among who call stands synced all asks)

  cut_stands : FileAmong sectors after.past (Cuts first_cut call)
  cut_stands = same_stands after.past part.done part.carried sectors (Cuts first_cut call)
      (moment_among asks.error own.pass own.writable at_call.handle call (made_of call own.pass)
      cut_rule asks.asked cut told_cut.0 part.never part.done (sectors / 4) told_cut.3
      (sym (ap (λ (x : Handle). x.state.usable) at_call.is_at.shows)
      ∙ usable sectors before Among who call stands synced all asks)
      (sym (ap (λ (x : Handle). x.capacity) told_cut.3.is_at.shows)
      ∙ told_cut.3.step.capacity ∙ at_call.size) part.in_order part.within)

  never_even : after.is_left ≡ false → ⊥
  never_even even = absurd (let both = sym part.turn ∙ even in cc)

-- by the death of its program
cut_short : (sectors : ℕ) (before : SharedFile) (Among : Contents → Bounds → Type 0) (who : ℕ)
    (call : Call) (after : SharedFile) → FileAmong sectors before.past Among
    → (before.is_left ≡ false → IsSynced before.past) → AllSound sectors before
    → IsCut sectors before who call after
    → IsPeriodOf sectors before Among (Cut who call) after
cut_short sectors before Among who call after stands synced all is =
    let there = has sectors before Among who call stands synced all is.asks in record {
      map = there.map;
      bounds = there.bounds;
      among = there.among;
      Left = Cuts (first_cut sectors before Among who call after stands synced all is.asks is.status
          is.bytes is.cut is.makes is.carried) call;
      stands = cut_stands sectors before Among who call after stands synced all is.asks is.status
          is.bytes is.cut is.makes is.carried;
      step = λ left within made. (
        CutByDeath who call made.0,
        (made.0, refl),
        record {
          first = first_cut sectors before Among who call after stands synced all is.asks is.status
              is.bytes is.cut is.makes is.carried;
          begins = begins sectors before Among who call stands synced all is.asks;
          left = made.1;
          gone = ap own_of is.gone;
          others = λ other beside. ap own_of (is.others other beside);
        },
      );
      synced = λ even. absurd (never_even sectors before Among who call after stands synced all is.asks
          is.status is.bytes is.cut is.makes is.carried even);
      holders = others_sound sectors who before after all is.others
          (subst (IsHolderSound (sectors / 4)) (sym is.gone)
          (newcomer_sound (sectors / 4) (before.holders who).writable));
    }

-- by the system, which refused what it had listed
module _ (sectors : ℕ) (before : SharedFile) (Among : Contents → Bounds → Type 0) (who : ℕ)
    (call : Call) (after : SharedFile) (stands : FileAmong sectors before.past Among)
    (synced : before.is_left ≡ false → IsSynced before.past) (all : AllSound sectors before)
    (is : IsBroken sectors before who call after) where
  abbrev from : Handle
  from = (at_call sectors before Among who call after stands synced all is.asks (pos 0) is.bytes
      is.cut is.makes is.carried).handle

  abbrev at_first : Handle
  at_first = first_cut sectors before Among who call after stands synced all is.asks (pos 0) is.bytes
      is.cut is.makes is.carried

  abbrev its : Holder
  its = before.holders who

  said : IsTold is.asks.asked.db is.cut.db from (made_of call its.pass) (pos 0) is.bytes
  said = told_cut sectors before Among who call after stands synced all is.asks (pos 0) is.bytes
      is.cut is.makes is.carried

  changing : IsChanging (case_of from call)
  changing = done_changes from said.3.after call said.0 (sym said.1) is.changes
      (subst (λ (c : Call). Step from c said.0 said.3.after) (made_as_is call its.pass is.changes)
      said.3.step)

  broken_rule : case_of at_first call
      ≡ Changes changing.0 (beside is.asks.error its.pass its.writable changing.1)
  broken_rule = cut_rule sectors before Among who call after stands synced all is.asks (pos 0)
      is.bytes is.cut is.makes is.carried
      ∙ ap (λ (c : Call). shifted is.asks.error its.pass its.pass its.writable (case_of from c))
      (made_as_is call its.pass is.changes)
      ∙ ap (shifted is.asks.error its.pass its.pass its.writable) changing.2

  broken_own : own_of (after.holders who) ≡ record {
    error = first_fault at_first.state.error Device;
    pass = at_first.state.pass;
    writable = at_first.state.writable;
  }
  broken_own = ap own_of is.ends
      ∙ ap (λ (e : Option Fault). record { error = e; pass = its.pass; writable = its.writable })
      (kept_none (first_fault (kept_error is.asks.error (error_of is.asks.asked.db)) Device)
      ∙ ap (λ (e : Option Fault). first_fault (kept_error is.asks.error e) Device)
      (sym (ap (λ (x : Handle). x.state.error)
      (at_call sectors before Among who call after stands synced all is.asks (pos 0) is.bytes
      is.cut is.makes is.carried).is_at.shows)))

  abbrev there : IsReadyIn (sectors / 4) Among its is.asks.error is.asks.ready
  there = has sectors before Among who call stands synced all is.asks

  broken : IsPeriodOf sectors before Among (Broken who call) after
  broken = record {
    map = there.map;
    bounds = there.bounds;
    among = there.among;
    Left = Cuts at_first call;
    stands = cut_stands sectors before Among who call after stands synced all is.asks (pos 0)
        is.bytes is.cut is.makes is.carried;
    step = λ left within made. (
      CutByDevice who call made.0,
      (made.0, refl),
      cut_by_device (sectors / 4) (shared_of before there.map there.bounds)
          (shared_of after left within) who call at_first changing.0
          (beside is.asks.error its.pass its.writable changing.1)
          (begins sectors before Among who call stands synced all is.asks) broken_rule broken_own
          (λ other beside. ap own_of (is.others other beside)) made.0 made.1,
    );
    synced = λ even. absurd (never_even sectors before Among who call after stands synced all is.asks
        (pos 0) is.bytes is.cut is.makes is.carried even);
    holders = others_sound sectors who before after all is.others
        (subst (IsHolderSound (sectors / 4)) (sym is.ends) (record {
          short = (all who).short;
          held = λ opened some. absurd (none_held None opened refl some);
        }));
  }

-- ---- an opening, and another file

module _ (sectors : ℕ) (before : SharedFile) (Among : Contents → Bounds → Type 0) (who : ℕ)
    (writable : Bool) (after : SharedFile) (stands : FileAmong sectors before.past Among)
    (synced : before.is_left ≡ false → IsSynced before.past) (all : AllSound sectors before)
    (is : IsBegun sectors before who writable after) where
  started : IsReadyIn (sectors / 4) Among (newcomer writable) None is.ready
  started = begun_ready sectors before.past before.is_left Among stands synced (newcomer writable)
      None is.ready never_behind is.begins refl

  abbrev start : Handle
  start = started.ready_for.at.handle

  start_usable : (page_state is.ready.db).usable ≡ true
  start_usable = sym (ap (λ (x : Handle). x.state.usable) started.ready_for.at.is_at.shows)
      ∙ ap (λ (t : State). t.usable) started.ready_for.at.state ∙ started.ready_for.usable

  start_ends : IsReadyAt (sectors / 4) started.ready_for.state is.last
  start_ends = all_told (sectors / 4) started.ready_for.state is.ready is.telling is.last is.told
      started.ready_for.at

  same_start : Only started.map started.bounds start.state.map start.state.bounds
  same_start = (
    ap (λ (t : State). t.map) started.ready_for.at.state ∙ started.ready_for.map_is,
    ap (λ (t : State). t.bounds) started.ready_for.at.state ∙ started.ready_for.bounds_are,
  )

  no_error : error_of is.last.db ≡ None
  no_error = sym (ap (λ (x : Handle). x.state.error) start_ends.is_at.shows)
      ∙ ap (λ (t : State). t.error) start_ends.state ∙ started.ready_for.error_is

  begun : IsPeriodOf sectors before Among (Started who writable) after
  begun = record {
    map = started.map;
    bounds = started.bounds;
    among = started.among;
    Left = Only start.state.map start.state.bounds;
    stands = carried_stands sectors before is.ready after is.carried start
        started.ready_for.at.is_at start_usable started.ready_for.at.size;
    step = λ left within only. (
      Opened who writable,
      refl,
      record {
        file = ap file_of (same_shared after start.state.map left start.state.bounds within only
            ∙ same_shared after started.map start.state.map started.bounds start.state.bounds
            same_start);
        opened = ap own_of is.ends
            ∙ ap (λ (e : Option Fault). record { error = e; pass = NotBegun; writable = writable })
            no_error;
        others = λ other beside. ap own_of (is.others other beside);
      },
    );
    synced = carried_synced sectors before is.ready after is.carried
        (page_state is.ready.db).writable refl start_usable synced;
    holders = others_sound sectors who before after all is.others
        (subst (IsHolderSound (sectors / 4)) (sym is.ends)
        (holds_sound (sectors / 4) started.ready_for.state None NotBegun writable is.last start_ends
        started.ready_for.stands never_behind));
  }

renamed : (sectors : ℕ) (before : SharedFile) (Among : Contents → Bounds → Type 0)
    (other : Contents) (bound : Bounds) (after : SharedFile)
    → FileAmong sectors before.past Among → AllSound sectors before
    → IsRenamed sectors before other bound after
    → IsPeriodOf sectors before Among (Renamed other bound) after
renamed sectors before Among other bound after stands all is =
    let there = stands (content_after before.past) (content_is_candidate before.past) in record {
      map = there.map;
      bounds = there.bounds;
      among = there.among;
      Left = Only other bound;
      stands = stands_alone sectors after.past other bound is.stands;
      step = λ left within only. (
        Replaced other bound,
        refl,
        record {
          file = ap file_of (same_shared after other left bound within only);
          all_stay = λ who. ap own_of (is.all_stay who);
        },
      );
      synced = λ even. is.synced;
      holders = λ who. subst (IsHolderSound (sectors / 4)) (sym (is.all_stay who)) (all who);
    }

period_is : (sectors : ℕ) (before : SharedFile) (Among : Contents → Bounds → Type 0)
    (period : FilePeriod) (after : SharedFile) → FileAmong sectors before.past Among
    → (before.is_left ≡ false → IsSynced before.past) → AllSound sectors before
    → IsPeriod sectors before period after → IsPeriodOf sectors before Among period after
period_is sectors before Among (Called who call status bytes) after stands synced all is =
    called sectors before Among who call status bytes after stands synced all is
period_is sectors before Among (Cut who call) after stands synced all is =
    cut_short sectors before Among who call after stands synced all is
period_is sectors before Among (Broken who call) after stands synced all is =
    broken sectors before Among who call after stands synced all is
period_is sectors before Among (Started who writable) after stands synced all is =
    begun sectors before Among who writable after stands synced all is
period_is sectors before Among (Renamed other bound) after stands synced all is =
    renamed sectors before Among other bound after stands all is

-- ---- one after another

-- from one of these maps they are a chain
record AreAChainIn (sectors : ℕ) (before : SharedFile) (Among : Contents → Bounds → Type 0)
    (periods : List FilePeriod) (after : SharedFile) : Type 0 where
  pub map : Contents
  pub bounds : Bounds
  pub among : Among map bounds
  pub chain : AreAChain sectors before map bounds periods after

chain_of : (sectors : ℕ) (before after : SharedFile) (Among : Contents → Bounds → Type 0)
    (periods : List FilePeriod) → FileAmong sectors before.past Among
    → (before.is_left ≡ false → IsSynced before.past) → AllSound sectors before
    → Periods sectors before periods after → AreAChainIn sectors before Among periods after
chain_of sectors before after Among [] stands synced all is =
    let there = stands (content_after before.past) (content_is_candidate before.past) in record {
      map = there.map;
      bounds = there.bounds;
      among = there.among;
      chain = subst (λ (f : SharedFile). AreAChain sectors before there.map there.bounds [] f)
          (sym is) (record {
            told = [];
            are_told = tt;
            left = there.map;
            within = there.bounds;
            chain = refl;
            sound = record {
              stands = there.stands;
              all_stand = λ even. synced_stands sectors before.past there.map there.bounds
                  (synced even) there.stands;
              synced = synced;
            };
          });
    }
chain_of sectors before after Among (period ∷ periods) stands synced all is =
    let one = period_is sectors before Among period is.0 stands synced all is.1 in
    let rest = chain_of sectors is.0 after one.Left periods one.stands one.synced one.holders is.2 in
    let step = one.step rest.map rest.bounds rest.among in
    record {
      map = one.map;
      bounds = one.bounds;
      among = one.among;
      chain = record {
        told = step.0 ∷ rest.chain.told;
        are_told = (step.1, rest.chain.are_told);
        left = rest.chain.left;
        within = rest.chain.within;
        chain = (shared_of is.0 rest.map rest.bounds, step.2, rest.chain.chain);
        sound = rest.chain.sound;
      };
    }

pub all_chains : PeriodsAreAChain
all_chains sectors before after map bounds periods sound none is =
    let whole = chain_of sectors before after (Only map bounds) periods
    (stands_alone sectors before.past map bounds (sound.all_stand none.turn)) sound.synced
    (λ who. record {
      short = λ key behind. absurd (let both = sym (none.no_pass who) ∙ behind in cc);
      held = λ opened some. absurd
          (none_held (before.holders who).held opened (none.none who) some);
    }) is in
    subst (λ (m : Contents). AreAChain sectors before m bounds periods after) whole.among.0
    (subst (λ (b : Bounds). AreAChain sectors before whole.map b periods after) whole.among.1
    whole.chain)
