use Rattle.std.proofs.Common.{ℕ, ◌≤◌, ◌+◌, ◌/◌, List, [], ◌∷◌, ◌++◌, All, map, take, refl, sym, ap, ◌∙◌, subst, arith}
use Rattle.std.proofs.lemmas.List.{take-map}
use Rattle.std.proofs.lemmas.List.Elements.{All-nil, All-take}
use Rattle.std.proofs.lemmas.List.Sums.{sum_by-append}
use Rattle.sect_dev.specs.contracts.mem.MemDevSectorDev.TheImpl.{ghosts as MemDevGhosts}
use Rattle.dbm_model.specs.Members.{AllHaveRoom}
use Rattle.dbm_model.specs.SessionRoom.{AsksForRoom, IsNeverShort}
use Rattle.dbm_model.specs.Sessions.{Plan, Sessions}
use Rattle.dbm_model.proofs.SessionRooms.{sessions_keep_room}
use Rattle.dbm_file.proofs.Runs.{all_taken, taken_next, seen_next, seen_last}
use Rattle.rehearsal.specs.Rehearsals.{planned, endings_in, SessionsLeave, AreNeverShort, AreOpenedBut, AsksForALimit, IsSpared, AreCutAsAsked, most_changes}
use Rattle.rehearsal.specs.Sessions.{ending_of}
use Rattle.rehearsal.specs.declared.sessions.Ending.{Ending}
use Rattle.rehearsal.specs.declared.cutting.Stopped.{Stopped}
use Rattle.rehearsal.specs.declared.rehearsing.Stage.{Stage}
use Rattle.rehearsal.proofs.Lists.{none_yet, one_more, all_left, one_of, all_push, opened_push, cut_push, finds_or_makes}
use Rattle.rehearsal.proofs.Rooms.{short_no_more}
use Rattle.rehearsal.proofs.rehearsing.rehearse.Goals as goal

pub loop-stage-init : goal.loop-stage-init
loop-stage-init c = record {
  left = λ before stand.
      let pages = MemDevGhosts.sectors c.args.dev / 4 in
      let candidate = MemDevGhosts.candidate c.args.dev in
      subst (λ (es : List Stopped). SessionsLeave before [] (endings_in es) pages candidate)
      (sym c.new-endings.ensures.items) (none_yet before pages candidate stand);
  size = refl;
  short = λ before stand all asked.
      subst (λ (es : List Stopped). AreNeverShort (endings_in es)) (sym c.new-endings.ensures.items)
      (All-nil (λ (e : Ending). (count : ℕ) → IsNeverShort (ending_of e count)));
  opened = λ before stand all asked limited found.
      subst (λ (es : List Stopped). AreOpenedBut [] (endings_in es))
      (sym c.new-endings.ensures.items) tt;
  cut = subst (AreCutAsAsked []) (sym c.new-endings.ensures.items) tt;
  spared = λ before stand. subst (All IsSpared) (sym c.new-endings.ensures.items) (All-nil IsSpared);
  stops = λ before stand. omega arith;
}

pub loop-stage-preserved : goal.loop-stage-preserved
loop-stage-preserved c = record {
  left = λ before stand.
      let so_far = c.loop-stage.invariant.left before stand in
      let stages = c.args.stages.now in
      let i = c.loop-stage.stage-index in
      let old = c.loop-stage.dev in
      let new = c.in_ok-left.left in
      let one = c.stage-item.result in
      let endings = c.loop-stage.endings.items in
      let stopped = c.in_ok-left.stopped in
      let pages = MemDevGhosts.sectors new / 4 in
      let now = MemDevGhosts.candidate new in
      let next = c.in_ok-left.ensures.leaves so_far.after so_far.stand in
      subst (λ (plans : List Plan).
      SessionsLeave before plans (endings_in c.push.new.self.items) pages now)
      (sym (seen_next planned stages i one c.loop-stage-test.true c.stage-item.is))
      (subst (λ (es : List Ending).
      SessionsLeave before (map planned (take i stages) ++ planned one ∷ []) es pages now)
      (sym (seen_last (λ (s : Stopped). s.ending) endings c.push.new.self.items stopped
      c.in_ok-push.ensures.items))
      (one_more before (map planned (take i stages)) (endings_in endings) (planned one)
      stopped.ending (MemDevGhosts.sectors old / 4) pages (MemDevGhosts.candidate old) now
      so_far c.in_ok-left.ensures.size next));
  size = c.in_ok-left.ensures.size ∙ c.loop-stage.invariant.size;
  short = λ before stand all asked.
      let so_far = c.loop-stage.invariant.left before stand in
      let stages = c.args.stages.now in
      let i = c.loop-stage.stage-index in
      let endings = c.loop-stage.endings.items in
      let stopped = c.in_ok-left.stopped in
      let pages = MemDevGhosts.sectors c.args.dev / 4 in
      let first = subst (All (AsksForRoom pages)) (take-map planned i stages)
      (All-take (AsksForRoom pages) i (map planned stages) asked) in
      let room = sessions_keep_room pages before so_far.after (map planned (take i stages))
      so_far.told all first
      (subst (λ (n : ℕ). Sessions n before (map planned (take i stages)) so_far.told so_far.after)
      c.loop-stage.invariant.size so_far.sessions) in
      let one = c.in_ok-left.ensures.room so_far.after so_far.stand
      (subst (λ (n : ℕ). AllHaveRoom n so_far.after) (sym c.loop-stage.invariant.size) room) in
      subst AreNeverShort
      (sym (seen_last (λ (s : Stopped). s.ending) endings c.push.new.self.items stopped
      c.in_ok-push.ensures.items))
      (short_no_more (endings_in endings) stopped.ending
      (c.loop-stage.invariant.short before stand all asked) one);
  opened = λ before stand all asked limited found.
      let so_far = c.loop-stage.invariant.left before stand in
      let stages = c.args.stages.now in
      let i = c.loop-stage.stage-index in
      let one = c.stage-item.result in
      let endings = c.loop-stage.endings.items in
      let stopped = c.in_ok-left.stopped in
      let pages = MemDevGhosts.sectors c.args.dev / 4 in
      let next = MemDevGhosts.sectors c.loop-stage.dev / 4 in
      let first = subst (All (AsksForRoom pages)) (take-map planned i stages)
      (All-take (AsksForRoom pages) i (map planned stages) asked) in
      let room = sessions_keep_room pages before so_far.after (map planned (take i stages))
      so_far.told all first
      (subst (λ (n : ℕ). Sessions n before (map planned (take i stages)) so_far.told so_far.after)
      c.loop-stage.invariant.size so_far.sessions) in
      let lt = c.loop-stage-test.true in
      let is = c.stage-item.is in
      let due = one_of (AsksForRoom pages) planned stages i one lt is asked in
      let same = sym c.loop-stage.invariant.size in
      let opens = c.in_ok-left.ensures.reopens so_far.after so_far.stand
      (subst (λ (n : ℕ). AllHaveRoom n so_far.after) same room)
      (subst (λ (n : ℕ). AsksForRoom n (planned one)) same due)
      (one_of AsksForALimit planned stages i one lt is limited)
      (finds_or_makes next before so_far.after (map planned (take i stages)) so_far.told stages i
      one lt is found so_far.sessions) in
      subst (λ (plans : List Plan). AreOpenedBut plans (endings_in c.push.new.self.items))
      (sym (seen_next planned stages i one lt is))
      (subst (AreOpenedBut (map planned (take i stages) ++ planned one ∷ []))
      (sym (seen_last (λ (s : Stopped). s.ending) endings c.push.new.self.items stopped
      c.in_ok-push.ensures.items))
      (opened_push (map planned (take i stages)) (endings_in endings) (planned one) stopped.ending
      (c.loop-stage.invariant.opened before stand all asked limited found) opens));
  cut =
      let stages = c.args.stages.now in
      let i = c.loop-stage.stage-index in
      let one = c.stage-item.result in
      subst (λ (made : List Stage). AreCutAsAsked made c.push.new.self.items)
      (sym (taken_next stages i one c.loop-stage-test.true c.stage-item.is))
      (subst (AreCutAsAsked (take i stages ++ one ∷ [])) (sym c.in_ok-push.ensures.items)
      (cut_push (take i stages) c.loop-stage.endings.items one c.in_ok-left.stopped
      c.loop-stage.invariant.cut c.in_ok-left.ensures.cut));
  spared = λ before stand.
      let so_far = c.loop-stage.invariant.left before stand in
      subst (All IsSpared) (sym c.in_ok-push.ensures.items)
      (all_push IsSpared c.loop-stage.endings.items c.in_ok-left.stopped
      (c.loop-stage.invariant.spared before stand)
      (c.in_ok-left.ensures.spared so_far.after so_far.stand));
  stops = λ before stand.
      let so_far = c.loop-stage.invariant.left before stand in
      let stages = c.args.stages.now in
      let i = c.loop-stage.stage-index in
      let one = c.stage-item.result in
      omega (
        arith,
        c.loop-stage.invariant.stops before stand,
        c.in_ok-left.ensures.stops so_far.after so_far.stand,
        ap most_changes (taken_next stages i one c.loop-stage-test.true c.stage-item.is),
        sum_by-append (λ (stage : Stage). stage.device_calls + 1) (take i stages) (one ∷ []),
      );
}

pub returns-clause-leaves : goal.returns-clause-leaves
returns-clause-leaves c before stand =
    let left = c.loop-stage.dev in
    subst (λ (stages : List Stage). SessionsLeave before (map planned stages)
    (endings_in c.loop-stage.endings.items) (MemDevGhosts.sectors left / 4)
    (MemDevGhosts.candidate left))
    (all_taken c.args.stages.now c.loop-stage.stage-index
    (omega (arith, c.loop-stage-test.false)))
    (c.loop-stage.invariant.left before stand)

pub returns-clause-stays : goal.returns-clause-stays
returns-clause-stays c before stand =
    let left = c.loop-stage.dev in
    all_left before (map planned c.args.stages.now) (endings_in c.loop-stage.endings.items)
    (MemDevGhosts.sectors left / 4) (MemDevGhosts.candidate left)
    (returns-clause-leaves c before stand)

pub returns-clause-reopens : goal.returns-clause-reopens
returns-clause-reopens c before stand all asked limited found =
    subst (λ (stages : List Stage).
    AreOpenedBut (map planned stages) (endings_in c.loop-stage.endings.items))
    (all_taken c.args.stages.now c.loop-stage.stage-index
    (omega (arith, c.loop-stage-test.false)))
    (c.loop-stage.invariant.opened before stand all asked limited found)

pub returns-clause-cut : goal.returns-clause-cut
returns-clause-cut c =
    subst (λ (stages : List Stage). AreCutAsAsked stages c.loop-stage.endings.items)
    (all_taken c.args.stages.now c.loop-stage.stage-index
    (omega (arith, c.loop-stage-test.false)))
    c.loop-stage.invariant.cut

pub returns-clause-stops : goal.returns-clause-stops
returns-clause-stops c before stand =
    subst (λ (stages : List Stage). (MemDevGhosts.moment c.loop-stage.dev).at
    ≤ (MemDevGhosts.moment c.args.dev).at + most_changes stages)
    (all_taken c.args.stages.now c.loop-stage.stage-index (omega (arith, c.loop-stage-test.false)))
    (c.loop-stage.invariant.stops before stand)
