use Rattle.std.proofs.Common.{◌≡◌, ◌≢◌, ◌≤◌, ◌/◌, ℕ, true, [], ◌∷◌, inl, ⊎_elim, length, map, take, Result, IfOk, IfErr, refl, sym, ◌∙◌, ap, subst, arith}
use Rattle.std.proofs.lemmas.Bool.{false≢true}
use Rattle.std.proofs.lemmas.List.Elements.{All-nil}
use Rattle.std.specs.Result.{result_unwrap_or}
use Rattle.sect_dev.specs.Device.{LeavesOnly, MoreFaults}
use Rattle.sect_dev.specs.Moments.{IsOutcome, followed_by, weaker}
use Rattle.dbm_file.specs.Pairs.{pair_of}
use Rattle.dbm_model.specs.Calls.{Reply, Refused, NoRoom}
use Rattle.dbm_model.specs.States.{Handle}
use Rattle.dbm_model.proofs.RoomLemmas.{room_is_known}
use Rattle.page_io.specs.Meaning.{ImageStandsFor}
use Rattle.dbm_model.specs.Sessions.{Ending, Rested, Broke, Grouped, BrokeGroup}
use Rattle.dbm_model.specs.Members.{held}
use Rattle.dbm_model.specs.SessionRoom.{IsNeverShort}
use Rattle.dbm_model.proofs.Failures.{counts_up}
use Rattle.dbm_model.proofs.Lists.{is_first, is_later}
use Rattle.redo_area.specs.File.{settled}
use Rattle.redo_area.specs.Pagers.{device_of}
use Rattle.page_cache.specs.Stores.{store_below}
use Rattle.dbm_fault.specs.declared.fault.Fault.{Fault}
use Rattle.dbm_fault.specs.declared.fault.Fault.TheVariants.{Device}
use Rattle.dbm_file.specs.Calls.{call_of, reply_of}
use Rattle.dbm_file.specs.Database.{page_state, IsAt}
use Rattle.dbm_file.specs.Held.{Held}
use Rattle.dbm_file.specs.Opened.{device_below}
use Rattle.dbm_file.proofs.Closings.{lower, left_now}
use Rattle.dbm_file.proofs.OpenedFiles.{stands_for}
use Rattle.rehearsal.specs.Members.{StandsForOne, AllStandFor}
use Rattle.rehearsal.specs.Positions.{IfMade, MadeInSteps}
use Rattle.rehearsal.specs.Sessions.{ending_of, IsOneEach, IfGrouped, replies_in, CallsLeave, IsLeftByCalls}
use Rattle.rehearsal.proofs.Moments.{left_within, left_unmade}
use Rattle.rehearsal.proofs.Endings.{none_made, which_ending, by_ending, broke}
use Rattle.rehearsal.proofs.Groups.{by_device, stored_group, broken_group, grouped, doubted, cut_short, doubted_one, left_in_group, left_grouped, group_moments, group_stands, none_or_all, same_settles}
use Rattle.rehearsal.proofs.sessions.make_calls.Goals as goal

-- ---- no call was made

pub returns-in_default-clause-leaves : goal.returns-in_default-clause-leaves
returns-in_default-clause-leaves g c honest h at usable =
    let dev = g.D.SectorDev in
    let same = c.in_default.ensures.memory.1 in
    let now = subst (λ db. IsAt db h) (sym same) at in
    let told : h.faults ≡ dev.faults (device_below c.run.new.db) =
    ap (λ (x : Handle). x.faults) now.shows in
    let still = c.close.ensures.honesty.1 (subst g.D.SectorDev.honest
    (sym (ap (λ db. device_below db) same)) honest) in (
      0,
      record {
        after = held h.state ∷ [];
        goes = none_made (dev.faults c.close.result.0) h (map call_of c.args.calls.now) usable
            (omega (arith, told, c.close.ensures.later));
        stand = λ image is. (
          held h.state,
          is_first (held h.state) [] (held h.state) refl,
          c.close.ensures.stands still h now usable image is,
        );
      },
    )

pub returns-in_default-clause-any_moment : goal.returns-in_default-clause-any_moment
returns-in_default-clause-any_moment g c honest h at usable =
    let dev = g.D.SectorDev in
    let calls = map call_of c.args.calls.now in
    let group = map pair_of c.args.group.now in
    let same = c.in_default.ensures.memory.1 in
    let now = subst (λ db. IsAt db h) (sym same) at in
    let new = c.run.new.db in
    let most = dev.faults c.close.result.0 in
    let told : h.faults ≡ dev.faults (device_below new) =
    ap (λ (x : Handle). x.faults) now.shows in
    let few : h.faults ≤ most = omega (arith, told, c.close.ensures.later) in
    let still = subst dev.honest (sym (ap (λ db. device_below db) same)) honest in (
      0,
      subst (λ db. LeavesOnly dev.moment
          (IsOutcome dev.left_since (settled (dev.sectors (device_below db) / 4))) (device_below db)
          c.close.result.0 (IsLeftByCalls most h calls group (Rested []))) same
          (weaker dev.moment
          (IsOutcome dev.left_since (settled (dev.sectors (device_below new) / 4)))
          (device_below new) c.close.result.0 (IsLeftByCalls most h calls group (Rested [])) _
          (c.close.ensures.any_moment still)
          (λ y left. left_unmade most h calls group usable few y
          (stands_for _ new h y now usable left))),
    )

pub returns-in_default-clause-later : goal.returns-in_default-clause-later
returns-in_default-clause-later g c =
    let dev = g.D.SectorDev in
    let same : dev.faults (device_below c.args.db) ≡ dev.faults (device_below c.run.new.db) =
    sym (ap (λ db. dev.faults (device_below db)) c.in_default.ensures.memory.1) in
    omega (arith, same, c.close.ensures.later)

pub returns-in_default-clause-room : goal.returns-in_default-clause-room
returns-in_default-clause-room g c honest h at room count =
    All-nil (λ (reply : Reply). reply ≢ Refused NoRoom)

-- ---- all were made

pub returns-clause-leaves : goal.returns-clause-leaves
returns-clause-leaves g c honest h at usable =
    let dev = g.D.SectorDev in
    let closed = c.close-dev.ensures in
    let left = c.close-dev.result.0 in
    let mid = c.run.new.db in
    let new = c.store_many-stored.new.self in
    let stored = c.store_many-stored.result in
    let calls = map call_of c.args.calls.now in
    let group = map pair_of c.args.group.now in
    let replies = map reply_of c.in-Ok.replies.items in
    let run = c.in-Ok.ensures.run honest h at in
    let still = c.in-Ok.ensures.goes.honesty.1 honest in
    let more = c.store_many-stored.ensures in
    let then = more.keeps.goes.honesty.1 still in
    let last = run.after in
    let ends = more.ends still last run.is_at in
    let all = ap (λ (x : Handle). x.state.usable) run.is_at.shows in
    let most = dev.faults left in
    let told : last.faults ≡ dev.faults (device_below mid) =
    ap (λ (x : Handle). x.faults) run.is_at.shows in
    let then_more : dev.faults (device_below mid) ≤ dev.faults (device_below new) =
    more.keeps.goes.later in
    let few : last.faults ≤ most = omega (arith, told, then_more, closed.later) in
    by_ending (page_state mid).usable (page_state new).usable stored c.close-dev.result.1
    c.session_ending.result c.in-Ok.replies more.keeps.broken closed.broken c.session_ending.ensures.rested
    c.session_ending.ensures.failed c.session_ending.ensures.broke_group c.session_ending.ensures.broke
    (λ (e : Ending). CallsLeave most h calls group e (dev.sectors left / 4) (dev.candidate left))
    (λ was now. let one = stored_group _ mid new last group stored ends now in
    let shown : one.shown.faults ≡ dev.faults (device_below new) =
    ap (λ (x : Handle). x.faults) one.is_at.shows in record {
      after = held one.done.state ∷ [];
      goes = grouped most h last calls group replies run.run (all ∙ was) few _ one.done one.run
          (omega (arith, one.counts.1, shown, closed.later));
      stand = λ image is. (
        held one.done.state,
        is_first (held one.done.state) [] (held one.done.state) refl,
        subst (λ (x : Held). ImageStandsFor (settled (dev.sectors left / 4) image) x.map x.bounds)
            one.same
            (closed.stands (closed.honesty.1 then) one.shown one.is_at
            (ap (λ (x : Handle). x.state.usable) one.is_at.shows ∙ now) image is),
      );
    })
    (λ was now.
    let one = broken_group _ mid new last group stored ends more.keeps.breaks was (all ∙ was) now in
    let shown : one.after.faults ≡ dev.faults (device_below new) =
    ap (λ (x : Handle). x.faults) one.is_at.shows in
    let asked : one.broken.stored.faults ≤ most =
    omega (arith, one.broken.counts, shown, closed.later) in
    let rises : MoreFaults h.faults most = omega (
      arith,
      counts_up h last calls replies run.run,
      one.broken.breaks.1,
      shown,
      closed.later,
    ) in
    let members = doubted most h last calls group replies run.run (all ∙ was) few one.count
    one.broken.stored one.broken.run asked in
    let lowered = lower dev (λ cached. device_of (store_below cached)) mid.store new.store _
    (StandsForOne members) more.keeps.goes.capacity one.survives
    (λ y some. doubted_one most h last calls group replies run.run (all ∙ was) few one.count
    one.broken.stored one.broken.run asked y some) in (
      one.count,
      record {
        after = members;
        goes = (
          cut_short most h last calls group replies run.run (all ∙ was) few one.count
              one.broken.stored one.broken.run asked,
          rises,
        );
        stand = subst (λ d. AllStandFor members (dev.sectors d / 4) (dev.candidate d))
            (sym (closed.untouched (inl now)))
            (λ image is. left_now dev (device_below mid) (device_below new) (StandsForOne members)
            image more.keeps.goes.capacity lowered
            (λ later. g.met.D.SectorDev.counts_now (device_below new)
            (dev.moment (device_below mid)).at image then later is));
      },
    ))
    (λ broken. broke c.args.db mid h calls group replies (dev.sectors left / 4) (dev.candidate left)
    most at usable run few broken
    (λ image is. same_settles _ mid new (settled (dev.sectors left / 4) image)
    (more.keeps.goes.still broken) (closed.settles then image is)))

pub returns-clause-any_moment : goal.returns-clause-any_moment
returns-clause-any_moment g c honest h at usable =
    let dev = g.D.SectorDev in
    let closed = c.close-dev.ensures in
    let left = c.close-dev.result.0 in
    let old = c.args.db in
    let mid = c.run.new.db in
    let new = c.store_many-stored.new.self in
    let stored = c.store_many-stored.result in
    let calls = map call_of c.args.calls.now in
    let group = map pair_of c.args.group.now in
    let replies = map reply_of c.in-Ok.replies.items in
    let run = c.in-Ok.ensures.run honest h at in
    let goes = c.in-Ok.ensures.goes in
    let still = goes.honesty.1 honest in
    let more = c.store_many-stored.ensures in
    let then = more.keeps.goes.honesty.1 still in
    let last = run.after in
    let ends = more.ends still last run.is_at in
    let all = ap (λ (x : Handle). x.state.usable) run.is_at.shows in
    let most = dev.faults left in
    let told : last.faults ≡ dev.faults (device_below mid) =
    ap (λ (x : Handle). x.faults) run.is_at.shows in
    let then_more : dev.faults (device_below mid) ≤ dev.faults (device_below new) =
    more.keeps.goes.later in
    let few : last.faults ≤ most = omega (arith, told, then_more, closed.later) in
    let Left = IsLeftByCalls most h calls group in
    let pages : ℕ = dev.sectors (device_below old) / 4 in
    let outcome = λ (n : ℕ). IsOutcome dev.left_since (settled n) in
    let within = λ (e : Ending) (same : replies_in e ≡ replies).
    lower dev (λ cached. device_of (store_below cached)) old.store mid.store _ (Left e)
    goes.capacity (run.survives (sym (ap (λ (x : Handle). x.state.usable) at.shows) ∙ usable))
    (left_within most h last calls group replies e same usable few) in
    by_ending (page_state mid).usable (page_state new).usable stored c.close-dev.result.1
    c.session_ending.result c.in-Ok.replies more.keeps.broken closed.broken c.session_ending.ensures.rested
    c.session_ending.ensures.failed c.session_ending.ensures.broke_group c.session_ending.ensures.broke
    (λ (e : Ending). LeavesOnly dev.moment (outcome pages) (device_below old) left (Left e))
    (λ was now.
    let one = stored_group _ mid new last group stored ends now in
    let told = Grouped replies (result_unwrap_or stored 0) in
    let shown = ap (λ (x : Handle). x.state.usable) one.is_at.shows ∙ now in
    let rose : one.shown.faults ≡ dev.faults (device_below new) =
    ap (λ (x : Handle). x.faults) one.is_at.shows in
    followed_by dev.moment (outcome pages) (device_below old) (device_below new) left (Left told)
    (Left told)
    (followed_by dev.moment (outcome pages) (device_below old) (device_below mid) (device_below new)
    (Left told) (Left told) (within told refl)
    (subst (λ (n : ℕ). LeavesOnly dev.moment (outcome n) (device_below mid) (device_below new)
    (Left told)) goes.capacity
    (lower dev (λ cached. device_of (store_below cached)) mid.store new.store _ (Left told)
    more.keeps.goes.capacity
    (group_moments most h last calls group replies run.run (all ∙ was) few _ mid new stored ends was
    now closed.later) (λ y is. is))) (λ y is. is))
    (subst (λ (n : ℕ). LeavesOnly dev.moment (outcome n) (device_below new) left (Left told))
    (more.keeps.goes.capacity ∙ goes.capacity)
    (weaker dev.moment (outcome (dev.sectors (device_below new) / 4)) (device_below new) left
    (Left told) _ (closed.any_moment then)
    (λ y may. left_grouped most h last calls group replies run.run (all ∙ was) few
    (result_unwrap_or stored 0) one.done y one.run (omega (arith, one.counts.1, rose, closed.later))
    (subst (λ (x : Held). ImageStandsFor y x.map x.bounds) one.same
    (stands_for _ new one.shown y one.is_at shown may))))) (λ y is. is))
    (λ was now.
    let one = broken_group _ mid new last group stored ends more.keeps.breaks was (all ∙ was) now in
    let shown : one.after.faults ≡ dev.faults (device_below new) =
    ap (λ (x : Handle). x.faults) one.is_at.shows in
    let told = BrokeGroup replies one.count in (
      one.count,
      subst (λ d. LeavesOnly dev.moment (outcome pages) (device_below old) d (Left told))
          (sym (closed.untouched (inl now)))
          (followed_by dev.moment (outcome pages) (device_below old) (device_below mid)
          (device_below new) (Left told) (Left told) (within told refl)
          (subst (λ (n : ℕ). LeavesOnly dev.moment (outcome n) (device_below mid) (device_below new)
          (Left told)) goes.capacity
          (lower dev (λ cached. device_of (store_below cached)) mid.store new.store _ (Left told)
          more.keeps.goes.capacity one.survives
          (λ y some. left_in_group most h last calls group replies run.run (all ∙ was) few one.count
          one.broken.stored one.broken.run (omega (arith, one.broken.counts, shown, closed.later)) y
          some))) (λ y is. is)),
    ))
    (λ broken.
    let now = ⊎_elim (λ same. same ∙ broken) (λ device. device.1) more.keeps.breaks in
    subst (λ d. LeavesOnly dev.moment (outcome pages) (device_below old) d (Left (Broke replies)))
    (sym (closed.untouched (inl now)
    ∙ ap (λ store. device_of (store_below store)) (more.keeps.goes.still broken)))
    (within (Broke replies) refl))

pub returns-clause-later : goal.returns-clause-later
returns-clause-later g c =
    let dev = g.D.SectorDev in
    let first : dev.faults (device_below c.args.db) ≤ dev.faults (device_below c.run.new.db) =
    c.in-Ok.ensures.goes.later in
    let then : dev.faults (device_below c.run.new.db)
    ≤ dev.faults (device_below c.store_many-stored.new.self) =
    c.store_many-stored.ensures.keeps.goes.later in
    omega (arith, first, then, c.close-dev.ensures.later)

-- no reply says that there is no room
pub returns-clause-room : goal.returns-clause-room
returns-clause-room g c honest h at room =
    let run = c.in-Ok.ensures.run honest h at in
    let replies = map reply_of c.in-Ok.replies.items in
    let never = (room_is_known h run.after (map call_of c.args.calls.now) replies room run.run).0 in
    which_ending (page_state c.run.new.db).usable (page_state c.store_many-stored.new.self).usable
    c.store_many-stored.result c.close-dev.result.1 c.session_ending.result c.in-Ok.replies
    c.store_many-stored.ensures.keeps.broken c.close-dev.ensures.broken c.session_ending.ensures.rested
    c.session_ending.ensures.failed c.session_ending.ensures.broke_group c.session_ending.ensures.broke
    (λ e. (count : ℕ) → IsNeverShort (ending_of e count))
    (λ was now. (λ count. never, λ count. never)) (λ was now count. never) (λ broken count. never)

-- one reply a call
pub returns-clause-one_each : goal.returns-clause-one_each
returns-clause-one_each g c =
    let each = c.in-Ok.ensures.one_each in
    which_ending (page_state c.run.new.db).usable (page_state c.store_many-stored.new.self).usable
    c.store_many-stored.result c.close-dev.result.1 c.session_ending.result c.in-Ok.replies
    c.store_many-stored.ensures.keeps.broken c.close-dev.ensures.broken c.session_ending.ensures.rested
    c.session_ending.ensures.failed c.session_ending.ensures.broke_group c.session_ending.ensures.broke
    (IsOneEach c.args.calls.now) (λ was now. (each, each)) (λ was now. each) (λ broken. each)

-- ---- how the group was stored

pub returns-clause-within : goal.returns-clause-within
returns-clause-within g c =
    let within = c.store_many-stored.ensures.within in
    which_ending (page_state c.run.new.db).usable (page_state c.store_many-stored.new.self).usable
    c.store_many-stored.result c.close-dev.result.1 c.session_ending.result c.in-Ok.replies
    c.store_many-stored.ensures.keeps.broken c.close-dev.ensures.broken c.session_ending.ensures.rested
    c.session_ending.ensures.failed c.session_ending.ensures.broke_group c.session_ending.ensures.broke
    (λ e. IfGrouped e (λ (stored : Result ℕ Fault).
    IfOk stored (λ n. n ≤ length c.args.group.now)))
    (λ was now. (within, within)) (λ was now. tt) (λ broken. tt)

pub returns-clause-group_refused : goal.returns-clause-group_refused
returns-clause-group_refused g c writable =
    let dev = g.D.SectorDev in
    let old = device_below c.args.db in
    let mid = c.run.new.db in
    let left = c.close-dev.result.0 in
    let more = c.store_many-stored.ensures in
    let goes = c.in-Ok.ensures.goes in
    let refused = λ (was : (page_state mid).usable ≡ true).
    by_device c.store_many-stored.result more.only
    (λ e. false≢true (sym (more.keeps.broken.0 e) ∙ was))
    (λ e. false≢true (sym (more.read_only.0 e).1 ∙ (goes.writable ∙ writable)))
    (λ device. let rises : MoreFaults (dev.faults old) (dev.faults left) =
    omega (arith, goes.later, more.keeps.fault device, c.close-dev.ensures.later) in rises) in
    which_ending (page_state mid).usable (page_state c.store_many-stored.new.self).usable
    c.store_many-stored.result c.close-dev.result.1 c.session_ending.result c.in-Ok.replies
    more.keeps.broken c.close-dev.ensures.broken c.session_ending.ensures.rested
    c.session_ending.ensures.failed c.session_ending.ensures.broke_group c.session_ending.ensures.broke
    (λ e. IfGrouped e (λ (stored : Result ℕ Fault). IfErr stored (λ fault. (fault ≡ Device)
    × MoreFaults (dev.faults old) (dev.faults left))))
    (λ was now. (refused was, refused was)) (λ was now. tt) (λ broken. tt)

-- ---- by position

pub returns-clause-steps : goal.returns-clause-steps
returns-clause-steps g c honest h at usable =
    let dev = g.D.SectorDev in
    let closed = c.close-dev.ensures in
    let left = c.close-dev.result.0 in
    let mid = c.run.new.db in
    let new = c.store_many-stored.new.self in
    let stored = c.store_many-stored.result in
    let calls = map call_of c.args.calls.now in
    let group = map pair_of c.args.group.now in
    let made = c.in-Ok.ensures.steps honest h at in
    let last = made.after in
    let more = c.store_many-stored.ensures in
    let still = c.in-Ok.ensures.goes.honesty.1 honest in
    let then = more.keeps.goes.honesty.1 still in
    let ends = more.ends still last made.is_at in
    let all = ap (λ (x : Handle). x.state.usable) made.is_at.shows in
    let outcome = λ (n : ℕ). IsOutcome dev.left_since (settled n) in
    let pages : ℕ = dev.sectors (device_below mid) / 4 in
    which_ending (page_state mid).usable (page_state new).usable stored c.close-dev.result.1
    c.session_ending.result c.in-Ok.replies more.keeps.broken closed.broken c.session_ending.ensures.rested
    c.session_ending.ensures.failed c.session_ending.ensures.broke_group c.session_ending.ensures.broke
    (λ e. IfMade e (λ replies. MadeInSteps dev _ _ c.args.db left h calls group replies))
    (λ was now.
    let one = stored_group _ mid new last group stored ends now in
    let Some = StandsForOne (held last.state ∷ held one.done.state ∷ []) in
    let steps : MadeInSteps dev _ _ c.args.db left h calls group
    (map reply_of c.in-Ok.replies.items) = record {
      last = mid;
      made = made;
      ends = λ _. record {
        count = result_unwrap_or stored 0;
        stored = one.done;
        run = one.run;
        leaves = followed_by dev.moment (outcome pages) (device_below mid) (device_below new) left
            Some Some
            (lower dev (λ cached. device_of (store_below cached)) mid.store new.store _ Some
            more.keeps.goes.capacity (group_stands _ mid new last group stored ends was now)
            (λ y is. is))
            (subst (λ (n : ℕ). LeavesOnly dev.moment (outcome n) (device_below new) left Some)
            more.keeps.goes.capacity
            (weaker dev.moment (outcome (dev.sectors (device_below new) / 4)) (device_below new)
            left Some _ (closed.any_moment then)
            (λ y may. (
              held one.done.state,
              is_later (held last.state) (held one.done.state ∷ []) (held one.done.state)
                  (is_first (held one.done.state) [] (held one.done.state) refl),
              subst (λ (x : Held). ImageStandsFor y x.map x.bounds) one.same
                  (stands_for _ new one.shown y one.is_at
                  (ap (λ (x : Handle). x.state.usable) one.is_at.shows ∙ now) may),
            ))))
            (λ y is. is);
      };
    } in (steps, steps))
    (λ was now.
    let one = broken_group _ mid new last group stored ends more.keeps.breaks was (all ∙ was) now in
    let Some = StandsForOne (held last.state ∷ held one.broken.stored.state ∷ []) in
    record {
      last = mid;
      made = made;
      ends = λ _. record {
        count = one.count;
        stored = one.broken.stored;
        run = one.broken.run;
        leaves = subst (λ d. LeavesOnly dev.moment (outcome pages) (device_below mid) d Some)
            (sym (closed.untouched (inl now)))
            (lower dev (λ cached. device_of (store_below cached)) mid.store new.store _ Some
            more.keeps.goes.capacity one.survives
            (none_or_all last one.broken.stored (take one.count group) one.broken.run));
      };
    })
    (λ none. record {
      last = mid;
      made = made;
      ends = λ sound. absurd (false≢true (sym none ∙ sym all ∙ sound));
    })
