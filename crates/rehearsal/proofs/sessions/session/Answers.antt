use Rattle.std.proofs.Common.{◌≡◌, ⊎_elim, inl, inr, ℕ, ◌/◌, ◌≤◌, ◌++◌, map, None, refl, sym, ap, ◌∙◌, subst}
use Rattle.sect_dev.specs.Device.{LeavesOnly}
use Rattle.sect_dev.specs.Moments.{IsOutcome, weaker, followed_by}
use Rattle.dbm_model.specs.Members.{opened}
use Rattle.dbm_model.specs.Sessions.{NotOpened}
use Rattle.dbm_fault.specs.Faults.{fault_of}
use Rattle.dbm_file.specs.Calls.{call_of}
use Rattle.dbm_file.specs.Opened.{device_below}
use Rattle.dbm_file.specs.Pairs.{pair_of}
use Rattle.dbm_file.proofs.EnoughRoom.{room_at}
use Rattle.redo_area.specs.File.{settled}
use Rattle.file_opening.specs.Opening.{writes, early_fault, AllAllow, MayRemain}
use Rattle.file_opening.specs.declared.open_how.OpenHow.{OpenHow}
use Rattle.page_cache.specs.Stores.{store_below}
use Rattle.page_io.specs.Counts.{counts_end}
use Rattle.dbm_file.specs.Database.{store_of}
use Rattle.rehearsal.specs.Members.{StandsForOne, AllStandFor}
use Rattle.rehearsal.specs.Positions.{GoesInSteps, MadeInSteps}
use Rattle.rehearsal.specs.Sessions.{disk_of, plan_of, opening_of, ending_of, IsLeftByStop, IsLeftByCalls}
use Rattle.rehearsal.proofs.Moments.{left_in_opening, left_in_calls}
use Rattle.rehearsal.proofs.Openings.{all_stand, remains, never_reads, begun}
use Rattle.rehearsal.proofs.Positions.{if_made}
use Rattle.rehearsal.proofs.Refusals.{refused_leaves, early_stays, refused_stays}
use Rattle.rehearsal.proofs.Endings.{step_of, none_refused, refused_since}
use Rattle.rehearsal.proofs.Rooms.{not_short, are_maps, members_have_room}
use Rattle.rehearsal.proofs.sessions.session.Goals as goal

pub returns-in-Err-clause-leaves : goal.returns-in-Err-clause-leaves
returns-in-Err-clause-leaves g c honest before stand =
    let dev = g.D.SectorDev in
    let old = c.args.dev in
    let new = c.in-Err.dev in
    let how = c.args.how in
    let pages = dev.sectors old / 4 in
    let all = c.in-Err.ensures in
    let within = all.any_moment honest in
    let fault = c.in-Err.fault in (
      0,
      refused_leaves (disk_of dev old new) before (plan_of how c.args.calls.now c.args.group.now)
          fault (dev.sectors new / 4) (dev.candidate new)
          (λ device. all.device device)
          (λ room. (all.room honest (members_have_room before pages (dev.candidate old) stand room)).0)
          (λ image is.
          subst (λ (n : ℕ). StandsForOne (before ++ map (opened (opening_of how)) before)
          (settled n image)) (sym all.size.0)
          (remains before how (dev.sectors old) (dev.candidate old) stand (settled pages image)
          (subst (λ (asked : OpenHow). MayRemain asked (dev.sectors old) (dev.candidate old)
          (settled pages image)) c.for_writing.ensures
          (within.each (settled pages image) (record {
            left = image;
            is_left = g.met.D.SectorDev.counts_now new (dev.moment old).at image
                (all.honesty.1 honest) within.later is;
            reads = refl;
          })))))
          (λ other. subst (λ (n : ℕ). AllStandFor before n (dev.candidate new)) (sym all.size.0)
          (refused_stays before how (dev.sectors old) (dev.candidate old) (dev.candidate new) fault
          c.for_writing.result c.for_writing.ensures stand
          (λ none. all.refused honest none other)
          (early_stays _ before pages (early_fault c.for_writing.result (dev.sectors old)) fault
          old new dev.candidate all.early stand))),
    )

pub returns-in-Ok-clause-leaves : goal.returns-in-Ok-clause-leaves
returns-in-Ok-clause-leaves g c honest before stand =
    let dev = g.D.SectorDev in
    let old = c.args.dev in
    let how = c.args.how in
    let is_asked = c.for_writing.ensures in
    let disk = disk_of dev old c.make_calls.result.0 in
    let rose : dev.faults old ≤ dev.faults (device_below c.in-Ok.db) = c.in-Ok.ensures.later in
    let start = begun c.in-Ok.db disk before how c.for_writing.result (dev.sectors old)
    (dev.candidate old) is_asked stand c.in-Ok.ensures.fresh.capacity rose
    (counts_end _ _ (store_below (store_of c.in-Ok.db)).least) (c.in-Ok.ensures.stands honest
    (λ reads. absurd (never_reads how c.for_writing.result is_asked reads))
    (all_stand before (dev.sectors old / 4) (dev.candidate old) stand)) in
    let some = c.make_calls.ensures.leaves (c.in-Ok.ensures.honesty.1 honest) start.handle
    start.is_at start.usable in
    let rest = some.1 in (
      some.0,
      record {
        after = rest.after;
        step = step_of disk before (plan_of how c.args.calls.now c.args.group.now)
            (ending_of c.make_calls.result.1 some.0) rest.after start.handle start.begins rest.goes;
        stand = rest.stand;
      },
    )

pub returns-in-Err-clause-any_moment : goal.returns-in-Err-clause-any_moment
returns-in-Err-clause-any_moment g c honest before stand =
    let dev = g.D.SectorDev in
    let old = c.args.dev in
    let how = c.args.how in
    let plan = plan_of how c.args.calls.now c.args.group.now in
    let disk = disk_of dev old c.in-Err.dev in
    let told = NotOpened (fault_of c.in-Err.fault) in (
      0,
      weaker dev.moment (IsOutcome dev.left_since (settled (dev.sectors old / 4))) old c.in-Err.dev
          (IsLeftByStop disk before plan told) _ (c.in-Err.ensures.any_moment honest)
          (left_in_opening disk before how c.for_writing.result plan.calls plan.group (dev.sectors old)
          (dev.candidate old) told c.for_writing.ensures stand),
    )

pub returns-in-Ok-clause-any_moment : goal.returns-in-Ok-clause-any_moment
returns-in-Ok-clause-any_moment g c honest before stand =
    let dev = g.D.SectorDev in
    let old = c.args.dev in
    let how = c.args.how in
    let plan = plan_of how c.args.calls.now c.args.group.now in
    let is_asked = c.for_writing.ensures in
    let mid = device_below c.in-Ok.db in
    let disk = disk_of dev old c.make_calls.result.0 in
    let rose : dev.faults old ≤ dev.faults (device_below c.in-Ok.db) = c.in-Ok.ensures.later in
    let start = begun c.in-Ok.db disk before how c.for_writing.result (dev.sectors old)
    (dev.candidate old) is_asked stand c.in-Ok.ensures.fresh.capacity rose
    (counts_end _ _ (store_below (store_of c.in-Ok.db)).least) (c.in-Ok.ensures.stands honest
    (λ reads. absurd (never_reads how c.for_writing.result is_asked reads))
    (all_stand before (dev.sectors old / 4) (dev.candidate old) stand)) in
    let later = c.make_calls.ensures.any_moment (c.in-Ok.ensures.honesty.1 honest) start.handle
    start.is_at start.usable in
    let told = ending_of c.make_calls.result.1 later.0 in (
      later.0,
      followed_by dev.moment (IsOutcome dev.left_since (settled (dev.sectors old / 4))) old mid
          c.make_calls.result.0 (IsLeftByStop disk before plan told)
          (IsLeftByCalls disk.at_end start.handle plan.calls plan.group told)
          (weaker dev.moment (IsOutcome dev.left_since (settled (dev.sectors old / 4))) old mid
          (IsLeftByStop disk before plan told) _ (c.in-Ok.ensures.any_moment honest)
          (left_in_opening disk before how c.for_writing.result plan.calls plan.group
          (dev.sectors old) (dev.candidate old) told is_asked stand))
          (subst (λ (n : ℕ). LeavesOnly dev.moment (IsOutcome dev.left_since (settled n)) mid
          c.make_calls.result.0 (IsLeftByCalls disk.at_end start.handle plan.calls plan.group told))
          c.in-Ok.ensures.size.0 later.1)
          (left_in_calls disk before plan start.handle told start.begins),
    )

pub returns-in-Ok-clause-refused : goal.returns-in-Ok-clause-refused
returns-in-Ok-clause-refused g c honest =
    none_refused c.make_calls.result.1 _ c.make_calls.ensures.opened

pub returns-in-Ok-clause-opens : goal.returns-in-Ok-clause-opens
returns-in-Ok-clause-opens g c honest none stand allow =
    none_refused c.make_calls.result.1 _ c.make_calls.ensures.opened

pub returns-in-Err-clause-room : goal.returns-in-Err-clause-room
returns-in-Err-clause-room g c honest all count =
    not_short c.in-Err.fault (c.in-Err.ensures.room honest all).0

pub returns-in-Ok-clause-room : goal.returns-in-Ok-clause-room
returns-in-Ok-clause-room g c honest all =
    let dev = g.D.SectorDev in
    let old = c.args.dev in
    let how = c.args.how in
    let found = c.in-Ok.ensures.stands honest
    (λ reads. absurd (never_reads how c.for_writing.result c.for_writing.ensures reads))
    (are_maps (dev.sectors old / 4) (dev.candidate old) all) in
    let handle = found.2.handle in
    c.make_calls.ensures.room (c.in-Ok.ensures.honesty.1 honest) handle found.2.is_at
    (room_at c.in-Ok.db handle (c.in-Ok.ensures.room honest all).1 found.2.is_at)

pub returns-in-Err-clause-opens : goal.returns-in-Err-clause-opens
returns-in-Err-clause-opens g c honest none stand allow =
    let dev = g.D.SectorDev in
    let old = c.args.dev in
    let how = c.args.how in
    let is = c.for_writing.ensures in
    ⊎_elim (λ device. inl device)
    (λ memory. inr (
      memory.0,
      ⊎_elim
          (λ empties. sym (ap (λ (asked : OpenHow). asked.truncate) is) ∙ empties)
          (λ reads. absurd (never_reads how c.for_writing.result is reads)) memory.1,
    ))
    (c.in-Err.ensures.opens honest
    (subst (λ (asked : OpenHow). early_fault asked (dev.sectors old) ≡ None) (sym is) none) stand
    (subst (λ (asked : OpenHow). AllAllow asked (dev.sectors old) (dev.candidate old))
    (sym is) allow))

pub returns-in-Ok-clause-group_refused : goal.returns-in-Ok-clause-group_refused
returns-in-Ok-clause-group_refused g c =
    let dev = g.D.SectorDev in
    let asked = ap (λ (how : OpenHow). writes how.access) c.for_writing.ensures in
    refused_since c.make_calls.result.1 (dev.faults c.args.dev)
    (dev.faults (device_below c.in-Ok.db)) (dev.faults c.make_calls.result.0)
    c.in-Ok.ensures.later
    (c.make_calls.ensures.group_refused (c.in-Ok.ensures.fresh.writable ∙ asked))

-- ---- by position

pub returns-in-Ok-clause-steps : goal.returns-in-Ok-clause-steps
returns-in-Ok-clause-steps g c honest before stand =
    let dev = g.D.SectorDev in
    let old = c.args.dev in
    let new = c.make_calls.result.0 in
    let how = c.args.how in
    let is_asked = c.for_writing.ensures in
    let disk = disk_of dev old new in
    let calls = map call_of c.args.calls.now in
    let group = map pair_of c.args.group.now in
    let rose : dev.faults old ≤ dev.faults (device_below c.in-Ok.db) = c.in-Ok.ensures.later in
    let start = begun c.in-Ok.db disk before how c.for_writing.result (dev.sectors old)
    (dev.candidate old) is_asked stand c.in-Ok.ensures.fresh.capacity rose
    (counts_end _ _ (store_below (store_of c.in-Ok.db)).least) (c.in-Ok.ensures.stands honest
    (λ reads. absurd (never_reads how c.for_writing.result is_asked reads))
    (all_stand before (dev.sectors old / 4) (dev.candidate old) stand)) in
    if_made c.make_calls.result.1
    (MadeInSteps dev _ _ c.in-Ok.db new start.handle calls group)
    (GoesInSteps dev _ _ disk before (opening_of how) old new calls group)
    (λ replies steps. record {
      first = c.in-Ok.db;
      h = start.handle;
      is_at = start.is_at;
      begins = start.begins;
      opening = weaker dev.moment (IsOutcome dev.left_since (settled (dev.sectors old / 4))) old
          (device_below c.in-Ok.db) (StandsForOne (before ++ map (opened (opening_of how)) before)) _
          (c.in-Ok.ensures.any_moment honest)
          (λ y remained. remains before how (dev.sectors old) (dev.candidate old) stand y
          (subst (λ (h : OpenHow). MayRemain h (dev.sectors old) (dev.candidate old) y) is_asked
          remained));
      steps = steps;
    })
    (c.make_calls.ensures.steps (c.in-Ok.ensures.honesty.1 honest) start.handle start.is_at
    start.usable)
