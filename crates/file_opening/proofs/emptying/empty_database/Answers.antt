use Rattle.std.proofs.Common.{◌≡◌, ◌⊎◌, ⊎_elim, inl, inr, ◌/◌, ◌≤◌, Option, Some, None, Err, sym, ap, ◌∙◌, subst}
use Rattle.std.specs.Option.{option_or}
use Rattle.std.specs.FinMap.{empty}
use Rattle.sect_dev.specs.Device.{IsImageOf, LeavesOnly, MoreFaults}
use Rattle.sect_dev.specs.Moments.{IsOutcome}
use Rattle.redo_area.specs.File.{settled}
use Rattle.page_io.specs.Meaning.{ImageStandsFor}
use Rattle.page_io.specs.Store.{Settled, StoreState, bytes_of, file_pages, overlaid}
use Rattle.page_io.specs.Page.{page_at}
use Rattle.sect_dev.specs.Reads.{OnlyReads}
use Rattle.redo_area.specs.Settling.{only_seen}
use Rattle.page_model.specs.Pages.{Meta}
use Rattle.dbm_model.specs.Sizes.{sectors_for}
use Rattle.dbm_fault.specs.Faults.{fault_from}
use Rattle.dbm_fault.specs.declared.fault.Fault.{Fault}
use Rattle.dbm_fault.specs.declared.fault.Fault.TheVariants.{Memory}
use Rattle.seg_table.specs.MetaPages.{model_meta}
use Rattle.file_opening.specs.Opening.{bounds_of, room_fault, commit_fault, emptying_fault}
use Rattle.file_opening.proofs.EmptyFiles.{settles_still, OldOrEmpty, left_as_before, still_good, still_capacity, state_of, reads_nothing, run_below}
use Rattle.page_io.proofs.Exits.{both_ways, later_then}
use Rattle.file_opening.proofs.Exits.{same_honest, same_faults, reads_leave}
use Rattle.file_opening.proofs.Rooms.{EmptyingOnly, of_room, of_room_apart, limit_of_room, fresh_meta, fresh_valid, of_commit, came_from, refuses_commit, has_room, allows_emptying}
use Rattle.file_opening.proofs.emptying.empty_database.Given.{Over}
use Rattle.file_opening.proofs.emptying.empty_database.Goals as goal

pub returns-in-Some-clause-any_moment : goal.returns-in-Some-clause-any_moment
returns-in-Some-clause-any_moment g c honest =
    let dev = g.D.SectorDev in
    let store = c.args.store in
    let rest = store.settles honest c.requires.fresh.usable in
    subst (λ d. LeavesOnly dev.moment
    (IsOutcome dev.left_since (settled (dev.sectors store.dev / 4))) store.dev d
    (OldOrEmpty (file_pages (overlaid (bytes_of store.waiting.items)
    (page_at (dev.seen store.dev))) store.end)
    (emptying_fault (bounds_of c.args.how) (dev.sectors store.dev) store.end ≡ None)
    (bounds_of c.args.how))) (sym c.into_dev.ensures)
    (settles_still dev.moment dev.left_since dev.candidate store.dev (dev.sectors store.dev / 4) _
    (λ image left. g.met.D.SectorDev.only_now store.dev image honest left)
    (λ y is. inl (only_seen (dev.sectors store.dev / 4) (dev.candidate store.dev)
    (dev.seen store.dev) y _ (rest.waits c.requires.fresh.writable).stable
    rest.settles is)))

pub returns-in-Ok-clause-stands : goal.returns-in-Ok-clause-stands
returns-in-Ok-clause-stands g c honest =
    let dev = g.D.SectorDev in
    let new = c.commit_empty.new.store in
    let m = c.of_empty-meta.result in
    let holds = c.in-Ok.ensures.holds honest in
    let rest = new.settles (c.commit_empty.ensures.honesty.1 honest) in
    let writable = ap (λ (st : StoreState). st.writable) c.in-Ok.ensures.ok
    ∙ c.requires.fresh.writable in record {
      holds = λ usable. holds;
      rests = λ usable y left. subst (λ (z : Settled). ImageStandsFor z empty (model_meta m).bounds)
          (sym (only_seen (dev.sectors new.dev / 4) (dev.candidate new.dev) (dev.seen new.dev) y _
          ((rest usable).waits writable).stable (rest usable).settles left)) holds.stands;
      bounds_are = ap (λ (n : Meta). n.bounds) c.of_empty-meta.ensures;
    }

pub returns-in-Err-clause-left : goal.returns-in-Err-clause-left
returns-in-Err-clause-left g c honest other after left =
    let dev = g.D.SectorDev in
    let old = c.args.store in
    let new = c.commit_empty.new.store in
    let all = c.in-Err.ensures in
    let usable = still_good (state_of old) (state_of new) c.in-Err.fault c.from.result all.err
    c.from.ensures other ∙ c.requires.fresh.usable in
    let run = all.unchanged honest usable in
    left_as_before dev.left_since dev.candidate new.dev (dev.moment old.dev).at
    (dev.sectors old.dev / 4) (dev.sectors new.dev / 4) _
    (still_capacity (state_of old) (state_of new) c.in-Err.fault all.err) run.each
    (λ image is. g.met.D.SectorDev.counts_now new.dev (dev.moment old.dev).at image
    (c.commit_empty.ensures.honesty.1 honest) run.later is) after
    (subst (λ d. IsImageOf (dev.candidate d) after) c.into_dev-in-Err.ensures left)

-- ---- there is no room for it

room_is : (g : Over) (c : goal.After-into_dev g)
    → room_fault (sectors_for (bounds_of c.args.how)) (g.D.SectorDev.sectors c.args.store.dev)
    ≡ Some c.in-Some.fault
room_is g c = ap (room_fault (sectors_for (bounds_of c.args.how))) (sym c.requires.sectors)
    ∙ sym c.room_refusal.ensures ∙ c.in-Some.is

pub returns-in-Some-clause-fresh : goal.returns-in-Some-clause-fresh
returns-in-Some-clause-fresh g c = tt

pub returns-in-Some-clause-refused : goal.returns-in-Some-clause-refused
returns-in-Some-clause-refused g c other =
    inl (ap (λ (o : Option Fault).
    option_or o (commit_fault (g.D.SectorDev.sectors c.args.store.dev) c.args.store.end))
    (room_is g c))

pub returns-in-Some-clause-left : goal.returns-in-Some-clause-left
returns-in-Some-clause-left g c honest other =
    let dev = g.D.SectorDev in
    let store = c.args.store in
    let d = store.dev in
    let rest = store.settles honest c.requires.fresh.usable in
    reads_leave dev (dev.sectors d / 4) d c.into_dev.result _
    (subst (OnlyReads dev d) (sym c.into_dev.ensures)
    (reads_nothing dev d (λ image left. g.met.D.SectorDev.only_now d image honest left)))
    (rest.waits c.requires.fresh.writable).stable rest.settles

pub returns-in-Some-clause-device : goal.returns-in-Some-clause-device
returns-in-Some-clause-device g c = record {
  honesty = same_honest g.D.SectorDev c.args.store.dev c.into_dev.result c.into_dev.ensures;
  later = same_faults g.D.SectorDev c.args.store.dev c.into_dev.result c.into_dev.ensures;
  fault = λ is. of_room_apart (sectors_for (bounds_of c.args.how))
      (g.D.SectorDev.sectors c.args.store.dev) c.in-Some.fault (room_is g c) is;
}

pub returns-in-Some-clause-only : goal.returns-in-Some-clause-only
returns-in-Some-clause-only g c =
    ⊎_elim (λ limit. inl limit) (λ small. inr (inl small))
    (of_room (sectors_for (bounds_of c.args.how)) (g.D.SectorDev.sectors c.args.store.dev)
    c.in-Some.fault (room_is g c))

pub returns-in-Some-clause-size : goal.returns-in-Some-clause-size
returns-in-Some-clause-size g c = ap (λ d. g.D.SectorDev.sectors d / 4) c.into_dev.ensures

-- ---- it is emptied

pub commit_empty-requires-clause-ready : goal.commit_empty-requires-clause-ready
commit_empty-requires-clause-ready g c = record {
  idle = c.requires.fresh.staged;
  usable = c.requires.fresh.usable;
  writable = c.requires.fresh.writable;
}

pub commit_empty-requires-clause-limited : goal.commit_empty-requires-clause-limited
commit_empty-requires-clause-limited g c =
    subst (λ n. (1 ≤ n) × (n ≤ 1000000))
    (sym (ap (λ (n : Meta). n.bounds.limit) c.of_empty-meta.ensures))
    (limit_of_room (bounds_of c.args.how) _ (sym c.room_refusal.ensures ∙ c.in_default.is))

pub commit_empty-requires-clause-fresh : goal.commit_empty-requires-clause-fresh
commit_empty-requires-clause-fresh g c = fresh_meta (bounds_of c.args.how) _ c.of_empty-meta.ensures

pub invariant_of-result : goal.invariant_of-result
invariant_of-result g c = record {
  idle = ap (λ (st : StoreState). st.staged) c.in-Ok.ensures.ok ∙ c.requires.fresh.staged;
  told = ap (λ (st : StoreState). st.writable) c.in-Ok.ensures.ok ∙ c.requires.fresh.writable;
  valid = fresh_valid (bounds_of c.args.how) _
      (limit_of_room (bounds_of c.args.how) _ (sym c.room_refusal.ensures ∙ c.in_default.is))
      c.of_empty-meta.ensures;
}

pub returns-in-Ok-clause-fresh : goal.returns-in-Ok-clause-fresh
returns-in-Ok-clause-fresh g c =
    let same = c.in-Ok.ensures.ok in record {
      usable = ap (λ (st : StoreState). st.usable) same ∙ c.requires.fresh.usable;
      writable = ap (λ (st : StoreState). st.writable) same ∙ c.requires.fresh.writable;
      capacity = ap (λ (st : StoreState). st.capacity) same ∙ c.requires.fresh.capacity;
    }

pub returns-in-Ok-clause-any_moment : goal.returns-in-Ok-clause-any_moment
returns-in-Ok-clause-any_moment g c honest =
    let dev = g.D.SectorDev in
    let old = c.args.store in
    let new = c.commit_empty.new.store in
    let bounds = bounds_of c.args.how in
    run_below dev old new _ bounds (model_meta c.of_empty-meta.result).bounds
    (ap (λ (n : Meta). n.bounds) c.of_empty-meta.ensures)
    (allows_emptying bounds (dev.sectors old.dev) old.end
    (has_room bounds (dev.sectors old.dev) c.args.sectors c.room_refusal.result
    c.requires.sectors c.room_refusal.ensures c.in_default.is))
    (ap (λ (st : StoreState). st.capacity) c.in-Ok.ensures.ok)
    (c.commit_empty.ensures.any_moment honest)

pub returns-in-Ok-clause-room : goal.returns-in-Ok-clause-room
returns-in-Ok-clause-room g c =
    let sectors = g.D.SectorDev.sectors c.args.store.dev in
    let bounds = bounds_of c.args.how in
    let room = has_room bounds sectors c.args.sectors c.room_refusal.result c.requires.sectors
    c.room_refusal.ensures c.in_default.is in
    allows_emptying bounds sectors c.args.store.end room c.in-Ok.ensures.room

pub returns-in-Ok-clause-device : goal.returns-in-Ok-clause-device
returns-in-Ok-clause-device g c = record {
  honesty = c.commit_empty.ensures.honesty;
  later = c.commit_empty.ensures.cause.later;
  fault = tt;
}

pub returns-in-Ok-clause-size : goal.returns-in-Ok-clause-size
returns-in-Ok-clause-size g c = ap (λ (st : StoreState). st.capacity) c.in-Ok.ensures.ok

-- ---- it is not emptied

pub returns-in-Err-clause-fresh : goal.returns-in-Err-clause-fresh
returns-in-Err-clause-fresh g c = tt

pub returns-in-Err-clause-any_moment : goal.returns-in-Err-clause-any_moment
returns-in-Err-clause-any_moment g c honest =
    let dev = g.D.SectorDev in
    let old = c.args.store in
    let new = c.commit_empty.new.store in
    let bounds = bounds_of c.args.how in
    subst (λ d. LeavesOnly dev.moment (IsOutcome dev.left_since (settled (dev.sectors old.dev / 4)))
    old.dev d (OldOrEmpty (file_pages
    (overlaid (bytes_of old.waiting.items) (page_at (dev.seen old.dev))) old.end)
    (emptying_fault bounds (dev.sectors old.dev) old.end ≡ None) bounds))
    (sym c.into_dev-in-Err.ensures)
    (run_below dev old new _ bounds (model_meta c.of_empty-meta.result).bounds
    (ap (λ (n : Meta). n.bounds) c.of_empty-meta.ensures)
    (allows_emptying bounds (dev.sectors old.dev) old.end
    (has_room bounds (dev.sectors old.dev) c.args.sectors c.room_refusal.result
    c.requires.sectors c.room_refusal.ensures c.in_default.is))
    (still_capacity (state_of old) (state_of new) c.in-Err.fault c.in-Err.ensures.err)
    (c.commit_empty.ensures.any_moment honest))

pub returns-in-Err-clause-refused : goal.returns-in-Err-clause-refused
returns-in-Err-clause-refused g c other =
    let all = c.in-Err.ensures in
    let bounds = bounds_of c.args.how in
    let room = has_room bounds (g.D.SectorDev.sectors c.args.store.dev) c.args.sectors
    c.room_refusal.result c.requires.sectors c.room_refusal.ensures c.in_default.is in
    subst (λ f. (emptying_fault bounds (g.D.SectorDev.sectors c.args.store.dev)
    c.args.store.end ≡ Some f) ⊎ (f ≡ Memory)) (sym c.from.ensures)
    (refuses_commit c.in-Err.fault all.only bounds (g.D.SectorDev.sectors c.args.store.dev)
    c.args.store.end room (λ is. all.no_room (ap Err is))
    (λ device. other (c.from.ensures ∙ ap fault_from device)))

pub returns-in-Err-clause-device : goal.returns-in-Err-clause-device
returns-in-Err-clause-device g c = record {
  honesty = both_ways (same_honest g.D.SectorDev c.commit_empty.new.store.dev
      c.into_dev-in-Err.result c.into_dev-in-Err.ensures) c.commit_empty.ensures.honesty;
  later = later_then _ _ _ c.commit_empty.ensures.cause.later
      (same_faults g.D.SectorDev c.commit_empty.new.store.dev c.into_dev-in-Err.result
      c.into_dev-in-Err.ensures);
  fault = λ is. let dev = g.D.SectorDev in
      subst (λ d. MoreFaults (dev.faults c.args.store.dev) (dev.faults d))
      (sym c.into_dev-in-Err.ensures)
      (c.in-Err.ensures.cause.fault
      (ap Err (came_from c.in-Err.fault c.in-Err.ensures.only (sym c.from.ensures ∙ is))));
}

pub returns-in-Err-clause-only : goal.returns-in-Err-clause-only
returns-in-Err-clause-only g c =
    subst EmptyingOnly (sym c.from.ensures) (of_commit c.in-Err.fault c.in-Err.ensures.only)

pub returns-in-Err-clause-size : goal.returns-in-Err-clause-size
returns-in-Err-clause-size g c =
    ap (λ d. g.D.SectorDev.sectors d / 4) c.into_dev-in-Err.ensures
    ∙ still_capacity (state_of c.args.store) (state_of c.commit_empty.new.store) c.in-Err.fault
    c.in-Err.ensures.err
