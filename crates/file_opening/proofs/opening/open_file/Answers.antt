use Rattle.std.proofs.Common.{◌≡◌, ⊎_elim, inl, inr, ℕ, ◌+◌, ◌/◌, length, true, Some, refl, sym, ap, ◌∙◌, subst, rules}
use denote.Enum.Bare.{same_false}
use Rattle.std.specs.Prelude.{IfErr}
use Rattle.std.specs.FinMap.{empty}
use Rattle.sect_dev.specs.Device.{LeavesOnly}
use Rattle.sect_dev.specs.Moments.{IsOutcome}
use Rattle.page_io.specs.Page.{page_at}
use Rattle.page_io.specs.Store.{Settled, bytes_of, file_pages, overlaid}
use Rattle.redo_area.specs.File.{settled}
use Rattle.sect_dev.specs.Reads.{OnlyReads}
use Rattle.redo_area.specs.Settling.{SettlesTo, only_seen}
use Rattle.redo_area.proofs.ReadRuns.{more_reads}
use Rattle.redo_area.specs.declared.open_fault.OpenFault.TheVariants as redo
use Rattle.seg_table.specs.MetaPages.{model_meta}
use Rattle.file_opening.specs.OpenFiles.{device_left}
use Rattle.file_opening.specs.Opening.{writes, bounds_of, is_exclusive, early_fault, making_fault, emptying_fault, RefusesOpened, IsRefusedOpening, EmptiesFile, MayRemain, KeepsMetaOf}
use Rattle.dbm_fault.specs.declared.fault.Fault.TheVariants.{Memory, Device}
use Rattle.file_opening.proofs.EmptyFiles.{settles_run, settles_on, settles_from, reads_nothing}
use Rattle.dbm_fault.specs.contracts.fault.Fault.{the_type}
use Rattle.page_io.proofs.Exits.{both_ways, later_then, more_later}
use Rattle.file_opening.proofs.Exits.{of_early, of_made, memory_opens, device_opens, of_no_file, of_damaged, if_none, not_none, early_err, not_on, same_honest, same_faults, reads_settle, before_settle, just_opened, made_opened, fresh_there}
use Rattle.file_opening.proofs.NewFiles.{BlankOrNew, was_asked, none_for_reading}
use Rattle.file_opening.proofs.Refusals.{from_ok, both_ok, each_err, blank_tells, not_ours_tells, damaged_tells, Tells, tells, has_blank, all_blank, refused_blank, refused_not_ours, refused_damaged, refused_file, lacks_memory, only_memory, what_stood, opened_as_asked, may_empty, device_untouched, stable_still, by_access}
use Rattle.file_opening.proofs.opening.open_file.Given.{Over}
use Rattle.file_opening.proofs.opening.open_file.Goals as goal

-- ---- a file

pub returns-in-Ok-clause-any_moment : goal.returns-in-Ok-clause-any_moment
returns-in-Ok-clause-any_moment g c honest =
    let dev = g.D.SectorDev in
    let old = c.args.dev in
    let how = c.args.how in
    let cap : ℕ = dev.sectors old / 4 in
    let store = c.in-Ok.store in
    let mid = store.dev in
    let all = c.in-Ok.ensures in
    let run = all.any_moment honest in
    let h1 = all.honesty.1 honest in
    let P : Settled → Type 0 = MayRemain how (dev.sectors old) (dev.candidate old) in
    let file = file_pages (overlaid (bytes_of store.waiting.items) (page_at (dev.seen mid)))
    store.end in
    let size = ap (λ (n : ℕ). n / 4) all.size in
    settles_on dev.moment dev.left_since old mid (device_left c.open_there.result) cap
    (dev.sectors mid / 4) P _ size
    (before_settle dev cap old mid _ run)
    (c.open_there.ensures.any_moment h1)
    (λ y. ⊎_elim
    (λ was. inl (settles_from cap (dev.sectors mid / 4) (dev.candidate old) (dev.candidate mid) y
    size (λ image is. run.each image
    (g.met.D.SectorDev.counts_now mid (dev.moment old).at image h1 run.later is)) was))
    (λ new. inr (
      inr (record {
        file = file;
        at_start = all.committed honest;
        empties =
            subst (λ (n : ℕ). EmptiesFile how n file) all.size new.0;
      }),
      new.1,
    )))

pub returns-in-Ok-clause-stands : goal.returns-in-Ok-clause-stands
returns-in-Ok-clause-stands g c honest one stand =
    let dev = g.D.SectorDev in
    let old = c.args.dev in
    let how = c.args.how in
    let cap : ℕ = dev.sectors old / 4 in
    let store = c.in-Ok.store in
    let mid = store.dev in
    let all = c.in-Ok.ensures in
    let h1 = all.honesty.1 honest in
    let file = file_pages (overlaid (bytes_of store.waiting.items) (page_at (dev.seen mid)))
    store.end in
    let what = what_stood cap (dev.candidate old) file (all.committed honest) stand in
    let rest = store.settles h1 all.state.usable in
    let stable = by_access c.is_writable.result
    (λ on. (rest.waits (all.state.writable ∙ on)).stable)
    (λ off. stable_still dev old mid (all.only_reads off honest)
    (one (sym c.is_writable.ensures ∙ off))) in
    let written = may_empty how (dev.sectors old)
    (sym (ap (early_fault how) c.capacity-sectors.ensures) ∙ sym c.early_refusal.ensures
    ∙ c.in_default.is) in
    both_ok c.open_there.result (c.open_there.ensures.stands h1
    (λ now was. only_seen (dev.sectors mid / 4) (dev.candidate mid) (dev.seen mid) now _
    stable rest.settles was) what.map what.bounds what.stands)
    (c.open_there.ensures.emptied h1)
    (λ new opens due. opened_as_asked how (dev.sectors old) (dev.candidate old) file what new
    (all.committed honest) opens.0 opens.1 written
    (λ asked. ap (λ (n : ℕ). emptying_fault (bounds_of how) n (length file + 1))
    (sym all.size) ∙ due asked))

pub returns-in-Ok-clause-opened : goal.returns-in-Ok-clause-opened
returns-in-Ok-clause-opened g c honest =
    let all = c.in-Ok.ensures in
    let store = c.in-Ok.store in
    let file = file_pages (overlaid (bytes_of store.waiting.items)
    (page_at (g.D.SectorDev.seen store.dev))) store.end in
    from_ok c.open_there.result (c.open_there.ensures.opened (all.honesty.1 honest)) (λ new keeps.
    inl (
      file,
      all.committed honest,
      subst (λ (n : ℕ). KeepsMetaOf c.args.how n file (model_meta new.meta)) all.size keeps,
    ))

-- what refuses a file that was found
file_refused : (g : Over) (c : goal.After-open_there g) → g.D.SectorDev.honest c.args.dev
    → IfErr c.open_there.result (λ e.
    (e.1 ≡ Device → ⊥) → IsRefusedOpening c.args.how (g.D.SectorDev.sectors c.args.dev)
    (g.D.SectorDev.candidate c.args.dev) (g.D.SectorDev.candidate e.0) e.1)
file_refused g c honest =
    let dev = g.D.SectorDev in
    let old = c.args.dev in
    let how = c.args.how in
    let store = c.in-Ok.store in
    let all = c.in-Ok.ensures in
    let file = file_pages (overlaid (bytes_of store.waiting.items) (page_at (dev.seen store.dev)))
    store.end in
    each_err c.open_there.result (c.open_there.ensures.refused (all.honesty.1 honest))
    (λ e is why other.
    let both = why other in
    refused_file how (dev.sectors old) (dev.candidate old) (dev.candidate e.0) file e.1
    (all.committed honest) (subst (λ (n : ℕ). RefusesOpened how n file e.1) all.size both.0)
    (λ writing after left. ap (λ (n : ℕ). settled (n / 4) after) (sym all.size)
    ∙ both.1 writing after left))

pub returns-in-Ok-clause-refused : goal.returns-in-Ok-clause-refused
returns-in-Ok-clause-refused g c honest none = file_refused g c honest

pub returns-in-Ok-clause-opens : goal.returns-in-Ok-clause-opens
returns-in-Ok-clause-opens g c honest none stand allow =
    let dev = g.D.SectorDev in
    each_err c.open_there.result (file_refused g c honest)
    (λ e is why. only_memory c.args.how (dev.sectors c.args.dev) (dev.candidate c.args.dev)
    (dev.candidate e.0) e.1 stand allow why)

pub open_there-requires-clause-sectors : goal.open_there-requires-clause-sectors
open_there-requires-clause-sectors g c = c.capacity-sectors.ensures ∙ sym c.in-Ok.ensures.size

pub open_there-requires-clause-fresh : goal.open_there-requires-clause-fresh
open_there-requires-clause-fresh g c =
    fresh_there _ _ _ _ c.in-Ok.ensures.state
    (ap (λ (n : ℕ). n / 4) c.in-Ok.ensures.size) (search rules)

pub open_there-requires-clause-written : goal.open_there-requires-clause-written
open_there-requires-clause-written g c =
    may_empty c.args.how (g.D.SectorDev.sectors c.args.dev)
    (sym (ap (early_fault c.args.how) c.capacity-sectors.ensures) ∙ sym c.early_refusal.ensures
    ∙ c.in_default.is)

pub returns-in-Ok-clause-early : goal.returns-in-Ok-clause-early
returns-in-Ok-clause-early g c =
    if_none _ _ (sym (ap (early_fault c.args.how) c.capacity-sectors.ensures)
    ∙ sym c.early_refusal.ensures ∙ c.in_default.is)

pub returns-in-Ok-clause-fresh : goal.returns-in-Ok-clause-fresh
returns-in-Ok-clause-fresh g c =
    just_opened c.open_there.result _ _ _ _ refl (ap (λ (n : ℕ). n / 4) c.in-Ok.ensures.size)
    c.open_there.ensures.fresh

pub returns-in-Ok-clause-only_reads : goal.returns-in-Ok-clause-only_reads
returns-in-Ok-clause-only_reads g c reading honest =
    let all = c.in-Ok.ensures in
    more_reads g.D.SectorDev c.args.dev c.in-Ok.store.dev (device_left c.open_there.result)
    (all.only_reads (c.is_writable.ensures ∙ reading) honest)
    (c.open_there.ensures.only_reads reading (all.honesty.1 honest))

pub returns-in-Ok-clause-device : goal.returns-in-Ok-clause-device
returns-in-Ok-clause-device g c = record {
  honesty = both_ways c.open_there.ensures.device.honesty c.in-Ok.ensures.honesty;
  later = later_then _ _ _ c.in-Ok.ensures.cause.later c.open_there.ensures.device.later;
  fault = let dev = g.D.SectorDev in
      each_err c.open_there.result c.open_there.ensures.device.fault
      (λ e same more is. more_later (dev.faults c.args.dev) (dev.faults c.in-Ok.store.dev)
      (dev.faults e.0) c.in-Ok.ensures.cause.later (more is));
}

pub returns-in-Ok-clause-only : goal.returns-in-Ok-clause-only
returns-in-Ok-clause-only g c = c.open_there.ensures.only

pub returns-in-Ok-clause-size : goal.returns-in-Ok-clause-size
returns-in-Ok-clause-size g c =
    let all = c.in-Ok.ensures in
    let then = c.open_there.ensures in
    (then.size.0 ∙ ap (λ (n : ℕ). n / 4) all.size, λ kept. then.size.1 kept ∙ all.size)

-- ---- a blank device

blank_told : (g : Over) (c : goal.After-make_database g) → g.D.SectorDev.honest c.args.dev
    → Tells c.args.how (g.D.SectorDev.sectors c.args.dev) (g.D.SectorDev.candidate c.args.dev)
    (g.D.SectorDev.candidate c.in-Err-default-Blank.dev) redo.Blank
blank_told g c honest =
    let dev = g.D.SectorDev in
    let all = c.in-Err-default-Blank.ensures in
    let new = c.in-Err-default-Blank.dev in
    tells c.args.how (dev.sectors c.args.dev) (dev.candidate c.args.dev) (dev.candidate new)
    c.is_writable.result (dev.seen c.args.dev) (dev.seen new) c.in-Err-default-Blank.field-0-1
    redo.Blank c.is_writable.ensures c.in-Err-default-Blank.field-0-1-is
    blank_tells.0 blank_tells.1 (g.met.D.SectorDev.seen_may_stay c.args.dev honest)
    (λ on. all.refused on honest) (λ off. all.refused_as_seen off honest)

pub returns-in-Err-default-Blank-clause-any_moment : goal.returns-in-Err-default-Blank-clause-any_moment
returns-in-Err-default-Blank-clause-any_moment g c honest =
    let dev = g.D.SectorDev in
    let old = c.args.dev in
    let how = c.args.how in
    let cap : ℕ = dev.sectors old / 4 in
    let new = c.in-Err-default-Blank.dev in
    let all = c.in-Err-default-Blank.ensures in
    let h1 = all.honesty.1 honest in
    let P : Settled → Type 0 = MayRemain how (dev.sectors old) (dev.candidate old) in
    let size = ap (λ (n : ℕ). n / 4) all.size in
    let told = blank_told g c honest in
    let there = has_blank how (dev.sectors old) (dev.candidate old) (dev.candidate new) told in
    let first : LeavesOnly dev.moment (IsOutcome dev.left_since (settled cap)) old new P =
    before_settle dev cap old new _ (all.any_moment honest) in
    let fault = making_fault how (dev.sectors new) in
    by_access (writes how.access)
    (λ on.
    settles_on dev.moment dev.left_since old new (device_left c.make_database.result) cap
    (dev.sectors new / 4) P (BlankOrNew fault (bounds_of how)) size first
    (settles_run dev.moment dev.left_since new (device_left c.make_database.result)
    (dev.sectors new / 4) (BlankOrNew fault (bounds_of how))
    (c.make_database.ensures.any_moment h1
    (λ image is. ap (λ (n : ℕ). settled n image) size
    ∙ all_blank how (dev.sectors old) (dev.candidate old) (dev.candidate new)
    told on image is)))
    (λ y. ⊎_elim
    (λ none. inl (subst (λ (z : Settled). SettlesTo cap (dev.candidate old) z) (sym none) there))
    (λ made. inr (
      inl (record {
        due = ap (making_fault how) (sym all.size) ∙ made.0;
        on_blank =
            there;
      }),
      made.1,
    ))))
    (λ off. subst (λ d. LeavesOnly dev.moment (IsOutcome dev.left_since (settled cap)) old d P)
    (sym (device_untouched fault new c.make_database.result
    (none_for_reading how (dev.sectors new) off) c.make_database.ensures.untouched)) first)

pub returns-in-Err-default-Blank-clause-stands : goal.returns-in-Err-default-Blank-clause-stands
returns-in-Err-default-Blank-clause-stands g c honest one stand =
    let dev = g.D.SectorDev in
    let old = c.args.dev in
    let how = c.args.how in
    let new = c.in-Err-default-Blank.dev in
    let there = has_blank how (dev.sectors old) (dev.candidate old) (dev.candidate new)
    (blank_told g c honest) in
    both_ok c.make_database.result c.make_database.ensures.asked
    (c.make_database.ensures.stands (c.in-Err-default-Blank.ensures.honesty.1 honest))
    (λ file none stands.
    let due = ap (making_fault how) (sym c.in-Err-default-Blank.ensures.size) ∙ none in
    (empty, bounds_of how, stands, inr (inl (record { due = due; on_blank = there }), refl, refl)))

pub returns-in-Err-default-Blank-clause-opened : goal.returns-in-Err-default-Blank-clause-opened
returns-in-Err-default-Blank-clause-opened g c honest =
    let dev = g.D.SectorDev in
    let old = c.args.dev in
    let how = c.args.how in
    let all = c.in-Err-default-Blank.ensures in
    let there = has_blank how (dev.sectors old) (dev.candidate old)
    (dev.candidate c.in-Err-default-Blank.dev) (blank_told g c honest) in
    both_ok c.make_database.result c.make_database.ensures.asked c.make_database.ensures.meta
    (λ file none fresh.
    inr (record { due = ap (making_fault how) (sym all.size) ∙ none; on_blank = there }, fresh))

blank_refused : (g : Over) (c : goal.After-make_database g) → g.D.SectorDev.honest c.args.dev
    → IfErr c.make_database.result (λ e. (e.1 ≡ Device → ⊥)
    → IsRefusedOpening c.args.how (g.D.SectorDev.sectors c.args.dev)
    (g.D.SectorDev.candidate c.args.dev) (g.D.SectorDev.candidate e.0) e.1)
blank_refused g c honest =
    let dev = g.D.SectorDev in
    let old = c.args.dev in
    let how = c.args.how in
    let new = c.in-Err-default-Blank.dev in
    each_err c.make_database.result c.make_database.ensures.refused (λ e is why other.
    let made = why other in
    subst (λ d. IsRefusedOpening how (dev.sectors old) (dev.candidate old) (dev.candidate d) e.1)
    (sym made.1)
    (refused_blank how (dev.sectors old) (dev.candidate old) (dev.candidate new)
    (blank_told g c honest) e.1 (ap (making_fault how)
    (sym c.in-Err-default-Blank.ensures.size) ∙ made.0)))

pub returns-in-Err-default-Blank-clause-refused : goal.returns-in-Err-default-Blank-clause-refused
returns-in-Err-default-Blank-clause-refused g c honest none = blank_refused g c honest

pub returns-in-Err-default-Blank-clause-opens : goal.returns-in-Err-default-Blank-clause-opens
returns-in-Err-default-Blank-clause-opens g c honest none stand allow =
    let dev = g.D.SectorDev in
    each_err c.make_database.result (blank_refused g c honest)
    (λ e is why. only_memory c.args.how (dev.sectors c.args.dev) (dev.candidate c.args.dev)
    (dev.candidate e.0) e.1 stand allow why)

pub returns-in-Err-default-Blank-clause-early : goal.returns-in-Err-default-Blank-clause-early
returns-in-Err-default-Blank-clause-early g c =
    if_none _ _ (sym (ap (early_fault c.args.how) c.capacity-sectors.ensures)
    ∙ sym c.early_refusal.ensures ∙ c.in_default.is)

pub returns-in-Err-default-Blank-clause-fresh : goal.returns-in-Err-default-Blank-clause-fresh
returns-in-Err-default-Blank-clause-fresh g c =
    made_opened c.make_database.result _ _ _ c.make_database.ensures.asked
    c.make_database.ensures.fresh (λ none. sym (was_asked c.args.how _ none).1)
    (ap (λ (n : ℕ). n / 4) c.in-Err-default-Blank.ensures.size)

pub returns-in-Err-default-Blank-clause-only_reads : goal.returns-in-Err-default-Blank-clause-only_reads
returns-in-Err-default-Blank-clause-only_reads g c reading honest =
    let dev = g.D.SectorDev in
    let new = c.in-Err-default-Blank.dev in
    subst (OnlyReads dev c.args.dev)
    (sym (device_untouched (making_fault c.args.how (dev.sectors new)) new c.make_database.result
    (none_for_reading c.args.how (dev.sectors new) reading) c.make_database.ensures.untouched))
    (c.in-Err-default-Blank.ensures.only_reads (c.is_writable.ensures ∙ reading) honest)

pub returns-in-Err-default-Blank-clause-device : goal.returns-in-Err-default-Blank-clause-device
returns-in-Err-default-Blank-clause-device g c = record {
  honesty = both_ways c.make_database.ensures.device.honesty c.in-Err-default-Blank.ensures.honesty;
  later = later_then _ _ _ c.in-Err-default-Blank.ensures.cause.later
      c.make_database.ensures.device.later;
  fault = let dev = g.D.SectorDev in
      each_err c.make_database.result c.make_database.ensures.device.fault
      (λ e same more is. more_later (dev.faults c.args.dev)
      (dev.faults c.in-Err-default-Blank.dev) (dev.faults e.0)
      c.in-Err-default-Blank.ensures.cause.later (more is));
}

pub returns-in-Err-default-Blank-clause-only : goal.returns-in-Err-default-Blank-clause-only
returns-in-Err-default-Blank-clause-only g c =
    each_err c.make_database.result c.make_database.ensures.only (λ e is among. of_made e.1 among)

pub returns-in-Err-default-Blank-clause-size : goal.returns-in-Err-default-Blank-clause-size
returns-in-Err-default-Blank-clause-size g c =
    let size = c.make_database.ensures.size ∙ c.in-Err-default-Blank.ensures.size in
    (ap (λ (n : ℕ). n / 4) size, λ kept. size)

-- ---- a device that is no good file

not_ours_refused : (g : Over) (c : goal.After-or_exists g) → g.D.SectorDev.honest c.args.dev
    → IsRefusedOpening c.args.how (g.D.SectorDev.sectors c.args.dev)
    (g.D.SectorDev.candidate c.args.dev) (g.D.SectorDev.candidate c.in-Err-default-NotOurs.dev)
    c.or_exists.result
not_ours_refused g c honest =
    let dev = g.D.SectorDev in
    let all = c.in-Err-default-NotOurs.ensures in
    let old = c.args.dev in
    let new = c.in-Err-default-NotOurs.dev in
    refused_not_ours c.args.how (dev.sectors old) (dev.candidate old) (dev.candidate new)
    c.or_exists.result
    (tells c.args.how (dev.sectors old) (dev.candidate old) (dev.candidate new) c.is_writable.result
    (dev.seen old) (dev.seen new) c.in-Err-default-NotOurs.field-0-1 redo.NotOurs
    c.is_writable.ensures c.in-Err-default-NotOurs.field-0-1-is
    not_ours_tells.0 not_ours_tells.1 (g.met.D.SectorDev.seen_may_stay old honest)
    (λ on. all.refused on honest) (λ off. all.refused_as_seen off honest))
    c.or_exists.ensures

damaged_refused : (g : Over) (c : goal.After-or_exists-in-Err-default-Damaged g)
    → g.D.SectorDev.honest c.args.dev
    → IsRefusedOpening c.args.how (g.D.SectorDev.sectors c.args.dev)
    (g.D.SectorDev.candidate c.args.dev) (g.D.SectorDev.candidate c.in-Err-default-Damaged.dev)
    c.or_exists-in-Err-default-Damaged.result
damaged_refused g c honest =
    let dev = g.D.SectorDev in
    let all = c.in-Err-default-Damaged.ensures in
    let old = c.args.dev in
    let new = c.in-Err-default-Damaged.dev in
    refused_damaged c.args.how (dev.sectors old) (dev.candidate old) (dev.candidate new)
    c.or_exists-in-Err-default-Damaged.result
    (tells c.args.how (dev.sectors old) (dev.candidate old) (dev.candidate new) c.is_writable.result
    (dev.seen old) (dev.seen new) c.in-Err-default-Damaged.field-0-1 redo.Damaged
    c.is_writable.ensures c.in-Err-default-Damaged.field-0-1-is
    damaged_tells.0 damaged_tells.1 (g.met.D.SectorDev.seen_may_stay old honest)
    (λ on. all.refused on honest) (λ off. all.refused_as_seen off honest))
    c.or_exists-in-Err-default-Damaged.ensures

pub returns-in-Err-default-NotOurs : goal.returns-in-Err-default-NotOurs
returns-in-Err-default-NotOurs g c = record {
  early = if_none _ _ (sym (ap (early_fault c.args.how) c.capacity-sectors.ensures)
      ∙ sym c.early_refusal.ensures ∙ c.in_default.is);
  fresh = tt;
  any_moment = λ honest.
      let dev = g.D.SectorDev in
      before_settle dev (dev.sectors c.args.dev / 4) c.args.dev c.in-Err-default-NotOurs.dev _
      (c.in-Err-default-NotOurs.ensures.any_moment honest);
  stands = λ honest one stand. tt;
  opened = λ honest. tt;
  only_reads = λ reading honest.
      c.in-Err-default-NotOurs.ensures.only_reads (c.is_writable.ensures ∙ reading) honest;
  opens = λ honest none stand allow.
      only_memory c.args.how (g.D.SectorDev.sectors c.args.dev) (g.D.SectorDev.candidate c.args.dev)
      (g.D.SectorDev.candidate c.in-Err-default-NotOurs.dev) c.or_exists.result stand allow
      (λ other. not_ours_refused g c honest);
  refused = λ honest none other. not_ours_refused g c honest;
  device = record {
    honesty = c.in-Err-default-NotOurs.ensures.honesty;
    later = c.in-Err-default-NotOurs.ensures.cause.later;
    fault = λ is. absurd ((of_no_file (is_exclusive c.args.how) c.or_exists.result
        c.or_exists.ensures).1 is);
  };
  only = (of_no_file (is_exclusive c.args.how) c.or_exists.result c.or_exists.ensures).0;
  size = (
    ap (λ (n : ℕ). n / 4) c.in-Err-default-NotOurs.ensures.size,
    λ kept.
        c.in-Err-default-NotOurs.ensures.size,
  );
}

pub returns-in-Err-default-Damaged : goal.returns-in-Err-default-Damaged
returns-in-Err-default-Damaged g c = record {
  early = if_none _ _ (sym (ap (early_fault c.args.how) c.capacity-sectors.ensures)
      ∙ sym c.early_refusal.ensures ∙ c.in_default.is);
  fresh = tt;
  any_moment = λ honest.
      let dev = g.D.SectorDev in
      before_settle dev (dev.sectors c.args.dev / 4) c.args.dev c.in-Err-default-Damaged.dev _
      (c.in-Err-default-Damaged.ensures.any_moment honest);
  stands = λ honest one stand. tt;
  opened = λ honest. tt;
  only_reads = λ reading honest.
      c.in-Err-default-Damaged.ensures.only_reads (c.is_writable.ensures ∙ reading) honest;
  opens = λ honest none stand allow.
      only_memory c.args.how (g.D.SectorDev.sectors c.args.dev) (g.D.SectorDev.candidate c.args.dev)
      (g.D.SectorDev.candidate c.in-Err-default-Damaged.dev)
      c.or_exists-in-Err-default-Damaged.result stand allow (λ other. damaged_refused g c honest);
  refused = λ honest none other. damaged_refused g c honest;
  device = record {
    honesty = c.in-Err-default-Damaged.ensures.honesty;
    later = c.in-Err-default-Damaged.ensures.cause.later;
    fault = λ is. absurd ((of_damaged (is_exclusive c.args.how)
        c.or_exists-in-Err-default-Damaged.result
        c.or_exists-in-Err-default-Damaged.ensures).1 is);
  };
  only = (of_damaged (is_exclusive c.args.how) c.or_exists-in-Err-default-Damaged.result
      c.or_exists-in-Err-default-Damaged.ensures).0;
  size = (
    ap (λ (n : ℕ). n / 4) c.in-Err-default-Damaged.ensures.size,
    λ kept.
        c.in-Err-default-Damaged.ensures.size,
  );
}

-- ---- want of memory, or a fault of the device

not_writing : (g : Over) (c : goal.In-Err-default-Memory g) → c.is_writable.result ≡ true → ⊥
not_writing g c writing = c.in-Err-default-Memory.ensures.cause.no_memory writing
    c.in-Err-default-Memory.field-0-1-is

pub returns-in-Err-default-Memory : goal.returns-in-Err-default-Memory
returns-in-Err-default-Memory g c = record {
  early = if_none _ _ (sym (ap (early_fault c.args.how) c.capacity-sectors.ensures)
      ∙ sym c.early_refusal.ensures ∙ c.in_default.is);
  fresh = tt;
  any_moment = λ honest.
      let dev = g.D.SectorDev in
      before_settle dev (dev.sectors c.args.dev / 4) c.args.dev c.in-Err-default-Memory.dev _
      (c.in-Err-default-Memory.ensures.any_moment honest);
  stands = λ honest one stand. tt;
  opened = λ honest. tt;
  only_reads = λ reading honest.
      c.in-Err-default-Memory.ensures.only_reads (c.is_writable.ensures ∙ reading) honest;
  opens = λ honest none stand allow.
      inr (refl, inr (sym c.is_writable.ensures ∙ not_on c.is_writable.result (not_writing g c)));
  refused = λ honest none other.
      let dev = g.D.SectorDev in
      lacks_memory c.args.how (dev.sectors c.args.dev) (dev.candidate c.args.dev)
      (dev.candidate c.in-Err-default-Memory.dev) c.is_writable.result (dev.seen c.args.dev)
      c.is_writable.ensures (not_writing g c)
      (g.met.D.SectorDev.seen_may_stay c.args.dev honest)
      (c.in-Err-default-Memory.ensures.memory honest c.in-Err-default-Memory.field-0-1-is);
  device = record {
    honesty = c.in-Err-default-Memory.ensures.honesty;
    later = c.in-Err-default-Memory.ensures.cause.later;
    fault = λ is. absurd (same_false the_type Memory Device refl is);
  };
  only = memory_opens;
  size = (
    ap (λ (n : ℕ). n / 4) c.in-Err-default-Memory.ensures.size,
    λ kept.
        c.in-Err-default-Memory.ensures.size,
  );
}

pub returns-in-Err-default-Device : goal.returns-in-Err-default-Device
returns-in-Err-default-Device g c = record {
  early = if_none _ _ (sym (ap (early_fault c.args.how) c.capacity-sectors.ensures)
      ∙ sym c.early_refusal.ensures ∙ c.in_default.is);
  fresh = tt;
  any_moment = λ honest.
      let dev = g.D.SectorDev in
      before_settle dev (dev.sectors c.args.dev / 4) c.args.dev c.in-Err-default-Device.dev _
      (c.in-Err-default-Device.ensures.any_moment honest);
  stands = λ honest one stand. tt;
  opened = λ honest. tt;
  only_reads = λ reading honest.
      c.in-Err-default-Device.ensures.only_reads (c.is_writable.ensures ∙ reading) honest;
  opens = λ honest none stand allow. inl refl;
  refused = λ honest none other. absurd (other refl);
  device = record {
    honesty = c.in-Err-default-Device.ensures.honesty;
    later = c.in-Err-default-Device.ensures.cause.later;
    fault = λ is. c.in-Err-default-Device.ensures.cause.fault c.in-Err-default-Device.field-0-1-is;
  };
  only = device_opens;
  size = (
    ap (λ (n : ℕ). n / 4) c.in-Err-default-Device.ensures.size,
    λ kept.
        c.in-Err-default-Device.ensures.size,
  );
}

-- ---- it is refused before the device is called

early_is : (g : Over) (c : goal.In-Some g)
    → early_fault c.args.how (g.D.SectorDev.sectors c.args.dev) ≡ Some c.in-Some.fault
early_is g c = sym (ap (early_fault c.args.how) c.capacity-sectors.ensures)
    ∙ sym c.early_refusal.ensures ∙ c.in-Some.is

pub returns-in-Some : goal.returns-in-Some
returns-in-Some g c = record {
  early = early_err _ _ c.args.dev c.in-Some.fault (early_is g c);
  fresh = tt;
  any_moment = λ honest.
      let dev = g.D.SectorDev in
      let d = c.args.dev in
      reads_settle dev (dev.sectors d / 4) d d _
      (reads_nothing dev d (λ image left. g.met.D.SectorDev.only_now d image honest left));
  stands = λ honest one stand. tt;
  opened = λ honest. tt;
  only_reads = λ reading honest.
      reads_nothing g.D.SectorDev c.args.dev
      (λ image left. g.met.D.SectorDev.only_now c.args.dev image honest left);
  opens = λ honest none. not_none _ c.in-Some.fault (early_is g c) none;
  refused = λ honest none. not_none _ c.in-Some.fault (early_is g c) none;
  device = record {
    honesty = same_honest g.D.SectorDev c.args.dev c.args.dev refl;
    later = same_faults g.D.SectorDev c.args.dev c.args.dev refl;
    fault = λ is. absurd ((of_early c.args.how _ c.in-Some.fault (early_is g c)).1 is);
  };
  only = (of_early c.args.how _ c.in-Some.fault (early_is g c)).0;
  size = (refl, λ kept. refl);
}
