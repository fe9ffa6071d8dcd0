use Rattle.std.proofs.Common.{◌≡◌, ◌⊎◌, ⊎_elim, inl, inr, ℕ, ◌+◌, ◌/◌, length, None, refl, sym, ap, ◌∙◌, subst}
use Rattle.std.specs.FinMap.{empty}
use Rattle.sect_dev.specs.Moments.{weaker}
use Rattle.page_io.specs.Counts.{counts_end}
use Rattle.page_io.specs.Meaning.{ImageStandsFor}
use Rattle.page_io.specs.Page.{page_at}
use Rattle.page_io.specs.Store.{Pages, Settled, bytes_of, file_of, file_pages, overlaid, page_of}
use Rattle.redo_area.specs.File.{settled}
use Rattle.redo_area.specs.Opening.{IsFresh as IsFreshStore}
use Rattle.sect_dev.specs.Reads.{OnlyReads}
use Rattle.redo_area.specs.Settling.{SettlesTo}
use Rattle.file_opening.specs.OpenFiles.{device_left}
use Rattle.seg_table.specs.MetaPages.{model_meta}
use Rattle.file_opening.specs.Opening.{bounds_of, emptying_fault, SaysMeta, EmptiesFile}
use Rattle.file_opening.proofs.EmptyFiles.{OldOrEmpty, settles_run, settles_on, state_of}
use Rattle.page_io.proofs.Exits.{both_ways, later_then, more_later, not_both}
use Rattle.file_opening.proofs.Exits.{of_found, of_emptied, reads_leave, reads_settle, opens_emptied, just_opened}
use Rattle.file_opening.proofs.FoundFiles.{opens_kept}
use Rattle.file_opening.proofs.Refusals.{is_on, is_off, from_ok, both_ok, both_err, each_err}
use Rattle.file_opening.proofs.opening.find_or_empty.Given.{Over}
use Rattle.file_opening.proofs.opening.find_or_empty.Goals as goal

pub returns-then-not-how-clause-stands : goal.returns-then-not-how-clause-stands
returns-then-not-how-clause-stands g c honest only map bounds stands =
    opens_kept c.args.how map bounds c.find_database-found.result
    (is_off c.args.how.truncate c.if-not-how.true)
    (c.requires.allowed)
    (c.find_database-found.ensures.stands honest only map bounds stands)

-- what is due of the file that was found is due of the pages at the start
due_here : (g : Over) (c : goal.After-empty_database g) → g.D.SectorDev.honest c.args.store.dev →
    emptying_fault (bounds_of c.args.how) (g.D.SectorDev.sectors c.args.store.dev)
    (length (file_pages (overlaid (bytes_of c.args.store.waiting.items)
    (page_at (g.D.SectorDev.seen c.args.store.dev))) c.args.store.end) + 1)
    ≡ emptying_fault (bounds_of c.args.how) (g.D.SectorDev.sectors c.in-Ok.file.store.dev)
    c.in-Ok.file.store.end
due_here g c honest =
    let dev = g.D.SectorDev in
    let mid = c.in-Ok.file.store in
    let how = c.args.how in
    let all = c.in-Ok.ensures in
    let end_is = ap (λ (ps : Pages). length ps + 1) (sym (all.kept honest))
    ∙ counts_end (overlaid (bytes_of mid.waiting.items) (page_at (dev.seen mid.dev)))
    mid.end mid.least in
    ap (λ (n : ℕ). emptying_fault (bounds_of how) (dev.sectors c.args.store.dev) n) end_is
    ∙ ap (λ (n : ℕ). emptying_fault (bounds_of how) n mid.end) (sym all.size)

-- its meta page is a good one
says_here : (g : Over) (c : goal.After-empty_database g) → g.D.SectorDev.honest c.args.store.dev →
    SaysMeta (page_of (file_pages (overlaid (bytes_of c.args.store.waiting.items)
    (page_at (g.D.SectorDev.seen c.args.store.dev))) c.args.store.end) 1)
says_here g c honest =
    let says = c.in-Ok.ensures.says honest in
    record { meta = model_meta c.in-Ok.file.meta; valid = says.0; says = says.1 }

pub returns-in-Ok-clause-opened : goal.returns-in-Ok-clause-opened
returns-in-Ok-clause-opened g c honest =
    let may = c.requires.allowed in
    let asked = is_on c.args.how.truncate c.if-not-how.false in
    both_ok c.empty_database.result c.empty_database.ensures.room c.empty_database.ensures.meta
    (λ file due fresh. inr (
      record {
        asked = asked;
        written = c.requires.written asked;
        allowed = may;
        opens =
            says_here g c honest;
        due = due_here g c honest ∙ due;
      },
      fresh,
    ))

pub returns-then-not-how-clause-opened : goal.returns-then-not-how-clause-opened
returns-then-not-how-clause-opened g c honest =
    let may = c.requires.allowed in
    from_ok c.find_database-found.result (c.find_database-found.ensures.says honest)
    (λ file says. inl (is_off c.args.how.truncate c.if-not-how.true, may, says.0, says.1))

pub returns-in-Ok-clause-emptied : goal.returns-in-Ok-clause-emptied
returns-in-Ok-clause-emptied g c honest =
    from_ok c.empty_database.result c.empty_database.ensures.room
    (λ file due asked. due_here g c honest ∙ due)

pub returns-then-not-how-clause-emptied : goal.returns-then-not-how-clause-emptied
returns-then-not-how-clause-emptied g c honest =
    from_ok c.find_database-found.result c.find_database-found.ensures.fresh
    (λ file fresh asked. not_both _ asked (is_off c.args.how.truncate c.if-not-how.true))

pub returns-in-Ok-clause-any_moment : goal.returns-in-Ok-clause-any_moment
returns-in-Ok-clause-any_moment g c honest =
    let dev = g.D.SectorDev in
    let store = c.args.store in
    let mid = c.in-Ok.file.store in
    let how = c.args.how in
    let cap : ℕ = dev.sectors store.dev / 4 in
    let file = file_pages (overlaid (bytes_of store.waiting.items) (page_at (dev.seen store.dev)))
    store.end in
    let all = c.in-Ok.ensures in
    let P : Settled → Type 0 = λ now.
    SettlesTo cap (dev.candidate store.dev) now
    ⊎ (EmptiesFile how (dev.sectors store.dev) file × ImageStandsFor now empty (bounds_of how)) in
    let may = c.requires.allowed in
    let asked = is_on how.truncate c.if-not-how.false in
    let there : SettlesTo cap (dev.candidate store.dev) (file_of file) =
    record {
      image = dev.seen store.dev;
      is_image =
          g.met.D.SectorDev.seen_may_stay store.dev honest;
      reads =
          (store.settles honest c.requires.fresh.usable).settles;
    } in
    settles_on dev.moment dev.left_since store.dev mid.dev (device_left c.empty_database.result) cap
    (dev.sectors mid.dev / 4) P (OldOrEmpty
    (file_pages (overlaid (bytes_of mid.waiting.items) (page_at (dev.seen mid.dev))) mid.end)
    (emptying_fault (bounds_of how) (dev.sectors mid.dev) mid.end ≡ None) (bounds_of how))
    (ap (λ (n : ℕ). n / 4) all.size)
    (settles_run dev.moment dev.left_since store.dev mid.dev cap P
    (weaker dev.moment dev.left_since store.dev mid.dev (λ image. P (settled cap image)) _
    (all.only_reads honest).any_moment
    (λ image is. inl (record { image = image; is_image = is; reads = refl }))))
    (c.empty_database.ensures.any_moment (all.device.honesty.1 honest))
    (λ y. ⊎_elim
    (λ is. inl (subst (λ (z : Settled). SettlesTo cap (dev.candidate store.dev) z)
    (sym (is ∙ ap file_of (all.kept honest))) there))
    (λ new. inr (
      record {
        asked = asked;
        written = c.requires.written asked;
        allowed = may;
        opens =
            says_here g c honest;
        due = due_here g c honest ∙ new.0;
      },
      new.1,
    )))

pub returns-in-Ok-clause-refused : goal.returns-in-Ok-clause-refused
returns-in-Ok-clause-refused g c honest =
    let dev = g.D.SectorDev in
    let store = c.args.store in
    let mid = c.in-Ok.file.store in
    let how = c.args.how in
    let all = c.in-Ok.ensures in
    let may = c.requires.allowed in
    let asked = is_on how.truncate c.if-not-how.false in
    both_err c.empty_database.result c.empty_database.ensures.refused
    (c.empty_database.ensures.left (all.device.honesty.1 honest)) (λ e why left other. (
      ⊎_elim
          (λ is. inl (inr (may, inr (says_here g c honest, asked, due_here g c honest ∙ is))))
          (λ memory. inr (memory, asked))
          (why other),
      λ writing after is. ap (λ (n : ℕ). settled (n / 4) after) (sym all.size) ∙ left other after is
          ∙ ap file_of (all.kept honest),
    ))

-- ---- it is not to be emptied

pub find_database-found-requires : goal.find_database-found-requires
find_database-found-requires g c = record {
  fresh =
      subst (λ b. IsFreshStore (g.D.SectorDev.sectors c.args.store.dev / 4) b
      (state_of c.args.store)) (sym c.is_writable.ensures) c.requires.fresh;
}

pub returns-then-not-how-clause-fresh : goal.returns-then-not-how-clause-fresh
returns-then-not-how-clause-fresh g c =
    just_opened c.find_database-found.result _ _ _ _ c.is_writable.ensures refl
    c.find_database-found.ensures.fresh

pub returns-then-not-how-clause-any_moment : goal.returns-then-not-how-clause-any_moment
returns-then-not-how-clause-any_moment g c honest =
    let dev = g.D.SectorDev in
    let d = c.args.store.dev in
    reads_settle dev (dev.sectors d / 4) d (device_left c.find_database-found.result) _
    (c.find_database-found.ensures.only_reads honest)

pub returns-then-not-how-clause-only_reads : goal.returns-then-not-how-clause-only_reads
returns-then-not-how-clause-only_reads g c reading honest =
    c.find_database-found.ensures.only_reads honest

pub returns-then-not-how-clause-refused : goal.returns-then-not-how-clause-refused
returns-then-not-how-clause-refused g c honest =
    let dev = g.D.SectorDev in
    let store = c.args.store in
    let d = store.dev in
    let rest = store.settles honest c.requires.fresh.usable in
    let all = c.find_database-found.ensures in
    each_err c.find_database-found.result (all.refused honest) (λ e is why other. (
      inl (inr (c.requires.allowed, inl (why other))),
      λ writing. reads_leave dev (dev.sectors d / 4) d e.0 _
          (subst (OnlyReads dev d) (ap device_left is) (all.only_reads honest))
          (rest.waits (c.requires.fresh.writable ∙ writing)).stable rest.settles,
    ))

pub returns-then-not-how-clause-device : goal.returns-then-not-how-clause-device
returns-then-not-how-clause-device g c = c.find_database-found.ensures.device

pub returns-then-not-how-clause-only : goal.returns-then-not-how-clause-only
returns-then-not-how-clause-only g c =
    each_err c.find_database-found.result c.find_database-found.ensures.only
    (λ e is among. of_found e.1 among)

pub returns-then-not-how-clause-size : goal.returns-then-not-how-clause-size
returns-then-not-how-clause-size g c =
    let all = c.find_database-found.ensures in
    (ap (λ (n : ℕ). n / 4) all.size, λ kept. all.size)

-- ---- it is emptied

pub empty_database-requires-clause-sectors : goal.empty_database-requires-clause-sectors
empty_database-requires-clause-sectors g c = c.requires.sectors ∙ sym c.in-Ok.ensures.size

pub empty_database-requires-clause-fresh : goal.empty_database-requires-clause-fresh
empty_database-requires-clause-fresh g c = record {
  staged = c.in-Ok.file.idle;
  capacity = refl;
  usable = c.in-Ok.ensures.fresh.usable;
  writable = c.in-Ok.ensures.fresh.writable ∙ c.is_writable.ensures
      ∙ c.requires.written (is_on c.args.how.truncate c.if-not-how.false);
}

pub returns-in-Ok-clause-fresh : goal.returns-in-Ok-clause-fresh
returns-in-Ok-clause-fresh g c =
    just_opened c.empty_database.result _ _ _ _
    (sym (c.requires.written (is_on c.args.how.truncate c.if-not-how.false)))
    (ap (λ (n : ℕ). n / 4) c.in-Ok.ensures.size) c.empty_database.ensures.fresh

pub returns-in-Ok-clause-stands : goal.returns-in-Ok-clause-stands
returns-in-Ok-clause-stands g c honest only map bounds stands =
    opens_emptied c.args.how map bounds c.empty_database.result
    (is_on c.args.how.truncate c.if-not-how.false)
    (c.requires.allowed)
    (c.empty_database.ensures.stands (c.in-Ok.ensures.device.honesty.1 honest))

pub returns-in-Ok-clause-only_reads : goal.returns-in-Ok-clause-only_reads
returns-in-Ok-clause-only_reads g c reading honest =
    not_both _ (c.requires.written (is_on c.args.how.truncate c.if-not-how.false)) reading

pub returns-in-Ok-clause-device : goal.returns-in-Ok-clause-device
returns-in-Ok-clause-device g c = record {
  honesty = both_ways c.empty_database.ensures.device.honesty c.in-Ok.ensures.device.honesty;
  later = later_then _ _ _ c.in-Ok.ensures.device.later c.empty_database.ensures.device.later;
  fault = let dev = g.D.SectorDev in
      each_err c.empty_database.result c.empty_database.ensures.device.fault
      (λ e same more is. more_later (dev.faults c.args.store.dev)
      (dev.faults c.in-Ok.file.store.dev) (dev.faults e.0) c.in-Ok.ensures.device.later (more is));
}

pub returns-in-Ok-clause-only : goal.returns-in-Ok-clause-only
returns-in-Ok-clause-only g c =
    each_err c.empty_database.result c.empty_database.ensures.only
    (λ e is among. of_emptied e.1 among)

pub returns-in-Ok-clause-size : goal.returns-in-Ok-clause-size
returns-in-Ok-clause-size g c = (
  c.empty_database.ensures.size ∙ ap (λ (n : ℕ). n / 4) c.in-Ok.ensures.size,
  λ kept.
      not_both _ (is_on c.args.how.truncate c.if-not-how.false) kept,
)

-- ---- what was to be emptied is refused

pub returns-in-Err-clause-fresh : goal.returns-in-Err-clause-fresh
returns-in-Err-clause-fresh g c = tt

pub returns-in-Err-clause-any_moment : goal.returns-in-Err-clause-any_moment
returns-in-Err-clause-any_moment g c honest =
    let dev = g.D.SectorDev in
    let d = c.args.store.dev in
    reads_settle dev (dev.sectors d / 4) d c.in-Err.refused.0 _ (c.in-Err.ensures.only_reads honest)

pub returns-in-Err-clause-stands : goal.returns-in-Err-clause-stands
returns-in-Err-clause-stands g c honest only map bounds stands = tt

pub returns-in-Err-clause-only_reads : goal.returns-in-Err-clause-only_reads
returns-in-Err-clause-only_reads g c reading honest = c.in-Err.ensures.only_reads honest

pub returns-in-Err-clause-refused : goal.returns-in-Err-clause-refused
returns-in-Err-clause-refused g c honest other =
    let dev = g.D.SectorDev in
    let store = c.args.store in
    let d = store.dev in
    let rest = store.settles honest c.requires.fresh.usable in (
      inl (inr (
        c.requires.allowed,
        inl (c.in-Err.ensures.refused honest other),
      )),
      λ writing. reads_leave dev (dev.sectors d / 4) d c.in-Err.refused.0 _
          (c.in-Err.ensures.only_reads honest)
          (rest.waits (c.requires.fresh.writable ∙ writing)).stable rest.settles,
    )

pub returns-in-Err-clause-device : goal.returns-in-Err-clause-device
returns-in-Err-clause-device g c = c.in-Err.ensures.device

pub returns-in-Err-clause-only : goal.returns-in-Err-clause-only
returns-in-Err-clause-only g c = of_found c.in-Err.refused.1 c.in-Err.ensures.only

pub returns-in-Err-clause-size : goal.returns-in-Err-clause-size
returns-in-Err-clause-size g c =
    (ap (λ (n : ℕ). n / 4) c.in-Err.ensures.size, λ kept. c.in-Err.ensures.size)
