use Rattle.std.proofs.Common.{◌≡◌, ℕ, ◌/◌, Err, inl, inr, refl, sym, ap, ◌∙◌, subst}
use denote.Enum.Bare.{same_false}
use Rattle.sect_dev.specs.Device.{MoreFaults}
use Rattle.page_model.specs.Meaning.{said_by}
use Rattle.page_model.specs.Pages.{Meta, MetaPage}
use Rattle.page_model.specs.Reading.{body_of}
use Rattle.page_model.specs.PageBodies.{meta_of}
use Rattle.page_model.proofs.GoodBodies.{bodies_valid}
use Rattle.page_io.specs.Meaning.{FileStandsFor, ImageStandsFor}
use Rattle.page_io.specs.Page.{page_at}
use Rattle.page_io.specs.Store.{Pages, Settled, StoreState, bytes_of, file_pages, overlaid, page_of}
use Rattle.sect_dev.specs.Reads.{OnlyReads}
use Rattle.seg_table.specs.MetaPages.{model_meta}
use Rattle.dbm_fault.specs.Faults.{fault_from}
use Rattle.dbm_fault.specs.declared.fault.Fault.TheVariants.{Device, Damaged, Version}
use Rattle.file_opening.proofs.EmptyFiles.{settles_before, state_of}
use Rattle.file_opening.proofs.FoundFiles.{refused_version, refused_meta}
use Rattle.dbm_fault.specs.contracts.fault.Fault.{the_type}
use Rattle.page_io.proofs.Exits.{both_ways, later_then}
use Rattle.file_opening.proofs.Exits.{only_device, same_honest, same_faults}
use Rattle.file_opening.proofs.opening.find_database.Given.{Over}
use Rattle.file_opening.proofs.opening.find_database.Goals as goal

pub returns-in-Ok-clause-stands : goal.returns-in-Ok-clause-stands
returns-in-Ok-clause-stands g c honest only map bounds stands =
    let dev = g.D.SectorDev in
    let store = c.args.store in
    let new = c.read.new.self in
    let file = file_pages (overlaid (bytes_of store.waiting.items) (page_at (dev.seen store.dev)))
    store.end in
    let m = c.in-Ok.meta in
    let meta = meta_of stands.placement in
    let all = c.in_default.ensures in
    let read = all.found honest ∙ ap (λ (s : Pages). overlaid s (page_of file) 1)
    c.requires.fresh.staged in
    let is : model_meta m ≡ meta =
    (c.in-Ok.ensures.body meta (bodies_valid stands.placement stands.good).0.1).1
    (ap (body_of 1) read ∙ stands.spelled.0) in
    let same_bounds : (model_meta m).bounds ≡ bounds = ap (λ (x : Meta). x.bounds) is
    ∙ stands.bounded in
    let same = sym (all.kept honest).committed in
    let stands_so = subst (FileStandsFor file map) (sym same_bounds) stands in record {
      holds = λ usable. record {
        stands = subst (λ (ps : Pages). FileStandsFor ps map (model_meta m).bounds) same stands_so;
        meta_is = subst (λ (ps : Pages). said_by (page_of ps) 1 ≡ MetaPage (model_meta m)) same
            (stands.spelled.0 ∙ ap MetaPage (sym is));
      };
      rests = λ usable y left.
          let before = settles_before (dev.sectors store.dev / 4) (dev.sectors new.dev / 4)
          (dev.candidate store.dev) (dev.candidate new.dev) y (ap (λ (n : ℕ). n / 4) all.size)
          (all.only_reads honest).no_new left in
          subst (λ (z : Settled). ImageStandsFor z map (model_meta m).bounds)
          (sym (only y before)) stands_so;
      bounds_are = same_bounds;
    }

-- ---- the meta page is not read

pub returns-in-Err-clause-fresh : goal.returns-in-Err-clause-fresh
returns-in-Err-clause-fresh g c = tt

pub returns-in-Err-clause-only_reads : goal.returns-in-Err-clause-only_reads
returns-in-Err-clause-only_reads g c honest =
    subst (OnlyReads g.D.SectorDev c.args.store.dev) (sym c.into_dev.ensures)
    (c.in-Err.ensures.only_reads honest)

told : (g : Over) (c : goal.After-from g) → c.from.result ≡ Device
told g c = c.from.ensures ∙ ap fault_from
    (only_device (state_of c.args.store) c.in-Err.fault c.requires.fresh.usable c.args.store.least
    c.in-Err.ensures.answer)

pub returns-in-Err-clause-refused : goal.returns-in-Err-clause-refused
returns-in-Err-clause-refused g c honest other = absurd (other (told g c))

pub returns-in-Err-clause-device : goal.returns-in-Err-clause-device
returns-in-Err-clause-device g c = record {
  honesty = both_ways (same_honest g.D.SectorDev c.read.new.self.dev c.into_dev.result
      c.into_dev.ensures) c.in-Err.ensures.honesty;
  later = later_then _ _ _ c.in-Err.ensures.cause.later
      (same_faults g.D.SectorDev c.read.new.self.dev c.into_dev.result c.into_dev.ensures);
  fault = λ is. let dev = g.D.SectorDev in
      subst (λ d. MoreFaults (dev.faults c.args.store.dev) (dev.faults d)) (sym c.into_dev.ensures)
      (c.in-Err.ensures.cause.fault
      (ap Err (only_device (state_of c.args.store) c.in-Err.fault c.requires.fresh.usable
      c.args.store.least c.in-Err.ensures.answer)));
}

pub returns-in-Err-clause-only : goal.returns-in-Err-clause-only
returns-in-Err-clause-only g c = inl (told g c)

pub returns-in-Err-clause-size : goal.returns-in-Err-clause-size
returns-in-Err-clause-size g c = ap g.D.SectorDev.sectors c.into_dev.ensures ∙ c.in-Err.ensures.size

-- ---- a good meta page

pub invariant_of-result : goal.invariant_of-result
invariant_of-result g c = record {
  idle = ap (λ (st : StoreState). st.staged) c.in_default.ensures.state ∙ c.requires.fresh.staged;
  told = ap (λ (st : StoreState). st.writable) c.in_default.ensures.state
      ∙ c.requires.fresh.writable;
  valid = c.in-Ok.ensures.found.0;
}

pub returns-in-Ok-clause-fresh : goal.returns-in-Ok-clause-fresh
returns-in-Ok-clause-fresh g c =
    let same = c.in_default.ensures.state in record {
      usable = ap (λ (st : StoreState). st.usable) same ∙ c.requires.fresh.usable;
      writable = ap (λ (st : StoreState). st.writable) same ∙ c.requires.fresh.writable;
      capacity = ap (λ (st : StoreState). st.capacity) same ∙ c.requires.fresh.capacity;
    }

pub returns-in-Ok-clause-only_reads : goal.returns-in-Ok-clause-only_reads
returns-in-Ok-clause-only_reads g c honest = c.in_default.ensures.only_reads honest

pub returns-in-Ok-clause-kept : goal.returns-in-Ok-clause-kept
returns-in-Ok-clause-kept g c honest = (c.in_default.ensures.kept honest).committed

pub returns-in-Ok-clause-says : goal.returns-in-Ok-clause-says
returns-in-Ok-clause-says g c honest =
    let store = c.args.store in
    let file = file_pages (overlaid (bytes_of store.waiting.items)
    (page_at (g.D.SectorDev.seen store.dev))) store.end in
    let read = c.in_default.ensures.found honest
    ∙ ap (λ (s : Pages). overlaid s (page_of file) 1) c.requires.fresh.staged in
    let valid = c.in-Ok.ensures.found.0 in (
      valid,
      ap (body_of 1) (sym read)
          ∙ (c.in-Ok.ensures.body (model_meta c.in-Ok.meta) valid).0 refl,
    )

pub returns-in-Ok-clause-device : goal.returns-in-Ok-clause-device
returns-in-Ok-clause-device g c = record {
  honesty = c.in_default.ensures.honesty;
  later = c.in_default.ensures.cause.later;
  fault = tt;
}

pub returns-in-Ok-clause-size : goal.returns-in-Ok-clause-size
returns-in-Ok-clause-size g c = c.in_default.ensures.size

-- ---- another version

pub returns-in-Err-Version-clause-fresh : goal.returns-in-Err-Version-clause-fresh
returns-in-Err-Version-clause-fresh g c = tt

pub returns-in-Err-Version-clause-only_reads : goal.returns-in-Err-Version-clause-only_reads
returns-in-Err-Version-clause-only_reads g c honest =
    subst (OnlyReads g.D.SectorDev c.args.store.dev) (sym c.into_dev-in-Err-Version.ensures)
    (c.in_default.ensures.only_reads honest)

pub returns-in-Err-Version-clause-refused : goal.returns-in-Err-Version-clause-refused
returns-in-Err-Version-clause-refused g c honest other =
    let store = c.args.store in
    let file = file_pages (overlaid (bytes_of store.waiting.items)
    (page_at (g.D.SectorDev.seen store.dev))) store.end in
    let read = c.in_default.ensures.found honest
    ∙ ap (λ (s : Pages). overlaid s (page_of file) 1) c.requires.fresh.staged in
    refused_version (page_of file 1) c.read.new.page.bytes c.read_meta.result
    c.in-Err-Version.field-0 c.in-Err-Version.is read c.read_meta.ensures.body
    c.read_meta.ensures.version c.in-Err-Version.field-0-is

pub returns-in-Err-Version-clause-device : goal.returns-in-Err-Version-clause-device
returns-in-Err-Version-clause-device g c = record {
  honesty = both_ways (same_honest g.D.SectorDev c.read.new.self.dev
      c.into_dev-in-Err-Version.result c.into_dev-in-Err-Version.ensures)
      c.in_default.ensures.honesty;
  later = later_then _ _ _ c.in_default.ensures.cause.later
      (same_faults g.D.SectorDev c.read.new.self.dev c.into_dev-in-Err-Version.result
      c.into_dev-in-Err-Version.ensures);
  fault = λ is. absurd (same_false the_type Version Device refl is);
}

pub returns-in-Err-Version-clause-only : goal.returns-in-Err-Version-clause-only
returns-in-Err-Version-clause-only g c = inr (inl refl)

pub returns-in-Err-Version-clause-size : goal.returns-in-Err-Version-clause-size
returns-in-Err-Version-clause-size g c =
    ap g.D.SectorDev.sectors c.into_dev-in-Err-Version.ensures ∙ c.in_default.ensures.size

-- ---- a bad meta page

pub returns-in-Err-Damaged-clause-fresh : goal.returns-in-Err-Damaged-clause-fresh
returns-in-Err-Damaged-clause-fresh g c = tt

pub returns-in-Err-Damaged-clause-only_reads : goal.returns-in-Err-Damaged-clause-only_reads
returns-in-Err-Damaged-clause-only_reads g c honest =
    subst (OnlyReads g.D.SectorDev c.args.store.dev) (sym c.into_dev-in-Err-Damaged.ensures)
    (c.in_default.ensures.only_reads honest)

pub returns-in-Err-Damaged-clause-refused : goal.returns-in-Err-Damaged-clause-refused
returns-in-Err-Damaged-clause-refused g c honest other =
    let store = c.args.store in
    let file = file_pages (overlaid (bytes_of store.waiting.items)
    (page_at (g.D.SectorDev.seen store.dev))) store.end in
    let read = c.in_default.ensures.found honest
    ∙ ap (λ (s : Pages). overlaid s (page_of file) 1) c.requires.fresh.staged in
    refused_meta (page_of file 1) c.read.new.page.bytes c.read_meta.result c.in-Err-Damaged.field-0
    c.in-Err-Damaged.is read c.read_meta.ensures.body c.read_meta.ensures.version
    c.in-Err-Damaged.field-0-is

pub returns-in-Err-Damaged-clause-device : goal.returns-in-Err-Damaged-clause-device
returns-in-Err-Damaged-clause-device g c = record {
  honesty = both_ways (same_honest g.D.SectorDev c.read.new.self.dev
      c.into_dev-in-Err-Damaged.result c.into_dev-in-Err-Damaged.ensures)
      c.in_default.ensures.honesty;
  later = later_then _ _ _ c.in_default.ensures.cause.later
      (same_faults g.D.SectorDev c.read.new.self.dev c.into_dev-in-Err-Damaged.result
      c.into_dev-in-Err-Damaged.ensures);
  fault = λ is. absurd (same_false the_type Damaged Device refl is);
}

pub returns-in-Err-Damaged-clause-only : goal.returns-in-Err-Damaged-clause-only
returns-in-Err-Damaged-clause-only g c = inr (inr refl)

pub returns-in-Err-Damaged-clause-size : goal.returns-in-Err-Damaged-clause-size
returns-in-Err-Damaged-clause-size g c =
    ap g.D.SectorDev.sectors c.into_dev-in-Err-Damaged.ensures ∙ c.in_default.ensures.size
