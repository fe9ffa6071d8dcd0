use Rattle.std.proofs.Common.{◌≡◌, ℕ, ◌/◌, None, sym, ap, ◌∙◌, subst}
use Rattle.std.specs.FinMap.{empty}
use Rattle.sect_dev.specs.Moments.{weaker}
use Rattle.page_model.specs.Meaning.{said_by}
use Rattle.page_model.specs.Pages.{Meta, MetaPage}
use Rattle.page_io.specs.Store.{Pages, Settled, StoreState, bytes_of, page_of}
use Rattle.page_io.specs.Meaning.{FileStandsFor, ImageStandsFor}
use Rattle.redo_area.specs.Settling.{only_seen}
use Rattle.redo_area.specs.File.{settled, IsBlankOr}
use Rattle.redo_area.specs.Pagers.{device_of}
use Rattle.seg_table.specs.MetaPages.{model_meta}
use Rattle.file_opening.specs.Opening.{bounds_of, making_fault}
use Rattle.file_opening.proofs.NewFiles.{BlankOrNew, blank_or_new}
use Rattle.file_opening.proofs.making.make_database.Goals as goal

pub returns-in-Ok-clause-stands : goal.returns-in-Ok-clause-stands
returns-in-Ok-clause-stands g c honest =
    let m = c.of_empty-meta.result in
    let same = sym (c.in-Ok.ensures.committed honest) in
    let stands = subst (λ (ps : Pages). FileStandsFor ps empty (model_meta m).bounds) same
    c.pages_of_empty.ensures.stands in
    let dev = g.D.SectorDev in
    let new = c.in-Ok.store in
    let rest = new.settles (c.in-Ok.ensures.honesty.1 honest) in
    let writable = ap (λ (st : StoreState). st.writable) c.in-Ok.ensures.state in record {
      holds = λ usable. record {
        stands = stands;
        meta_is = subst (λ (ps : Pages). said_by (page_of ps) 1 ≡ MetaPage (model_meta m)) same
            c.pages_of_empty.ensures.meta;
      };
      rests = λ usable y left. subst (λ (z : Settled). ImageStandsFor z empty (model_meta m).bounds)
          (sym (only_seen (dev.sectors new.dev / 4) (dev.candidate new.dev) (dev.seen new.dev) y _
          ((rest usable).waits writable).stable (rest usable).settles left)) stands;
      bounds_are = ap (λ (n : Meta). n.bounds) c.of_empty-meta.ensures;
    }

pub returns-in-Ok-clause-any_moment : goal.returns-in-Ok-clause-any_moment
returns-in-Ok-clause-any_moment g c honest none =
    let dev = g.D.SectorDev in
    let old = c.args.dev in
    let cap : ℕ = dev.sectors old / 4 in
    let how = c.args.how in
    let pages = bytes_of c.pages_of_empty.result in
    let fault = making_fault how (dev.sectors old) in
    let none_is : fault ≡ None = sym (ap (making_fault how) c.capacity.ensures)
    ∙ sym c.making_refusal.ensures ∙ c.in_default.is in
    let stands = subst (FileStandsFor pages empty)
    (ap (λ (m : Meta). m.bounds) c.of_empty-meta.ensures) c.pages_of_empty.ensures.stands in
    weaker dev.moment dev.left_since old (device_of c.in-Ok.store)
    (λ image. BlankOrNew fault (bounds_of how) (settled cap image))
    (λ image. IsBlankOr pages (settled cap image)) (c.in-Ok.ensures.any_moment honest none)
    (λ image or. blank_or_new pages (bounds_of how) fault stands none_is (settled cap image) or)

pub returns-in-Err-clause-any_moment : goal.returns-in-Err-clause-any_moment
returns-in-Err-clause-any_moment g c honest none =
    let dev = g.D.SectorDev in
    let old = c.args.dev in
    let cap : ℕ = dev.sectors old / 4 in
    let how = c.args.how in
    let pages = bytes_of c.pages_of_empty.result in
    let fault = making_fault how (dev.sectors old) in
    let none_is : fault ≡ None = sym (ap (making_fault how) c.capacity.ensures)
    ∙ sym c.making_refusal.ensures ∙ c.in_default.is in
    let stands = subst (FileStandsFor pages empty)
    (ap (λ (m : Meta). m.bounds) c.of_empty-meta.ensures) c.pages_of_empty.ensures.stands in
    weaker dev.moment dev.left_since old c.in-Err.dev
    (λ image. BlankOrNew fault (bounds_of how) (settled cap image))
    (λ image. IsBlankOr pages (settled cap image)) (c.in-Err.ensures.any_moment honest none)
    (λ image or. blank_or_new pages (bounds_of how) fault stands none_is (settled cap image) or)
