-- What the file of a database says.
use Rattle.std.proofs.Common.{◌≡◌, ◌↔◌, ℕ, List, [], Bool, false, cond, Result, Ok, Err, IfOk, sym, ap, subst, ◌∙◌}
use Rattle.std.specs.Prelude.{IsOkAnd}
use Rattle.std.specs.FinMap.{empty}
use Rattle.dbm_model.specs.Bounds.{Bounds}
use Rattle.dbm_model.specs.Pairs.{Contents}
use Rattle.page_model.specs.Bytes.{u32_at}
use Rattle.page_model.specs.Pages.{Meta, MetaPage}
use Rattle.page_model.specs.Reading.{body_of}
use Rattle.page_model.specs.Valid.{IsMeta}
use Rattle.page_model.specs.PageBodies as page_bodies
use Rattle.page_model.proofs.GoodBodies.{bodies_valid}
use Rattle.page_io.specs.Store.{Pages, page_of, overlaid}
use Rattle.page_io.specs.Meaning.{FileStandsFor}
use Rattle.page_io.specs.declared.store.PageStore as store
use Rattle.seg_table.specs.MetaPages.{model_meta, HasMetaHeader, IsUnknown}
use Rattle.seg_table.specs.declared.meta.Meta as meta
use Rattle.seg_table.specs.declared.meta.MetaFault.{MetaFault}
use Rattle.seg_table.specs.declared.meta.MetaFault.TheVariants as meta_fault
use Rattle.file_opening.specs.OpenFiles.{StandsAs, OpensAs}
use Rattle.file_opening.specs.Opening.{bounds_of, is_exclusive, SaysMeta, SaysNoMeta, RefusesMeta}
use Rattle.file_opening.specs.declared.file.OpenFile.{OpenFile}
use Rattle.file_opening.specs.declared.open_how.OpenHow.{OpenHow}
use Rattle.dbm_fault.specs.declared.fault.Fault.TheVariants.{Version, Damaged}

-- a file that stands for a map has a meta page, which is what is read of page 1 where nothing is
-- staged
pub says_meta : (pages staged : Pages) (map : Contents) (bounds : Bounds) (bytes : List ℕ)
    → FileStandsFor pages map bounds → staged ≡ [] → bytes ≡ overlaid staged (page_of pages) 1
    → SaysMeta bytes
says_meta pages staged map bounds bytes stands none read = record {
  meta = page_bodies.meta_of stands.placement;
  valid = (bodies_valid stands.placement stands.good).0.1;
  says = ap (body_of 1) (read ∙ ap (λ (s : Pages). overlaid s (page_of pages) 1) none)
      ∙ stands.spelled.0;
}

-- a file that isn't emptied opens as it stands
pub opens_kept : {S E : Type 0} {s : store.Ghosts S} (how : OpenHow) (map : Contents)
    (bounds : Bounds) (r : Result (OpenFile S s) E) → how.truncate ≡ false
    → is_exclusive how ≡ false
    → IfOk r (λ file. StandsAs file map bounds)
    → IfOk r (λ file. (is_exclusive how ≡ false) × OpensAs how map bounds file)
opens_kept how map bounds (Ok file) kept may stands = (
  may,
  subst (λ (b : Bool). StandsAs file (cond b empty map) (cond b (bounds_of how) bounds))
      (sym kept) stands,
)
opens_kept how map bounds (Err e) kept may stands = tt

-- a page that is read and is no good meta page
module _ (bytes read : List ℕ) (result : Result meta.Meta MetaFault) (fault : MetaFault)
    (was : result ≡ Err fault) (same : read ≡ bytes)
    (body : (m : Meta) → IsMeta m
    → IsOkAnd result (λ r. model_meta r ≡ m) ↔ (body_of 1 read ≡ MetaPage m))
    (version : (result ≡ Err meta_fault.Version)
    ↔ (HasMetaHeader read × IsUnknown (u32_at read 16))) where
  no_meta : SaysNoMeta read
  no_meta m valid says = subst (λ (r : Result meta.Meta MetaFault).
      IsOkAnd r (λ (n : meta.Meta). model_meta n ≡ m)) was ((body m valid).1 says)

  pub refused_version : fault ≡ meta_fault.Version → RefusesMeta bytes Version
  refused_version is = subst (λ (b : List ℕ). RefusesMeta b Version) same
      (let says = version.0 (was ∙ ap Err is) in (no_meta, says.0, says.1))

  pub refused_meta : fault ≡ meta_fault.Damaged → RefusesMeta bytes Damaged
  refused_meta is = subst (λ (b : List ℕ). RefusesMeta b Damaged) same (
    no_meta,
    λ header unknown. two_faults is (sym was ∙ version.1 (header, unknown)),
  )
    where
      two_faults : fault ≡ meta_fault.Damaged
          → ◌≡◌ {A = Result meta.Meta MetaFault} (Err fault) (Err meta_fault.Version) → ⊥
      two_faults one two = cc
