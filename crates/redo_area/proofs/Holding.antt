-- What holds the pages that wait.
use Rattle.std.proofs.Common.{◌≡◌, ◌≤◌, inl, inr, ℕ, List, [], length, refl, sym, ◌∙◌, ap, subst, arith}
use Rattle.std.proofs.lemmas.Bool.{cases_eq}
use Rattle.std.proofs.lemmas.List.{length-map}
use Rattle.sect_dev.specs.Device.{Image, Candidates, IsStable}
use Rattle.page_io.specs.Page.{page_at}
use Rattle.page_io.specs.Store.{Pages, file_of, bytes_of}
use Rattle.page_io.specs.declared.page.Page.{Page}
use Rattle.page_io.proofs.Overlays.{same_file}
use Rattle.page_io.proofs.PageLaws.{same_page}
use Rattle.redo_area.specs.declared.area.RedoArea.{RedoArea}
use Rattle.redo_area.specs.declared.header.Header.TheVariants.{Clear}
use Rattle.redo_area.specs.Header.{header_of}
use Rattle.redo_area.specs.File.{IsArmed, HoldsWaiting}
use Rattle.redo_area.specs.Settling.{MayWait}
use Rattle.redo_area.proofs.Images.{settled-clear, armed_holds}

pub images_hold : {capacity end start : ℕ} {candidate : Candidates} {seen : Image}
    (images : List Page) (held : ℕ) → length images ≡ held
    → IsArmed capacity end start (bytes_of images) candidate seen → end ≤ start → 4 ≤ end
    → HoldsWaiting capacity end start held (bytes_of images) candidate seen
images_hold {capacity} {end} {start} {candidate} {seen} images held long armed behind least =
    subst (λ (held : ℕ). HoldsWaiting capacity end start held (bytes_of images) candidate seen)
    (length-map images (λ (p : Page). p.bytes) ∙ long)
    (armed_holds capacity armed behind (omega (arith, least)))

-- a device at rest holds no page, behind its end
pub rest_holds : {capacity end start : ℕ} {candidate : Candidates} {seen : Image}
    → IsStable candidate seen → header_of capacity (seen 0) ≡ Clear end → 1 ≤ end
    → (held : ℕ) → HoldsWaiting capacity end start held [] candidate seen
rest_holds {capacity} {end} {start} {candidate} {seen} stable header some held = record {
  stable = stable;
  in_order = refl;
  settles = λ image same.
      settled-clear capacity image end
      (ap (header_of capacity) (same 0 tt (inl (omega (arith, some)))) ∙ header)
      ∙ ap file_of (same_file (page_at image) (page_at seen) end
      (λ n ge lt. same_page image seen n
      (λ m ge4 lt4. same m tt (inl (omega (arith, lt, lt4))))));
}

-- so the pages that may wait are held, also where there are none
pub may_hold : {capacity end : ℕ} {area : RedoArea} {waiting : Pages} {candidate : Candidates}
    {seen : Image} → MayWait capacity end area waiting candidate seen → 4 ≤ end
    → HoldsWaiting capacity end area.start area.held waiting candidate seen
may_hold {capacity} {end} {area} {waiting} {candidate} {seen} waits least =
    elim (cases_eq area.held 0) [
      | inl zero ↦
          let clear = waits.clear zero in
          subst (λ (ps : Pages). HoldsWaiting capacity end area.start area.held ps candidate seen)
          (sym clear.0)
          (rest_holds waits.stable clear.1 (omega (arith, least)) area.held)
      | inr some ↦ waits.holds (omega (arith, some))
    ]
