-- What a stop may leave while the commit sector gets another magic.
use Rattle.std.proofs.Common.{◌≡◌, ◌/◌, ℕ, List, [], refl, sym, ◌∙◌, ap}
use Rattle.sect_dev.specs.Device.{Image, IsImageOf, with_sector, with_candidate, LeavesOnly}
use Rattle.sect_dev.specs.declared.device.SectorDev.{Ghosts}
use Rattle.page_io.specs.Store.{file_of}
use Rattle.page_io.proofs.PageLaws.{at_same}
use Rattle.redo_area.specs.Header.{header_of}
use Rattle.redo_area.specs.declared.header.Header.TheVariants.{Clear}
use Rattle.redo_area.specs.File.{settled, IsAtRest, SettlesAsBefore}
use Rattle.redo_area.proofs.Images.{settled-clear, now_clear}
use Rattle.redo_area.proofs.CommitRuns.{then_header}

-- a clear sector over another one, with the same end
module _ {D : Type 0} (dev : Ghosts D) (first mid after : D) {end : ℕ} (content : List ℕ)
    (run : LeavesOnly dev.moment dev.left_since first mid
    (SettlesAsBefore (dev.sectors first / 4) (dev.candidate first)))
    (rest : IsAtRest (dev.sectors first / 4) end (dev.candidate mid) (dev.seen mid))
    (may : SettlesAsBefore (dev.sectors first / 4) (dev.candidate first) (dev.seen mid))
    (header : header_of (dev.sectors first / 4) content ≡ Clear end) where
  pub kind_leaves : LeavesOnly dev.moment dev.left_since mid after
      (IsImageOf (with_candidate (dev.candidate mid) 0 content))
      → LeavesOnly dev.moment dev.left_since first after
      (SettlesAsBefore (dev.sectors first / 4) (dev.candidate first))
  kind_leaves put =
      let cap : ℕ = dev.sectors first / 4 in
      let seen = dev.seen mid in
      let image : Image = with_sector seen 0 content in
      let same : settled cap image ≡ settled cap seen =
      settled-clear cap image end (ap (header_of cap) (at_same seen 0 content 0 refl) ∙ header)
      ∙ ap file_of (now_clear cap seen seen content end [] (λ n. refl))
      ∙ sym (settled-clear cap seen end rest.header) in
      then_header dev (SettlesAsBefore cap (dev.candidate first)) first mid after content run
      rest.stable put may (may.0, may.1, same ∙ may.2)
