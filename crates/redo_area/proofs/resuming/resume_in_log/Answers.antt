use Rattle.std.proofs.Common.{◌/◌, ◌++◌, ℕ, List, take, Some, true, sym, ◌∙◌, ap, subst}
use Rattle.sect_dev.specs.Device.{Image}
use Rattle.page_io.specs.Store.{bytes_of}
use Rattle.page_io.specs.declared.page.Page.{Page}
use Rattle.redo_area.specs.Header.{header_of, kind_of}
use Rattle.redo_area.specs.declared.area.LogPlace.{LogPlace}
use Rattle.redo_area.specs.declared.area.RedoArea.{RedoArea}
use Rattle.redo_area.specs.declared.header.CommitKind.TheVariants.{Log}
use Rattle.redo_area.specs.Settling.{SettlesToPages}
use Rattle.redo_area.proofs.LogCommits.{waits_logged}
use Rattle.redo_area.proofs.Results.{from_some, from_test}
use Rattle.redo_area.proofs.resuming.resume_in_log.Goals as goal

pub returns-clause-settles : goal.returns-clause-settles
returns-clause-settles g c honest =
    let dev = g.D.SectorDev in
    let new = c.resume_log.new.dev in
    let cap : ℕ = dev.sectors c.args.dev.now / 4 in
    let log = c.in-Some.log in
    let pages : List Page = take log.newest.count log.newest.pages in
    let place : LogPlace = record { number = log.newest.number; at = log.at; beside = log.beside } in
    let area : RedoArea = record
    { kind = Log; start = c.args.start; held = 32; log = Some place } in
    let reads = c.resume_log.ensures.only_reads honest in
    let sector = ap (λ (s : Image). s 0) reads.seen in
    let logged = from_some _ c.in_ok-log.field-0 log c.in-Some.is (c.in_ok-log.ensures.logged honest) in
    let items = from_test c.extend_from_slice.result c.is_err.ensures.value c.if-is_err.false
    c.extend_from_slice.ensures.ok in
    subst (λ (area : RedoArea). SettlesToPages true cap log.newest.end area
    (bytes_of c.extend_from_slice.new.self.items) (dev.candidate new) (dev.seen new))
    (sym c.in_log.ensures)
    (subst (λ (ps : List Page). SettlesToPages true cap log.newest.end area (bytes_of ps)
    (dev.candidate new) (dev.seen new))
    (sym (items ∙ ap (λ (ps : List Page). ps ++ pages) c.new-waiting.ensures.items))
    (waits_logged (bytes_of pages) place (ap kind_of sector ∙ c.requires.kind honest)
    (ap (header_of cap) sector ∙ c.requires.header honest) logged))
