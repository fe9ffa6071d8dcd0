use Rattle.std.proofs.Common.{◌/◌, ℕ, ap, sym, ◌∙◌, subst}
use Rattle.sect_dev.specs.Moments.{weaker}
use Rattle.page_io.specs.Page.{page_at}
use Rattle.page_io.specs.Store.{file_pages, overlaid, bytes_of, IsEither}
use Rattle.redo_area.specs.Header.{header_of}
use Rattle.redo_area.specs.File.{settled}
use Rattle.redo_area.proofs.Images.{settled-logging}
use Rattle.redo_area.proofs.Results.{map_ok}
use Rattle.redo_area.proofs.logging.log_on.Goals as goal

pub returns-clause-any_moment : goal.returns-clause-any_moment
returns-clause-any_moment g c honest =
    let dev = g.D.SectorDev in
    let first = c.args.dev.now in
    let cap : ℕ = dev.sectors first / 4 in
    let old = file_pages (overlaid (bytes_of c.args.waiting.now) (page_at (dev.seen first)))
    c.args.old_end in
    let new = file_pages (overlaid (bytes_of c.args.pages.now)
    (overlaid (bytes_of c.args.waiting.now) (page_at (dev.seen first)))) c.args.new_end in
    weaker dev.moment dev.left_since first c.log_next.new.dev
    (λ image. IsEither old new (settled cap image)) _ (c.log_next.ensures.any_moment honest)
    (λ image is. subst (IsEither old new)
    (sym (settled-logging cap image c.args.start
    (ap (header_of cap) is.1 ∙ c.requires.header honest))) is.0)

pub returns-clause-header : goal.returns-clause-header
returns-clause-header g c honest =
    let dev = g.D.SectorDev in
    map_ok c.log_next.result (c.log_next.ensures.sector honest)
    (λ same. ap (header_of (dev.sectors c.args.dev.now / 4)) same ∙ c.requires.header honest)
