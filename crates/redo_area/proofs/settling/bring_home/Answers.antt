use Rattle.std.proofs.Common.{◌≡◌, ◌/◌, ℕ, refl, sym, ◌∙◌, ap, arith}
use Rattle.sect_dev.specs.Moments.{started}
use Rattle.page_io.specs.Page.{page_at}
use Rattle.page_io.specs.Store.{Pages, bytes_of, file_of, file_pages, overlaid}
use Rattle.redo_area.specs.File.{settled}
use Rattle.redo_area.specs.Settling.{only_seen, seen_settles}
use Rattle.redo_area.proofs.settling.bring_home.Goals as goal

pub returns-then-area-eq0-clause-any_moment : goal.returns-then-area-eq0-clause-any_moment
returns-then-area-eq0-clause-any_moment g c honest =
    let dev = g.D.SectorDev in
    let first = c.args.dev.now in
    let waiting = bytes_of c.args.waiting.now in
    let cap : ℕ = dev.sectors first / 4 in
    let zero : c.args.area.held ≡ 0 = c.if-area-eq0.true in
    let waits = c.requires.waiting.waits honest in
    let clear = waits.clear zero in
    let settles = seen_settles cap c.args.end (dev.candidate first) (dev.seen first)
    (record { stable = waits.stable; header = clear.1 })
    ∙ ap (λ (ps : Pages). file_of (file_pages (overlaid ps (page_at (dev.seen first))) c.args.end))
    (sym clear.0) in
    started dev.moment dev.left_since first
    (λ image. settled cap image
    ≡ file_of (file_pages (overlaid waiting (page_at (dev.seen first))) c.args.end))
    (λ image left. only_seen cap (dev.candidate first) (dev.seen first) (settled cap image) _
    waits.stable settles
    (record {
      image = image;
      is_image = g.met.D.SectorDev.only_now first image honest left;
      reads = refl;
    }))

pub returns-then-area-eq0-clause-rest : goal.returns-then-area-eq0-clause-rest
returns-then-area-eq0-clause-rest g c honest =
    let zero : c.args.area.held ≡ 0 = c.if-area-eq0.true in
    let waits = c.requires.waiting.waits honest in
    record { stable = waits.stable; header = (waits.clear zero).1 }

pub returns-then-area-eq0-clause-pages : goal.returns-then-area-eq0-clause-pages
returns-then-area-eq0-clause-pages g c honest =
    let zero : c.args.area.held ≡ 0 = c.if-area-eq0.true in
    ap (λ (ps : Pages). file_pages (overlaid ps (page_at (g.D.SectorDev.seen c.args.dev.now)))
    c.args.end) (sym ((c.requires.waiting.waits honest).clear zero).0)

pub disarm-requires-clause-held : goal.disarm-requires-clause-held
disarm-requires-clause-held g c honest =
    (c.requires.waiting.waits honest).holds (omega (arith, c.if-area-eq0.false))

pub returns-then-area-eq0-clause-kind : goal.returns-then-area-eq0-clause-kind
returns-then-area-eq0-clause-kind g c honest = (c.requires.waiting.waits honest).kind
