use Rattle.std.proofs.Common.{◌≡◌, ℕ, List, false, Result, Ok, Err, OnOk, sym, ap, ◌∙◌}
use Rattle.page_io.specs.Page.{page_at}
use Rattle.page_io.specs.Store.{bytes_of, overlaid, has_page}
use Rattle.page_io.specs.declared.page.Page.{Page}
use Rattle.page_io.proofs.Overlays.{overlaid-staged, overlaid-none}
use Rattle.dbm_salvage.specs.Images.{place}
use Rattle.dbm_salvage.specs.Laid.{laid}
use Rattle.dbm_salvage.proofs.reading.read_laid.Goals as goal

on_ok : {T E P Q : Type 0} (r : Result T E) → (P → Q) → OnOk r P → OnOk r Q
on_ok (Ok x) more p = more p
on_ok (Err e) more p = tt

-- the page is one of the log's
pub returns-then-find_staged-clause-read : goal.returns-then-find_staged-clause-read
unfolding laid
returns-then-find_staged-clause-read g c honest =
    let places = c.args.images.now.places.items in
    let home = λ (n : ℕ). page_at (g.D.SectorDev.seen c.args.dev.now) (place places n) in
    c.find_staged.ensures.page
    ∙ overlaid-staged (bytes_of c.as_slice.result.now) home (λ _. c.args.page.now.bytes) c.args.n
    (sym c.find_staged.ensures.found ∙ c.if-find_staged.true)
    ∙ ap (λ (ps : List Page). overlaid (bytes_of ps) home c.args.n) c.as_slice.ensures

-- it stands in its place
pub returns-clause-read : goal.returns-clause-read
unfolding laid
returns-clause-read g c honest =
    let logged = bytes_of c.args.images.now.logged.items in
    let places = c.args.images.now.places.items in
    let home = λ (n : ℕ). page_at (g.D.SectorDev.seen c.args.dev.now) (place places n) in
    let none : has_page logged c.args.n ≡ false =
    ap (λ (ps : List Page). has_page (bytes_of ps) c.args.n) (sym c.as_slice.ensures)
    ∙ sym c.find_staged.ensures.found ∙ c.if-find_staged.false in
    let here : c.place_of.result ≡ place places c.args.n =
    c.place_of.ensures ∙ ap (λ (at : List ℕ). place at c.args.n) c.as_slice-2.ensures.value in
    on_ok c.read_page.result
    (λ read. read ∙ ap (page_at (g.D.SectorDev.seen c.args.dev.now)) here
    ∙ sym (overlaid-none logged home c.args.n none))
    (c.read_page.ensures.read honest)
