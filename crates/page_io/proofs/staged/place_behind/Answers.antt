use Rattle.std.proofs.Common.{◌≡◌, ◌+◌, length, refl, arith}
use Rattle.std.proofs.lemmas.List.{length-map}
use Rattle.page_io.specs.Store.{bytes_of}
use Rattle.page_io.proofs.StagedPages.{rises}
use Rattle.page_io.proofs.staged.place_behind.Goals as goal

pub returns-then-is_at-clause-after : goal.returns-then-is_at-clause-after
returns-then-is_at-clause-after c within =
    let pages = bytes_of c.args.staged.now in
    let at = c.place_of-at.result in
    let long : length pages ≡ length c.args.staged.now =
    length-map c.args.staged.now (λ page. page.bytes) in
    let rise = rises 1 4294967296 pages at (at + 1) c.requires.order (omega arith)
    (omega (arith, long, within)) in
    let is = (c.if-is_at.ensures.yes refl).1 in
    omega (arith, rise, is)
