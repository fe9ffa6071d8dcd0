use Rattle.std.proofs.Common.{◌≡◌, ◌<◌, ◌≤◌, ℕ, List, [], Bool, true, cond, length, take, get_or, sym, ◌∙◌, ap, arith}
use Rattle.std.proofs.lemmas.Bool.{ne_eqb}
use Rattle.std.proofs.lemmas.List.{length-map}
use Rattle.page_io.specs.Page.{own_number}
use Rattle.page_io.specs.Store.{file_of, nothing, file_pages, overlaid, are_in_order, bytes_of}
use Rattle.page_io.specs.declared.page.Page.{Page}
use Rattle.page_io.proofs.Overlays.{same_file, overlaid-over}
use Rattle.page_io.proofs.StagedPages.{in_range}
use Rattle.redo_area.proofs.Results.{from_test}
use Rattle.redo_area.proofs.reading.over_logs.Goals as goal

from_one : (pages : List Page) (end : ℕ) → are_in_order 1 end (bytes_of pages) ≡ true
    → (k : ℕ) → k < length pages → 1 ≤ own_number (get_or (bytes_of pages) k [])
from_one pages end rising k lt =
    (in_range 1 end (bytes_of pages) k rising
    (omega (arith, lt, length-map pages (λ (p : Page). p.bytes)))).0

pub put_pages-requires-clause-numbers : goal.put_pages-requires-clause-numbers
put_pages-requires-clause-numbers c k lt =
    from_one (take c.args.older.now.count c.args.older.now.pages) c.args.older.now.end
    c.requires.older_rising k lt

pub put_pages-requires-2-clause-numbers : goal.put_pages-requires-2-clause-numbers
put_pages-requires-2-clause-numbers c k lt =
    from_one (take c.args.newer.now.count c.args.newer.now.pages) c.args.newer.now.end
    c.requires.rising k lt

pub returns-clause-found : goal.returns-clause-found
returns-clause-found c home =
    let older = bytes_of (take c.args.older.now.count c.args.older.now.pages) in
    let newer = bytes_of (take c.args.newer.now.count c.args.newer.now.pages) in
    let end = c.args.newer.now.end in
    let none : c.new-redo.result.items ≡ [] = c.new-redo.ensures.items in
    let first = from_test c.put_pages.result c.is_err.ensures.value c.if-is_err.false
    c.put_pages.ensures.put in
    let second = from_test c.put_pages-2.result c.is_err-2.ensures.value c.if-is_err-2.false
    c.put_pages-2.ensures.put in
    let one = overlaid (bytes_of c.put_pages.new.redo.items) home in
    let two = overlaid (bytes_of c.put_pages-2.new.redo.items) home in
    ap (λ (b : Bool). cond b nothing
    (file_of (file_pages (overlaid newer (overlaid older home)) end)))
    (ne_eqb c.args.newer.now.number 0 (λ is. omega (arith, is, c.if-newer-eq0.false)))
    ∙ ap file_of (same_file (overlaid newer (overlaid older home)) two end
    (λ n ge lt. overlaid-over newer one (overlaid older home) n
    (λ _. sym (first home n lt
    ∙ ap (λ (ps : List Page). overlaid older (overlaid (bytes_of ps) home) n) none))
    ∙ sym (second home n lt)))
