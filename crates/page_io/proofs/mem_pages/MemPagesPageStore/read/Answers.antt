use Rattle.std.proofs.Common.{◌≡◌, ◌<◌, ◌≤◌, ◌-◌, List, length, None, true, false, inl, inr, refl, sym, ◌∙◌, ap, arith}
use Rattle.page_io.specs.Store.{bytes_of, file_pages, overlaid, page_of, has_page}
use Rattle.page_io.proofs.Overlays.{overlaid-staged, overlaid-none, page_of-file}
use Rattle.page_io.proofs.MemoryAnswers.{known_answer}
use Rattle.page_io.proofs.PageLists.{bytes_at}
use Rattle.page_io.specs.declared.page.Page.{Page}
use Rattle.page_io.proofs.mem_pages.MemPagesPageStore.read.Goals as goal

pub returns-then-find_staged-clause-found : goal.returns-then-find_staged-clause-found
returns-then-find_staged-clause-found c honest =
    let old = c.args.self.now in
    let home = page_of (file_pages (page_of (bytes_of old.pages.items)) old.end) in
    c.find_staged.ensures.page
    ∙ overlaid-staged (bytes_of c.as_slice.result.now) home (λ _. c.args.page.now.bytes) c.args.n
    (sym c.find_staged.ensures.found ∙ c.if-find_staged.true)
    ∙ ap (λ (ps : List Page). overlaid (bytes_of ps) home c.args.n) c.as_slice.ensures

pub returns-clause-found : goal.returns-clause-found
returns-clause-found c honest =
    let old = c.args.self.now in
    let n = c.args.n in
    let at = page_of (bytes_of old.pages.items) in
    let home = page_of (file_pages at old.end) in
    let none : has_page (bytes_of old.staged.items) n ≡ false =
    ap (λ (ps : List Page). has_page (bytes_of ps) n) (sym c.as_slice.ensures)
    ∙ sym c.find_staged.ensures.found ∙ c.if-find_staged.false in
    let ge : 1 ≤ n = omega (arith, c.if-n-lt1.false) in
    let lt : n < old.end = omega (arith, c.if-self-n.false) in
    let inside : n - 1 < length old.pages.items = omega (arith, ge, lt, old.room) in
    sym (bytes_at old.pages.items (n - 1) c.index.result.now inside c.index.ensures)
    ∙ sym (page_of-file at old.end n ge lt)
    ∙ sym (overlaid-none (bytes_of old.staged.items) home n none)

pub returns-then-find_staged-clause-answer : goal.returns-then-find_staged-clause-answer
returns-then-find_staged-clause-answer c =
    let n = c.args.n in
    let has : has_page (bytes_of c.args.self.now.staged.items) n ≡ true =
    ap (λ (ps : List Page). has_page (bytes_of ps) n) (sym c.as_slice.ensures)
    ∙ sym c.find_staged.ensures.found ∙ c.if-find_staged.true in
    known_answer _ n refl None (inl has)

pub returns-clause-answer : goal.returns-clause-answer
returns-clause-answer c = known_answer _ c.args.n refl None (inr (omega arith, omega arith))
