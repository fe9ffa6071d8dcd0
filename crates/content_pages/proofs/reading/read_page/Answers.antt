use Rattle.std.proofs.Common.{rules, ℕ, drop, sym, ap, ◌∙◌, arith}
use Rattle.page_model.specs.Pages.{ContentPage}
use Rattle.page_model.specs.Reading.{body_of}
use Rattle.page_io.specs.declared.store.PageFault.TheVariants.{Damaged}
use Rattle.page_io.proofs.Views.{after_read, unknown_said}
use Rattle.page_io.proofs.Exits.{exit_is, came, not_both}
use Rattle.content_pages.proofs.ContentTexts.{content_said, said_headed, not_other}
use Rattle.content_pages.proofs.StoreReads.{read_known, known_some}
use Rattle.content_pages.proofs.reading.read_page.Goals as goal

pub returns-in_err-read-clause-whole : goal.returns-in_err-read-clause-whole
returns-in_err-read-clause-whole g c honest next some is damaged =
    let exit = exit_is c.from_residual.result c.in_err-read.field-0.0 c.from_residual.ensures.1 in
    let unknown = c.in_err-read.ensures.answer.damaged.0 (came _ _ exit Damaged damaged) in
    let other = unknown_said g.S.PageStore c.args.store.now c.args.n
    (g.met.S.PageStore.ends c.args.store.now) some unknown.1 in
    not_other next is.bytes (sym is.says ∙ other)

pub returns-then-is_plain-clause-reads : goal.returns-then-is_plain-clause-reads
returns-then-is_plain-clause-reads g c = record {
  only = after_read g.S.PageStore c.args.store.now c.read.new.self
      (g.met.S.PageStore.counts_now c.read.new.self) c.read.ensures.state c.read.ensures.honesty
      c.read.ensures.cause.later c.read.ensures.kept;
  cause = search rules;
}

pub returns-then-is_plain-clause-known : goal.returns-then-is_plain-clause-known
returns-then-is_plain-clause-known g c =
    let state = g.S.PageStore.state c.args.store.now in
    let known = read_known state c.args.n c.in_ok-read.field-0 c.in_ok-read.ensures.answer in
    (known_some _ state c.args.n (g.met.S.PageStore.in_order c.args.store.now) known, known)

pub returns-then-is_plain-clause-says : goal.returns-then-is_plain-clause-says
returns-then-is_plain-clause-says g c honest =
    let bytes = c.read.new.page.bytes in
    let read = ap (body_of c.args.n) (sym (c.in_ok-read.ensures.found honest)) in
    let said = content_said bytes c.args.n (omega arith) (omega arith) c.is_plain.ensures.bytes
    (c.is_plain.ensures.plain.0 c.if-is_plain.true) in
    read ∙ said ∙ ap (λ (next : ℕ). ContentPage next (drop 16 bytes)) (sym c.next.ensures)

pub returns-else-is_plain-clause-whole : goal.returns-else-is_plain-clause-whole
returns-else-is_plain-clause-whole g c honest next some is damaged =
    let bytes = c.read.new.page.bytes in
    let read = ap (body_of c.args.n) (c.in_ok-read.ensures.found honest) in
    not_both c.is_plain.result (c.is_plain.ensures.plain.1
    (said_headed bytes is.bytes c.args.n next (omega arith) (read ∙ is.says))) c.if-is_plain.false
