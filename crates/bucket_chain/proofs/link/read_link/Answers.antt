use Rattle.std.proofs.Common.{◌≡◌, ◌≤◌, ℕ, Some, Err, inl, inr, sym, ap, ◌∙◌, arith}
use Rattle.std.proofs.lemmas.Result.{err_from_is_err_and}
use Rattle.page_model.specs.Reading.{body_of}
use Rattle.page_io.specs.Store.{IsKnown}
use Rattle.page_io.specs.Versions.{model_version}
use Rattle.page_io.specs.Views.{body_at}
use Rattle.page_io.specs.declared.store.PageFault.TheVariants.{Damaged}
use Rattle.page_io.proofs.Views.{unknown_said}
use Rattle.page_io.specs.BucketPages.{page_records}
use Rattle.bucket_chain.specs.Links.{SaysLink}
use Rattle.bucket_chain.proofs.LinkBodies.{says_link, is_link, not_other}
use Rattle.bucket_chain.proofs.ReadPages.{if_some}
use Rattle.bucket_chain.proofs.link.read_link.Goals as goal
use Rattle.content_pages.proofs.StoreReads.{known_some}

pub returns-in_err-read_bucket_page-clause-whole :
    goal.returns-in_err-read_bucket_page-clause-whole
returns-in_err-read_bucket_page-clause-whole g c honest next records some link damaged =
    let p = err_from_is_err_and c.from_residual.result c.from_residual.ensures.1 in
    let fault : c.in_err-read_bucket_page.field-0.0 ≡ Damaged =
    let is = rw (p.1, p.2) at damaged in cc in
    let at = body_at g.S.PageStore c.args.store.now in
    let bytes = c.read_bucket_page.new.page.bytes in
    elim (c.in_err-read_bucket_page.ensures.damaged honest (ap Err fault)) [
      | inl unknown ↦ not_other c.args.kind next records
          (sym link.says
          ∙ unknown_said g.S.PageStore c.args.store.now c.args.n
          (g.met.S.PageStore.ends c.args.store.now) some unknown)
      | inr none ↦ none.1 (is_link _ at bytes c.args.n c.args.kind next records
          (ap (body_of c.args.n) (sym none.0)) c.requires (omega arith) (omega arith) link).page
    ]

pub returns-clause-known : goal.returns-clause-known
returns-clause-known g c =
    let state = g.S.PageStore.state c.args.store.now in
    let known = c.in_ok-read_bucket_page.ensures.known in
    let some = known_some _ state c.args.n (g.met.S.PageStore.in_order c.args.store.now) known in
    if_some _ (λ (next : ℕ). (1 ≤ c.args.n) × IsKnown state c.args.n) c.next_of.result
    c.ok_or.result Damaged c.ok_or.ensures.value c.next_of.ensures.sound
    (λ next link. (some, known))

pub returns-clause-says : goal.returns-clause-says
returns-clause-says g c honest =
    let bytes = c.read_bucket_page.new.page.bytes in
    let at = body_at g.S.PageStore c.args.store.now in
    let read = ap (body_of c.args.n) (sym (c.in_ok-read_bucket_page.ensures.found honest)) in
    if_some _ (λ (next : ℕ). SaysLink (model_version c.args.version) at c.args.n c.args.kind next
    (page_records bytes))
    c.next_of.result c.ok_or.result Damaged c.ok_or.ensures.value
    c.next_of.ensures.sound (λ next link.
    says_link _ at bytes c.args.n c.args.kind next (page_records bytes) read c.requires link)

pub returns-clause-whole : goal.returns-clause-whole
returns-clause-whole g c honest next records some link damaged =
    let bytes = c.read_bucket_page.new.page.bytes in
    let at = body_at g.S.PageStore c.args.store.now in
    let read = ap (body_of c.args.n) (sym (c.in_ok-read_bucket_page.ensures.found honest)) in
    let is : c.next_of.result ≡ Some next =
    c.next_of.ensures.every next records
    (is_link _ at bytes c.args.n c.args.kind next records read c.requires (omega arith)
    (omega arith) link) in
    let value = c.ok_or.ensures.value in
    let same = rw is at value in
    cc
