use Rattle.std.proofs.Common.{ap, sym}
use Rattle.page_model.specs.Reading.{body_of}
use Rattle.page_io.specs.BucketPages.{page_records}
use Rattle.page_io.specs.Views.{body_at}
use Rattle.content_pages.proofs.StoreReads.{known_some}
use Rattle.bucket_chain.proofs.LinkBodies.{says_link}
use Rattle.bucket_chain.proofs.link.lent_link.Goals as goal

pub returns-clause-known : goal.returns-clause-known
returns-clause-known g c =
    let known = c.in_ok-lent.ensures.readable.1 in (
      known_some _ (g.S.PageStore.state c.args.store.now) c.args.n
          (g.met.S.PageStore.in_order c.args.store.now) known,
      known,
    )

pub returns-clause-says : goal.returns-clause-says
returns-clause-says g c honest =
    let bytes = c.in_ok-lent.lent.page.now.bytes in
    says_link _ (body_at g.S.PageStore c.args.store.now) bytes c.args.n c.args.kind
    c.in_ok-next.next (page_records bytes)
    (ap (body_of c.args.n) (sym (c.in_ok-lent.ensures.found honest))) c.requires
    c.in_ok-next.ensures.sound
