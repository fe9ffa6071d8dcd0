use Rattle.std.proofs.Common.{sym, ◌∙◌}
use Rattle.std.proofs.lemmas.Bool.{eqb-true}
use Rattle.dbm_salvage.proofs.PageKinds.{bucket_read, bucket_reads, of_version_2}
use Rattle.dbm_salvage.proofs.looks.is_bucket.Goals as goal

pub returns-then-own-n : goal.returns-then-own-n
returns-then-own-n c =
    let bytes = c.args.page.now.bytes in (
      λ yes. bucket_reads c.args.n bytes (c.is_bucket_page.ensures.exact.0 yes).page
          (sym c.own.ensures.field ∙ c.if-own-n.true) c.requires,
      λ reads. c.is_bucket_page.ensures.exact.1
          (of_version_2 bytes (bucket_read c.args.n bytes reads c.requires).page),
    )

pub returns-else-own-n : goal.returns-else-own-n
returns-else-own-n c = (
  λ yes. absurd (c.if-own-n.false (eqb-true c.own.result c.args.n yes)),
  λ reads. absurd (c.if-own-n.false (c.own.ensures.field
      ∙ (bucket_read c.args.n c.args.page.now.bytes reads c.requires).own)),
)
