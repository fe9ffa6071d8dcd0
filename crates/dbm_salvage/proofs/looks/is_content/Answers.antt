use Rattle.std.proofs.Common.{arith}
use Rattle.dbm_salvage.proofs.PageKinds.{content_read, content_reads}
use Rattle.dbm_salvage.proofs.looks.is_content.Goals as goal

pub returns : goal.returns
returns c =
    let bytes = c.args.page.now.bytes in (
      λ yes. content_reads c.args.n bytes (omega arith) (omega arith) c.is_plain.ensures.bytes
          (c.is_plain.ensures.plain.0 yes),
      λ reads. c.is_plain.ensures.plain.1
          (content_read c.args.n bytes (omega arith) reads c.requires),
    )
