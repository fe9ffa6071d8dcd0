use Rattle.std.proofs.Common.{◌≡◌, ◌++◌, take, drop, arith, rules}
use Rattle.page_io.specs.declared.store.PageFault.TheVariants.{Damaged}
use Rattle.page_io.proofs.Exits.{exit_is, came}
use Rattle.content_pages.proofs.ContentTexts.{length-part}
use Rattle.content_pages.proofs.reading.read_part.Goals as goal

pub returns-in_err-next-clause-whole : goal.returns-in_err-next-clause-whole
returns-in_err-next-clause-whole g c honest next part some size says damaged =
    let exit = exit_is c.from_residual.result c.in_err-next.field-0.0 c.from_residual.ensures.1 in
    c.in_err-next.ensures.whole honest next part some size says (came _ _ exit Damaged damaged)

pub returns-clause-says : goal.returns-clause-says
returns-clause-says g c honest =
    let bytes = c.check_part.new.page.bytes in
    let more : c.extend_from_slice.new.self.items
    ≡ c.args.content.now.items ++ take c.args.long (drop 16 bytes) = search rules in (
      take c.args.long (drop 16 bytes),
      length-part bytes c.args.long (omega arith) c.requires.part,
      more,
      c.in_ok-next.ensures.says honest,
    )
