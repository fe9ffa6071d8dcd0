use Rattle.std.proofs.Common.{sym, ◌∙◌, arith}
use Rattle.std.proofs.lemmas.Bool.{eqb-true, eq-eqb}
use Rattle.page_io.proofs.Exits.{not_both}
use Rattle.dbm_salvage.proofs.PageKinds.{segment_read, segment_reads}
use Rattle.dbm_salvage.proofs.looks.is_segment.Goals as goal

pub returns-then-is_plain : goal.returns-then-is_plain
returns-then-is_plain c =
    let bytes = c.args.page.now.bytes in (
      λ none. segment_reads c.args.n bytes (omega arith) (omega arith) c.is_plain.ensures.bytes
          (c.is_plain.ensures.plain.0 c.if-is_plain.true)
          (sym c.next.ensures ∙ eqb-true c.next.result 0 none),
      λ reads. eq-eqb c.next.result 0
          (c.next.ensures ∙ (segment_read c.args.n bytes (omega arith) reads c.requires).1),
    )

pub returns-else-is_plain : goal.returns-else-is_plain
returns-else-is_plain c =
    let bytes = c.args.page.now.bytes in (
      λ yes. not_both _ yes c.if-is_plain.false,
      λ reads. not_both _ (c.is_plain.ensures.plain.1
          (segment_read c.args.n bytes (omega arith) reads c.requires).0) c.if-is_plain.false,
    )
