use Rattle.std.proofs.Common.{ℕ, List, Some, refl, subst}
use Rattle.std.specs.Io.KnownBytes.{Appends}
use Rattle.dbm_lines.specs.Dumps.{dump_line}
use Rattle.dbm_salvage.proofs.records.salvage_record.Goals as goal

pub returns-in_ok-write_pair-in-Ok-clause-pair : goal.returns-in_ok-write_pair-in-Ok-clause-pair
returns-in_ok-write_pair-in-Ok-clause-pair g c honest =
    let key = c.pair_at.result.0.now in
    record {
      pair = Some (key, c.content_of.new.content.items);
      is = λ d. ((c.pair_at.ensures d).0, c.in-Ok.ensures.content honest d);
      told = refl;
      written = subst (λ (text : List ℕ). Appends (g.W.Write.contents c.args.writer.now)
          (g.W.Write.contents c.write_pair.new.writer) (dump_line (key, text)))
          c.deref.ensures.value c.in_ok-write_pair-in-Ok.ensures;
    }
