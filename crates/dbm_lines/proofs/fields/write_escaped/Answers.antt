use Rattle.std.proofs.Common.{◌≡◌, ◌+◌, ◌∷◌, [], get_or, refl, arith, rules}
use Rattle.dbm_lines.specs.Escapes.{escape_of}
use Rattle.dbm_lines.proofs.FieldBytes.{run_on, run_written, run_begins}
use Rattle.dbm_lines.proofs.fields.write_escaped.Goals as goal
use Rattle.dbm_lines.proofs.fields.write_escaped.Goals.{then-not-is_plain+in_ok-write_all+in_ok-write_escape, else-not-is_plain}

pub loop-at-preserved : goal.loop-at-preserved
loop-at-preserved g c =
    let h = c.loop-at.invariant in
    let byte = get_or c.args.bytes.now c.loop-at.at 0 in
    elim c.if-not-is_plain.branch [
      | then-not-is_plain+in_ok-write_all+in_ok-write_escape w ↦ record {
        start = omega (arith, w.start-is);
        written = rw (w.writer-is, w.start-is)
            (run_written c.args.bytes.now c.loop-at.start c.loop-at.at byte c.loop-at-test.true refl
            h.run _ _ _ _ h.written w.in_ok-write_all.ensures.bytes
            w.in_ok-write_escape.ensures);
        run = rw w.start-is (run_begins c.args.bytes.now (c.loop-at.at + 1));
      }
      | else-not-is_plain w ↦
          let plain : escape_of byte ≡ byte ∷ [] = search rules in
          record {
            start = omega (arith, w.start-is, h.start);
            written = rw (w.writer-is, w.start-is) h.written;
            run = rw w.start-is
                (run_on c.args.bytes.now c.loop-at.start c.loop-at.at byte c.loop-at-test.true refl
                h.run h.start plain);
          }
    ]
