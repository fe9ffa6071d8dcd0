use Rattle.std.proofs.Common.{map, flat_map}
use Rattle.std.specs.Io.KnownBytes.{Appends}
use Rattle.dbm_lines.specs.Forms.{key_line_in}
use Rattle.dbm_engines.proofs.dump.write_keys.Given as goal

abbrev pub invariant-loop-key : goal.invariant-loop-key
invariant-loop-key g l = Appends (g.W.Write.contents l.fn.writer) (g.W.Write.contents l.writer)
    (flat_map (key_line_in l.form) (map (λ key. key.now.items) l.yielded))
