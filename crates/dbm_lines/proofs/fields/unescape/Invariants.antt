use Rattle.std.proofs.Common.{◌≡◌, ◌+◌, ◌≤◌, length, Some, vec_len, vec_capacity}
use Rattle.dbm_lines.specs.Escapes.{unescaped, joined}
use Rattle.dbm_lines.proofs.fields.unescape.Given as goal

abbrev pub invariant-loop-plain : goal.invariant-loop-plain
invariant-loop-plain l = record {
  fits : vec_len l.bytes + length l.rest ≤ vec_capacity l.bytes;
  room : vec_capacity l.fn.bytes ≤ vec_capacity l.bytes;
  bytes : unescaped l.fn.field ≡ joined (Some l.bytes.items) (unescaped l.rest);
}

abbrev pub decreases-loop-plain : goal.decreases-loop-plain
decreases-loop-plain l = length l.rest
