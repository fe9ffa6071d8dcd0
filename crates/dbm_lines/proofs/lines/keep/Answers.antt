use Rattle.std.proofs.Common.{◌≡◌, ◌-◌, ◌∙◌, ap, sym, min, length, vec_len, arith, rules}
use Rattle.std.proofs.lemmas.List.{length-take}
use Rattle.dbm_lines.proofs.Reading.{kept_all}
use Rattle.dbm_lines.proofs.lines.keep.Goals as goal

pub returns-clause-line : goal.returns-clause-line
returns-clause-line c =
    let line = c.args.line.now in
    let bytes = c.args.bytes.now in
    let same : length line.items ≡ vec_len line = search rules in
    kept_all c.args.most line.items bytes _ c.min-taken.result
    (omega (arith, same, c.requires.length))
    (c.min-taken.ensures ∙ ap (λ n. min (length bytes) (c.args.most - n))
    (c.len.ensures ∙ sym same))
    (rw c.unwrap.ensures at c.extend_from_slice.ensures.items)

pub returns-clause-length : goal.returns-clause-length
returns-clause-length c =
    let longer = rw c.unwrap.ensures at c.extend_from_slice.ensures.len in
    omega (
      arith,
      longer,
      length-take c.min-taken.result c.args.bytes.now,
      c.min-taken.ensures,
      c.len.ensures,
      c.requires.length,
    )

pub returns-clause-room : goal.returns-clause-room
returns-clause-room c = omega (arith, c.requires.room, c.extend_from_slice.ensures.capacity)
