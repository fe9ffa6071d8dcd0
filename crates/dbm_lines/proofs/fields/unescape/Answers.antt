use Rattle.std.proofs.Common.{◌∙◌, ap, arith, Some}
use Rattle.dbm_lines.proofs.FieldBytes.{read_first, read_on}
use Rattle.dbm_lines.proofs.FieldRuns.{lengths, read_plain, read_refused, read_rest}
use Rattle.dbm_lines.proofs.fields.unescape.Goals as goal

pub loop-plain-init : goal.loop-plain-init
loop-plain-init c =
    let cleared = c.clear.ensures in record {
      fits = omega (arith, c.requires, cleared.len, cleared.capacity);
      room = omega (arith, cleared.capacity);
      bytes = read_first _ _ cleared.items;
    }

pub returns-in_default-byte_of_letter-clause-bytes :
    goal.returns-in_default-byte_of_letter-clause-bytes
returns-in_default-byte_of_letter-clause-bytes c =
    read_refused _ c.loop-plain.bytes.items c.loop-plain.rest.now c.loop-plain.invariant.bytes
    c.in-Some.plain c.in-Some.ensures c.in_default-byte_of_letter.ensures.bytes

pub loop-plain-preserved : goal.loop-plain-preserved
loop-plain-preserved c =
    let so_far = c.loop-plain.invariant in
    let sizes = lengths c.loop-plain.rest.now c.in-Some.plain c.in-Some.ensures in
    let shorter = c.in-Some-byte_of_letter.ensures.shorter in
    let extended = c.append.ensures.len in
    let pushed = rw c.unwrap.ensures at c.push.ensures.len in
    let run = c.append.ensures.items in
    let byte = rw c.unwrap.ensures at c.push.ensures.items in
    record {
      fits = omega (
        arith,
        so_far.fits,
        sizes.0,
        sizes.1,
        shorter,
        extended,
        pushed,
        c.append.ensures.capacity,
        c.push.ensures.capacity,
      );
      room = omega (
        arith,
        so_far.room,
        c.append.ensures.capacity,
        c.push.ensures.capacity,
      );
      bytes = read_on _ _ _ _ _ c.in-Some-byte_of_letter.byte
          (read_plain _ c.loop-plain.bytes.items c.loop-plain.rest.now so_far.bytes
          c.in-Some.plain c.in-Some.ensures)
          c.in-Some-byte_of_letter.ensures.bytes (rw run at byte);
    }

pub returns-clause-bytes : goal.returns-clause-bytes
returns-clause-bytes c =
    ap Some c.append-2.ensures.items
    ∙ read_rest _ c.loop-plain.bytes.items c.loop-plain.rest.now c.loop-plain.invariant.bytes
    c.in_default.ensures
