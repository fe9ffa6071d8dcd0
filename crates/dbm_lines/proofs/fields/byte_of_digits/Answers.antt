use Rattle.std.proofs.Common.{◌≡◌, length, rules}
use Rattle.dbm_lines.proofs.FieldBytes.{byte_decoded}
use Rattle.dbm_lines.proofs.fields.byte_of_digits.Goals as goal

pub returns-in-Ok : goal.returns-in-Ok
returns-in-Ok c =
    let one : length c.decode_to_slice.new.out ≡ 1 = search rules in
    byte_decoded _ c.decode_to_slice.new.out c.in-Ok.field-0 c.decode_to_slice.result c.in-Ok.is
    (rw c.as_slice.ensures at c.decode_to_slice.ensures.value) one
