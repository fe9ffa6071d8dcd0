use Rattle.dbm_lines.proofs.KeyFields.{key_field_laws}
use Rattle.dbm_lines.proofs.text_laws.key_fields.Goals as goal

pub returns : goal.returns
returns c = key_field_laws
