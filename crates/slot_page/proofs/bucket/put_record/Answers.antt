use Rattle.std.proofs.Common.{◌+◌, length, refl, ap, ◌∙◌, arith, List, ℕ}
use Rattle.page_model.specs.Bytes.{overwrite}
use Rattle.page_model.proofs.Writes.{overwrite_then}
use Rattle.slot_page.proofs.bucket.put_record.Goals as goal

pub returns : goal.returns
returns c =
    let at = c.args.at in
    let key = c.args.key.now in
    let bytes = c.args.bytes.now in
    c.put-2.ensures ∙ ap (λ (xs : List ℕ). overwrite xs (at + length key) bytes) c.put.ensures
    ∙ overwrite_then c.args.page.now.bytes key bytes at (at + length key) (omega arith) refl
