use Rattle.std.proofs.Common.{◌+◌, ◌*◌, ◌++◌, refl, ap, ◌∙◌, arith, List, ℕ}
use Rattle.page_model.specs.Bytes.{overwrite, u16_bytes}
use Rattle.page_model.proofs.Writes.{overwrite_then}
use Rattle.slot_page.proofs.bucket.set_slot_at.Goals as goal

pub returns : goal.returns
returns c =
    let bytes = c.args.page.now.bytes in
    let at : ℕ = 16 + 6 * c.args.i in
    let a = u16_bytes c.args.slot.offset in
    let b = u16_bytes c.args.slot.key_len in
    let d = u16_bytes c.args.slot.content_len in
    c.set_u16_at-3.ensures ∙ ap (λ (xs : List ℕ). overwrite xs (at + 4) d)
    (c.set_u16_at-2.ensures ∙ ap (λ (xs : List ℕ). overwrite xs (at + 2) b) c.set_u16_at.ensures
    ∙ overwrite_then bytes a b at (at + 2) (omega arith) refl)
    ∙ overwrite_then bytes (a ++ b) d at (at + 4) (omega arith) refl
