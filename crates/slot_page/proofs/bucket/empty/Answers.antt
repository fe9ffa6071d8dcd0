use Rattle.std.proofs.Common.{refl, ap, ◌∙◌, arith, List, ℕ, set, replicate}
use Rattle.page_model.specs.Bytes.{overwrite, u16_bytes, u32_bytes}
use Rattle.slot_page.proofs.Removing.{empty_is}
use Rattle.slot_page.proofs.bucket.empty.Goals as goal

pub returns-clause-page : goal.returns-clause-page
returns-clause-page c =
    let w = c.set_u16_at.ensures ∙ ap (λ (x : List ℕ). overwrite x 12 (u16_bytes 2048))
    (c.set_u32_at-2.ensures ∙ ap (λ (x : List ℕ).
    overwrite (set x 4 c.args.kind) 8 (u32_bytes c.args.next)) c.set_u32_at.ensures) in
    (empty_is c.args.own c.args.kind c.args.next (replicate 2048 0) c.set_u16_at.new.self.bytes
    (omega arith) c.requires (omega arith) refl w).0

pub returns-clause-says : goal.returns-clause-says
returns-clause-says c =
    let w = c.set_u16_at.ensures ∙ ap (λ (x : List ℕ). overwrite x 12 (u16_bytes 2048))
    (c.set_u32_at-2.ensures ∙ ap (λ (x : List ℕ).
    overwrite (set x 4 c.args.kind) 8 (u32_bytes c.args.next)) c.set_u32_at.ensures) in
    (empty_is c.args.own c.args.kind c.args.next (replicate 2048 0) c.set_u16_at.new.self.bytes
    (omega arith) c.requires (omega arith) refl w).1
