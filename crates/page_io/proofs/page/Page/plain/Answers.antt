use Rattle.std.proofs.Common.{List, ℕ, ap, ◌∙◌, set}
use Rattle.page_model.specs.Bytes.{overwrite, u32_bytes}
use Rattle.page_io.proofs.PlainPages.{plain_is}
use Rattle.page_io.proofs.page.Page.plain.Goals as goal

pub returns : goal.returns
returns c =
    let kind = c.set_kind.ensures.bytes
    ∙ ap (λ (x : List ℕ). set x 4 c.args.kind) c.set_own.ensures.bytes in
    let next = c.set_next.ensures.bytes
    ∙ ap (λ (x : List ℕ). overwrite x 8 (u32_bytes c.args.next)) kind in
    plain_is c.args.own c.args.kind c.args.next c.blank-page.result.bytes c.set_next.new.self.bytes
    c.blank-page.ensures next
