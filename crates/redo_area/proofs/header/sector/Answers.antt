use Rattle.std.proofs.Common.{ℕ, List, replicate, refl, ap, ◌∙◌}
use Rattle.page_model.specs.Bytes.{overwrite, u32_bytes}
use Rattle.redo_area.specs.Header.{magic, fields, spelled}
use Rattle.redo_area.proofs.Writes.{five_fields}
use Rattle.redo_area.proofs.header.sector.Goals as goal

pub returns : goal.returns
unfolding spelled fields magic
returns c =
    let s = u32_bytes c.args.state in
    let e = u32_bytes c.args.end in
    let a = u32_bytes c.args.start in
    let n = u32_bytes c.args.count in
    c.put_u32-4.ensures
    ∙ ap (λ (x : List ℕ). overwrite x 20 n) (c.put_u32-3.ensures
    ∙ ap (λ (x : List ℕ). overwrite x 16 a) (c.put_u32-2.ensures
    ∙ ap (λ (x : List ℕ). overwrite x 12 e)
    (c.put_u32.ensures ∙ ap (λ (x : List ℕ). overwrite x 8 s) c.put_magic.ensures)))
    ∙ five_fields (replicate 512 0) (magic c.args.kind) s e a n (replicate 488 0) refl refl refl refl refl refl
