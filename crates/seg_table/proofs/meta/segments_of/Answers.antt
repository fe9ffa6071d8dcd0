use Rattle.std.proofs.Common.{◌≡◌, length, ap, ◌∙◌, sym, refl, arith, List, ℕ, [], ◌∷◌, ◌++◌}
use Rattle.page_model.specs.Numbers.{numbers_at}
use Rattle.page_model.proofs.Numbers.{length-numbers_at}
use Rattle.seg_table.proofs.Entries.{numbers_at-more}
use Rattle.seg_table.proofs.meta.segments_of.Goals as goal

pub push-requires : goal.push-requires
push-requires c =
    let many : length c.loop-i.segments.items ≡ c.loop-i.i =
    ap length c.loop-i.invariant ∙ length-numbers_at c.args.page.now.bytes 64 c.loop-i.i in
    (omega arith, omega (arith, many))

pub loop-i-preserved : goal.loop-i-preserved
loop-i-preserved c =
    let bytes = c.args.page.now.bytes in
    c.push.ensures.items ∙ ap (λ (ns : List ℕ). ns ++ c.u32_at.result ∷ []) c.loop-i.invariant
    ∙ ap (λ (n : ℕ). numbers_at bytes 64 c.loop-i.i ++ n ∷ []) c.u32_at.ensures
    ∙ sym (numbers_at-more bytes c.loop-i.i 64 _ refl)
