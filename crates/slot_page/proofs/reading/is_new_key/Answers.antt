use Rattle.std.proofs.Common.{◌+◌, arith, rules, below_more}
use Rattle.std.proofs.lemmas.Bool.Decides.{Decides-eqb}
use Rattle.std.proofs.lemmas.Slice.Eq.{slice_eq-Decides}
use Rattle.slot_page.proofs.Layouts.{key_inside, another_key}
use Rattle.slot_page.proofs.reading.is_new_key.Goals as goal

pub key_at-key-requires : goal.key_at-key-requires
key_at-key-requires c =
    key_inside c.args.page.now.bytes (c.args.j + 1) c.args.j c.slot_at.result c.requires.in_place
    (omega arith) c.slot_at.ensures

pub key_at-requires : goal.key_at-requires
key_at-requires c =
    key_inside c.args.page.now.bytes (c.args.j + 1) c.loop-i.i c.slot_at-in-loop-i.result
    c.requires.in_place (omega arith) c.slot_at-in-loop-i.ensures

pub loop-i-init : goal.loop-i-init
loop-i-init c = search rules

pub loop-i-preserved : goal.loop-i-preserved
loop-i-preserved c =
    let says = slice_eq-Decides Decides-eqb _ _ _ c.eq.ensures in
    below_more _ _ c.loop-i.invariant
    (another_key c.args.page.now.bytes c.key_at.result.now c.key_at-key.result.now c.loop-i.i
    c.slot_at-in-loop-i.result c.slot_at-in-loop-i.ensures c.key_at.ensures
    (λ same. let was_true = says.1 same in absurd cc))
