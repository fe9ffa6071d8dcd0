use Rattle.std.proofs.Common.{◌≡◌, ℕ, ◌*◌, ◌+◌, ◌-◌, ◌∙◌, take, drop, ap, arith}
use Rattle.sect_dev.specs.Device.{part_of}
use Rattle.commit_log.proofs.spelling.sector_of.Goals as goal

pub returns : goal.returns
unfolding part_of
returns c =
    let at = 512 * c.args.k in
    let size : at + 512 - at ≡ 512 = omega arith in
    c.copy_from_slice.ensures.after
    ∙ ap (λ (count : ℕ). take count (drop at c.args.bytes.now)) size
