use Rattle.std.proofs.Common.{◌≡◌, ◌+◌, ◌-◌, ◌*◌, ℕ, List, ◌++◌, take, drop, sym, ◌∙◌, ap, arith}
use Rattle.sect_dev.specs.Device.{part_of}
use Rattle.commit_log.proofs.Words.{front_word}
use Rattle.commit_log.proofs.finding.restored.Goals as goal

pub returns : goal.returns
returns c =
    let at = 16 + 4 * c.args.k in
    let size : at + 4 - at ≡ 4 = omega arith in
    let bytes = c.args.bytes.now in
    ap (λ (w : List ℕ). w ++ drop 4 c.sector_of-content.result)
    (c.copy_from_slice.ensures.after ∙ ap (λ (n : ℕ). take n (drop at bytes)) size
    ∙ sym (front_word bytes at (omega (arith, c.requires)) (omega (arith, c.told-bytes))))
    ∙ ap (λ (s : List ℕ). take 4 (drop at (part_of bytes 0)) ++ drop 4 s)
    c.sector_of-content.ensures
