use Rattle.std.proofs.Common.{◌≡◌, ◌+◌, ◌*◌, inl, inr, ℕ, List, length, take, drop, sym, ◌∙◌, ap, arith}
use Rattle.std.proofs.lemmas.Bool.{cases_eq}
use Rattle.std.proofs.lemmas.List.{length-take-le}
use Rattle.page_model.specs.Bytes.{u32_at, overwrite}
use Rattle.page_io.specs.Store.{bytes_of}
use Rattle.commit_log.specs.Pieces.{sector_at}
use Rattle.commit_log.proofs.Words.{word_here, word_before, field_before}
use Rattle.commit_log.proofs.spelling.first_of.Goals as goal

pub loop-k-preserved : goal.loop-k-preserved
loop-k-preserved c =
    let old = c.loop-k.first.bytes in
    let whole = c.loop-k.first.whole in
    let k = c.loop-k.k in
    let at = 16 + 4 * k in
    let word : List ℕ = take 4 c.sector_in-sector.result in
    let long : length word ≡ 4 = length-take-le 4 c.sector_in-sector.result (omega arith) in
    let few = c.requires.few in
    let lt = c.loop-k-test.true in
    let is : c.put.new.self.bytes ≡ overwrite old at word = c.put.ensures in
    let inv = c.loop-k.invariant in
    record {
      number = ap (λ (bs : List ℕ). u32_at bs 0) is
          ∙ field_before old word at 0 (omega (arith, whole, few, lt)) (omega arith) ∙ inv.number;
      count = ap (λ (bs : List ℕ). u32_at bs 4) is
          ∙ field_before old word at 4 (omega (arith, whole, few, lt)) (omega arith) ∙ inv.count;
      end = ap (λ (bs : List ℕ). u32_at bs 8) is
          ∙ field_before old word at 8 (omega (arith, whole, few, lt)) (omega arith) ∙ inv.end;
      words = λ j less. ap (λ (bs : List ℕ). take 4 (drop (16 + 4 * j) bs)) is
          ∙ elim (cases_eq j k) [
            | inl same ↦ ap (λ (i : ℕ). take 4 (drop (16 + 4 * i) (overwrite old at word))) same
                ∙ word_here old word at (omega (arith, whole, few, lt)) long
                ∙ ap (take 4) (c.sector_in-sector.ensures
                ∙ ap (sector_at (bytes_of c.args.pages.now)) (sym same))
            | inr other ↦ word_before old word at (16 + 4 * j) (omega (arith, whole, few, lt))
                (omega (arith, less, other)) (omega (arith, whole, few, lt, long))
                ∙ inv.words j (omega (arith, less, other))
          ];
    }
