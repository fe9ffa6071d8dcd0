use Rattle.std.proofs.Common.{arith}
use Rattle.std.proofs.lemmas.Bool.Decides.{Decides-eqb}
use Rattle.std.proofs.lemmas.Slice.Eq.{slice_eq-Decides}
use Rattle.page_io.specs.BucketPages.{page_records}
use Rattle.slot_page.proofs.Pages.{found_at, only_one, differs_here}
use Rattle.slot_page.proofs.bucket.find.Goals as goal

pub returns-then-eq : goal.returns-then-eq
returns-then-eq c =
    let bytes = c.args.page.now.bytes in
    let same = (slice_eq-Decides Decides-eqb _ _ _ c.eq.ensures).0 c.if-eq.true in
    let here = found_at bytes c.args.key.now c.pair_at.result.0.now c.pair_at.result.1.now
    c.loop-i.i (omega arith) c.pair_at.ensures same in
    record {
      none = tt;
      found = here;
      only = λ k h.
          only_one bytes c.args.key.now c.loop-i.i k c.requires here h;
    }

pub loop-i-preserved : goal.loop-i-preserved
loop-i-preserved c =
    differs_here (page_records c.args.page.now.bytes) c.args.key.now c.pair_at.result.0.now
    c.pair_at.result.1.now c.loop-i.i c.eq.result c.pair_at.ensures
    (slice_eq-Decides Decides-eqb _ _ _ c.eq.ensures) c.if-eq.false c.loop-i.invariant

pub loop-i-init : goal.loop-i-init
loop-i-init _ _ _ less = absurd (omega (arith, less))
