use Rattle.std.proofs.Common.{◌≡◌, ◌↔◌}
use Rattle.page_model.specs.Reading.{IsClear}
use Rattle.page_io.proofs.page.Page.is_clear.Given as goal

abbrev pub invariant-loop-k : goal.invariant-loop-k
invariant-loop-k l = (l.any ≡ 0) ↔ IsClear l.self.bytes l.from l.k
