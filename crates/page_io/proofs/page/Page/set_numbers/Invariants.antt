use Rattle.std.proofs.Common.{◌≡◌, ◌≤◌, take, length}
use Rattle.page_model.specs.Bytes.{overwrite}
use Rattle.page_model.specs.Numbers.{numbers_bytes}
use Rattle.page_io.proofs.page.Page.set_numbers.Given as goal

abbrev pub invariant-loop-i : goal.invariant-loop-i
invariant-loop-i l = record {
  room : l.at ≤ length l.fn.self.bytes;
  written : l.self.bytes ≡ overwrite l.fn.self.bytes l.at
      (numbers_bytes (take l.i l.numbers));
}
