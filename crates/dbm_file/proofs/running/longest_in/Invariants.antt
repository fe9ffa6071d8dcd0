use Rattle.std.proofs.Common.{◌≡◌, ◌≤◌, take}
use Rattle.std.specs.Prelude.{All}
use Rattle.page_io.specs.Versions.{model_version}
use Rattle.dbm_file.specs.Rooms.{longest_content}
use Rattle.dbm_file.specs.declared.calls.Call.TheVariants.{Upgrade}
use Rattle.dbm_file.proofs.running.longest_in.Given as goal

abbrev pub invariant-loop-call : goal.invariant-loop-call
invariant-loop-call l = record {
  before : longest_content (model_version l.fn.version) ≤ l.longest;
  behind : All (λ call. call ≡ Upgrade → l.longest ≡ 65535) (take l.call-index l.calls);
}
