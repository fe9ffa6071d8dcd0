use Rattle.std.proofs.Common.{◌≡◌, ◌≢◌, ℕ, ◌+◌, ◌≤◌, length, drop, AllPairs}
use Rattle.page_io.specs.Views.{body_at, StagesOnly}
use Rattle.content_pages.specs.Staging.{MayEndWithAll}
use Rattle.content_pages.proofs.ContentWrites.{IsWrittenTo}
use Rattle.content_pages.proofs.putting.write_content.Given as goal

abbrev pub invariant-loop-i : goal.invariant-loop-i
invariant-loop-i g l = record {
  stages : StagesOnly g.S.PageStore l.fn.store l.store;
  few : length (g.S.PageStore.state l.store).staged
      ≤ length (g.S.PageStore.state l.fn.store).staged + l.i;
  faults : g.S.PageStore.faults l.store ≡ g.S.PageStore.faults l.fn.store;
  may_end : (end : ℕ) → MayEndWithAll (g.S.PageStore.state l.fn.store) l.pages end
      → MayEndWithAll (g.S.PageStore.state l.store) (drop l.i l.pages) end;
  written : g.S.PageStore.honest l.fn.store → AllPairs (λ n m. n ≢ m) l.pages
      → IsWrittenTo (body_at g.S.PageStore l.fn.store) (body_at g.S.PageStore l.store) l.pages
      l.content l.i;
}
