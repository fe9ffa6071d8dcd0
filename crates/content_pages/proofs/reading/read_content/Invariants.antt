use Rattle.std.proofs.Common.{◌≡◌, ℕ, ◌+◌, ◌-◌, ◌*◌, List, length, vec_len, vec_capacity, ◌≤◌}
use Rattle.page_io.specs.Views.{body_at, ReadsOnly}
use Rattle.content_pages.specs.Contents.{IsContentAt}
use Rattle.content_pages.proofs.ContentWalks.{IsReadTo, IsRest}
use Rattle.content_pages.proofs.reading.read_content.Given as goal

abbrev pub invariant-loop-page : goal.invariant-loop-page
invariant-loop-page g l = record {
  reads : ReadsOnly g.S.PageStore l.fn.store l.store;
  room : vec_len l.content + l.left ≤ vec_capacity l.content;
  held : length l.content.items + l.left ≡ l.fn.long;
  left : l.left ≡ l.fn.long - 2032 * l._page;
  read : g.S.PageStore.honest l.fn.store
      → IsReadTo (body_at g.S.PageStore l.fn.store) l.fn.first l.at l._page l.content.items;
  rest : g.S.PageStore.honest l.fn.store → (bytes : List ℕ) → length bytes ≡ l.fn.long
      → IsContentAt (body_at g.S.PageStore l.fn.store) l.fn.first bytes
      → IsRest (body_at g.S.PageStore l.fn.store) l.at l.content.items bytes;
}
